use Rattle.std.proofs.Common.{◌≡◌, ◌++◌, ◌≤◌, ◌-◌, take, drop, length}
use Rattle.slate_mem.specs.Table.{put_row}
use Rattle.slate_lower_tests.proofs.memory_lists.put_in_place.Given as goal

abbrev pub invariant-loop-at : goal.invariant-loop-at
invariant-loop-at l = record {
  same : l.rows.items ≡ l.initial.rows.items;
  within : l.at ≤ length l.rows.items;
  put : take l.at l.rows.items ++ put_row (drop l.at l.rows.items) l.row ≡ put_row l.rows.items l.row;
}

abbrev pub decreases-loop-at : goal.decreases-loop-at
decreases-loop-at l = length l.rows.items - l.at
