use Rattle.std.proofs.Common.{◌≡◌, ◌≤◌, map, drop, length}
use Rattle.slate_mem.specs.Lookup.{newest_first}
use Rattle.slate_mem.proofs.gather.newest_first.Given as goal

abbrev pub invariant-loop-at : goal.invariant-loop-at
invariant-loop-at l = record {
  within : l.at ≤ length l.frozen;
  rows : l.rows.items ≡ newest_first (map (λ t. t.rows) (drop l.at l.frozen));
}

abbrev pub decreases-loop-at : goal.decreases-loop-at
decreases-loop-at l = l.at
