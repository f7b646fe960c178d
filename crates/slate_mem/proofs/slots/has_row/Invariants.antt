use Rattle.std.proofs.Common.{◌≡◌, ◌≤◌, ◌-◌}
use Rattle.slate_mem.specs.Slots.{rows_from, rows_in}
use Rattle.slate_mem.proofs.slots.has_row.Given as goal

abbrev pub invariant-loop-at : goal.invariant-loop-at
invariant-loop-at l = record {
  within : l.at ≤ l.count;
  none : rows_in l.slot ≡ rows_from l.slot l.at;
}

abbrev pub decreases-loop-at : goal.decreases-loop-at
decreases-loop-at l = l.count - l.at
