use Rattle.std.proofs.Common.{◌≡◌, ◌++◌, ◌≤◌, ◌-◌, length}
use Rattle.slate_mem.specs.Slots.{rows_from, rows_in, slot_rows}
use Rattle.slate_mem.proofs.slots.Slot.copy_to.Given as goal

abbrev pub invariant-loop-at : goal.invariant-loop-at
invariant-loop-at l = record {
  within : l.at ≤ l.count;
  copied : l.found.items ++ rows_from l.self l.at ≡ l.initial.found.items ++ rows_in l.self;
}

abbrev pub decreases-loop-at : goal.decreases-loop-at
decreases-loop-at l = l.count - l.at
