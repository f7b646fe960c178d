use Rattle.std.proofs.Common.{◌≡◌, drop}
use Rattle.slate_mem.specs.Slots.{joined, rows_in}
use Rattle.slate_mem.proofs.slots.are_empty.Given as goal

abbrev pub invariant-loop-slot : goal.invariant-loop-slot
invariant-loop-slot l = joined rows_in l.slots ≡ joined rows_in (drop l.slot-index l.slots)
