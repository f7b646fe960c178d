use Rattle.std.proofs.Common.{◌≡◌, ◌++◌, drop}
use Rattle.slate_mem.specs.Slots.{rows_in, joined}
use Rattle.slate_mem.proofs.slots.copies.Given as goal

abbrev pub invariant-loop-slot : goal.invariant-loop-slot
invariant-loop-slot l = l.found.items ++ joined rows_in (drop l.slot-index l.slots) ≡ joined rows_in l.slots
