use Rattle.std.proofs.Common.{drop, None}
use Rattle.slate_mem.specs.Slots.{joined, rows_in, standing}
use Rattle.slate_mem.proofs.CountLaws.{Counted}
use Rattle.slate_mem.proofs.metadata.count_rows.Given as goal

abbrev pub invariant-loop-slot : goal.invariant-loop-slot
invariant-loop-slot l = Counted (record { rows = 0; bytes = 0; tick = None; last = 0; first = None }) l.count (joined rows_in l.slots) (joined rows_in (drop l.slot-index l.slots))
