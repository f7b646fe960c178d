use Rattle.std.proofs.Common.{drop}
use Rattle.slate_mem.proofs.SlotLaws.{Shared}
use Rattle.slate_mem.proofs.slots.share_all.Given as goal

abbrev pub invariant-loop-slot : goal.invariant-loop-slot
invariant-loop-slot l = Shared l.slots l.all.items (drop l.slot-index l.slots)
