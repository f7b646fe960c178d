use Rattle.std.proofs.Common.{◌-◌, length}
use Rattle.slate_mem.proofs.SlotLaws.{TakenBack, others}
use Rattle.slate_mem.proofs.slots.take_back.Given as goal

abbrev pub invariant-loop-at : goal.invariant-loop-at
invariant-loop-at l = TakenBack (others l.seq) l.initial.slots.items l.slots.items l.at

abbrev pub decreases-loop-at : goal.decreases-loop-at
decreases-loop-at l = length l.slots.items - l.at
