use Rattle.std.proofs.Common.{◌-◌, length}
use Rattle.slate_mem.proofs.SlotParts.{Ranged}
use Rattle.slate_mem.proofs.slots.share_range.Given as goal

abbrev pub invariant-loop-at : goal.invariant-loop-at
invariant-loop-at l = Ranged l.range l.seq l.slots l.found.items l.at

abbrev pub decreases-loop-at : goal.decreases-loop-at
decreases-loop-at l = length l.slots - l.at
