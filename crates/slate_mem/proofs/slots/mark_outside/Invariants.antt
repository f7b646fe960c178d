use Rattle.std.proofs.Common.{◌&&◌, ◌-◌, nat_le}
use Rattle.slate_types.specs.Keys.{in_range}
use Rattle.slate_mem.proofs.MarkLaws.{Marked}
use Rattle.slate_mem.proofs.slots.mark_outside.Given as goal

abbrev pub invariant-loop-at : goal.invariant-loop-at
invariant-loop-at l = Marked (λ r. in_range l.range r.key && nat_le r.seq l.seq) l.rows l.initial.gone l.gone l.at

abbrev pub decreases-loop-at : goal.decreases-loop-at
decreases-loop-at l = l.count - l.at
