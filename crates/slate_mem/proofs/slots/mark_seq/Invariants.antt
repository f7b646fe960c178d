use Rattle.std.proofs.Common.{◌==◌, ◌-◌, not}
use Rattle.slate_mem.proofs.MarkLaws.{Marked}
use Rattle.slate_mem.proofs.slots.mark_seq.Given as goal

abbrev pub invariant-loop-at : goal.invariant-loop-at
invariant-loop-at l = Marked (λ r. not (r.seq == l.seq)) l.rows l.initial.gone l.gone l.at

abbrev pub decreases-loop-at : goal.decreases-loop-at
decreases-loop-at l = l.count - l.at
