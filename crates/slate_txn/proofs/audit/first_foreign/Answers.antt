use Rattle.std.proofs.Common.{Ok, ap, arith}
use Rattle.slate_txn.proofs.AuditLaws.{walk_begins, goes_there, stops_there}
use Rattle.slate_txn.proofs.audit.first_foreign.Goals as goal

pub loop-event-init : goal.loop-event-init
loop-event-init g c = λ n0 legal. rw c.new-levels.ensures.empty (walk_begins _ n0 _ legal)

pub loop-event-preserved : goal.loop-event-preserved
loop-event-preserved g c = λ n0 legal.
    goes_there (g.F.CommitForm.is c.args.form.now) n0 c.as_slice-event-items.result.now c.loop-event.levels.entries c.follow.new.levels.entries c.loop-event.event-index _ c.event-item.result (omega arith) c.event-item.is
    (c.loop-event.invariant n0 legal) (λ s knows. c.in_ok-seq.ensures.none s knows (ap Ok c.in_default.is)) c.in_ok-follow.ensures

pub returns-in-Some-clause-some : goal.returns-in-Some-clause-some
returns-in-Some-clause-some g c = λ n0 legal.
    stops_there (g.F.CommitForm.is c.args.form.now) n0 c.args.journal.now.events c.as_slice-event-items.result.now c.loop-event.levels.entries c.loop-event.event-index _ c.event-item.result c.in_ok-seq.field-0 c.in-Some.seq
    c.as_slice-event-items.ensures (omega arith) c.event-item.is legal (c.loop-event.invariant n0) c.in_ok-seq.ensures.some c.in-Some.is
