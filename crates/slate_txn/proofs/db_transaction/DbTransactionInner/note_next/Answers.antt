use Rattle.std.proofs.Common.{◌++◌, ◌∷◌, [], refl, ap, ◌∙◌}
use Rattle.slate_txn.specs.declared.event.TranscriptStep.TheVariants as steps
use Rattle.slate_txn.specs.OwnView.{own_view}
use Rattle.slate_txn.proofs.OwnLaws.{own_read_by, after_read, after_none}
use Rattle.slate_txn.proofs.db_transaction.DbTransactionInner.note_next.Goals as goal
use Rattle.slate_types.proofs.Exits.{on_ok_weaker, on_err_weaker}

pub invariant_of-self-2 : goal.invariant_of-self-2
invariant_of-self-2 c =
    let said = c.note.ensures in
    own_read_by c.note.result c.self.inside.level c.self.inside.transcript.items _ c.self.inside.batch c.self.inside.reading _ c.self.inside.scans (steps.Next c.args.scan c.in_ok-answer.answer) refl refl said.read said.noted said.same_reading said.same_steps c.self.invariant

pub returns-clause-noted : goal.returns-clause-noted
returns-clause-noted c = on_ok_weaker c.note.result (λ added. after_read (own_view c.self.inside) c.args.self.now _ (steps.Next c.args.scan c.args.answer.now) refl c.self.view_is refl (added ∙ ap (λ x. c.self.inside.transcript.items ++ (steps.Next c.args.scan x ∷ [])) c.in_ok-answer.ensures)) c.note.ensures.noted

pub returns-clause-same : goal.returns-clause-same
returns-clause-same c = on_err_weaker c.note.result (λ same. after_none (own_view c.self.inside) c.args.self.now _ c.self.view_is refl same) c.note.ensures.same_steps
