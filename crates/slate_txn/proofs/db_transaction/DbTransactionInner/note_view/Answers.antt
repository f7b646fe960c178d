use Rattle.std.proofs.Common.{refl}
use Rattle.slate_txn.specs.declared.event.TranscriptStep.TheVariants as steps
use Rattle.slate_txn.specs.OwnView.{own_view}
use Rattle.slate_txn.proofs.OwnLaws.{own_read_by, after_read, after_none}
use Rattle.slate_txn.proofs.db_transaction.DbTransactionInner.note_view.Goals as goal
use Rattle.slate_types.proofs.Exits.{on_ok_weaker, on_err_weaker}

pub invariant_of-self : goal.invariant_of-self
invariant_of-self c =
    let said = c.note_view.ensures in
    own_read_by c.note_view.result c.self.inside.level c.self.inside.transcript.items _ c.self.inside.batch c.self.inside.reading _ c.self.inside.scans (steps.View c.args.range.now) refl refl said.read said.noted said.same_reading said.same_steps c.self.invariant

pub returns-clause-noted : goal.returns-clause-noted
returns-clause-noted c = on_ok_weaker c.note_view.result (λ added. after_read (own_view c.self.inside) c.args.self.now _ (steps.View c.args.range.now) refl c.self.view_is refl added) c.note_view.ensures.noted

pub returns-clause-same : goal.returns-clause-same
returns-clause-same c = on_err_weaker c.note_view.result (λ same. after_none (own_view c.self.inside) c.args.self.now _ c.self.view_is refl same) c.note_view.ensures.same_steps
