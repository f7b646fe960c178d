use Rattle.std.proofs.Common.{◌++◌, ◌∷◌, [], refl, ap, ◌∙◌}
use Rattle.slate_txn.specs.declared.event.TranscriptStep.TheVariants as steps
use Rattle.slate_txn.specs.Named.{update_named}
use Rattle.slate_txn.specs.Open.{Transactions}
use Rattle.slate_txn.proofs.BeginLaws.{rise_updated, rise_either}
use Rattle.slate_txn.proofs.open.OpenTransactions.note_next.Goals as goal
use Rattle.slate_types.proofs.Exits.{on_ok_weaker, on_err_weaker}

pub invariant_of-self : goal.invariant_of-self
invariant_of-self c = rise_either c.note_next.result _ c.self.inside.by_id.entries c.note_next.new.items.entries c.note_next.ensures.ok c.note_next.ensures.err
    (rise_updated c.args.id.now (λ t. record t { transcript = t.transcript ++ (steps.Next c.args.scan c.args.answer.now ∷ []) }) c.self.inside.by_id.entries (λ t. refl) c.self.invariant)
    c.self.invariant

pub returns-clause-ok : goal.returns-clause-ok
returns-clause-ok c = on_ok_weaker c.note_next.result (λ is. is ∙ ap (λ (ps : Transactions). update_named c.args.id.now (λ t. record t { transcript = t.transcript ++ (steps.Next c.args.scan c.args.answer.now ∷ []) }) ps) c.self.view_is) c.note_next.ensures.ok

pub returns-clause-err : goal.returns-clause-err
returns-clause-err c = on_err_weaker c.note_next.result (λ is. is ∙ c.self.view_is) c.note_next.ensures.err
