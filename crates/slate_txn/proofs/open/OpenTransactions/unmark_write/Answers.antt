use Rattle.std.proofs.Common.{refl, ap, ◌∙◌}
use Rattle.slate_txn.specs.Named.{update_named}
use Rattle.slate_txn.specs.Open.{Transactions}
use Rattle.slate_txn.specs.Step.{with_unmarks}
use Rattle.slate_txn.proofs.BeginLaws.{rise_updated, rise_either}
use Rattle.slate_txn.proofs.open.OpenTransactions.unmark_write.Goals as goal
use Rattle.slate_types.proofs.Exits.{on_ok_weaker, on_err_weaker}

pub invariant_of-self : goal.invariant_of-self
invariant_of-self c = rise_either c.unmark_write.result _ c.self.inside.by_id.entries c.unmark_write.new.items.entries c.unmark_write.ensures.unmarked c.unmark_write.ensures.same
    (rise_updated c.args.id.now (with_unmarks c.args.keys.now) c.self.inside.by_id.entries (λ t. refl) c.self.invariant)
    c.self.invariant

pub returns-clause-unmarked : goal.returns-clause-unmarked
returns-clause-unmarked c = on_ok_weaker c.unmark_write.result (λ is. is ∙ ap (λ (ps : Transactions). update_named c.args.id.now (with_unmarks c.args.keys.now) ps) c.self.view_is) c.unmark_write.ensures.unmarked

pub returns-clause-same : goal.returns-clause-same
returns-clause-same c = on_err_weaker c.unmark_write.result (λ is. is ∙ c.self.view_is) c.unmark_write.ensures.same
