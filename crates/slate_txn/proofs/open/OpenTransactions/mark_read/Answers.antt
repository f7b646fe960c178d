use Rattle.std.proofs.Common.{refl, ap, ◌∙◌}
use Rattle.slate_txn.specs.Named.{update_named}
use Rattle.slate_txn.specs.Open.{Transactions}
use Rattle.slate_txn.specs.Step.{with_marks}
use Rattle.slate_txn.proofs.BeginLaws.{rise_updated, rise_either}
use Rattle.slate_txn.proofs.open.OpenTransactions.mark_read.Goals as goal
use Rattle.slate_types.proofs.Exits.{on_ok_weaker, on_err_weaker}

pub invariant_of-self : goal.invariant_of-self
invariant_of-self c = rise_either c.mark_read.result _ c.self.inside.by_id.entries c.mark_read.new.items.entries c.mark_read.ensures.marked c.mark_read.ensures.same
    (rise_updated c.args.id.now (with_marks c.args.keys.now) c.self.inside.by_id.entries (λ t. refl) c.self.invariant)
    c.self.invariant

pub returns-clause-marked : goal.returns-clause-marked
returns-clause-marked c = on_ok_weaker c.mark_read.result (λ is. is ∙ ap (λ (ps : Transactions). update_named c.args.id.now (with_marks c.args.keys.now) ps) c.self.view_is) c.mark_read.ensures.marked

pub returns-clause-same : goal.returns-clause-same
returns-clause-same c = on_err_weaker c.mark_read.result (λ is. is ∙ c.self.view_is) c.mark_read.ensures.same
