use Rattle.std.proofs.Common.{refl, ap, ◌∙◌}
use Rattle.slate_mem.specs.declared.WriteOp.TheVariants as ops
use Rattle.slate_txn.specs.Named.{update_named}
use Rattle.slate_txn.specs.Open.{Transactions}
use Rattle.slate_txn.specs.Step.{with_op}
use Rattle.slate_txn.proofs.BeginLaws.{rise_updated, rise_either}
use Rattle.slate_txn.proofs.open.OpenTransactions.delete.Goals as goal
use Rattle.slate_types.proofs.Exits.{on_ok_weaker, on_err_weaker}

pub invariant_of-self : goal.invariant_of-self
invariant_of-self c = rise_either c.delete.result _ c.self.inside.by_id.entries c.delete.new.items.entries c.delete.ensures.taken c.delete.ensures.same
    (rise_updated c.args.id.now (with_op c.args.key.now ops.Delete) c.self.inside.by_id.entries (λ t. refl) c.self.invariant)
    c.self.invariant

pub returns-clause-taken : goal.returns-clause-taken
returns-clause-taken c = on_ok_weaker c.delete.result (λ is. is ∙ ap (λ (ps : Transactions). update_named c.args.id.now (with_op c.args.key.now ops.Delete) ps) c.self.view_is) c.delete.ensures.taken

pub returns-clause-same : goal.returns-clause-same
returns-clause-same c = on_err_weaker c.delete.result (λ is. is ∙ c.self.view_is) c.delete.ensures.same
