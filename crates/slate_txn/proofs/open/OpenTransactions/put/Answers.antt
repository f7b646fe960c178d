use Rattle.std.proofs.Common.{refl, ap, ◌∙◌}
use Rattle.slate_mem.specs.declared.WriteOp.TheVariants as ops
use Rattle.slate_txn.specs.Named.{update_named}
use Rattle.slate_txn.specs.Open.{Transactions}
use Rattle.slate_txn.specs.Step.{with_op}
use Rattle.slate_txn.proofs.BeginLaws.{rise_updated, rise_either}
use Rattle.slate_txn.proofs.open.OpenTransactions.put.Goals as goal
use Rattle.slate_types.proofs.Exits.{on_ok_weaker, on_err_weaker}

pub invariant_of-self : goal.invariant_of-self
invariant_of-self c = rise_either c.put.result _ c.self.inside.by_id.entries c.put.new.items.entries c.put.ensures.taken c.put.ensures.same
    (rise_updated c.args.id.now (with_op c.args.key.now (ops.Put c.args.value.now c.args.options.now)) c.self.inside.by_id.entries (λ t. refl) c.self.invariant)
    c.self.invariant

pub returns-clause-taken : goal.returns-clause-taken
returns-clause-taken c = on_ok_weaker c.put.result (λ is. is ∙ ap (λ (ps : Transactions). update_named c.args.id.now (with_op c.args.key.now (ops.Put c.args.value.now c.args.options.now)) ps) c.self.view_is) c.put.ensures.taken

pub returns-clause-same : goal.returns-clause-same
returns-clause-same c = on_err_weaker c.put.result (λ is. is ∙ c.self.view_is) c.put.ensures.same
