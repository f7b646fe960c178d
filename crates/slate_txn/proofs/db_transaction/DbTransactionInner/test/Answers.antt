use Rattle.std.proofs.Common.{◌≡◌, ◌⊎◌, ℕ, Option, Some, sym, ap, subst, ◌∙◌}
use Rattle.slate_types.specs.declared.error.SlateDBError.TheVariants.{OutOfMemory}
use Rattle.slate_txn.specs.HandedOver.{IsConflict}
use Rattle.slate_txn.specs.Managers.{untracked}
use Rattle.slate_txn.specs.OwnView.{own_view}
use Rattle.slate_txn.specs.State.{Tx}
use Rattle.slate_txn.specs.Tested.{tracked_of}
use Rattle.slate_mem.specs.BatchModel.{IsBatchOf}
use Rattle.slate_txn.proofs.TestLaws.{writes_are, conflict_is, tracked_by}
use Rattle.slate_txn.proofs.db_transaction.DbTransactionInner.test.Goals as goal

pub returns-in-Ok : goal.returns-in-Ok
returns-in-Ok c = record {
  grown = c.in-Ok.ensures.grown;
  handed = λ h. tracked_by c.handed-handed.new.manager c.args.id.now c.args.self c.self.inside.begin (tracked_of c.self.inside.batch.ops c.as_slice.result.now) c.self.inside.marked.items c.self.inside.reading (writes_are (own_view c.self.inside) c.args.self c.self.inside.batch c.as_slice.result.now c.self.view_is c.self.invariant.batch c.as_slice.ensures.value)
      (c.in-Ok.ensures.handed c.self.inside.begin (h ∙ ap (λ (t : Tx). Some (untracked t.begin)) (sym c.self.view_is)));
  free = λ cs s h. sym (conflict_is cs (own_view c.self.inside) c.args.self c.self.inside.batch c.as_slice.result.now c.self.inside.reading c.self.view_is c.self.invariant.batch c.as_slice.ensures.value c.self.invariant.reading)
      ∙ c.in-Ok.ensures.free cs c.self.inside.begin s (h ∙ ap (λ (t : Tx). Some (untracked t.begin)) (sym c.self.view_is));
  met = λ cs s h. tt;
  commits = record {
    batch = subst (λ (t : Tx). IsBatchOf t.ops c.self.inside.batch) c.self.view_is c.self.invariant.batch;
    keys = c.in-Ok.ensures.tracked ∙ writes_are (own_view c.self.inside) c.args.self c.self.inside.batch c.as_slice.result.now c.self.view_is c.self.invariant.batch c.as_slice.ensures.value;
    steps = c.from_vec.ensures ∙ c.shrink_to_fit.ensures.items ∙ ap (λ (t : Tx). t.transcript) c.self.view_is;
  };
}

pub returns-in-Err-clause-met : goal.returns-in-Err-clause-met
returns-in-Err-clause-met c = λ cs s h.
    subst (λ (o : Option ℕ). (c.in-Err.error ≡ OutOfMemory) ⊎ IsConflict o c.in-Err.error)
    (conflict_is cs (own_view c.self.inside) c.args.self c.self.inside.batch c.as_slice.result.now c.self.inside.reading c.self.view_is c.self.invariant.batch c.as_slice.ensures.value c.self.invariant.reading)
    (c.in-Err.ensures.met cs c.self.inside.begin s (h ∙ ap (λ (t : Tx). Some (untracked t.begin)) (sym c.self.view_is)))
