use Rattle.std.proofs.Common.{Some, inl, inr, refl, ap, sym, ◌∙◌}
use Rattle.std.proofs.lemmas.Result.{IfErr-weaker}
use Rattle.slate_store.specs.Env.{combine_of}
use Rattle.slate_types.specs.Fold.{operator_at}
use Rattle.slate_mem.specs.Lookup.{is_merge_among}
use Rattle.slate_txn.proofs.fold.fold_found.Goals as goal

pub returns-then-not-has_merge-clause-row : goal.returns-then-not-has_merge-clause-row
returns-then-not-has_merge-clause-row g c k law keeps are =
    c.first.ensures (ap is_merge_among (sym c.deref.ensures.value) ∙ sym c.has_merge.ensures ∙ c.if-not-has_merge.true) (operator_at (combine_of g.M.MergeOperator.combine c.args.operator.now) k)

pub returns-in-Some-clause-row : goal.returns-in-Some-clause-row
returns-in-Some-clause-row g c = rw c.in-Some.is c.join_all.ensures.row

pub returns-in-Some-clause-cause : goal.returns-in-Some-clause-cause
returns-in-Some-clause-cause g c =
    rw c.in-Some.is (IfErr-weaker c.join_all.result _ _ (λ e h. elim h [ inl a ↦ inl a | inr b ↦ inr (inr b) ]) c.join_all.ensures.cause)

pub returns-then-not-has_merge-clause-cause : goal.returns-then-not-has_merge-clause-cause
returns-then-not-has_merge-clause-cause g c = tt

pub returns-in-Some-clause-same : goal.returns-in-Some-clause-same
returns-in-Some-clause-same g c = rw c.in-Some.is (ap Some c.join_all.ensures.same)

pub returns-in-Some-clause-later : goal.returns-in-Some-clause-later
returns-in-Some-clause-later g c = rw c.in-Some.is c.join_all.ensures.later

pub returns-then-not-has_merge-clause-still : goal.returns-then-not-has_merge-clause-still
returns-then-not-has_merge-clause-still g c = refl

pub returns-in-Some-clause-still : goal.returns-in-Some-clause-still
returns-in-Some-clause-still g c = rw c.in-Some.is c.join_all.ensures.still

pub returns-in-None-clause-row : goal.returns-in-None-clause-row
returns-in-None-clause-row g c k law keeps are = tt
