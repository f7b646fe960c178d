use Rattle.std.proofs.Common.{◌≡◌, ◌⊎◌, inl, inr, refl, ◌∙◌, sym, ap, subst, ℕ, ◌+◌, ◌<◌, ◌≤◌, Option, None, Some, option_copied, IsSomeAnd, MatchOption, ok_or, Result, Ok, Err, IfOk, List, length, get_or, drop, Bor, arith}
use Rattle.std.specs.Result.{result_ok}
use Rattle.std.proofs.lemmas.List.{at_drop_more, at_drop_all}
use Rattle.std.proofs.lemmas.Result.{err_from_is_err_and, IfOk-from_err}
use Rattle.slate_types.specs.declared.merge_operator.MergeOperatorError.{MergeOperatorError}
use Rattle.slate_types.specs.declared.merge_operator.MergeOperatorError.TheVariants.{EmptyBatch, Callback, OutOfMemory}
use Rattle.slate_types.specs.Faults.{Rose}
use Rattle.slate_types.specs.Fold.{Combine, merge_all}
use Rattle.slate_types.proofs.merge_operator.MergeOperator.merge_batch.Goals as goal

pub returns-in_err-merged-clause-value : goal.returns-in_err-merged-clause-value
returns-in_err-merged-clause-value g c = IfOk-from_err c.from_residual.result _ c.from_residual.ensures.0

not_empty : {T : Type 0} (r : Result T MergeOperatorError) (x : MergeOperatorError) → r ≡ Err x → x ≡ OutOfMemory → r ≡ Err EmptyBatch → ⊥
not_empty r x h k e = cc

no_callback : {T : Type 0} (r : Result T MergeOperatorError) (x : MergeOperatorError) (message : List ℕ) → r ≡ Err x → x ≡ OutOfMemory → r ≡ Err (Callback message) → ⊥
no_callback r x message h k e = cc

some_value : {A : Type 0} (x : A) → Some x ≡ None → ⊥
some_value x e = cc

absent : {A : Type 0} (o : Option (Bor (List ℕ))) (Q : Bor (List ℕ) → Type 0) → IsSomeAnd o Q → option_copied o ≡ None → A
absent None Q h e = absurd h
absent (Some x) Q h e = cc

pub returns-in_err-merged-clause-empty : goal.returns-in_err-merged-clause-empty
returns-in_err-merged-clause-empty g c =
    let p = err_from_is_err_and c.from_residual.result c.from_residual.ensures.1 in
    (λ e. absurd (not_empty c.from_residual.result _ p.1 p.2 e), λ none. absent c.args.existing_value _ c.in_err-merged.ensures none.0)

pub returns-in_err-merged-clause-same : goal.returns-in_err-merged-clause-same
returns-in_err-merged-clause-same g c = refl

pub returns-in_err-merged-clause-later : goal.returns-in_err-merged-clause-later
returns-in_err-merged-clause-later g c = omega arith

pub returns-in_err-merged-clause-still : goal.returns-in_err-merged-clause-still
returns-in_err-merged-clause-still g c = inr refl

pub returns-in_err-merged-clause-cause : goal.returns-in_err-merged-clause-cause
returns-in_err-merged-clause-cause g c =
    let p = err_from_is_err_and c.from_residual.result c.from_residual.ensures.1 in
    λ message e. absurd (no_callback c.from_residual.result _ message p.1 p.2 e)

pub returns-in_err-made-clause-value : goal.returns-in_err-made-clause-value
returns-in_err-made-clause-value g c = IfOk-from_err c.from_residual-in_err-made.result _ c.from_residual-in_err-made.ensures.0

pub returns-in_err-made-clause-empty : goal.returns-in_err-made-clause-empty
returns-in_err-made-clause-empty g c =
    let p = err_from_is_err_and c.from_residual-in_err-made.result c.from_residual-in_err-made.ensures.1 in
    (λ e. absurd (c.in_err-made.ensures.some (sym (ap Err p.2) ∙ sym p.1 ∙ e)), λ none. absurd (omega (arith, c.loop-operand-test.true, ap length none.1)))

pub returns-in_err-made-clause-same : goal.returns-in_err-made-clause-same
returns-in_err-made-clause-same g c = c.merge-made.ensures.same ∙ c.loop-operand.invariant.same

pub returns-in_err-made-clause-later : goal.returns-in_err-made-clause-later
returns-in_err-made-clause-later g c = omega (arith, c.loop-operand.invariant.still, c.merge-made.ensures.later)

still_behind : {T : Type 0} (r s : Result T MergeOperatorError) (old between new : ℕ) → r ≡ s → between ≡ old → ((message : List ℕ) × (s ≡ Err (Callback message))) ⊎ (new ≡ between) → ((message : List ℕ) × (r ≡ Err (Callback message))) ⊎ (new ≡ old)
still_behind r s old between new is same (inl failed) = inl (failed.0, is ∙ failed.1)
still_behind r s old between new is same (inr stands) = inr (stands ∙ same)

pub returns-in_err-made-clause-still : goal.returns-in_err-made-clause-still
returns-in_err-made-clause-still g c =
    let p = err_from_is_err_and c.from_residual-in_err-made.result c.from_residual-in_err-made.ensures.1 in
    still_behind c.from_residual-in_err-made.result _ _ _ _ (p.1 ∙ ap Err p.2) c.loop-operand.invariant.still c.in_err-made.ensures.still

pub returns-in_err-made-clause-cause : goal.returns-in_err-made-clause-cause
returns-in_err-made-clause-cause g c =
    let p = err_from_is_err_and c.from_residual-in_err-made.result c.from_residual-in_err-made.ensures.1 in
    λ message e. subst (λ n. Rose n (g.Self.MergeOperator.faults c.merge-made.new.self)) c.loop-operand.invariant.still (c.in_err-made.ensures.cause message (sym (ap Err p.2) ∙ sym p.1 ∙ e))

copied : (o : Option (Bor (List ℕ))) (m : Option (List ℕ)) (P : Bor (List ℕ) → List ℕ → Type 0) → MatchOption o (m ≡ None) (λ x. IsSomeAnd m (P x)) → ((x : Bor (List ℕ)) (y : List ℕ) → P x y → y ≡ x.now) → m ≡ option_copied o
copied None m P h same = h
copied (Some x) None P h same = absurd h
copied (Some x) (Some y) P h same = ap Some (same x y h)

pub loop-operand-init : goal.loop-operand-init
loop-operand-init g c =
    let is = copied c.args.existing_value c.in_ok-merged.merged _ c.in_ok-merged.ensures (λ x y h. h) in
    record {
      same = refl;
      still = refl;
      value = ap (λ o. merge_all (g.Self.MergeOperator.combine c.args.self.now c.args.key.now) o c.args.operands.now) is;
      none = λ e. (refl, sym is ∙ e);
    }

one_more : (c : Combine) (value : Option (List ℕ)) (vs : List (List ℕ)) (i : ℕ) (v made : List ℕ) → i < length vs → v ≡ get_or vs i v → made ≡ c value v → merge_all c (Some made) (drop (i + 1) vs) ≡ merge_all c value (drop i vs)
one_more c value vs i v made within is e = ap (λ m. merge_all c (Some m) (drop (i + 1) vs)) (e ∙ ap (c value) is) ∙ sym (at_drop_more (merge_all c value) vs i v within)

made_is : {S : Type 0} (combine : S → List ℕ → Combine) (now first : S) (key : List ℕ) (asked value : Option (List ℕ)) (v made : List ℕ) → made ≡ combine now key asked v → combine now ≡ combine first → asked ≡ value → made ≡ combine first key value v
made_is combine now first key asked value v made e same is = e ∙ ap (λ f. f key asked v) same ∙ ap (λ o. combine first key o v) is

stands : {T : Type 0} {made : T} {before after : ℕ} → ((message : List ℕ) × (Ok made ≡ Err (Callback message))) ⊎ (after ≡ before) → after ≡ before
stands (inl failed) = cc
stands (inr same) = same

pub loop-operand-preserved : goal.loop-operand-preserved
loop-operand-preserved g c = record {
  same = c.merge-made.ensures.same ∙ c.loop-operand.invariant.same;
  still = stands c.in_ok-made.ensures.still ∙ c.loop-operand.invariant.still;
  value = one_more (g.Self.MergeOperator.combine c.args.self.now c.args.key.now) c.loop-operand.merged c.args.operands.now c.loop-operand.operand-index c.operand-item.result c.in_ok-made.field-0 c.loop-operand-test.true c.operand-item.is
      (made_is g.Self.MergeOperator.combine c.loop-operand.self c.args.self.now c.args.key.now (option_copied c.as_ref.result) c.loop-operand.merged c.operand-item.result c.in_ok-made.field-0 c.in_ok-made.ensures.value c.loop-operand.invariant.same c.as_ref.ensures.value)
      ∙ c.loop-operand.invariant.value;
  none = λ e. absurd (some_value _ e);
}

-- where all operands are combined, the value so far is the result
all_merged : (c : Combine) (value existing : Option (List ℕ)) (vs : List (List ℕ)) (i : ℕ) → length vs ≤ i → merge_all c value (drop i vs) ≡ merge_all c existing vs → value ≡ merge_all c existing vs
all_merged c value existing vs i far e = sym (at_drop_all (merge_all c value) vs i far) ∙ e

given : {E : Type 0} (r : Result (List ℕ) E) (o : Option (List ℕ)) → o ≡ result_ok r → IfOk r (λ made. o ≡ Some made)
given (Ok made) o e = e
given (Err error) o e = tt

pub returns-clause-value : goal.returns-clause-value
returns-clause-value g c =
    let all = all_merged _ c.loop-operand.merged _ _ _ c.loop-operand-test.false c.loop-operand.invariant.value in
    given c.ok_or.result _ (sym all ∙ c.ok_or.ensures.ok_part)

pub returns-clause-empty : goal.returns-clause-empty
returns-clause-empty g c =
    let operands = c.args.operands.now in
    let all = all_merged _ c.loop-operand.merged _ operands _ c.loop-operand-test.false c.loop-operand.invariant.value in (
      λ e.
          let none = c.loop-operand.invariant.none (c.ok_or.ensures.ok_part ∙ ap result_ok e) in
          (none.1, sym none.0 ∙ at_drop_all (λ vs. vs) operands c.loop-operand.operand-index c.loop-operand-test.false),
      λ none. c.ok_or.ensures.value
          ∙ ap (λ o. ok_or o EmptyBatch) (all ∙ ap (λ o. merge_all (g.Self.MergeOperator.combine c.args.self.now c.args.key.now) o operands) none.0 ∙ ap (λ vs. merge_all (g.Self.MergeOperator.combine c.args.self.now c.args.key.now) None vs) none.1),
    )

pub returns-clause-same : goal.returns-clause-same
returns-clause-same g c = c.loop-operand.invariant.same

pub returns-clause-later : goal.returns-clause-later
returns-clause-later g c = omega (arith, c.loop-operand.invariant.still)

pub returns-clause-still : goal.returns-clause-still
returns-clause-still g c = inr c.loop-operand.invariant.still

no_call : (o : Option (List ℕ)) (message : List ℕ) → ok_or o EmptyBatch ≡ Err (Callback message) → ⊥
no_call None message e = cc
no_call (Some x) message e = cc

pub returns-clause-cause : goal.returns-clause-cause
returns-clause-cause g c = λ message e. absurd (no_call c.loop-operand.merged message (sym c.ok_or.ensures.value ∙ e))
