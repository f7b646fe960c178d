use Rattle.std.proofs.Common.{◌≡◌, ◌∙◌, ◌⊎◌, inl, inr, ℕ, Bool, true, false, not, ◌&&◌, List, map, ap, sym, subst, reverse, refl, arith, Option, Some, None}
use Rattle.std.specs.Prelude.{option_map, is_some, IsSome}
use Rattle.std.proofs.lemmas.Result.{IfOk-from_err, err_from_is_err_and, IfOk-weaker, IfErr-weaker}
use Rattle.slate_types.specs.declared.error.SlateDBError.{SlateDBError}
use Rattle.slate_types.specs.declared.error.SlateDBError.TheVariants.{MergeOperatorMissing, OutOfMemory}
use Rattle.slate_types.specs.Fold.{Combine, operator_at}
use Rattle.slate_types.specs.Rows.{of_key}
use Rattle.slate_mem.specs.FlushRows.{kept_and_folded}
use Rattle.slate_mem.specs.Gathered.{IsGathered}
use Rattle.slate_mem.specs.Lookup.{is_merge_among, IsCallback}
use Rattle.slate_db.specs.Meaning.{Meaning}
use Rattle.slate_db.specs.Model.{Rows, versions, versions_in}
use Rattle.slate_db.proofs.FoldFits.{operator_short}
use Rattle.slate_db.proofs.FlushRows.{flush_folds, flush_order, flush_fits, flush_some, merge_gathered, merge_still}
use Rattle.slate_db.proofs.Newest.{all_versions_are}
use Rattle.slate_db.proofs.gather.rows_of_flush.Goals as goal
use Rattle.slate_types.proofs.Exits.{if_ok_both}
use Rattle.slate_types.proofs.StillLaws.{stays_at}

keys : (layers : List Rows) (out : Rows) → IsGathered layers out → (k : List ℕ) → versions k out ≡ versions_in k layers
keys layers out g k = ap reverse (g.same k) ∙ all_versions_are k layers

-- where the test says no there is an operator, if one is wanted
some_operator : {M : Type 0} (o : Option M) (b m : Bool) → b ≡ (not (is_some o) && m) → b ≡ false → m ≡ true → IsSome o
some_operator None b m test absent e = let clash : false ≡ true = sym absent ∙ test ∙ e in cc
some_operator (Some x) b m test absent e = refl

-- where it says yes there is none
none_wanted : {M C : Type 0} (f : M → C) (o : Option M) (b m : Bool) → b ≡ (not (is_some o) && m) → b ≡ true → (option_map f o ≡ None) × (m ≡ true)
none_wanted f None b m test wanted = (refl, sym test ∙ wanted)
none_wanted f (Some x) b m test wanted = let clash : false ≡ true = sym test ∙ wanted in cc

unwanted : {M C : Type 0} (f : M → C) (o : Option M) (b m : Bool) → b ≡ (not (is_some o) && m) → b ≡ false → option_map f o ≡ None → m ≡ true → ⊥
unwanted f None b m test absent none e = let clash : false ≡ true = sym absent ∙ test ∙ e in cc
unwanted f (Some x) b m test absent none e = cc

-- an operator alone, for what is said of every meaning
abbrev alone : Option (List ℕ → Combine) → Meaning
alone combine = record { combine = combine; encode = λ bytes. bytes; decode = λ bytes. bytes }

-- of the causes of a fold none is that there is no operator
not_missing : (e : SlateDBError) (a b : ℕ) → e ≡ MergeOperatorMissing → (e ≡ OutOfMemory) ⊎ IsCallback a b e → ⊥
not_missing e a b missing (inl memory) = let clash : OutOfMemory ≡ MergeOperatorMissing = sym memory ∙ missing in cc
not_missing e a b missing (inr h) = absurd (subst (IsCallback a b) missing h)

or_missing : {A B C : Type 0} → A ⊎ C → A ⊎ B ⊎ C
or_missing (inl a) = inl a
or_missing (inr f) = inr (inr f)

pub fold_for_flush-requires : goal.fold_for_flush-requires
fold_for_flush-requires g c =
    some_operator c.args.operator.now c.wants_operator.result (is_merge_among c.in_ok-rows.rows.items) (c.wants_operator.ensures ∙ ap (λ (xs : Rows). not (is_some c.args.operator.now) && is_merge_among xs) c.deref.ensures.value) c.if-wants_operator.false

pub returns : goal.returns
returns g c =
    let rows = c.in_ok-rows.rows.items in
    let layers = map (λ t. t.rows) c.args.frozen.now in
    let gathered = c.in_ok-rows.ensures.rows in
    let same = keys (map (λ t. t.rows) c.args.frozen.now) c.in_ok-rows.rows.items c.in_ok-rows.ensures.rows in
    let own = alone (option_map g.M.MergeOperator.combine c.args.operator.now) in
    let made = c.fold_for_flush.ensures.folded c.in_ok-rows.ensures.rows.order in
    record {
      folded = λ m is. IfOk-weaker c.fold_for_flush.result _ _
          (λ out h. flush_folds m c.args.barrier layers rows out.items same (λ k. h k ∙ ap (λ (o : Option (List ℕ → Combine)). kept_and_folded (operator_at o k) c.args.barrier (of_key k rows)) (sym is))) made;
      order = if_ok_both c.fold_for_flush.result _ _ _
          (λ out h o. flush_order own c.args.barrier layers out.items (flush_folds own c.args.barrier layers rows out.items same h) o c.requires.rise) made (c.fold_for_flush.ensures.order gathered.order);
      fit = IfOk-weaker c.fold_for_flush.result _ _
          (λ out h. flush_fits own c.args.barrier layers out.items (operator_short g.M.MergeOperator.combine c.args.operator.now g.met.M.MergeOperator.short) (flush_folds own c.args.barrier layers rows out.items same h) c.requires.fit) made;
      some = IfOk-weaker c.fold_for_flush.result _ _
          (λ out h. flush_some (operator_at (option_map g.M.MergeOperator.combine c.args.operator.now)) c.args.barrier layers rows out.items same h c.requires.some c.requires.each) made;
      missing = λ m is. IfErr-weaker c.fold_for_flush.result _ _ (λ e h missing. absurd (not_missing e _ _ missing h)) c.fold_for_flush.ensures.cause;
      wanted = λ none among. absurd (unwanted g.M.MergeOperator.combine c.args.operator.now c.wants_operator.result (is_merge_among c.in_ok-rows.rows.items) (c.wants_operator.ensures ∙ ap (λ (xs : Rows). not (is_some c.args.operator.now) && is_merge_among xs) c.deref.ensures.value) c.if-wants_operator.false none
          (merge_still layers rows same among));
      same = c.fold_for_flush.ensures.same;
      later = c.fold_for_flush.ensures.later;
      still = c.fold_for_flush.ensures.still;
      cause = IfErr-weaker c.fold_for_flush.result _ _ (λ e h. or_missing h) c.fold_for_flush.ensures.cause;
    }

pub returns-then-wants_operator : goal.returns-then-wants_operator
returns-then-wants_operator g c =
    let none = none_wanted g.M.MergeOperator.combine c.args.operator.now c.wants_operator.result (is_merge_among c.in_ok-rows.rows.items) (c.wants_operator.ensures ∙ ap (λ (xs : Rows). not (is_some c.args.operator.now) && is_merge_among xs) c.deref.ensures.value) c.if-wants_operator.true in
    record {
      folded = λ m is. tt;
      order = tt;
      fit = tt;
      some = tt;
      missing = λ m is e. (refl, is ∙ none.0, merge_gathered (map (λ t. t.rows) c.args.frozen.now) c.in_ok-rows.rows.items (keys (map (λ t. t.rows) c.args.frozen.now) c.in_ok-rows.rows.items c.in_ok-rows.ensures.rows) none.1);
      wanted = λ none among. tt;
      same = refl;
      later = omega arith;
      still = refl;
      cause = inr (inl refl);
    }

pub returns-in_err-rows : goal.returns-in_err-rows
returns-in_err-rows g c =
    let p = err_from_is_err_and c.from_residual.result c.from_residual.ensures.1 in
    record {
      folded = λ m is. IfOk-from_err c.from_residual.result _ c.from_residual.ensures.0;
      order = IfOk-from_err c.from_residual.result _ c.from_residual.ensures.0;
      fit = IfOk-from_err c.from_residual.result _ c.from_residual.ensures.0;
      some = IfOk-from_err c.from_residual.result _ c.from_residual.ensures.0;
      missing = λ m is. rw (p.1, p.2) (λ missing. let clash : OutOfMemory ≡ MergeOperatorMissing = sym c.in_err-rows.ensures.cause ∙ missing in cc);
      wanted = λ none among. IfOk-from_err c.from_residual.result _ c.from_residual.ensures.0;
      same = refl;
      later = omega arith;
      still = rw (p.1, p.2) (stays_at _ _ c.in_err-rows.field-0.0 refl);
      cause = rw (p.1, p.2) (inl c.in_err-rows.ensures.cause);
    }
