use Rattle.std.proofs.Common.{inl, inr, ◌≡◌, ◌⊎◌, ℕ, List, [], ◌∷◌, map, reverse, true, false, Option, Some, None, refl, sym, ap, subst, ◌∙◌, arith}
use Rattle.std.specs.Prelude.{IfOk, IsOkUnless, Ok, Result}
use Rattle.std.proofs.lemmas.Result.{IfOk-weaker, IfErr-weaker}
use Rattle.slate_types.specs.declared.error.SlateDBError.{SlateDBError}
use Rattle.slate_types.specs.declared.error.SlateDBError.TheVariants.{MergeOperatorMissing, OutOfMemory}
use Rattle.slate_types.specs.declared.types.RowEntry.{RowEntry}
use Rattle.slate_types.specs.Fold.{Combine, fold_rows}
use Rattle.slate_types.specs.Outside.{IsCounted, IsFault, Reach}
use Rattle.slate_types.proofs.Reaching.{adds_none, later_none, reads_of}
use Rattle.slate_mem.specs.declared.WriteOp.{WriteOp}
use Rattle.slate_mem.specs.Batch.{kept}
use Rattle.slate_mem.specs.Lookup.{is_merge_among, IsCallback}
use Rattle.slate_mem.specs.RowOf.{own_row}
use Rattle.slate_store.specs.Reach.{reach_of}
use Rattle.slate_table.proofs.ReadCalls.{call_quiet}
use Rattle.slate_txn.specs.State.{Tx}
use Rattle.slate_db.specs.Meaning.{combine_of}
use Rattle.slate_db.specs.Model.{Rows}
use Rattle.slate_db.specs.Readable.{keeps_merge}
use Rattle.slate_db.proofs.Causes.{fold_fault}
use Rattle.slate_db.proofs.Gets.{own_pairs}
use Rattle.slate_db.proofs.OwnRows.{merge_kept, oldest_first, own_keys, own_merges, own_short, plain_alone}
use Rattle.slate_types.proofs.StillLaws.{asked_still}
use Rattle.slate_db.proofs.key_share.fold_own.Goals as goal
use Rattle.slate_db.proofs.key_share.fold_own.Given as given

abbrev before : (g : given.Over) → goal.After-fold_found g → Reach
before g c = reach_of g.S.Store g.M.MergeOperator g.T.BlockTransformer c.args.env.now

abbrev after : (g : given.Over) → goal.After-fold_found g → Reach
after g c = reach_of g.S.Store g.M.MergeOperator g.T.BlockTransformer (record c.args.env.now { operator = c.fold_found.new.operator })

refused : (g : given.Over) (c : goal.After-fold_found g) (k : List ℕ) (t : Tx) → c.args.own.items ≡ map (own_row k) (reverse (kept t.ops k)) → (e : SlateDBError) →
    (e ≡ OutOfMemory) ⊎ ((e ≡ MergeOperatorMissing) × ((before g c).meaning.combine ≡ None) × (is_merge_among c.args.own.items ≡ true)) ⊎ IsCallback (before g c).faults.operator (after g c).faults.operator e →
    IsFault (before g c) (after g c) e ⊎ ((e ≡ MergeOperatorMissing) × ((before g c).meaning.combine ≡ None) × (keeps_merge k t.ops ≡ true))
refused g c k t rows e (inl m) = inl (subst (IsCounted (before g c).faults (after g c).faults) (sym m) tt)
refused g c k t rows e (inr (inl f)) = inr (f.0, f.1, merge_kept k t.ops c.args.own.items rows f.2)
refused g c k t rows e (inr (inr b)) = inl (fold_fault {N = ⊥} (before g c).faults (before g c).faults (after g c).faults false e (later_none (before g c).faults) (λ none. refl) (inr (inr b)))

pub returns : goal.returns
returns g c = record {
  answer = λ k t rows fine. record {
    quiet = call_quiet (before g c) (after g c) refl (λ i. record (before g c).meaning { combine = c.fold_found.ensures.same i }) refl;
    folded = λ lawful short. IfOk-weaker c.fold_found.result _ _ (λ row h. h ∙ ap (fold_rows (combine_of (before g c).meaning k)) (oldest_first k t.ops c.args.own.items rows))
        (c.fold_found.ensures.row k lawful short (own_pairs k c.args.own.items (own_keys k t.ops c.args.own.items rows) (own_short k t.ops c.args.own.items rows fine)));
    own = λ op one replaces.
        let plain = c.fold_found.ensures.plain (ap is_merge_among (rows ∙ ap (λ (xs : List WriteOp). map (own_row k) (reverse xs)) one) ∙ plain_alone k op replaces) in
        let is : c.fold_found.result ≡ Ok (Some (own_row k op)) = plain.1 (λ e v. v) ∙ ap (λ (xs : Rows). Ok (fold_rows (λ e v. v) xs)) (oldest_first k t.ops c.args.own.items rows ∙ ap (map (own_row k)) one) in
        record {
          answer = subst (λ (r : Result (Option RowEntry) SlateDBError). IfOk r (λ row. (f : Combine) → row ≡ fold_rows f (own_row k op ∷ []))) (sym is) (λ f. refl);
          cause = subst (λ (r : Result (Option RowEntry) SlateDBError). IsOkUnless r OutOfMemory) (sym is) tt;
          reached = ap (λ o. reach_of g.S.Store g.M.MergeOperator g.T.BlockTransformer (record c.args.env.now { operator = o })) plain.0;
        };
    missing = λ lacks some. subst (λ (r : Result (Option RowEntry) SlateDBError). IfOk r (λ row. ⊥)) (sym (c.fold_found.ensures.missing lacks (own_merges k t.ops c.args.own.items rows some))) tt;
    cause = IfErr-weaker c.fold_found.result _ _ (refused g c k t rows) c.fold_found.ensures.cause;
    still = asked_still (before g c).faults (after g c).faults c.fold_found.result refl c.fold_found.ensures.still refl;
  };
  outside = refl;
  reads = reads_of (before g c) (after g c) refl c.fold_found.ensures.same refl refl (adds_none (before g c).acts) (record { store = omega arith; operator = c.fold_found.ensures.later; transformer = omega arith }) refl;
}
