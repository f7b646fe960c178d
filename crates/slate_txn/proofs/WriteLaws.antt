-- A write knows of its operations the first of their own refusals, the kept ones, and whether one is a merge.
use Rattle.std.proofs.Common.{◌≡◌, ℕ, ◌+◌, ◌&&◌, not, is_some, List, [], ◌∷◌, ◌++◌, map, filter_map, flat_map, reverse, Option, Some, None, refl, sym, ap, subst, ◌∙◌}
use Rattle.std.specs.List.{list_any}
use Rattle.slate_types.specs.declared.error.SlateDBError.{SlateDBError}
use Rattle.slate_types.specs.declared.error.SlateDBError.TheVariants as errors
use Rattle.slate_types.specs.Keys.{keys_set}
use Rattle.slate_mem.specs.Batch.{Ops, kept, batch_keys, kept_ops}
use Rattle.slate_mem.specs.RowOf.{op_expiry}
use Rattle.slate_mem.proofs.BatchLaws.{keeps_what_is_kept}
use Rattle.slate_txn.specs.State.{Rules, State, last}
use Rattle.slate_mem.specs.Refusals.{first_refusal, op_refusal, when}
use Rattle.slate_mem.specs.BatchModel.{is_merge_op}
use Rattle.slate_mem.specs.KeyTests.{prefix_by, prefixes, segment_refusal, ttl_refusal, nest_refusal}
use Rattle.slate_txn.specs.Refusals.{batch_refusals, exhausted_refusal, write_refusal}
use Rattle.slate_txn.specs.Reply.{Written}
use Rattle.slate_txn.specs.Step.{refused_or, with_reply}
use Rattle.slate_txn.specs.Laws.{WritesWhatIsKept}
use Rattle.slate_mem.proofs.BatchLaws.{keeps_its_keys}
use Rattle.slate_txn.proofs.BatchKeys.{HasSome, some_kept}

abbrev or_first : Option SlateDBError → Option SlateDBError → Option SlateDBError
or_first None e = e
or_first (Some d) e = Some d

first_append : (ds es : List (Option SlateDBError)) → first_refusal (ds ++ es) ≡ or_first (first_refusal ds) (first_refusal es)
first_append [] es = refl
first_append (None ∷ ds) es = first_append ds es
first_append (Some d ∷ ds) es = refl

abbrev own_refusals : Ops → List (Option SlateDBError)
own_refusals ops = map (λ o. op_refusal o.0 o.1) ops

-- operations that keep the same have the same keys, and keep the same of each
same_keys : (ops others : Ops) → kept_ops ops ≡ kept_ops others → batch_keys ops ≡ batch_keys others
same_keys ops others e = sym (keeps_its_keys ops) ∙ ap batch_keys e ∙ keeps_its_keys others

same_kept : (ops others : Ops) (k : List ℕ) → kept_ops ops ≡ kept_ops others → kept ops k ≡ kept others k
same_kept ops others k e = sym (keeps_what_is_kept ops k) ∙ ap (λ os. kept os k) e ∙ keeps_what_is_kept others k

same_refusals : (r : Rules) (s : State) (ops others : Ops) → kept_ops ops ≡ kept_ops others → batch_refusals r s ops ≡ batch_refusals r s others
same_refusals r s ops others e =
    let keys : batch_keys ops ≡ batch_keys others = same_keys ops others e in
    λ i. map (λ k. first_refusal (segment_refusal r.segment k ∷ ttl_refusal k (reverse (map (op_expiry r.default_millis s.now) (same_kept ops others k e i))) ∷ [])) (keys i)
    ++ map (nest_refusal (keys_set (flat_map (λ c. prefixes r.segment c.ops) s.commits ++ filter_map (prefix_by r.segment) (keys i)))) (keys_set (filter_map (prefix_by r.segment) (keys i)))

pub writes_what_is_kept : WritesWhatIsKept
writes_what_is_kept r s [] [] own e m = refl
writes_what_is_kept r s [] (p ∷ ps) own e m = absurd (subst HasSome (sym e) (some_kept p ps))
writes_what_is_kept r s (o ∷ os) [] own e m = absurd (subst HasSome e (some_kept o os))
writes_what_is_kept r s (o ∷ os) (p ∷ ps) own e m =
    λ i. refused_or (refusal i) s (with_reply Written (record s { commits = s.commits ++ (record { seq = last r s + 1; now = s.now; ops = e i; tracked = same_keys (o ∷ os) (p ∷ ps) e i } ∷ []) }, Some (last r s + 1)))
  where
    others : Ops → List (Option SlateDBError)
    others ops = exhausted_refusal r s ∷ when (list_any is_merge_op ops && not (is_some r.combine)) errors.MergeOperatorMissing ∷ batch_refusals r s ops

    refusal : write_refusal r s (o ∷ os) ≡ write_refusal r s (p ∷ ps)
    refusal =
        first_append (own_refusals (o ∷ os)) (others (o ∷ os))
        ∙ (λ i. or_first (own i) (first_refusal (exhausted_refusal r s ∷ when (m i && not (is_some r.combine)) errors.MergeOperatorMissing ∷ same_refusals r s (o ∷ os) (p ∷ ps) e i)))
        ∙ sym (first_append (own_refusals (p ∷ ps)) (others (p ∷ ps)))
