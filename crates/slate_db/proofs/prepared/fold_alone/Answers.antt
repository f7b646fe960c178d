use Rattle.std.proofs.Common.{◌≡◌, ◌⊎◌, inl, inr, None, option_map, w64, refl, ap, sym, ◌∙◌, ℤ}
use Rattle.std.proofs.lemmas.Int.{to_z-of_z}
use Rattle.slate_types.specs.Fold.{operator_at}
use Rattle.slate_types.specs.Keys.{keys_set}
use Rattle.slate_mem.specs.CommitRows.{commit_rows}
use Rattle.slate_mem.specs.KeyTests.{prefixes}
use Rattle.slate_db.specs.Meaning.{segments_by}
use Rattle.slate_db.specs.Prepared.{prepared_for}
use Rattle.slate_db.proofs.PreparedOf.{alone_as, lone_merges}
use Rattle.slate_db.proofs.Tests.{is_some_map, none_some}
use Rattle.std.proofs.lemmas.Result.{err_from_is_err_and}
use Rattle.slate_db.proofs.prepared.fold_alone.Goals as goal

pub rows_of_batch-requires : goal.rows_of_batch-requires
rows_of_batch-requires g c =
    let w = prepared_for (option_map g.M.MergeOperator.combine c.args.operator.now) (segments_by g.X.PrefixExtractor.lengths c.args.extractor.now) c.args.default_millis c.args.now c.args.batch.now in
    let same = alone_as w _ _ c.is_some.result (c.is_some.ensures ∙ sym (is_some_map g.M.MergeOperator.combine c.args.operator.now)) (ap (segments_by g.X.PrefixExtractor.lengths) c.as_ref.ensures.value) (to_z-of_z w64 c.args.now c.ranges.now) in
    lone_merges w (sym same ∙ c.in-Ok.ensures.fine)

either : {A B C : Type 0} → (B → C) → A ⊎ B → A ⊎ C
either f (inl a) = inl a
either f (inr b) = inr (f b)

pub returns-in-Err-clause-folded : goal.returns-in-Err-clause-folded
returns-in-Err-clause-folded g c =
    let w = prepared_for (option_map g.M.MergeOperator.combine c.args.operator.now) (segments_by g.X.PrefixExtractor.lengths c.args.extractor.now) c.args.default_millis c.args.now c.args.batch.now in
    let same = alone_as w _ _ c.is_some.result (c.is_some.ensures ∙ sym (is_some_map g.M.MergeOperator.combine c.args.operator.now)) (ap (segments_by g.X.PrefixExtractor.lengths) c.as_ref.ensures.value) (to_z-of_z w64 c.args.now c.ranges.now) in
    record {
      refused = either (λ is. sym same ∙ is) c.in-Err.ensures.cause;
      passed = tt;
      prefixes = tt;
      rows = tt;
      fit = λ fine. tt;
    }

pub returns-in_ok-rows-in-Ok-clause-folded : goal.returns-in_ok-rows-in-Ok-clause-folded
returns-in_ok-rows-in-Ok-clause-folded g c =
    let w = prepared_for (option_map g.M.MergeOperator.combine c.args.operator.now) (segments_by g.X.PrefixExtractor.lengths c.args.extractor.now) c.args.default_millis c.args.now c.args.batch.now in
    let same = alone_as w _ _ c.is_some.result (c.is_some.ensures ∙ sym (is_some_map g.M.MergeOperator.combine c.args.operator.now)) (ap (segments_by g.X.PrefixExtractor.lengths) c.as_ref.ensures.value) (to_z-of_z w64 c.args.now c.ranges.now) in
    record {
      refused = tt;
      passed = sym same ∙ c.in-Ok.ensures.fine;
      prefixes = c.in-Ok.ensures.prefixes ∙ ap (λ o. keys_set (prefixes (segments_by g.X.PrefixExtractor.lengths o) c.args.batch.now.ops)) c.as_ref.ensures.value;
      rows = c.in_ok-rows-in-Ok.ensures.rows ∙ ap (λ (z : ℤ). commit_rows (operator_at (option_map g.M.MergeOperator.combine c.args.operator.now)) c.args.default_millis 0 z c.args.batch.now.ops) (to_z-of_z w64 c.args.now c.ranges.now);
      fit = c.in_ok-rows-in-Ok.ensures.fit;
    }

pub returns-in_ok-rows-in-Ok-clause-unasked : goal.returns-in_ok-rows-in-Ok-clause-unasked
returns-in_ok-rows-in-Ok-clause-unasked g c = λ e is.
    let w = prepared_for (option_map g.M.MergeOperator.combine c.args.operator.now) (segments_by g.X.PrefixExtractor.lengths c.args.extractor.now) c.args.default_millis c.args.now c.args.batch.now in
    let same = alone_as w _ _ c.is_some.result (c.is_some.ensures ∙ sym (is_some_map g.M.MergeOperator.combine c.args.operator.now)) (ap (segments_by g.X.PrefixExtractor.lengths) c.as_ref.ensures.value) (to_z-of_z w64 c.args.now c.ranges.now) in
    none_some e (sym (sym same ∙ c.in-Ok.ensures.fine) ∙ is)

pub returns-in_err-rows-in-Ok-clause-unasked : goal.returns-in_err-rows-in-Ok-clause-unasked
returns-in_err-rows-in-Ok-clause-unasked g c = λ e is.
    let w = prepared_for (option_map g.M.MergeOperator.combine c.args.operator.now) (segments_by g.X.PrefixExtractor.lengths c.args.extractor.now) c.args.default_millis c.args.now c.args.batch.now in
    let same = alone_as w _ _ c.is_some.result (c.is_some.ensures ∙ sym (is_some_map g.M.MergeOperator.combine c.args.operator.now)) (ap (segments_by g.X.PrefixExtractor.lengths) c.as_ref.ensures.value) (to_z-of_z w64 c.args.now c.ranges.now) in
    none_some e (sym (sym same ∙ c.in-Ok.ensures.fine) ∙ is)

pub returns-in-Err-clause-still : goal.returns-in-Err-clause-still
returns-in-Err-clause-still g c = refl

pub returns-in_err-rows-in-Ok-clause-still : goal.returns-in_err-rows-in-Ok-clause-still
returns-in_err-rows-in-Ok-clause-still g c =
    let p = err_from_is_err_and c.from_residual.result c.from_residual.ensures.1 in
    rw (p.1, p.2) c.in_err-rows-in-Ok.ensures.still

pub returns-in_ok-rows-in-Ok-clause-still : goal.returns-in_ok-rows-in-Ok-clause-still
returns-in_ok-rows-in-Ok-clause-still g c = c.in_ok-rows-in-Ok.ensures.still
