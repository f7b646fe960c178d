use Rattle.std.proofs.Common.{◌≡◌, List, ℕ, Option, Some, None, option_map, ap, sym, ◌∙◌, Err, w64}
use Rattle.std.proofs.lemmas.Int.{to_z-of_z}
use Rattle.std.proofs.lemmas.Result.{err_from_is_err_and}
use Rattle.slate_mem.specs.KeyTests.{Segments}
use Rattle.slate_db.specs.BatchTests.{batch_refusal}
use Rattle.slate_db.specs.Meaning.{segments_by}
use Rattle.slate_db.proofs.Tests.{is_some_map, none_some, refused_nests, refused_none, refused_own, shown_first}
use Rattle.slate_db.proofs.tested.test_batch.Goals as goal

pub returns-in_err-own-clause-first : goal.returns-in_err-own-clause-first
returns-in_err-own-clause-first g c e is =
    let p = err_from_is_err_and c.from_residual.result c.from_residual.ensures.1 in
    let x = c.in_err-own.field-0.0 in
    shown_first c.from_residual.result x e _ (p.1 ∙ ap Err p.2)
    (refused_own (option_map g.M.MergeOperator.combine c.args.operator.now) (segments_by g.X.PrefixExtractor.lengths c.args.extractor.now) _ c.args.recorded.now c.args.default_millis _ c.args.now c.is_some.result c.args.batch.now
    (c.is_some.ensures ∙ sym (is_some_map g.M.MergeOperator.combine c.args.operator.now)) (ap (segments_by g.X.PrefixExtractor.lengths) c.as_ref.ensures.value) (to_z-of_z w64 c.args.now c.ranges.now) x c.in_err-own.ensures.cause) is

pub returns-in_err-own-clause-cause : goal.returns-in_err-own-clause-cause
returns-in_err-own-clause-cause g c =
    let p = err_from_is_err_and c.from_residual.result c.from_residual.ensures.1 in
    let x = c.in_err-own.field-0.0 in
    rw (p.1, p.2)
    (refused_own (option_map g.M.MergeOperator.combine c.args.operator.now) (segments_by g.X.PrefixExtractor.lengths c.args.extractor.now) _ c.args.recorded.now c.args.default_millis _ c.args.now c.is_some.result c.args.batch.now
    (c.is_some.ensures ∙ sym (is_some_map g.M.MergeOperator.combine c.args.operator.now)) (ap (segments_by g.X.PrefixExtractor.lengths) c.as_ref.ensures.value) (to_z-of_z w64 c.args.now c.ranges.now) x c.in_err-own.ensures.cause)

pub returns-in_err-test-clause-first : goal.returns-in_err-test-clause-first
returns-in_err-test-clause-first g c e is =
    let p = err_from_is_err_and c.from_residual-in_err-test.result c.from_residual-in_err-test.ensures.1 in
    let x = c.in_err-test.field-0.0 in
    shown_first c.from_residual-in_err-test.result x e _ (p.1 ∙ ap Err p.2)
    (refused_nests (option_map g.M.MergeOperator.combine c.args.operator.now) (segments_by g.X.PrefixExtractor.lengths c.args.extractor.now) _ c.args.recorded.now c.args.default_millis _ c.args.now c.is_some.result c.args.batch.now
    (c.is_some.ensures ∙ sym (is_some_map g.M.MergeOperator.combine c.args.operator.now)) (ap (segments_by g.X.PrefixExtractor.lengths) c.as_ref.ensures.value) (to_z-of_z w64 c.args.now c.ranges.now) c.in_ok-own.own.keys x c.in_ok-own.ensures.prefixes c.in_ok-own.ensures.fine c.in_err-test.ensures.cause) is

pub returns-in_err-test-clause-cause : goal.returns-in_err-test-clause-cause
returns-in_err-test-clause-cause g c =
    let p = err_from_is_err_and c.from_residual-in_err-test.result c.from_residual-in_err-test.ensures.1 in
    let x = c.in_err-test.field-0.0 in
    rw (p.1, p.2)
    (refused_nests (option_map g.M.MergeOperator.combine c.args.operator.now) (segments_by g.X.PrefixExtractor.lengths c.args.extractor.now) _ c.args.recorded.now c.args.default_millis _ c.args.now c.is_some.result c.args.batch.now
    (c.is_some.ensures ∙ sym (is_some_map g.M.MergeOperator.combine c.args.operator.now)) (ap (segments_by g.X.PrefixExtractor.lengths) c.as_ref.ensures.value) (to_z-of_z w64 c.args.now c.ranges.now) c.in_ok-own.own.keys x c.in_ok-own.ensures.prefixes c.in_ok-own.ensures.fine c.in_err-test.ensures.cause)

pub returns-clause-tested : goal.returns-clause-tested
returns-clause-tested g c =
    refused_none (option_map g.M.MergeOperator.combine c.args.operator.now) (segments_by g.X.PrefixExtractor.lengths c.args.extractor.now) _ c.args.recorded.now c.args.default_millis _ c.args.now c.is_some.result c.args.batch.now
    (c.is_some.ensures ∙ sym (is_some_map g.M.MergeOperator.combine c.args.operator.now)) (ap (segments_by g.X.PrefixExtractor.lengths) c.as_ref.ensures.value) (to_z-of_z w64 c.args.now c.ranges.now) c.in_ok-own.own.keys c.in_ok-own.ensures.prefixes c.in_ok-own.ensures.fine c.in_ok-test.ensures.fine

pub returns-clause-first : goal.returns-clause-first
returns-clause-first g c e is =
    none_some e (sym (refused_none (option_map g.M.MergeOperator.combine c.args.operator.now) (segments_by g.X.PrefixExtractor.lengths c.args.extractor.now) _ c.args.recorded.now c.args.default_millis _ c.args.now c.is_some.result c.args.batch.now
    (c.is_some.ensures ∙ sym (is_some_map g.M.MergeOperator.combine c.args.operator.now)) (ap (segments_by g.X.PrefixExtractor.lengths) c.as_ref.ensures.value) (to_z-of_z w64 c.args.now c.ranges.now) c.in_ok-own.own.keys c.in_ok-own.ensures.prefixes c.in_ok-own.ensures.fine c.in_ok-test.ensures.fine) ∙ is)
