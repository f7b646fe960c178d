use Rattle.std.proofs.Common.{◌≡◌, ℤ, Some, option_map, w64, refl, sym, subst, ◌∙◌}
use Rattle.std.proofs.lemmas.Int.{to_z-of_z}
use Rattle.slate_db.specs.Meaning.{segments_by}
use Rattle.slate_db.specs.Prepared.{IsPrepared, lone_refusal, prepared_for}
use Rattle.std.proofs.lemmas.Result.{err_from_is_err_and}
use Rattle.slate_types.proofs.StillLaws.{stays_at}
use Rattle.slate_db.proofs.prepared.prepare.Goals as goal

pub returns-clause-prepared : goal.returns-clause-prepared
returns-clause-prepared g c =
    let e = c.in_ok-folded.ensures.folded in
    subst (λ (z : ℤ). IsPrepared (prepared_for (option_map g.M.MergeOperator.combine c.args.operator.now) (segments_by g.X.PrefixExtractor.lengths c.args.extractor.now) c.args.default_millis z c.args.batch.now) (record { ops = c.from_vec-ops.result; keys = c.in_ok-keys.keys; folded = c.in_ok-folded.folded })) (to_z-of_z w64 c.args.now c.ranges.now)
    (record {
      ops = c.from_vec-ops.ensures ∙ c.in_ok-ops.ensures.ops;
      keys = c.in_ok-keys.ensures.keys;
      kept = c.ops.ensures.kept;
      fine = c.ops.ensures.fine;
      plain = c.ops.ensures.plain;
      refused = e.refused;
      passed = e.passed;
      prefixes = e.prefixes;
      rows = e.rows;
      fit = e.fit c.ops.ensures.fine;
    })

pub returns-clause-unasked : goal.returns-clause-unasked
returns-clause-unasked g c = λ e is.
    c.fold_alone.ensures.unasked e
    (subst (λ (z : ℤ). lone_refusal (prepared_for (option_map g.M.MergeOperator.combine c.args.operator.now) (segments_by g.X.PrefixExtractor.lengths c.args.extractor.now) c.args.default_millis z c.args.batch.now) ≡ Some e) (sym (to_z-of_z w64 c.args.now c.ranges.now)) is)

pub returns-in_err-folded-clause-unasked : goal.returns-in_err-folded-clause-unasked
returns-in_err-folded-clause-unasked g c = λ e is.
    c.fold_alone.ensures.unasked e
    (subst (λ (z : ℤ). lone_refusal (prepared_for (option_map g.M.MergeOperator.combine c.args.operator.now) (segments_by g.X.PrefixExtractor.lengths c.args.extractor.now) c.args.default_millis z c.args.batch.now) ≡ Some e) (sym (to_z-of_z w64 c.args.now c.ranges.now)) is)

pub returns-in_err-ops-clause-still : goal.returns-in_err-ops-clause-still
returns-in_err-ops-clause-still g c =
    let p = err_from_is_err_and c.from_residual.result c.from_residual.ensures.1 in
    rw (p.1, p.2) (stays_at _ _ c.in_err-ops.field-0.0 refl)

pub returns-in_err-keys-clause-still : goal.returns-in_err-keys-clause-still
returns-in_err-keys-clause-still g c =
    let p = err_from_is_err_and c.from_residual-in_err-keys.result c.from_residual-in_err-keys.ensures.1 in
    rw (p.1, p.2) (stays_at _ _ c.in_err-keys.field-0.0 refl)

pub returns-in_err-folded-clause-still : goal.returns-in_err-folded-clause-still
returns-in_err-folded-clause-still g c =
    let p = err_from_is_err_and c.from_residual-in_err-folded.result c.from_residual-in_err-folded.ensures.1 in
    rw (p.1, p.2) c.in_err-folded.ensures.still

pub returns-clause-still : goal.returns-clause-still
returns-clause-still g c = c.in_ok-folded.ensures.still
