use Rattle.std.proofs.Common.{inl, inr, ◌≡◌, ◌⊎◌, [], Option, Some, None, false, refl, sym, ap, subst, ◌∙◌}
use Rattle.std.specs.Prelude.{Err, Result}
use Rattle.std.proofs.lemmas.Option.{same_Some}
use Rattle.std.proofs.lemmas.Result.{err_from_is_err_and}
use Rattle.slate_types.specs.declared.bytes_range.BytesRange.{BytesRange}
use Rattle.slate_types.specs.Keys.{is_refused, prefix_subrange}
use Rattle.slate_store.specs.Reach.{reach_of}
use Rattle.slate_db.specs.ScanFilters.{scan_query}
use Rattle.slate_shared.specs.Scans.{IsScanOpened}
use Rattle.slate_shared.proofs.ScanReads.{composed_fits, memory_or_none, scan_memory}
use Rattle.slate_shared.proofs.txn.DbTransaction.scan_with_options.Goals as goal

pub scan_over-requires-clause-range : goal.scan_over-requires-clause-range
scan_over-requires-clause-range g c κs lives = composed_fits [] (g.B.ByteRangeBounds.start c.args.range.now) (g.B.ByteRangeBounds.end c.args.range.now) c.in_ok-range.range c.in_ok-range.ensures.range

pub returns-in_err-range : goal.returns-in_err-range
returns-in_err-range g c =
    let p = err_from_is_err_and c.from_residual.result c.from_residual.ensures.1 in
    record {
      opened = λ r is. scan_memory g.P.Parts.options g.P.Parts.meaning g.P.Parts.policies (scan_query r None c.args.options.now.filter_context) r c.args.options.now.order c.args.self.now (reach_of g.S.Store g.M.MergeOperator g.T.BlockTransformer c.args.env.now) (c.args.env.now ≡ c.args.env.now) refl c.in_err-range.field-0.0 c.from_residual.result (p.1 ∙ ap (λ e. Err e) p.2)
          (memory_or_none (prefix_subrange [] (g.B.ByteRangeBounds.start c.args.range.now) (g.B.ByteRangeBounds.end c.args.range.now)) r is c.in_err-range.field-0.0 c.in_err-range.ensures.refused);
      invalid = λ none. (elim c.in_err-range.ensures.refused [ inl out ↦ inr (p.1 ∙ ap (λ e. Err e) (p.2 ∙ out)) | inr refused ↦ inl (p.1 ∙ ap (λ e. Err e) (p.2 ∙ refused.0)) ], refl, refl);
    }

pub returns : goal.returns
returns g c = record {
  opened = λ r is.
      subst (λ (x : BytesRange). IsScanOpened g.P.Parts.options g.P.Parts.meaning g.P.Parts.policies (scan_query x None c.args.options.now.filter_context) x c.args.options.now.order c.args.self.now c.scan_over.new.self (reach_of g.S.Store g.M.MergeOperator g.T.BlockTransformer c.args.env.now) (reach_of g.S.Store g.M.MergeOperator g.T.BlockTransformer c.scan_over.new.env) (c.scan_over.new.env ≡ c.args.env.now) c.scan_over.result)
      (same_Some c.in_ok-range.range r (sym c.in_ok-range.ensures.range ∙ is)) c.scan_over.ensures;
  invalid = λ none. let clash : None ≡ Some c.in_ok-range.range = sym none ∙ c.in_ok-range.ensures.range in cc;
}
