use Rattle.std.proofs.Common.{sym, ◌≡◌, inl, Option, refl, ap, ◌∙◌, subst}
use Rattle.slate_types.specs.declared.bytes_range.BytesRange.{BytesRange}
use Rattle.slate_types.specs.Keys.{prefix_subrange}
use Rattle.slate_store.specs.Reach.{reach_of}
use Rattle.slate_txn.specs.declared.line.Line.TheVariants as lines
use Rattle.slate_db.specs.Checked.{OrSlips}
use Rattle.slate_script.specs.Scanning.{ScansAs}
use Rattle.slate_script.proofs.SessionScans.{begins_behind, composed_fits}
use Rattle.slate_types.specs.Outside.{IsCounted}
use Rattle.slate_types.proofs.Reaching.{reads_none}
use Rattle.slate_script.proofs.session.Session.prefix.Goals as goal
use Rattle.slate_script.proofs.MeaningOf.{meaning_of}

pub scan_range-requires-clause-range : goal.scan_range-requires-clause-range
scan_range-requires-clause-range g c = λ κs lives. composed_fits c.as_slice.result.now c.args.start c.args.end c.in-Ok.range c.in-Ok.ensures.range

pub scan_range-requires-clause-prefix : goal.scan_range-requires-clause-prefix
scan_range-requires-clause-prefix g c = λ κs lives.
    begins_behind c.args.prefix c.args.start c.args.end c.asked.result c.in-Ok.range c.asked.ensures (c.in-Ok.ensures.range ∙ ap (λ p. prefix_subrange p c.args.start c.args.end) c.as_slice.ensures)

pub returns : goal.returns
returns g c =
    record {
      step = (λ is seg.
          let m = meaning_of g.M.MergeOperator.combine g.T.BlockTransformer.encoded g.T.BlockTransformer.decoded c.args.env.now.operator c.args.env.now.transformer in
          let composed : c.in-Ok.range ≡ prefix_subrange c.args.prefix c.args.start c.args.end = c.in-Ok.ensures.range ∙ ap (λ p. prefix_subrange p c.args.start c.args.end) c.as_slice.ensures in
          subst (λ (o : Option BytesRange). ScansAs m seg c.args.self.now c.scan_range.new.self c.args.name c.args.order o c.args.steps c.scan_range.result) composed (c.scan_range.ensures.scans.step is seg));
      checked = (λ os readable seg.
          let m = meaning_of g.M.MergeOperator.combine g.T.BlockTransformer.encoded g.T.BlockTransformer.decoded c.args.env.now.operator c.args.env.now.transformer in
          let old = reach_of g.S.Store g.M.MergeOperator g.T.BlockTransformer c.args.env.now in
          let new = reach_of g.S.Store g.M.MergeOperator g.T.BlockTransformer c.scan_range.new.env in
          let composed : c.in-Ok.range ≡ prefix_subrange c.args.prefix c.args.start c.args.end = c.in-Ok.ensures.range ∙ ap (λ p. prefix_subrange p c.args.start c.args.end) c.as_slice.ensures in
          subst (λ (o : Option BytesRange). OrSlips os old new (ScansAs m seg c.args.self.now c.scan_range.new.self c.args.name c.args.order o c.args.steps c.scan_range.result)) composed (c.scan_range.ensures.scans.checked os readable seg));
      stores = c.scan_range.ensures.stores;
      grows = c.scan_range.ensures.grows (lines.Prefix c.args.name c.args.order c.args.prefix c.args.start c.args.end c.args.steps) refl;
      cause = c.scan_range.ensures.cause;
      undamaged = c.scan_range.ensures.undamaged;
      reads = c.scan_range.ensures.reads;
      still = c.scan_range.ensures.still;
    }

pub returns-in-Err : goal.returns-in-Err
returns-in-Err g c =
    let fault : IsCounted _ _ c.in-Err.error = subst (IsCounted _ _) (sym c.in-Err.ensures.cause) tt in
    record {
      step = λ is seg s stands. tt;
      checked = λ os readable seg known began. inl (λ s stands. tt);
      stores = tt;
      grows = tt;
      cause = inl fault;
      undamaged = λ is. fault;
      reads = reads_none _;
      still = refl;
    }
