use Rattle.std.proofs.Common.{Option, refl, subst}
use Rattle.slate_types.specs.declared.bytes_range.BytesRange.{BytesRange}
use Rattle.slate_store.specs.Reach.{reach_of}
use Rattle.slate_txn.specs.declared.line.Line.TheVariants as lines
use Rattle.slate_db.specs.Checked.{OrSlips}
use Rattle.slate_script.specs.Scanning.{ScansAs}
use Rattle.slate_script.proofs.SessionScans.{begins_none, bounds_fit}
use Rattle.slate_script.proofs.session.Session.scan.Goals as goal
use Rattle.slate_script.proofs.MeaningOf.{meaning_of}

pub scan_range-requires-clause-range : goal.scan_range-requires-clause-range
scan_range-requires-clause-range g c = λ κs lives. bounds_fit c.args.start c.args.end c.try_new-range.result c.try_new-range.ensures

pub scan_range-requires-clause-prefix : goal.scan_range-requires-clause-prefix
scan_range-requires-clause-prefix g c = λ κs lives. begins_none c.try_new-range.result

pub returns : goal.returns
returns g c =
    record {
      step = (λ is seg.
          let m = meaning_of g.M.MergeOperator.combine g.T.BlockTransformer.encoded g.T.BlockTransformer.decoded c.args.env.now.operator c.args.env.now.transformer in
          subst (λ (o : Option BytesRange). ScansAs m seg c.args.self.now c.scan_range.new.self c.args.name c.args.order o c.args.steps c.scan_range.result) c.try_new-range.ensures (c.scan_range.ensures.scans.step is seg));
      checked = (λ os readable seg.
          let m = meaning_of g.M.MergeOperator.combine g.T.BlockTransformer.encoded g.T.BlockTransformer.decoded c.args.env.now.operator c.args.env.now.transformer in
          let old = reach_of g.S.Store g.M.MergeOperator g.T.BlockTransformer c.args.env.now in
          let new = reach_of g.S.Store g.M.MergeOperator g.T.BlockTransformer c.scan_range.new.env in
          subst (λ (o : Option BytesRange). OrSlips os old new (ScansAs m seg c.args.self.now c.scan_range.new.self c.args.name c.args.order o c.args.steps c.scan_range.result)) c.try_new-range.ensures (c.scan_range.ensures.scans.checked os readable seg));
      stores = c.scan_range.ensures.stores;
      grows = c.scan_range.ensures.grows (lines.Scan c.args.name c.args.order c.args.start c.args.end c.args.steps) refl;
      cause = c.scan_range.ensures.cause;
      undamaged = c.scan_range.ensures.undamaged;
      reads = c.scan_range.ensures.reads;
      still = c.scan_range.ensures.still;
    }
