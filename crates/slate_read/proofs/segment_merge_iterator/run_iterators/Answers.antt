use Rattle.std.proofs.Common.{◌≡◌, ◌∙◌, [], ap, sym, arith}
use Rattle.std.specs.Vec.Iter.{into_iter_items}
use Rattle.std.proofs.lemmas.List.{nil_from_length}
use Rattle.slate_read.specs.SegmentIterators.{meets}
use Rattle.slate_read.proofs.SegmentRuns.{run_made, runs_made}
use Rattle.slate_read.proofs.segment_merge_iterator.run_iterators.Goals as goal

pub loop-run-preserved-in-Continue-branch-2 : goal.loop-run-preserved-in-Continue-branch-2
loop-run-preserved-in-Continue-branch-2 g c =
    let range = c.args.range.now in
    let met = ap (meets range) (sym c.as_slice.ensures) ∙ sym c.meets.ensures ∙ c.if-meets.true in
    run_made range c.args.options.now.order _ _ c.args.runs.items c.in-Some.run' c.loop-run.sources.items c.push.new.self.items c.in_ok-source.source
    c.in-Some.ensures.steps.0 met c.in_ok-push.ensures.items c.in_ok-source.ensures.rows c.loop-run.invariant

pub returns-clause-each : goal.returns-clause-each
returns-clause-each g c =
    let none : into_iter_items c.loop-run.run-iterator ≡ [] = nil_from_length _ (omega (arith, c.in-None.ensures.steps.0)) in
    runs_made c.args.range.now c.args.options.now.order (into_iter_items c.loop-run.run-iterator) c.args.runs.items c.loop-run.sources.items none c.loop-run.invariant
