use Rattle.std.proofs.Common.{◌≡◌, ℕ, ◌+◌, ◌-◌, ◌<◌, [], ◌++◌, drop, length, reverse, arith, subst, sym}
use Rattle.slate_db.specs.OpenScans.{AreEach, IsRunSource}
use Rattle.slate_db.proofs.RunReads.{run_here}
use Rattle.slate_db.proofs.SourceLists.{sources_end, sources_more, sources_none, sources_nil}
use Rattle.slate_db.proofs.open_scan.run_sources.Goals as goal

pub loop-at-init : goal.loop-at-init
loop-at-init g c = record {
  within = omega arith;
  each = sources_none (IsRunSource c.args.range.now c.args.options.now.order c.args.begin) [] c.args.runs.now (length c.args.runs.now) c.new-sources.result.items (omega arith) (sources_nil (IsRunSource c.args.range.now c.args.options.now.order c.args.begin) c.new-sources.result.items c.new-sources.ensures.items);
}

pub loop-at-preserved : goal.loop-at-preserved
loop-at-preserved g c =
    let i = c.loop-at.at - 1 in
    let below : c.loop-at.at - 1 < length c.args.runs.now = omega (arith, c.loop-at-test.true, c.loop-at.invariant.within) in
    let next : c.loop-at.at ≡ c.loop-at.at - 1 + 1 = omega (arith, c.loop-at-test.true) in
    record {
      within = omega (arith, c.loop-at.invariant.within);
      each = sources_more (IsRunSource c.args.range.now c.args.options.now.order c.args.begin) [] c.args.runs.now i c.index-runs-at.result c.loop-at.sources.items c.push.new.self.items c.in_ok-source.source
          (run_here c.args.runs.now i c.index-runs-at.result below c.index-runs-at.is)
          c.in_ok-push.ensures.items
          c.in_ok-source.ensures.source
          (subst (λ (j : ℕ). AreEach (IsRunSource c.args.range.now c.args.options.now.order c.args.begin) (reverse (drop j c.args.runs.now)) c.loop-at.sources.items) next c.loop-at.invariant.each);
    }

pub returns : goal.returns
returns g c = record {
  each = sources_end (IsRunSource c.args.range.now c.args.options.now.order c.args.begin) [] c.args.runs.now c.loop-at.at c.loop-at.sources.items (omega (arith, c.loop-at-test.false)) c.loop-at.invariant.each;
  cause = tt;
}
