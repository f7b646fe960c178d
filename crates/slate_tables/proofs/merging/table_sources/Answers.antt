use Rattle.std.proofs.Common.{◌≡◌, ℕ, ◌+◌, ◌-◌, ◌<◌, drop, length, reverse, arith, subst}
use Rattle.slate_tables.specs.Merging.{IsTableSource, MatchEach}
use Rattle.slate_tables.proofs.Sources.{from_place, sources_end, sources_more, sources_none}
use Rattle.slate_tables.proofs.merging.table_sources.Goals as goal

pub loop-at-init : goal.loop-at-init
loop-at-init c = record {
  within = omega arith;
  each = sources_none (IsTableSource c.args.range.now c.args.order) c.args.handles.now (length c.args.handles.now) c.new-sources.result.items (omega arith) c.new-sources.ensures.items;
}

pub loop-at-preserved : goal.loop-at-preserved
loop-at-preserved c =
    let i = c.loop-at.at - 1 in
    let below : c.loop-at.at - 1 < length c.args.handles.now = omega (arith, c.loop-at-test.true, c.loop-at.invariant.within) in
    let next : c.loop-at.at ≡ c.loop-at.at - 1 + 1 = omega (arith, c.loop-at-test.true) in
    record {
      within = omega (arith, c.loop-at.invariant.within);
      each = sources_more (IsTableSource c.args.range.now c.args.order) c.args.handles.now i c.index-handles-at.result c.loop-at.sources.items c.push.new.self.items c.in_ok-source.source
          (from_place c.args.handles.now i c.index-handles-at.result below c.index-handles-at.is)
          c.in_ok-push.ensures.items
          c.in_ok-source.ensures.source
          (subst (λ (j : ℕ). MatchEach (IsTableSource c.args.range.now c.args.order) (reverse (drop j c.args.handles.now)) c.loop-at.sources.items) next c.loop-at.invariant.each);
    }

pub returns : goal.returns
returns c = record {
  each = sources_end (IsTableSource c.args.range.now c.args.order) c.args.handles.now c.loop-at.at c.loop-at.sources.items (omega (arith, c.loop-at-test.false)) c.loop-at.invariant.each;
  cause = tt;
}
