use Rattle.std.proofs.Common.{◌≡◌, ℕ, ◌+◌, ◌-◌, ◌<◌, [], ◌∷◌, ◌++◌, drop, length, map, reverse, arith, subst}
use Rattle.std.proofs.lemmas.List.{length-map}
use Rattle.slate_mem.specs.declared.mem_table.ImmutableMemtable.{ImmutableMemtable}
use Rattle.slate_mem.proofs.LayerLaws.{mapped_here}
use Rattle.slate_db.specs.OpenScans.{AreEach, IsMemorySource}
use Rattle.slate_db.proofs.SourceLists.{memory_is, sources_end, sources_first, sources_more, sources_none}
use Rattle.slate_db.proofs.open_scan.memory_sources.Goals as goal

pub loop-at-init : goal.loop-at-init
loop-at-init c =
    let one = c.in_ok-rows.ensures in
    let made = c.in_ok-source.ensures in
    record {
      within = omega arith;
      each = sources_none (IsMemorySource c.args.range.now c.args.order c.args.begin) (c.args.active.now.rows ∷ []) (map (λ (t : ImmutableMemtable). t.rows) c.args.frozen.now) (length c.args.frozen.now) c.push.new.self.items
          (omega (arith, length-map c.args.frozen.now (λ (t : ImmutableMemtable). t.rows)))
          (sources_first (IsMemorySource c.args.range.now c.args.order c.args.begin) c.args.active.now.rows c.in_ok-source.source c.new-sources.result.items c.push.new.self.items c.new-sources.ensures.items c.in_ok-push.ensures.items
          (memory_is c.args.range.now c.args.order c.args.begin c.args.active.now.rows c.in_ok-rows.rows c.in_ok-source.source made.iterator made.predicate (record { rows = one.rows; in_order = one.in_order; turn = one.turn; same_order = one.order })));
    }

pub loop-at-preserved : goal.loop-at-preserved
loop-at-preserved c =
    let i = c.loop-at.at - 1 in
    let below : c.loop-at.at - 1 < length c.args.frozen.now = omega (arith, c.loop-at-test.true, c.loop-at.invariant.within) in
    let next : c.loop-at.at ≡ c.loop-at.at - 1 + 1 = omega (arith, c.loop-at-test.true) in
    let one = c.in_ok-rows-2.ensures in
    let made = c.in_ok-source-2.ensures in
    record {
      within = omega (arith, c.loop-at.invariant.within);
      each = sources_more (IsMemorySource c.args.range.now c.args.order c.args.begin) (c.args.active.now.rows ∷ []) (map (λ (t : ImmutableMemtable). t.rows) c.args.frozen.now) i c.index-frozen-at.result.rows c.loop-at.sources.items c.push-in-loop-at.new.self.items c.in_ok-source-2.source
          (mapped_here (λ (t : ImmutableMemtable). t.rows) c.args.frozen.now i c.index-frozen-at.result c.index-frozen-at.is below)
          c.in_ok-push-2.ensures.items
          (memory_is c.args.range.now c.args.order c.args.begin c.index-frozen-at.result.rows c.in_ok-rows-2.rows c.in_ok-source-2.source made.iterator made.predicate (record { rows = one.rows; in_order = one.in_order; turn = one.turn; same_order = one.order }))
          (subst (λ (j : ℕ). AreEach (IsMemorySource c.args.range.now c.args.order c.args.begin) ((c.args.active.now.rows ∷ []) ++ reverse (drop j (map (λ (t : ImmutableMemtable). t.rows) c.args.frozen.now))) c.loop-at.sources.items) next c.loop-at.invariant.each);
    }

pub returns : goal.returns
returns c = record {
  each = sources_end (IsMemorySource c.args.range.now c.args.order c.args.begin) (c.args.active.now.rows ∷ []) (map (λ (t : ImmutableMemtable). t.rows) c.args.frozen.now) c.loop-at.at c.loop-at.sources.items (omega (arith, c.loop-at-test.false)) c.loop-at.invariant.each;
  cause = tt;
}
