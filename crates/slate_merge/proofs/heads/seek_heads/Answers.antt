use Rattle.std.proofs.Common.{arith, Some, ◌∙◌, ap, refl}
use Rattle.slate_types.specs.Outside.{unblamed}
use Rattle.std.specs.BinaryHeap.{heap_items}
use Rattle.slate_types.specs.declared.iter.IterationOrder.TheVariants.{Ascending}
use Rattle.slate_types.proofs.Calls.{reads_at_none, reads_at_then}
use Rattle.slate_types.proofs.Moves.{moves_none, moves_both}
use Rattle.slate_types.proofs.Reaching.{reads_none, reads_then}
use Rattle.slate_merge.specs.Offers.{offers}
use Rattle.slate_merge.specs.Merging.{blames, begun_sources}
use Rattle.slate_merge.proofs.Goings.{then_fails}
use Rattle.slate_merge.proofs.MergeBringings.{sources_both, sources_none}
use Rattle.slate_merge.proofs.heads.seek_heads.Goals as goal

pub sources-init : goal.sources-init
sources-init g c = record { moves = λ o. moves_none _ _ _ _ _; brought = sources_none (offers g.I.RowEntryIterator.begins g.I.RowEntryIterator.takes g.I.RowEntryIterator.seeks) g.I.RowEntryIterator.refuses (g.E.Outside.reach c.args.env.now) (begun_sources (heap_items c.args.heads.now)); heaped = λ o h. h; no_larger = omega arith; within = λ paths h. (reads_at_none paths _, h); reads = reads_none _; counts = refl }

pub sources-preserved : goal.sources-preserved
sources-preserved g c =
    let inv = c.sources.invariant in
    let n = c.in-Ok-true.ensures in
    record {
      moves = λ o. moves_both _ _ _ _ _ _ _ _ _ (inv.moves o) (n.moved o);
      brought = sources_both (offers g.I.RowEntryIterator.begins g.I.RowEntryIterator.takes g.I.RowEntryIterator.seeks) g.I.RowEntryIterator.refuses (g.E.Outside.reach c.args.env.now) (g.E.Outside.reach c.sources.env) (g.E.Outside.reach c.seek_first.new.env) (begun_sources (heap_items c.args.heads.now)) (begun_sources (heap_items c.sources.heads)) (begun_sources (heap_items c.seek_first.new.heads)) inv.brought n.brought;
      heaped = λ o h. n.heaped o (inv.heaped o h);
      no_larger = omega (arith, n.no_larger, inv.no_larger);
      within = λ paths h. (let first = inv.within paths h in let last = n.within paths first.1 in (reads_at_then paths _ _ _ first.0 last.0, last.1));
      reads = reads_then _ _ _ inv.reads n.reads;
      counts = n.counts ∙ inv.counts;
    }

pub sources-smaller : goal.sources-smaller
sources-smaller g c = c.in-Ok-true.ensures.smaller c.in-Ok-true.field-0-test

pub returns-in-Ok-false : goal.returns-in-Ok-false
returns-in-Ok-false g c =
    let inv = c.sources.invariant in
    let n = c.in-Ok-false.ensures in
    record {
      moved = λ o. moves_both _ _ _ _ _ _ _ _ _ (inv.moves o) (n.moved o);
      brought = sources_both (offers g.I.RowEntryIterator.begins g.I.RowEntryIterator.takes g.I.RowEntryIterator.seeks) g.I.RowEntryIterator.refuses (g.E.Outside.reach c.args.env.now) (g.E.Outside.reach c.sources.env) (g.E.Outside.reach c.seek_first.new.env) (begun_sources (heap_items c.args.heads.now)) (begun_sources (heap_items c.sources.heads)) (begun_sources (heap_items c.seek_first.new.heads)) inv.brought n.brought;
      done = λ o w m. n.done o w m c.in-Ok-false.field-0-test;
      heaped = λ o h. n.heaped o (inv.heaped o h);
      no_larger = omega (arith, n.no_larger, inv.no_larger);
      cause = tt;
      within = λ paths h. (let first = inv.within paths h in let last = n.within paths first.1 in (reads_at_then paths _ _ _ first.0 last.0, last.1));
      reads = reads_then _ _ _ inv.reads n.reads;
      counts = n.counts ∙ inv.counts;
    }

pub returns-in-Err : goal.returns-in-Err
returns-in-Err g c =
    let inv = c.sources.invariant in
    let n = c.in-Err.ensures in
    record {
      moved = λ _. tt;
      brought = tt;
      heaped = λ _ _. tt;
      done = λ _ _ _. tt;
      no_larger = tt;
      cause = then_fails (blames g.I.RowEntryIterator.refuses (begun_sources (heap_items c.args.heads.now))) (blames g.I.RowEntryIterator.refuses (begun_sources (heap_items c.sources.heads))) (g.E.Outside.reach c.args.env.now) (g.E.Outside.reach c.sources.env) (g.E.Outside.reach c.seek_first.new.env) (Some c.args.key.now) c.in-Err.error inv.reads.later (inv.moves Ascending).made n.cause;
      within = λ paths h. (let first = inv.within paths h in let last = n.within paths first.1 in (reads_at_then paths _ _ _ first.0 last.0, last.1));
      reads = reads_then _ _ _ inv.reads n.reads;
      counts = n.counts ∙ ap (unblamed c.in-Err.error) inv.counts;
    }
