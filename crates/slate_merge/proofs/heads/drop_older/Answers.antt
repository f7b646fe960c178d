use Rattle.std.proofs.Common.{◌≡◌, ◌∙◌, refl, sym, arith, true, false, None, Some, ap}
use Rattle.slate_types.specs.Outside.{unblamed}
use Rattle.std.specs.BinaryHeap.{heap_items}
use Rattle.slate_types.specs.declared.iter.IterationOrder.{IterationOrder}
use Rattle.slate_types.specs.declared.iter.IterationOrder.TheVariants.{Ascending}
use Rattle.slate_types.specs.World.{World}
use Rattle.slate_types.proofs.Calls.{reads_at_none, reads_at_then}
use Rattle.slate_types.proofs.Moves.{moves_none}
use Rattle.slate_types.proofs.Reaching.{reads_none, reads_then}
use Rattle.slate_merge.specs.Merge.{begins_with}
use Rattle.slate_merge.specs.Merging.{left_in, IsMergingIn, blames, begun_sources}
use Rattle.slate_merge.specs.Offers.{offers}
use Rattle.slate_merge.specs.MergeBringing.{takes_front}
use Rattle.slate_merge.proofs.SeekLaws.{top_begins, counted_end}
use Rattle.slate_merge.proofs.Goings.{then_fails}
use Rattle.slate_merge.proofs.MergeBringings.{sources_none, sources_step}
use Rattle.slate_merge.proofs.MergeLoops.{top_some, front_key, counts_none, counts_more, older_moves, older_count}
use Rattle.slate_merge.proofs.heads.drop_older.Goals as goal

pub older-init : goal.older-init
older-init g c = record { moves = λ o. moves_none _ _ _ _ _; brought = sources_none (offers g.I.RowEntryIterator.begins g.I.RowEntryIterator.takes g.I.RowEntryIterator.seeks) g.I.RowEntryIterator.refuses (g.E.Outside.reach c.args.env.now) (begun_sources (heap_items c.args.heads.now)); heaped = λ o h. h; count = λ _ _ _ _. refl; counts = counts_none _ _; no_larger = omega arith; within = λ paths h. (reads_at_none paths _, h); reads = reads_none _; faults = refl }

pub older-preserved : goal.older-preserved
older-preserved g c =
    let inv = c.older.invariant in
    let n = rw c.in-Ok-Some.field-0-is at c.in-Ok-Some.ensures in
    let top = c.top_has_key.ensures in
    let x = begun_sources (heap_items c.args.heads.now) in
    let y = begun_sources (heap_items c.older.heads) in
    let z = begun_sources (heap_items c.take_first.new.heads) in
    let more = rw c.row_bytes.ensures at c.saturating_add.ensures in
    let begins : (o : IterationOrder) (w : World) → IsMergingIn g.I.RowEntryIterator.rest g.I.RowEntryIterator.sound g.I.RowEntryIterator.order o y w → begins_with c.args.key.now (left_in g.I.RowEntryIterator.rest o y w) ≡ true =
    λ o w m. sym (top_begins (λ s. g.I.RowEntryIterator.rest s w) (λ s. g.I.RowEntryIterator.sound s w × (g.I.RowEntryIterator.order s ≡ o)) o c.args.key.now (heap_items c.older.heads) top.0 m top.1) ∙ sym top.2 ∙ c.older-test.true in
    record {
      moves = λ o. older_moves (left_in g.I.RowEntryIterator.rest o) (IsMergingIn g.I.RowEntryIterator.rest g.I.RowEntryIterator.sound g.I.RowEntryIterator.order o) (blames g.I.RowEntryIterator.refuses) (takes_front (offers g.I.RowEntryIterator.begins g.I.RowEntryIterator.takes g.I.RowEntryIterator.seeks)) c.args.key.now (g.E.Outside.reach c.args.env.now) (g.E.Outside.reach c.older.env) (g.E.Outside.reach c.take_first.new.env) x y z c.in-Ok-Some.row (inv.moves o) (n.step o) (begins o);
      count = λ o. older_count (left_in g.I.RowEntryIterator.rest o) (IsMergingIn g.I.RowEntryIterator.rest g.I.RowEntryIterator.sound g.I.RowEntryIterator.order o) (blames g.I.RowEntryIterator.refuses) (takes_front (offers g.I.RowEntryIterator.begins g.I.RowEntryIterator.takes g.I.RowEntryIterator.seeks)) c.args.key.now (g.E.Outside.reach c.args.env.now) (g.E.Outside.reach c.older.env) (g.E.Outside.reach c.take_first.new.env) x y z c.in-Ok-Some.row _ _ _ (inv.moves o) (n.step o) (begins o) (inv.count o) more;
      brought = sources_step (offers g.I.RowEntryIterator.begins g.I.RowEntryIterator.takes g.I.RowEntryIterator.seeks) g.I.RowEntryIterator.refuses (g.E.Outside.reach c.args.env.now) (g.E.Outside.reach c.older.env) (g.E.Outside.reach c.take_first.new.env) x y z (Some c.in-Ok-Some.row) inv.brought (n.step Ascending).taken;
      heaped = λ o h. n.heaped o (inv.heaped o h);
      counts = counts_more c.args.key.now _ _ _ c.in-Ok-Some.row inv.counts (front_key c.args.key.now (heap_items c.older.heads) top.0 c.in-Ok-Some.row top.1 (sym top.2 ∙ c.older-test.true) (n.step Ascending).taken.2.0.0) more;
      no_larger = omega (arith, n.no_larger, inv.no_larger);
      within = λ paths h. (let first = inv.within paths h in let last = n.within paths first.1 in (reads_at_then paths _ _ _ first.0 last.0, last.1));
      reads = reads_then _ _ _ inv.reads n.reads;
      faults = n.counts ∙ inv.faults;
    }

pub older-smaller : goal.older-smaller
older-smaller g c = let n = rw c.in-Ok-Some.field-0-is at c.in-Ok-Some.ensures in n.smaller refl

pub returns-in-Ok-None : goal.returns-in-Ok-None
returns-in-Ok-None g c =
    let n = rw c.in-Ok-None.field-0-is at c.in-Ok-None.ensures in
    let top = c.top_has_key.ensures in
    top_some c.args.key.now (heap_items c.older.heads) top.0 top.1 (sym top.2 ∙ c.older-test.true) (n.step Ascending).taken.2.0.0

pub returns-in-Err : goal.returns-in-Err
returns-in-Err g c =
    let inv = c.older.invariant in
    let n = c.in-Err.ensures in
    record {
      moved = λ _. tt;
      brought = tt;
      heaped = λ _ _. tt;
      done = λ _ _ _. tt;
      count = λ _ _ _ _. tt;
      counted = tt;
      no_larger = tt;
      cause = then_fails (blames g.I.RowEntryIterator.refuses (begun_sources (heap_items c.args.heads.now))) (blames g.I.RowEntryIterator.refuses (begun_sources (heap_items c.older.heads))) (g.E.Outside.reach c.args.env.now) (g.E.Outside.reach c.older.env) (g.E.Outside.reach c.take_first.new.env) None c.in-Err.error inv.reads.later (inv.moves Ascending).made n.cause;
      within = λ paths h. (let first = inv.within paths h in let last = n.within paths first.1 in (reads_at_then paths _ _ _ first.0 last.0, last.1));
      reads = reads_then _ _ _ inv.reads n.reads;
      counts = n.counts ∙ ap (unblamed c.in-Err.error) inv.faults;
    }

pub returns : goal.returns
returns g c =
    let inv = c.older.invariant in
    let top = c.top_has_key.ensures in
    let y = begun_sources (heap_items c.older.heads) in
    let ended : (o : IterationOrder) (w : World) → IsMergingIn g.I.RowEntryIterator.rest g.I.RowEntryIterator.sound g.I.RowEntryIterator.order o y w → begins_with c.args.key.now (left_in g.I.RowEntryIterator.rest o y w) ≡ false =
    λ o w m. sym (top_begins (λ s. g.I.RowEntryIterator.rest s w) (λ s. g.I.RowEntryIterator.sound s w × (g.I.RowEntryIterator.order s ≡ o)) o c.args.key.now (heap_items c.older.heads) top.0 m top.1) ∙ sym top.2 ∙ c.older-test.false in
    record {
      moved = inv.moves;
      brought = inv.brought;
      heaped = inv.heaped;
      done = ended;
      count = λ o w s m. counted_end c.older.processed _ c.args.key.now (left_in g.I.RowEntryIterator.rest o y w) (ended o w ((inv.moves o).still w s m)) (inv.count o w s m);
      counted = inv.counts;
      no_larger = inv.no_larger;
      cause = tt;
      within = inv.within;
      reads = inv.reads;
      counts = inv.faults;
    }
