use Rattle.std.proofs.Common.{ℕ, ◌≡◌, ◌≤◌, List, []}
use Rattle.std.specs.BinaryHeap.{heap_items}
use Rattle.slate_types.specs.declared.iter.IterationOrder.{IterationOrder}
use Rattle.slate_types.specs.Outside.{OnlyReads}
use Rattle.slate_types.specs.World.{World, ReadsAt, Sees}
use Rattle.slate_types.proofs.Moves.{Moves}
use Rattle.slate_merge.specs.Merge.{past_key, with_key, counted}
use Rattle.slate_merge.specs.Offers.{offers}
use Rattle.slate_merge.specs.Merging.{AreHeaped, AreWithin, left_in, IsMergingIn, blames, begun_sources, merging_bound}
use Rattle.slate_merge.specs.MergeSteps.{CountsKey}
use Rattle.slate_merge.proofs.MergeBringings.{SourcesAdd}
use Rattle.slate_merge.proofs.heads.drop_older.Given as goal

abbrev pub invariant-older : goal.invariant-older
invariant-older g l =
    let rest = g.I.RowEntryIterator.rest in
    let merging = λ (o : IterationOrder). IsMergingIn rest g.I.RowEntryIterator.sound g.I.RowEntryIterator.order o in
    let a = g.E.Outside.reach l.initial.env in
    let b = g.E.Outside.reach l.env in
    let x = begun_sources (heap_items l.initial.heads) in
    let y = begun_sources (heap_items l.heads) in
    record {
      moves : (o : IterationOrder) → Moves (λ z w. past_key l.fn.key (left_in rest o z w)) (merging o) (blames g.I.RowEntryIterator.refuses) a b x y;
      brought : SourcesAdd (offers g.I.RowEntryIterator.begins g.I.RowEntryIterator.takes g.I.RowEntryIterator.seeks) g.I.RowEntryIterator.refuses a b x y;
      heaped : (o : IterationOrder) → AreHeaped o (heap_items l.initial.heads) → AreHeaped o (heap_items l.heads);
      count : (o : IterationOrder) (w : World) → Sees w a b → merging o x w → counted l.processed (with_key l.fn.key (left_in rest o y w)) ≡ counted l.initial.processed (with_key l.fn.key (left_in rest o x w));
      counts : CountsKey l.fn.key l.initial.processed l.processed;
      no_larger : merging_bound g.I.RowEntryIterator.bound [] (heap_items l.heads) ≤ merging_bound g.I.RowEntryIterator.bound [] (heap_items l.initial.heads);
      within : (paths : List (List ℕ)) → AreWithin g.I.RowEntryIterator.within x paths → ReadsAt paths a b × AreWithin g.I.RowEntryIterator.within y paths;
      reads : OnlyReads a b;
      faults : b.faults ≡ a.faults;
    }

abbrev pub decreases-older : goal.decreases-older
decreases-older g l = merging_bound g.I.RowEntryIterator.bound [] (heap_items l.heads)
