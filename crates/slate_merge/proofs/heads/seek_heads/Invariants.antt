use Rattle.std.proofs.Common.{ℕ, ◌≡◌, ◌≤◌, List, []}
use Rattle.std.specs.BinaryHeap.{heap_items}
use Rattle.slate_types.specs.declared.iter.IterationOrder.{IterationOrder}
use Rattle.slate_types.specs.Iteration.{drop_before}
use Rattle.slate_types.specs.Outside.{OnlyReads}
use Rattle.slate_types.specs.World.{ReadsAt}
use Rattle.slate_types.proofs.Moves.{Moves}
use Rattle.slate_merge.specs.Offers.{offers}
use Rattle.slate_merge.specs.Merging.{AreHeaped, AreWithin, left_in, IsMergingIn, blames, begun_sources, merging_bound}
use Rattle.slate_merge.proofs.MergeBringings.{SourcesAdd}
use Rattle.slate_merge.proofs.heads.seek_heads.Given as goal

abbrev pub invariant-sources : goal.invariant-sources
invariant-sources g l =
    let rest = g.I.RowEntryIterator.rest in
    let a = g.E.Outside.reach l.initial.env in
    let b = g.E.Outside.reach l.env in
    record {
      moves : (o : IterationOrder) → Moves (λ z w. drop_before o l.fn.key (left_in rest o z w)) (IsMergingIn rest g.I.RowEntryIterator.sound g.I.RowEntryIterator.order o) (blames g.I.RowEntryIterator.refuses) a b (begun_sources (heap_items l.initial.heads)) (begun_sources (heap_items l.heads));
      brought : SourcesAdd (offers g.I.RowEntryIterator.begins g.I.RowEntryIterator.takes g.I.RowEntryIterator.seeks) g.I.RowEntryIterator.refuses a b (begun_sources (heap_items l.initial.heads)) (begun_sources (heap_items l.heads));
      heaped : (o : IterationOrder) → AreHeaped o (heap_items l.initial.heads) → AreHeaped o (heap_items l.heads);
      no_larger : merging_bound g.I.RowEntryIterator.bound [] (heap_items l.heads) ≤ merging_bound g.I.RowEntryIterator.bound [] (heap_items l.initial.heads);
      within : (paths : List (List ℕ)) → AreWithin g.I.RowEntryIterator.within (begun_sources (heap_items l.initial.heads)) paths → ReadsAt paths a b × AreWithin g.I.RowEntryIterator.within (begun_sources (heap_items l.heads)) paths;
      reads : OnlyReads a b;
      counts : b.faults ≡ a.faults;
    }

abbrev pub decreases-sources : goal.decreases-sources
decreases-sources g l = merging_bound g.I.RowEntryIterator.bound [] (heap_items l.heads)
