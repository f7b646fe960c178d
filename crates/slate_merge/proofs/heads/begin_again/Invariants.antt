use Rattle.std.proofs.Common.{ℕ, ◌≡◌, ◌≤◌, ◌++◌, List, [], length}
use Rattle.std.specs.BinaryHeap.{heap_items, IsHeap}
use Rattle.slate_types.specs.declared.iter.IterationOrder.{IterationOrder}
use Rattle.slate_types.specs.declared.types.RowEntry.{RowEntry}
use Rattle.slate_types.specs.Outside.{OnlyReads}
use Rattle.slate_types.specs.World.{ReadsAt}
use Rattle.slate_types.proofs.Moves.{Moves}
use Rattle.slate_merge.specs.Heads.{head_cmp}
use Rattle.slate_merge.specs.Offers.{offers}
use Rattle.slate_merge.specs.Merging.{AreReady, AreWithin, HasRow, begun_sources, merging_bound}
use Rattle.slate_merge.proofs.Heaps.{AreOrdered}
use Rattle.slate_merge.proofs.MergeBringings.{SourcesAdd}
use Rattle.slate_merge.proofs.MergeLoops.{heads_left, AreSoundHeads, heads_blame}
use Rattle.slate_merge.proofs.heads.begin_again.Given as goal

abbrev pub invariant-heads : goal.invariant-heads
invariant-heads g l =
    let rest = g.I.RowEntryIterator.rest in
    let sound = g.I.RowEntryIterator.sound in
    let refuses = g.I.RowEntryIterator.refuses in
    let bound = g.I.RowEntryIterator.bound in
    let within = g.I.RowEntryIterator.within in
    let order_of = g.I.RowEntryIterator.order in
    let a = g.E.Outside.reach l.initial.env in
    let b = g.E.Outside.reach l.env in
    let before = heap_items l.initial.heads in
    let now = heap_items l.done ++ heap_items l.heads in
    record {
      moves : (o : IterationOrder) → Moves (heads_left rest sound refuses bound order_of o) (AreSoundHeads rest sound refuses bound order_of o) (heads_blame rest sound refuses bound order_of) a b before now;
      brought : SourcesAdd (offers g.I.RowEntryIterator.begins g.I.RowEntryIterator.takes g.I.RowEntryIterator.seeks) refuses a b (begun_sources before) (begun_sources now);
      heap : IsHeap head_cmp (heap_items l.done);
      ordered : (o : IterationOrder) → AreOrdered o before → AreOrdered o now;
      same_rows : (r : RowEntry) → HasRow now r → HasRow before r;
      ready : AreReady refuses a.meaning (heap_items l.done);
      no_larger : merging_bound bound [] now ≤ merging_bound bound [] before;
      within : (paths : List (List ℕ)) → AreWithin within (begun_sources before) paths → ReadsAt paths a b × AreWithin within (begun_sources (heap_items l.done)) paths × AreWithin within (begun_sources (heap_items l.heads)) paths;
      reads : OnlyReads a b;
      counts : b.faults ≡ a.faults;
    }

abbrev pub decreases-heads : goal.decreases-heads
decreases-heads g l = length (heap_items l.heads)
