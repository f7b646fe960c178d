use Rattle.std.proofs.Common.{ℕ, ◌≡◌, ◌≤◌, List, [], length}
use Rattle.std.specs.BinaryHeap.{heap_items}
use Rattle.slate_types.specs.Outside.{OnlyReads}
use Rattle.slate_types.specs.World.{ReadsAt}
use Rattle.slate_types.proofs.Moves.{Moves}
use Rattle.slate_merge.specs.Offers.{offers}
use Rattle.slate_merge.specs.Merging.{left_in, IsMergingIn, blames, waiting_sources, merging_bound, AreHeaped, AreReady, AreWithin}
use Rattle.slate_merge.proofs.MergeBringings.{SourcesAdd}
use Rattle.slate_merge.proofs.heads.begin_all.Given as goal

abbrev pub invariant-sources : goal.invariant-sources
invariant-sources g l =
    let rest = g.I.RowEntryIterator.rest in
    let refuses = g.I.RowEntryIterator.refuses in
    let a = g.E.Outside.reach l.initial.env in
    let b = g.E.Outside.reach l.env in
    record {
      moves : Moves (left_in rest l.order) (IsMergingIn rest g.I.RowEntryIterator.sound g.I.RowEntryIterator.order l.order) (blames refuses) a b (waiting_sources l.initial.waiting.items) (record { waiting = l.waiting.items; heads = heap_items l.heads });
      brought : SourcesAdd (offers g.I.RowEntryIterator.begins g.I.RowEntryIterator.takes g.I.RowEntryIterator.seeks) refuses a b (waiting_sources l.initial.waiting.items) (record { waiting = l.waiting.items; heads = heap_items l.heads });
      heaped : AreHeaped l.order (heap_items l.heads);
      ready : AreReady refuses a.meaning (heap_items l.heads);
      no_larger : merging_bound g.I.RowEntryIterator.bound l.waiting.items (heap_items l.heads) ≤ merging_bound g.I.RowEntryIterator.bound l.initial.waiting.items [];
      within : (paths : List (List ℕ)) → AreWithin g.I.RowEntryIterator.within (waiting_sources l.initial.waiting.items) paths → ReadsAt paths a b × AreWithin g.I.RowEntryIterator.within (record { waiting = l.waiting.items; heads = heap_items l.heads }) paths;
      reads : OnlyReads a b;
      counts : b.faults ≡ a.faults;
    }

abbrev pub decreases-sources : goal.decreases-sources
decreases-sources g l = length l.waiting.items
