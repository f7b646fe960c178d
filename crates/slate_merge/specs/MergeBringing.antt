-- Rows that a merge may hand out, by the reads that are made from now on.
--     sources_bring brings x m reads r      the row of a head, or one that a source may hand out
--     sources_offer offers x m reads o      what one of the sources offers, behind its row where it has one
--     StandBehind offers q x m reads heads      of heads behind the row q that was taken, those that are above it rise
--     takes_front offers x m reads answer y      the answer is the row of a head, or there is no head; then nothing else is offered; and what
--                                                stands above the answer rises
--     merge_brings brings s m reads r, merge_offers offers s m reads o      the rows of a merge, and what it offers; one that was refused brings none
--     brings_merge begins takes seeks it m reads r, offers_merge begins takes seeks it m reads o      of the iterator, by the calls of its sources
--     IsHeapedIn order s      its heads are a heap of this order
--     HasHead s r      the row is that of a head
--     KeepsHeap before after, KeepsHeads before after      if they were so they are; and the rows of heads were such before
--     StandBehindIn offers q before m reads after      as StandBehind, of a merge
--     MergeBegins, MergeTakes, MergeSeeks begins takes seeks      what a call of a merge may read and answer, and what becomes of it then
use Rattle.std.specs.Prelude.{◌≡◌, ◌⊎◌, ℕ, List, Option, Some, None, IfSome}
use Rattle.std.specs.BinaryHeap.{heap_items}
use Rattle.slate_types.specs.declared.iter.IterationOrder.{IterationOrder}
use Rattle.slate_types.specs.declared.types.RowEntry.{RowEntry}
use Rattle.slate_types.specs.Outside.{Act, Meaning}
use Rattle.slate_merge.specs.declared.head.Head.{Head}
use Rattle.slate_merge.specs.declared.merge_iterator.MergeIterator.{MergeIterator}
use Rattle.slate_merge.specs.declared.merge_iterator.MergeState.{MergeState}
use Rattle.slate_merge.specs.declared.merge_iterator.MergeState.TheVariants.{New, Begun, Refused}
use Rattle.slate_merge.specs.NoMoreRows.{HandsOut, NoMoreRows}
use Rattle.slate_merge.specs.Calls.{BringsByCalls}
use Rattle.slate_merge.specs.MergeStates.{HasBegun, IsSameMerge, IsUnrefused, Takes}
use Rattle.slate_merge.specs.Merging.{AnyByRecursion, AreHeaped, HasRow, IsFront, Sources, begun_sources, waiting_sources}
use Rattle.slate_merge.specs.Offers.{IsAbove, Offer, Rises, offers}

module _ {S : Type 0} where
  abbrev pub IsHeapedIn : IterationOrder → MergeState S → Type 0
  IsHeapedIn order (Begun heads) = AreHeaped order (heap_items heads)
  IsHeapedIn order _ = Unit {0}

  abbrev pub HasHead : MergeState S → RowEntry → Type 0
  HasHead (Begun heads) r = HasRow (heap_items heads) r
  HasHead _ r = ⊥

  abbrev pub KeepsHeap : MergeIterator S → MergeIterator S → Type 0
  KeepsHeap before after = IsHeapedIn before.order before.state → IsHeapedIn after.order after.state

  abbrev pub KeepsHeads : MergeState S → MergeState S → Type 0
  KeepsHeads before after = HasBegun before → (r : RowEntry) → HasHead after r → HasHead before r

  module _ (offers : Option RowEntry → S → Meaning → List Act → Offer → Type 0) where
    abbrev pub sources_offer : Sources S → Meaning → List Act → Offer → Type 0
    sources_offer x m reads o = AnyByRecursion (λ s. offers None s m reads o) x.waiting ⊎ AnyByRecursion (λ h. offers (Some h.row) h.source m reads o) x.heads

    -- heads: behind q, which was the row of the first head before
    abbrev pub StandBehind : RowEntry → Sources S → Meaning → List Act → List (Head S) → Type 0
    StandBehind q x m reads heads = (order : IterationOrder) → AreHeaped order x.heads → (r : RowEntry) → HasRow heads r → IsAbove q r → sources_offer x m reads (Rises r)

    abbrev pub takes_front : Sources S → Meaning → List Act → Option RowEntry → Sources S → Type 0
    takes_front x m reads answer y = IsFront answer x.heads × NoMoreRows (sources_offer x m) reads (sources_offer y m) × IfSome answer (λ q. StandBehind q x m reads y.heads)

    abbrev pub merge_offers : MergeState S → Meaning → List Act → Offer → Type 0
    merge_offers (New sources) m reads o = sources_offer (waiting_sources sources.items) m reads o
    merge_offers (Begun heads) m reads o = sources_offer (begun_sources (heap_items heads)) m reads o
    merge_offers (Refused e) m reads o = ⊥

    abbrev pub StandBehindIn : RowEntry → MergeIterator S → Meaning → List Act → MergeIterator S → Type 0
    StandBehindIn q before m reads after = IsHeapedIn before.order before.state → (r : RowEntry) → HasHead after.state r → IsAbove q r → merge_offers before.state m reads (Rises r)

  module _ (brings : S → Meaning → List Act → RowEntry → Type 0) where
    abbrev pub sources_bring : Sources S → Meaning → List Act → RowEntry → Type 0
    sources_bring x m reads r = AnyByRecursion (λ s. brings s m reads r) x.waiting ⊎ AnyByRecursion (λ h. (h.row ≡ r) ⊎ brings h.source m reads r) x.heads

    abbrev pub merge_brings : MergeState S → Meaning → List Act → RowEntry → Type 0
    merge_brings (New sources) m reads r = sources_bring (waiting_sources sources.items) m reads r
    merge_brings (Begun heads) m reads r = sources_bring (begun_sources (heap_items heads)) m reads r
    merge_brings (Refused e) m reads r = ⊥

  module _ (begins : S → Meaning → List Act → S → Type 0) (takes : S → Meaning → List Act → Option RowEntry → S → Type 0) (seeks : S → Meaning → List Act → List ℕ → S → Type 0) where
    abbrev pub brings_merge : MergeIterator S → Meaning → List Act → RowEntry → Type 0
    brings_merge it m reads r = merge_brings (BringsByCalls begins takes seeks) it.state m reads r

    abbrev pub offers_merge : MergeIterator S → Meaning → List Act → Offer → Type 0
    offers_merge it m reads o = merge_offers (offers begins takes seeks) it.state m reads o

    abbrev pub MergeBegins : MergeIterator S → Meaning → List Act → MergeIterator S → Type 0
    MergeBegins before m reads after =
        IsUnrefused before.state × HasBegun after.state × IsSameMerge before after × (after.processed ≡ before.processed) × NoMoreRows (brings_merge before m) reads (brings_merge after m)
        × NoMoreRows (offers_merge before m) reads (offers_merge after m) × KeepsHeap before after × KeepsHeads before.state after.state

    abbrev pub MergeTakes : MergeIterator S → Meaning → List Act → Option RowEntry → MergeIterator S → Type 0
    MergeTakes before m reads answer after =
        Takes before answer after × HandsOut (brings_merge before m) reads answer (brings_merge after m)
        × NoMoreRows (offers_merge before m) reads (offers_merge after m) × KeepsHeap before after × IfSome answer (λ q. StandBehindIn (offers begins takes seeks) q before m reads after)

    abbrev pub MergeSeeks : MergeIterator S → Meaning → List Act → List ℕ → MergeIterator S → Type 0
    MergeSeeks before m reads key after =
        HasBegun before.state × HasBegun after.state × IsSameMerge before after × (after.processed ≡ before.processed) × NoMoreRows (brings_merge before m) reads (brings_merge after m)
        × NoMoreRows (offers_merge before m) reads (offers_merge after m) × KeepsHeap before after
