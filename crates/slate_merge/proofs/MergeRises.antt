-- What rises in a merge rises in one of its sources.
use Rattle.std.proofs.Common.{◌≡◌, ◌⊎◌, inl, inr, ℕ, List, [], ◌∷◌, ◌++◌, Option, Some, None, subst, sym}
use Rattle.std.specs.Prelude.{Contains}
use Rattle.std.specs.BinaryHeap.{heap_items}
use Rattle.std.proofs.lemmas.List.Elements.{All-contains, All-from_recursion}
use Rattle.slate_types.specs.declared.types.RowEntry.{RowEntry}
use Rattle.slate_types.specs.Outside.{Act, Meaning}
use Rattle.slate_merge.specs.declared.head.Head.{Head}
use Rattle.slate_merge.specs.declared.merge_iterator.MergeIterator.{MergeIterator}
use Rattle.slate_merge.specs.declared.merge_iterator.MergeState.{MergeState}
use Rattle.slate_merge.specs.declared.merge_iterator.MergeState.TheVariants.{New, Begun, Refused}
use Rattle.slate_merge.specs.NoMoreRows.{NoMoreRows}
use Rattle.slate_merge.specs.Calls.{CallsOnce}
use Rattle.slate_merge.specs.Merging.{HasRow, IsFront}
use Rattle.slate_merge.specs.MergeBringing.{HasHead, IsHeapedIn, MergeBegins, MergeSeeks, MergeTakes, merge_offers}
use Rattle.slate_merge.specs.MergeStates.{HasBegun, IsFrontIn}
use Rattle.slate_merge.specs.Offers.{AreBegins, Rises, RisesByCalls, offers, offers_within}
use Rattle.slate_merge.proofs.Calling.{calls_back}
use Rattle.slate_merge.proofs.MergeBringings.{merge_offers_to}

front_row : {S : Type 0} (heads : List (Head S)) (r : RowEntry) → IsFront (Some r) heads → HasRow heads r
front_row [] r never = absurd never
front_row (h ∷ heads) r is = inl is

front_head : {S : Type 0} (s : MergeState S) (r : RowEntry) → IsFrontIn (Some r) s → HasHead s r
front_head (New sources) r never = absurd never
front_head (Begun heads) r is = front_row (heap_items heads) r is
front_head (Refused e) r never = absurd never

module _ {S : Type 0} (begins : S → Meaning → List Act → S → Type 0) (takes : S → Meaning → List Act → Option RowEntry → S → Type 0) (seeks : S → Meaning → List Act → List ℕ → S → Type 0) (m : Meaning) where
  abbrev RisesIn : MergeIterator S → List Act → RowEntry → Type 0
  RisesIn x reads r = IsHeapedIn x.order x.state → merge_offers (offers begins takes seeks) x.state m reads (Rises r)

  rises_less : (x y : MergeIterator S) (by : List Act) → CallsOnce (MergeBegins begins takes seeks) (MergeTakes begins takes seeks) (MergeSeeks begins takes seeks) m x by y → NoMoreRows (RisesIn x) by (RisesIn y)
  rises_less x y by (inl b) later r k heap = b.5 later (Rises r) (k (b.6 heap))
  rises_less x y by (inr (inl (answer, t))) later r k heap = t.2 later (Rises r) (k (t.3 heap))
  rises_less x y by (inr (inr (key, s))) later r k heap = s.5 later (Rises r) (k (s.6 heap))

  rises_grow : (x : MergeIterator S) (reads all : List Act) (r : RowEntry) → RisesIn x reads r → ((a : Act) → Contains reads a → Contains all a) → RisesIn x all r
  rises_grow x reads all r k within heap =
      merge_offers_to (offers begins takes seeks) (offers begins takes seeks) m reads all (Rises r) (Rises r) (λ ahead s o. offers_within begins takes seeks ahead s m reads all (Rises r) o within) x.state (k heap)

  -- heads that begin again keep their rows
  begun_heads : (reads : List Act) (x y : MergeIterator S) (each : List (List Act)) → AreBegins (MergeBegins begins takes seeks) (MergeTakes begins takes seeks) m reads x each y → HasBegun x.state → (r : RowEntry) → HasHead y.state r → HasHead x.state r
  begun_heads reads x y [] same begun r has = subst (λ (z : MergeIterator S). HasHead z.state r) (sym same) has
  begun_heads reads x y (by ∷ each) (among, (next, b, rest)) begun r has = b.7 begun r (begun_heads reads next y each rest b.1 r has)

  pub merge_rises : (x : MergeIterator S) (reads : List Act) (r : RowEntry) → RisesByCalls (MergeBegins begins takes seeks) (MergeTakes begins takes seeks) (MergeSeeks begins takes seeks) x m reads r → IsHeapedIn x.order x.state →
      merge_offers (offers begins takes seeks) x.state m reads (Rises r)
  merge_rises x reads r c heaped =
      calls_back (MergeBegins begins takes seeks) (MergeTakes begins takes seeks) (MergeSeeks begins takes seeks) m RisesIn rises_less rises_grow reads r x c.last c.each c.calls (rises_grow c.last c.by reads r here within) heaped
    where
      has : HasHead c.after.state r
      has = begun_heads reads c.after c.rises.last c.rises.each c.rises.begun c.taken.0.1 r (front_head c.rises.last.state r c.rises.taken.0.0)

      here : RisesIn c.last c.by r
      here heap = c.taken.4 heap r has c.rises.above

      within : (a : Act) → Contains c.by a → Contains reads a
      within a k = All-contains (λ z. Contains reads z) c.by a (All-from_recursion (λ z. Contains reads z) c.by c.among) k
