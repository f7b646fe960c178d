-- Where a merge stands.
--     rest_in, IsSoundIn, bound_in, refuses_in      its rest, whether that is sound, its bound, and what it refuses
--     IsWithinIn within s paths      its sources read objects at these paths alone; one that was refused reads none
--     left_of rest order s w      all rows that are left, also those that dedup drops
--     rest_of_merge, IsSoundMerge      the same of the iterator
--     refuses_of_merge, stays_of_merge      what the iterator refuses, and how it stands then, in the words of an iterator
--     left_of_merge rest it w      all rows that are left, by key, falling sequence and place, also those that dedup drops
--     IsWaiting s, HasBegun s      no source has begun; all have
--     IsUnrefused s      it was never refused
--     IsFrontIn answer s      it has begun, and the answer is the row of its first head, or it has none
--     CopiedIn e s      it was refused, and keeps a copy of that
--     Takes before answer after      the answer is the row of the first head, and it was counted, with rows of its key where it decides them
--     TakesLeft rest w before after      a step took the first row that was left, and with dedup the rows that it decides, which
--                                        alone are dropped, and counted the bytes of all these rows
--     Keeps e s      it keeps the refusal e, or want of memory in its place
--     Stays before at e after      how it stands after it refused
--     IsSameMerge before after      a merge by the same order and dedup
--     WaitingAre sources s      no source has begun, and these are all
--     IsMergeOf sources order dedup it      a merge of these sources, none of which has begun
use Rattle.std.specs.Prelude.{◌≡◌, ◌⊎◌, ℕ, Bool, List, [], Option, IsSome}
use Rattle.std.specs.List.{AllByRecursion}
use Rattle.std.specs.BinaryHeap.{heap_items}
use Rattle.slate_types.specs.declared.error.SlateDBError.{SlateDBError}
use Rattle.slate_types.specs.declared.error.SlateDBError.TheVariants.{OutOfMemory, IteratorNotInitialized}
use Rattle.slate_types.specs.declared.iter.IterationOrder.{IterationOrder}
use Rattle.slate_types.specs.declared.types.RowEntry.{RowEntry}
use Rattle.slate_types.specs.Outside.{Act, Meaning}
use Rattle.slate_types.specs.Refusing.{IsDamage}
use Rattle.slate_types.specs.World.{World}
use Rattle.slate_merge.specs.declared.merge_iterator.MergeIterator.{MergeIterator}
use Rattle.slate_merge.specs.declared.merge_iterator.MergeState.{MergeState}
use Rattle.slate_merge.specs.declared.merge_iterator.MergeState.TheVariants.{New, Begun, Refused}
use Rattle.slate_merge.specs.Kept.{Copies, IsKept}
use Rattle.slate_merge.specs.Merge.{shown_rows}
use Rattle.slate_merge.specs.MergeSteps.{CountsTaken, TakesMerged}
use Rattle.slate_merge.specs.Merging.{CanMerge, IsFront, IsMergingIn, begun_sources, blames, left_in, merging_bound, waiting_sources, AreWithin}

module _ {S : Type 0} where
  abbrev pub rest_in : (S → World → List RowEntry) → IterationOrder → Bool → MergeState S → World → List RowEntry
  rest_in rest order dedup (New sources) w = shown_rows dedup (left_in rest order (waiting_sources sources.items) w)
  rest_in rest order dedup (Begun heads) w = shown_rows dedup (left_in rest order (begun_sources (heap_items heads)) w)
  rest_in rest order dedup (Refused e) w = []

  abbrev pub IsSoundIn : (S → World → List RowEntry) → (S → World → Type 0) → (S → IterationOrder) → IterationOrder → MergeState S → World → Type 0
  IsSoundIn rest sound order_of order (New sources) w = AllByRecursion (CanMerge (λ s. rest s w) (λ s. sound s w × (order_of s ≡ order)) order) sources.items
  IsSoundIn rest sound order_of order (Begun heads) w = IsMergingIn rest sound order_of order (begun_sources (heap_items heads)) w
  IsSoundIn rest sound order_of order (Refused e) w = ¬ IsDamage e

  abbrev pub IsWithinIn : (S → List (List ℕ) → Type 0) → MergeState S → List (List ℕ) → Type 0
  IsWithinIn within (New sources) paths = AreWithin within (waiting_sources sources.items) paths
  IsWithinIn within (Begun heads) paths = AreWithin within (begun_sources (heap_items heads)) paths
  IsWithinIn within (Refused e) paths = Unit {0}

  abbrev pub bound_in : (S → ℕ) → MergeState S → ℕ
  bound_in bound (New sources) = merging_bound bound sources.items []
  bound_in bound (Begun heads) = merging_bound bound [] (heap_items heads)
  bound_in bound (Refused e) = 0

  abbrev pub refuses_in : (S → Meaning → List Act → Option (List ℕ) → SlateDBError → Type 0) → MergeState S → Meaning → List Act → Option (List ℕ) → SlateDBError → Type 0
  refuses_in refuses (New sources) m reads at e = (e ≡ IteratorNotInitialized) ⊎ blames refuses (waiting_sources sources.items) m reads at e
  refuses_in refuses (Begun heads) m reads at e = blames refuses (begun_sources (heap_items heads)) m reads at e
  refuses_in refuses (Refused k) m reads at e = IsKept k e

  abbrev pub left_of : (S → World → List RowEntry) → IterationOrder → MergeState S → World → List RowEntry
  left_of rest order (New sources) w = left_in rest order (waiting_sources sources.items) w
  left_of rest order (Begun heads) w = left_in rest order (begun_sources (heap_items heads)) w
  left_of rest order (Refused e) w = []

  abbrev pub left_of_merge : (S → World → List RowEntry) → MergeIterator S → World → List RowEntry
  left_of_merge rest it w = left_of rest it.order it.state w

  abbrev pub rest_of_merge : (S → World → List RowEntry) → MergeIterator S → World → List RowEntry
  rest_of_merge rest it w = rest_in rest it.order it.dedup it.state w

  abbrev pub refuses_of_merge : (S → Meaning → List Act → Option (List ℕ) → SlateDBError → Type 0) → MergeIterator S → Meaning → List Act → Option (List ℕ) → SlateDBError → Type 0
  refuses_of_merge refuses it m reads at e = refuses_in refuses it.state m reads at e

  abbrev pub IsSoundMerge : (S → World → List RowEntry) → (S → World → Type 0) → (S → IterationOrder) → MergeIterator S → World → Type 0
  IsSoundMerge rest sound order_of it w = IsSoundIn rest sound order_of it.order it.state w

  abbrev pub IsWaiting : MergeState S → Type 0
  IsWaiting (New sources) = Unit {0}
  IsWaiting _ = ⊥

  abbrev pub HasBegun : MergeState S → Type 0
  HasBegun (Begun heads) = Unit {0}
  HasBegun _ = ⊥

  abbrev pub IsUnrefused : MergeState S → Type 0
  IsUnrefused (Refused e) = ⊥
  IsUnrefused _ = Unit {0}

  abbrev pub IsFrontIn : Option RowEntry → MergeState S → Type 0
  IsFrontIn answer (Begun heads) = IsFront answer (heap_items heads)
  IsFrontIn answer _ = ⊥

  abbrev pub CopiedIn : SlateDBError → MergeState S → Type 0
  CopiedIn e (Refused k) = Copies e k
  CopiedIn e _ = ⊥

  abbrev pub Keeps : SlateDBError → MergeState S → Type 0
  Keeps e (Refused k) = Copies e k ⊎ (e ≡ OutOfMemory)
  Keeps e _ = ⊥

  -- it answers that it wasn't begun, and stays; a seek then answers nothing else; or it keeps what it answers
  abbrev pub Stays : MergeIterator S → Option (List ℕ) → SlateDBError → MergeIterator S → Type 0
  Stays before at e after =
      (((e ≡ IteratorNotInitialized) × IsWaiting before.state × (after ≡ before)) ⊎ Keeps e after.state)
      × (IsWaiting before.state → IsSome at → e ≡ IteratorNotInitialized)

  abbrev pub stays_of_merge : MergeIterator S → Meaning → List Act → Option (List ℕ) → SlateDBError → MergeIterator S → Type 0
  stays_of_merge before m reads at e after = Stays before at e after

  pub record IsSameMerge (before after : MergeIterator S) : Type 0 where
    pub order : after.order ≡ before.order
    pub dedup : after.dedup ≡ before.dedup

  abbrev pub Takes : MergeIterator S → Option RowEntry → MergeIterator S → Type 0
  Takes before answer after = IsFrontIn answer before.state × HasBegun after.state × IsSameMerge before after × CountsTaken before.dedup before.processed answer after.processed

  abbrev pub TakesLeft : (S → World → List RowEntry) → World → MergeIterator S → MergeIterator S → Type 0
  TakesLeft rest w before after = TakesMerged before.dedup (left_of_merge rest before w) (left_of_merge rest after w) before.processed after.processed

  abbrev pub WaitingAre : List S → MergeState S → Type 0
  WaitingAre sources (New waiting) = waiting.items ≡ sources
  WaitingAre sources _ = ⊥

  pub record IsMergeOf (sources : List S) (order : IterationOrder) (dedup : Bool) (it : MergeIterator S) : Type 0 where
    pub waits : WaitingAre sources it.state
    pub ordered : it.order ≡ order
    pub drops : it.dedup ≡ dedup
    pub fresh : it.processed ≡ 0
