-- An iterator that folds operands.
--     rows_unless, SoundUnless, bound_unless      one that keeps a refusal has no rows, and rests on its being no damage
--     RefusesBy refusal begun own e      a kept refusal alone; else want of an `init`, and its own refusals
--     rest_folding, sound_folding, bound_folding, refuses_folding      what it is by what its source is
--     IsFolding iterator folding it      it has the rows of the iterator, and nothing was asked
--     IsGoing it      it has begun, and wasn't refused
--     IsOperable rest it w      without an operator no row that the source has left, and no row that was read ahead, is an operand
--                               that isn't above the barrier; and of these rows none rises above the operand before it
--     FallsAtFirst rest it w      nor of those that are folded at first
--     IsOwn refuses before after source e      the refusal is a fault, or the source's own
--     Begins, Takes, Seeks      it began, took a row, and sought a key; without an operator the row is one of its source, and isn't folded
--     Keeps e it      it keeps the refusal e, or want of memory for a copy
--     KeepsIn e refusal, StaysIn refusal begun at e same keeps      the same of the refusal that it keeps, where it keeps one; same: it stands as it
--                                                                   stood
--     Stays before m reads at e after      it refuses, and keeps that; or it stands as it stood
--     KeepsRefusals refuses takes begins seeks      behind a refusal each call answers it again, or want of memory for a copy
use Rattle.std.specs.Prelude.{◌≡◌, ◌≢◌, ◌⊎◌, ℕ, ◌+◌, true, false, Bool, List, [], Option, Some, None, IsSomeAnd}
use Rattle.slate_types.specs.declared.error.SlateDBError.{SlateDBError}
use Rattle.slate_types.specs.declared.error.SlateDBError.TheVariants.{IteratorNotInitialized, OutOfMemory}
use Rattle.slate_types.specs.declared.iter.IterationOrder.{IterationOrder}
use Rattle.slate_types.specs.declared.types.RowEntry.{RowEntry}
use Rattle.slate_types.specs.Outside.{Act, IsFault, Meaning, Reach}
use Rattle.slate_types.specs.Refusing.{IsDamage}
use Rattle.slate_types.specs.World.{World, Made}
use Rattle.slate_merge.specs.declared.folding.Folding.{Folding}
use Rattle.slate_merge.specs.declared.operator_iterator.MergeOperatorIterator.{MergeOperatorIterator}
use Rattle.slate_merge.specs.Folding.{FoldFalls}
use Rattle.slate_merge.specs.Folds.{BlamesNext, hands_out, operable_taken, refuses_folds, rest_folds, rest_taken, sound_taken}
use Rattle.slate_merge.specs.Kept.{Copies}
use Rattle.slate_merge.specs.Offers.{Offer}
use Rattle.slate_merge.specs.Peeking.{ahead_bound}

abbrev pub rows_unless : Option SlateDBError → List RowEntry → List RowEntry
rows_unless None rows = rows
rows_unless (Some kept) rows = []

abbrev pub SoundUnless : Option SlateDBError → Type 0 → Type 0
SoundUnless None sound = sound
SoundUnless (Some kept) sound = ¬ IsDamage kept

abbrev pub bound_unless : Option SlateDBError → ℕ → ℕ
bound_unless None bound = bound
bound_unless (Some kept) bound = 0

abbrev pub RefusesBy : Option SlateDBError → Bool → (SlateDBError → Type 0) → SlateDBError → Type 0
RefusesBy None begun own e = ((begun ≡ false) × (e ≡ IteratorNotInitialized)) ⊎ own e
RefusesBy (Some kept) begun own e = (kept ≢ OutOfMemory) × (e ≡ kept)

-- a refusal is kept, or want of memory for a copy
abbrev pub KeepsIn : SlateDBError → Option SlateDBError → Type 0
KeepsIn e refusal = IsSomeAnd refusal (λ kept. Copies e kept)

-- a seek before `init` is refused for want of it alone
abbrev pub StaysIn : Option SlateDBError → Bool → Option (List ℕ) → SlateDBError → Type 0 → Type 0 → Type 0
StaysIn None begun at e same keeps = ((begun ≡ false) × (e ≡ IteratorNotInitialized) × same) ⊎ ((begun ≡ false → at ≡ None) × keeps)
StaysIn (Some kept) begun at e same keeps = Copies kept e × same

module _ {S : Type 0} where
  abbrev pub rest_folding : (S → World → List RowEntry) → MergeOperatorIterator S → World → List RowEntry
  rest_folding rest it w = rows_unless it.refusal (rest_folds it.folding.merge_different_expire_ts it.folding.snapshot_barrier_seq rest (it.iterator, it.ahead, []) w)

  abbrev pub sound_folding : (S → World → List RowEntry) → (S → World → Type 0) → (S → IterationOrder) → MergeOperatorIterator S → World → Type 0
  sound_folding rest sound order it w = SoundUnless it.refusal (sound_taken rest sound order (it.iterator, it.ahead, []) w)

  abbrev pub bound_folding : (S → ℕ) → MergeOperatorIterator S → ℕ
  bound_folding bound it = bound_unless it.refusal (ahead_bound it.ahead + bound it.iterator)

  abbrev pub refuses_folding : (S → Meaning → List Act → Option (List ℕ) → SlateDBError → Type 0) → (Option RowEntry → S → Meaning → List Act → Offer → Type 0) → MergeOperatorIterator S → Meaning → List Act → Option (List ℕ) → SlateDBError → Type 0
  refuses_folding refuses offers it m reads at e = RefusesBy it.refusal it.begun (λ d. refuses_folds refuses offers (it.iterator, it.ahead, []) m reads at d) e

  pub record IsFolding (iterator : S) (folding : Folding) (it : MergeOperatorIterator S) : Type 0 where
    pub rows : it.iterator ≡ iterator
    pub folds : it.folding ≡ folding
    pub none : it.ahead ≡ None
    pub unbegun : it.begun ≡ false
    pub unrefused : it.refusal ≡ None

  abbrev pub IsGoing : MergeOperatorIterator S → Type 0
  IsGoing it = (it.begun ≡ true) × (it.refusal ≡ None)

  abbrev pub IsOperable : (S → World → List RowEntry) → MergeOperatorIterator S → World → Type 0
  IsOperable rest it w = operable_taken it.folding.merge_different_expire_ts it.folding.snapshot_barrier_seq rest (it.iterator, it.ahead, []) w

  abbrev pub FallsAtFirst : (S → World → List RowEntry) → MergeOperatorIterator S → World → Type 0
  FallsAtFirst rest it w = FoldFalls it.folding.merge_different_expire_ts it.folding.snapshot_barrier_seq (rest_taken rest (it.iterator, it.ahead, []) w)

  abbrev pub IsOwn : (S → Meaning → List Act → Option (List ℕ) → SlateDBError → Type 0) → Reach → Reach → S → SlateDBError → Type 0
  IsOwn refuses before after source e = IsFault before after e ⊎ Made before after (λ reads. refuses source before.meaning reads None e)

  abbrev pub Begins : (S → Meaning → List Act → S → Type 0) → MergeOperatorIterator S → Meaning → List Act → MergeOperatorIterator S → Type 0
  Begins begins before m reads after = (before.refusal ≡ None) × IsGoing after × (after.folding ≡ before.folding) × (after.ahead ≡ before.ahead) × begins before.iterator m reads after.iterator

  abbrev pub Takes : (S → Meaning → List Act → Option RowEntry → S → Type 0) → MergeOperatorIterator S → Meaning → List Act → Option RowEntry → MergeOperatorIterator S → Type 0
  Takes takes before m reads answer after = IsGoing before × IsGoing after × (after.folding ≡ before.folding) × hands_out takes before.folding.snapshot_barrier_seq (before.iterator, before.ahead, []) m reads answer (after.iterator, after.ahead, [])

  abbrev pub Seeks : (S → Meaning → List Act → List ℕ → S → Type 0) → MergeOperatorIterator S → Meaning → List Act → List ℕ → MergeOperatorIterator S → Type 0
  Seeks seeks before m reads key after = IsGoing before × IsGoing after × (after.folding ≡ before.folding) × (((reads ≡ []) × (after ≡ before)) ⊎ ((after.ahead ≡ None) × seeks before.iterator m reads key after.iterator))

  abbrev pub Keeps : SlateDBError → MergeOperatorIterator S → Type 0
  Keeps e it = KeepsIn e it.refusal

  abbrev pub Stays : (S → Meaning → List Act → Option (List ℕ) → SlateDBError → Type 0) → (S → Meaning → List Act → Option RowEntry → S → Type 0) → MergeOperatorIterator S → Meaning → List Act → Option (List ℕ) → SlateDBError → MergeOperatorIterator S → Type 0
  Stays refuses takes before m reads at e after = StaysIn before.refusal before.begun at e ((reads ≡ []) × (after ≡ before))
      (Keeps e after × BlamesNext refuses takes before.folding.merge_different_expire_ts before.folding.snapshot_barrier_seq before.ahead m reads at e before.iterator after.iterator)

  -- behind a refusal each call answers it again, or want of memory for a copy
  pub record KeepsRefusals (refuses : S → Meaning → List Act → Option (List ℕ) → SlateDBError → Type 0) (begins : S → Meaning → List Act → S → Type 0) (takes : S → Meaning → List Act → Option RowEntry → S → Type 0) (seeks : S → Meaning → List Act → List ℕ → S → Type 0) : Type 0 where
    pub kept : (x y : MergeOperatorIterator S) (m : Meaning) (reads : List Act) (at : Option (List ℕ)) (e : SlateDBError) → e ≢ IteratorNotInitialized → e ≢ OutOfMemory → Stays refuses takes x m reads at e y → Keeps e y
    pub again : (x y : MergeOperatorIterator S) (m : Meaning) (reads : List Act) (at : Option (List ℕ)) (e d : SlateDBError) → Keeps e x → Stays refuses takes x m reads at d y → Copies e d × Keeps e y
    pub no_begin : (x y : MergeOperatorIterator S) (m : Meaning) (reads : List Act) (e : SlateDBError) → Keeps e x → ¬ Begins begins x m reads y
    pub no_row : (x y : MergeOperatorIterator S) (m : Meaning) (reads : List Act) (answer : Option RowEntry) (e : SlateDBError) → Keeps e x → ¬ Takes takes x m reads answer y
    pub no_seek : (x y : MergeOperatorIterator S) (m : Meaning) (reads : List Act) (key : List ℕ) (e : SlateDBError) → Keeps e x → ¬ Seeks seeks x m reads key y
