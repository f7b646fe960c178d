-- An iterator that hands out the newest row of each key first.
--     is_below range key      a key before a range
--     RefusesSeek range at e      a seek to such a key is refused
--     rest_newest, sound_newest, refuses_newest, bound_newest      of an iterator that is new, goes on, or was refused
--     IsKept e progress      a refusal is kept, or want of memory in its place
--     Begins before after      one that was new goes on, and nothing has come yet; another one stays
--     IsNew progress, IsUnrefused progress, IsGoing progress      it is new, wasn't refused, or goes on
--     RefusesBelow range at e, IsReached range at      a seek to a key before the range is refused, or there is no memory for a copy of the key; no
--                                                      seek, or one that isn't before it
--     StaysIn range before at e same after      the same of where it stands; same: it is as it was
--     begins_newest, takes_newest, seeks_newest      what its calls may read and answer, and what becomes of it then, by what its source's may
--     Stays before at e after      it refuses, and stands as it stood, or keeps the refusal
use Rattle.std.specs.Prelude.{◌≡◌, ◌≢◌, ◌⊎◌, ℕ, ◌+◌, true, false, not, Bool, List, [], Option, Some, None, IsSomeAnd}
use Rattle.slate_types.specs.declared.bytes_range.BytesRange.{BytesRange}
use Rattle.slate_types.specs.declared.error.SlateDBError.{SlateDBError}
use Rattle.slate_types.specs.declared.error.SlateDBError.TheVariants.{IteratorNotInitialized, OutOfMemory, SeekKeyOutOfKeyRange}
use Rattle.slate_types.specs.declared.types.RowEntry.{RowEntry}
use Rattle.slate_types.specs.declared.iter.IterationOrder.{IterationOrder}
use Rattle.slate_types.specs.Keys.{is_past_start}
use Rattle.slate_types.specs.Outside.{Act, Meaning}
use Rattle.slate_types.specs.Refusing.{IsDamage}
use Rattle.slate_types.specs.RowTurns.{AreInTurn, row_before}
use Rattle.slate_types.specs.World.{World}
use Rattle.slate_merge.specs.declared.newest_first.NewestFirst.{NewestFirst}
use Rattle.slate_merge.specs.declared.progress.Progress.{Progress}
use Rattle.slate_merge.specs.declared.progress.Progress.TheVariants.{New, Going, Refused}
use Rattle.slate_merge.specs.Groups.{in_turn, rest_grouped, rows_in_groups, sound_grouped}
use Rattle.slate_merge.specs.Handing.{HandsHeld, SeeksHeld, held_in}
use Rattle.slate_merge.specs.Kept.{Copies}

abbrev pub is_below : BytesRange → List ℕ → Bool
is_below range key = not (is_past_start range.start key)

abbrev pub RefusesSeek : BytesRange → Option (List ℕ) → SlateDBError → Type 0
RefusesSeek range at e = IsSomeAnd at (λ key. (is_below range key ≡ true) × (e ≡ SeekKeyOutOfKeyRange key))

module _ {I : Type 0} (rest : I → World → List RowEntry) (order : I → IterationOrder) where
  abbrev pub rest_newest : I → Progress → World → List RowEntry
  rest_newest it New w = in_turn (order it) (rest it w)
  rest_newest it (Going groups) w = rest_grouped rest order (it, groups) w
  rest_newest it (Refused e) w = []

module _ {I : Type 0} (rest : I → World → List RowEntry) (sound : I → World → Type 0) (order : I → IterationOrder) where
  abbrev pub sound_newest : I → Progress → World → Type 0
  sound_newest it New w = sound it w × AreInTurn (row_before (order it)) (in_turn (order it) (rest it w))
  sound_newest it (Going groups) w = sound_grouped rest sound order (it, groups) w
  sound_newest it (Refused e) w = ¬ IsDamage e

module _ {I : Type 0} (refuses : I → Meaning → List Act → Option (List ℕ) → SlateDBError → Type 0) where
  abbrev pub refuses_newest : BytesRange → I → Progress → Meaning → List Act → Option (List ℕ) → SlateDBError → Type 0
  refuses_newest range it New m reads at e = (e ≡ IteratorNotInitialized) ⊎ refuses it m reads at e ⊎ RefusesSeek range at e
  refuses_newest range it (Going groups) m reads at e = refuses it m reads at e ⊎ RefusesSeek range at e
  refuses_newest range it (Refused kept) m reads at e = (kept ≢ OutOfMemory) × (e ≡ kept)

abbrev pub bound_newest : ℕ → Progress → ℕ
bound_newest bound New = bound
bound_newest bound (Going groups) = bound + rows_in_groups groups
bound_newest bound (Refused e) = 0

-- a refusal is kept, or want of memory in its place
abbrev pub IsKept : SlateDBError → Progress → Type 0
IsKept e s = (s ≡ Refused e) ⊎ (s ≡ Refused OutOfMemory)

-- one that was new goes on, and nothing has come yet
abbrev pub Begins : Progress → Progress → Type 0
Begins New (Going groups) = (groups.ready.items ≡ []) × (groups.gathered.items ≡ [])
Begins New s = ⊥
Begins (Going groups) s = s ≡ Going groups
Begins (Refused e) s = s ≡ Refused e

abbrev pub IsNew : Progress → Type 0
IsNew s = s ≡ New

abbrev pub IsUnrefused : Progress → Type 0
IsUnrefused (Refused e) = ⊥
IsUnrefused s = Unit {0}

abbrev pub IsGoing : Progress → Type 0
IsGoing (Going groups) = Unit {0}
IsGoing s = ⊥

module _ {I : Type 0} where
  abbrev pub begins_newest : (I → Meaning → List Act → I → Type 0) → NewestFirst I → Meaning → List Act → NewestFirst I → Type 0
  begins_newest begins before m reads after = IsUnrefused before.progress × Begins before.progress after.progress × (after.range ≡ before.range) × begins before.iterator m reads after.iterator

  abbrev pub takes_newest : (I → Meaning → List Act → Option RowEntry → I → Type 0) → NewestFirst I → Meaning → List Act → Option RowEntry → NewestFirst I → Type 0
  takes_newest takes before m reads answer after =
      IsGoing before.progress × IsGoing after.progress × (after.range ≡ before.range) × HandsHeld takes (before.iterator, held_in before.progress) m reads answer (after.iterator, held_in after.progress)

  abbrev pub seeks_newest : (I → Meaning → List Act → List ℕ → I → Type 0) → NewestFirst I → Meaning → List Act → List ℕ → NewestFirst I → Type 0
  seeks_newest seeks before m reads key after =
      (is_below before.range key ≡ false) × IsGoing before.progress × IsGoing after.progress × (after.range ≡ before.range) × SeeksHeld seeks (before.iterator, held_in before.progress) m reads key (after.iterator, held_in after.progress)

-- ---- a call is refused

-- a seek to a key before the range, or want of memory for a copy of the key
abbrev pub RefusesBelow : BytesRange → Option (List ℕ) → SlateDBError → Type 0
RefusesBelow range at e = IsSomeAnd at (λ key. (is_below range key ≡ true) × ((e ≡ SeekKeyOutOfKeyRange key) ⊎ (e ≡ OutOfMemory)))

abbrev pub IsReached : BytesRange → Option (List ℕ) → Type 0
IsReached range None = Unit {0}
IsReached range (Some key) = is_below range key ≡ false

-- same: it stands as it stood
abbrev pub StaysIn : BytesRange → Progress → Option (List ℕ) → SlateDBError → Type 0 → Progress → Type 0
StaysIn range New at e same after = ((e ≡ IteratorNotInitialized) × same) ⊎ ((at ≡ None) × IsKept e after)
StaysIn range (Going groups) at e same after = (RefusesBelow range at e × same) ⊎ (IsReached range at × IsKept e after)
StaysIn range (Refused kept) at e same after = Copies kept e × same

abbrev pub Stays : {I : Type 0} → NewestFirst I → Option (List ℕ) → SlateDBError → NewestFirst I → Type 0
Stays {I} before at e after = StaysIn before.range before.progress at e (after ≡ before) after.progress × (after.range ≡ before.range)
