-- Rows of a source, grouped by their keys.
--     put_behind row rows      the row behind the leading rows of its key
--     newest_first rows      each group of neighbouring rows of one key, turned round
--     in_turn order rows      rows that come in an order as a table has them, the newest of each key first
--     IsOneKey rows      the rows are of one key
--     StandsApart rows more      what follows rows of a key is of another one
--     newest_left order ready gathered rows      what is left where these rows are ready, and these were gathered of the next key
--     IsGrouped order ready gathered rows      what that rests on, beside the source
--     rest_grouped, sound_grouped, refuses_grouped      of a source and of the rows that came from it
--     no_rows      nothing is said of what a call reads and leaves
--     rows_in_groups groups      how many these are
--     Stands rest sound refuses before after x y      a part of a call that brings no row
--     Seeks rest sound refuses order key before after x y      a seek that is done
--     stays_at key rows      there are rows of one key, which downwards stands at a key or behind it
use Rattle.std.specs.Prelude.{◌≡◌, ℕ, ◌+◌, Bool, false, if◌then◌else◌, not, List, [], ◌∷◌, ◌++◌, reverse, length, bytes_eq, Option}
use Rattle.std.specs.List.{AllByRecursion}
use Rattle.slate_types.specs.declared.error.SlateDBError.{SlateDBError}
use Rattle.slate_types.specs.declared.types.RowEntry.{RowEntry}
use Rattle.slate_types.specs.declared.iter.IterationOrder.{IterationOrder}
use Rattle.slate_types.specs.declared.iter.IterationOrder.TheVariants.{Ascending, Descending}
use Rattle.slate_types.specs.Iteration.{comes_before, drop_before}
use Rattle.slate_types.specs.Outside.{Act, Meaning, Reach}
use Rattle.slate_types.specs.Refusing.{NoMore}
use Rattle.slate_types.specs.RowTurns.{AreInTurn, row_before}
use Rattle.slate_types.specs.World.{World, Checks, Made, Sees}
use Rattle.slate_merge.specs.declared.groups.Groups.{Groups}

abbrev pub put_behind : RowEntry → List RowEntry → List RowEntry
put_behind row [] = row ∷ []
put_behind row (first ∷ rows) = if bytes_eq first.key row.key then first ∷ put_behind row rows else row ∷ first ∷ rows

abbrev pub newest_first : List RowEntry → List RowEntry
newest_first [] = []
newest_first (row ∷ rows) = put_behind row (newest_first rows)

-- upwards a table has them so
abbrev pub in_turn : IterationOrder → List RowEntry → List RowEntry
in_turn Ascending rows = rows
in_turn Descending rows = newest_first rows

-- ---- groups before a source

abbrev pub IsOneKey : List RowEntry → Type 0
IsOneKey [] = Unit {0}
IsOneKey (row ∷ rows) = AllByRecursion (λ r. r.key ≡ row.key) rows

abbrev pub StandsApart : List RowEntry → List RowEntry → Type 0
StandsApart [] more = Unit {0}
StandsApart (row ∷ rows) [] = Unit {0}
StandsApart (row ∷ rows) (next ∷ more) = bytes_eq next.key row.key ≡ false

abbrev pub newest_left : IterationOrder → List RowEntry → List RowEntry → List RowEntry → List RowEntry
newest_left Ascending ready gathered rows = rows
newest_left Descending ready gathered rows = reverse ready ++ newest_first (gathered ++ rows)

pub record IsGrouped (order : IterationOrder) (ready gathered rows : List RowEntry) : Type 0 where
  pub turn : AreInTurn (row_before order) (newest_left order ready gathered rows)
  pub one_ready : IsOneKey ready
  pub one_gathered : IsOneKey gathered

abbrev pub rest_grouped : {I : Type 0} → (I → World → List RowEntry) → (I → IterationOrder) → I × Groups → World → List RowEntry
rest_grouped {I} rest order x w = newest_left (order x.0) x.1.ready.items x.1.gathered.items (rest x.0 w)

abbrev pub sound_grouped : {I : Type 0} → (I → World → List RowEntry) → (I → World → Type 0) → (I → IterationOrder) → I × Groups → World → Type 0
sound_grouped {I} rest sound order x w = sound x.0 w × IsGrouped (order x.0) x.1.ready.items x.1.gathered.items (rest x.0 w)

abbrev pub refuses_grouped : {I : Type 0} → (I → Meaning → List Act → Option (List ℕ) → SlateDBError → Type 0) → I × Groups → Meaning → List Act → Option (List ℕ) → SlateDBError → Type 0
refuses_grouped {I} refuses x m reads at e = refuses x.0 m reads at e

-- of what a call reads and leaves nothing is said
abbrev pub no_rows : {A : Type 0} → A → Meaning → List Act → Option RowEntry → A → Type 0
no_rows x m reads answer y = Unit {0}

abbrev pub rows_in_groups : Groups → ℕ
rows_in_groups groups = length groups.gathered.items + length groups.ready.items

pub record Stands {A : Type 0} (rest : A → World → List RowEntry) (sound : A → World → Type 0) (refuses : A → Meaning → List Act → Option (List ℕ) → SlateDBError → Type 0) (before after : Reach) (x y : A) : Type 0 where
  pub rows : (w : World) → Sees w before after → sound x w → rest y w ≡ rest x w
  pub still : (w : World) → Sees w before after → sound x w → sound y w
  pub checked : (w : World) → sound x w → Checks w before after
  pub made : Made before after (λ reads. NoMore (refuses x before.meaning) reads (refuses y before.meaning))

pub record Seeks {A : Type 0} (rest : A → World → List RowEntry) (sound : A → World → Type 0) (refuses : A → Meaning → List Act → Option (List ℕ) → SlateDBError → Type 0) (order : IterationOrder) (key : List ℕ) (before after : Reach) (x y : A) : Type 0 where
  pub rows : (w : World) → Sees w before after → sound x w → rest y w ≡ drop_before order key (rest x w)
  pub still : (w : World) → Sees w before after → sound x w → sound y w
  pub checked : (w : World) → sound x w → Checks w before after
  pub made : Made before after (λ reads. NoMore (refuses x before.meaning) reads (refuses y before.meaning))

-- whether rows of one key stand downwards at a key or behind it, and there are some
abbrev pub stays_at : List ℕ → List RowEntry → Bool
stays_at key [] = false
stays_at key (row ∷ rows) = not (comes_before Descending row.key key)
