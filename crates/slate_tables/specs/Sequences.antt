-- Rows by their sequences.
--     of_seq n rows      the rows of a sequence, in their order
--     Climb rows      no row has a lesser sequence than one before it
--     SortedOnce      rows that climb are determined by the rows of each sequence
--     KeepsPlaces      rows by sequence climb, and those of one sequence keep their order
use Rattle.std.specs.Prelude.{◌≡◌, ◌≤◌, ◌==◌, ℕ, List, [], ◌∷◌, filter}
use Rattle.std.specs.List.{AllByRecursion}
use Rattle.slate_types.specs.declared.types.RowEntry.{RowEntry}
use Rattle.slate_table.specs.Stored.{by_seq}

abbrev pub of_seq : ℕ → List RowEntry → List RowEntry
of_seq n rows = filter (λ r. r.seq == n) rows

abbrev pub Climb : List RowEntry → Type 0
Climb [] = Unit {0}
Climb (r ∷ rows) = AllByRecursion (λ s. r.seq ≤ s.seq) rows × Climb rows

abbrev pub SortedOnce : Type 0
SortedOnce = (xs ys : List RowEntry) →
    Climb xs → Climb ys → ((n : ℕ) → of_seq n xs ≡ of_seq n ys) → xs ≡ ys

abbrev pub KeepsPlaces : Type 0
KeepsPlaces = (rows : List RowEntry) →
    Climb (by_seq rows) × ((n : ℕ) → of_seq n (by_seq rows) ≡ of_seq n rows)
