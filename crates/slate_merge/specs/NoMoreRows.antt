-- What becomes of the rows that an iterator may hand out, by the reads that it makes from now on.
--     NoMoreRows before reads after      behind these reads no row is brought that wasn't before
--     HandsOut before reads answer after      the answer is such a row, or none, and then no other rows are brought
--     AddsNone brings refuses m x reads y      behind these reads it neither refuses nor brings more
--     HandsAway brings refuses m x reads answer y      the answer is a row that it brings, or none, and then it neither refuses nor brings more
--     AddsNoneByCall brings refuses before after x y      behind the reads of a call it neither refuses nor brings more
--     HandsAwayByCall brings refuses before after x answer y      by the reads of a call the answer is such a row, or none, and so on
use Rattle.std.specs.Prelude.{ℕ, List, ◌++◌, Option, IfSome}
use Rattle.slate_types.specs.declared.error.SlateDBError.{SlateDBError}
use Rattle.slate_types.specs.declared.types.RowEntry.{RowEntry}
use Rattle.slate_types.specs.Outside.{Act, Meaning, Reach}
use Rattle.slate_types.specs.Refusing.{NoMore}
use Rattle.slate_types.specs.World.{Made}

abbrev pub NoMoreRows : {R : Type 0} → (List Act → R → Type 0) → List Act → (List Act → R → Type 0) → Type 0
NoMoreRows {R} before reads after = (later : List Act) (r : R) → after later r → before (reads ++ later) r

abbrev pub HandsOut : (List Act → RowEntry → Type 0) → List Act → Option RowEntry → (List Act → RowEntry → Type 0) → Type 0
HandsOut before reads answer after = IfSome answer (λ r. before reads r) × NoMoreRows before reads after

abbrev pub AddsNone : {A R : Type 0} → (A → Meaning → List Act → R → Type 0) → (A → Meaning → List Act → Option (List ℕ) → SlateDBError → Type 0) → Meaning → A → List Act → A → Type 0
AddsNone {A} {R} brings refuses m x reads y = NoMore (refuses x m) reads (refuses y m) × NoMoreRows (brings x m) reads (brings y m)

abbrev pub HandsAway : {A : Type 0} → (A → Meaning → List Act → RowEntry → Type 0) → (A → Meaning → List Act → Option (List ℕ) → SlateDBError → Type 0) → Meaning → A → List Act → Option RowEntry → A → Type 0
HandsAway {A} brings refuses m x reads answer y = HandsOut (brings x m) reads answer (brings y m) × NoMore (refuses x m) reads (refuses y m)

abbrev pub AddsNoneByCall : {A R : Type 0} → (A → Meaning → List Act → R → Type 0) → (A → Meaning → List Act → Option (List ℕ) → SlateDBError → Type 0) → Reach → Reach → A → A → Type 0
AddsNoneByCall {A} {R} brings refuses before after x y = Made before after (λ reads. AddsNone brings refuses before.meaning x reads y)

abbrev pub HandsAwayByCall : {A : Type 0} → (A → Meaning → List Act → RowEntry → Type 0) → (A → Meaning → List Act → Option (List ℕ) → SlateDBError → Type 0) → Reach → Reach → A → Option RowEntry → A → Type 0
HandsAwayByCall {A} brings refuses before after x answer y = Made before after (λ reads. HandsAway brings refuses before.meaning x reads answer y)
