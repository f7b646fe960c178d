-- Steps of an iterator, in words that don't name the iterator.
--     Step rest sound refuses takes before after x answer y      what callers know of a `next` that answered
--     Takes step x reads rows y      steps that answer these rows, one by one, and make these reads together
--     TakesAll step x reads rows y      the same, and then one that answers none
use Rattle.std.specs.Prelude.{◌≡◌, ℕ, List, [], ◌∷◌, ◌++◌, Option, Some, None}
use Rattle.slate_types.specs.declared.error.SlateDBError.{SlateDBError}
use Rattle.slate_types.specs.declared.types.RowEntry.{RowEntry}
use Rattle.slate_types.specs.Iteration.{TakesRow}
use Rattle.slate_types.specs.Outside.{Act, Meaning, Reach}
use Rattle.slate_types.specs.Refusing.{NoMore}
use Rattle.slate_types.specs.World.{World, Checks, Made, Sees}

-- what callers know of a `next` that answered
pub record Step {A : Type 0} (rest : A → World → List RowEntry) (sound : A → World → Type 0) (refuses : A → Meaning → List Act → Option (List ℕ) → SlateDBError → Type 0) (takes : A → Meaning → List Act → Option RowEntry → A → Type 0)
    (before after : Reach) (x : A) (answer : Option RowEntry) (y : A) : Type 0 where
  pub rows : (w : World) → Sees w before after → sound x w → TakesRow (rest x w) answer (rest y w)
  pub still : (w : World) → Sees w before after → sound x w → sound y w
  pub checked : (w : World) → sound x w → Checks w before after
  pub taken : Made before after (λ reads. takes x before.meaning reads answer y × NoMore (refuses x before.meaning) reads (refuses y before.meaning))

-- step: what one call may read and answer, and what becomes of the iterator then
abbrev pub Takes : {A : Type 0} → (A → List Act → Option RowEntry → A → Type 0) → A → List Act → List RowEntry → A → Type 0
Takes {A} step x reads [] y = (reads ≡ []) × (x ≡ y)
Takes {A} step x reads (row ∷ rows) y = (next : A) × (first : List Act) × (later : List Act) × (reads ≡ first ++ later) × step x first (Some row) next × Takes step next later rows y

abbrev pub TakesAll : {A : Type 0} → (A → List Act → Option RowEntry → A → Type 0) → A → List Act → List RowEntry → A → Type 0
TakesAll {A} step x reads rows y = (last : A) × (first : List Act) × (end : List Act) × (reads ≡ first ++ end) × Takes step x first rows last × step last end None y
