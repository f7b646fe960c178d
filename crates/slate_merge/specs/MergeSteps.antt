-- What one call of a source gives, and where the source goes then.
--     Falls bound before answer after      the bound fell at a row
--     Goes rest sound refuses takes bound order_of before after x answer y      `next` of a source answered
--     Joins goes source behind order old new      the source went among the heads with its next row, or it has ended
--     JoinsAgain renews head old new      the head's source was begun again, and went with its row among the heads that are done
--     Renews rest sound refuses begins bound order_of before after x y      a source was begun again
--     CountsKey key before after      rows of a key were counted
--     CountsTaken dedup before answer after      a row was counted, with rows of its key where it decides them
--     TakesMerged dedup before after processed processed'      one step takes the first row that is left, with those that it
--                                                             decides, and counts the bytes of all that it took
use Rattle.std.specs.Prelude.{ℕ, ◌≡◌, ◌<◌, ◌≤◌, ◌⊎◌, ◌&&◌, Bool, true, false, List, [], ◌∷◌, Option, Some, None, IsSome, IsPermutation, bytes_eq}
use Rattle.std.specs.List.{AllByRecursion}
use Rattle.slate_types.specs.declared.error.SlateDBError.{SlateDBError}
use Rattle.slate_types.specs.declared.types.RowEntry.{RowEntry}
use Rattle.slate_types.specs.declared.iter.IterationOrder.{IterationOrder}
use Rattle.slate_types.specs.Outside.{Act, Meaning, Reach}
use Rattle.slate_types.specs.Refusing.{IsReady, NoMore}
use Rattle.slate_types.specs.Rows.{is_base}
use Rattle.slate_types.specs.Steps.{Step}
use Rattle.slate_types.specs.World.{World, Checks, Made, Sees}
use Rattle.slate_merge.specs.declared.head.Head.{Head}
use Rattle.slate_merge.specs.Merge.{rows_after, taken_rows, counted}

abbrev pub Falls : {S : Type 0} → (S → ℕ) → S → Option RowEntry → S → Type 0
Falls bound before answer after = IsSome answer → bound after < bound before

pub record Goes {S : Type 0} (rest : S → World → List RowEntry) (sound : S → World → Type 0) (refuses : S → Meaning → List Act → Option (List ℕ) → SlateDBError → Type 0) (takes : S → Meaning → List Act → Option RowEntry → S → Type 0) (bound : S → ℕ) (order_of : S → IterationOrder)
    (before after : Reach) (x : S) (answer : Option RowEntry) (y : S) : Type 0 where
  pub step : Step rest sound refuses takes before after x answer y
  pub order : order_of y ≡ order_of x
  pub smaller : Falls bound x answer y

abbrev pub Joins : {S : Type 0} → (S → Option RowEntry → S → Type 0) → S → ℕ → IterationOrder → List (Head S) → List (Head S) → Type 0
Joins {S} goes source behind order old new =
    ((after : S) × goes source None after × (new ≡ old))
    ⊎ ((row : RowEntry) × (after : S) × goes source (Some row) after × IsPermutation (record { row = row; behind = behind; order = order; source = after } ∷ old) new)

abbrev pub JoinsAgain : {S : Type 0} → (S → S → Type 0) → Head S → List (Head S) → List (Head S) → Type 0
JoinsAgain {S} renews head old new = (source : S) × renews head.source source × IsPermutation (record { row = head.row; behind = head.behind; order = head.order; source = source } ∷ old) new

pub record Renews {S : Type 0} (rest : S → World → List RowEntry) (sound : S → World → Type 0) (refuses : S → Meaning → List Act → Option (List ℕ) → SlateDBError → Type 0) (begins : S → Meaning → List Act → S → Type 0) (bound : S → ℕ) (order_of : S → IterationOrder)
    (before after : Reach) (x y : S) : Type 0 where
  pub rows : (w : World) → Sees w before after → sound x w → rest y w ≡ rest x w
  pub still : (w : World) → Sees w before after → sound x w → sound y w
  pub checked : (w : World) → sound x w → Checks w before after
  pub begun : Made before after (λ reads. begins x before.meaning reads y × NoMore (refuses x before.meaning) reads (refuses y before.meaning))
  pub order : order_of y ≡ order_of x
  pub ready : IsReady (refuses y before.meaning)
  pub no_larger : bound y ≤ bound x

abbrev pub CountsKey : List ℕ → ℕ → ℕ → Type 0
CountsKey key before after = (dropped : List RowEntry) × AllByRecursion (λ r. bytes_eq key r.key ≡ true) dropped × (after ≡ counted before dropped)

abbrev pub CountsTaken : Bool → ℕ → Option RowEntry → ℕ → Type 0
CountsTaken dedup before None after = after ≡ before
CountsTaken dedup before (Some row) after =
    (dropped : List RowEntry) × AllByRecursion (λ r. bytes_eq row.key r.key ≡ true) dropped × ((dedup && is_base row) ≡ false → dropped ≡ []) × (after ≡ counted before (row ∷ dropped))

abbrev pub TakesMerged : Bool → List RowEntry → List RowEntry → ℕ → ℕ → Type 0
TakesMerged dedup before after processed_before processed_after = (after ≡ rows_after dedup before) × (processed_after ≡ counted processed_before (taken_rows dedup before))
