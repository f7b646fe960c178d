-- Rows that calls of an iterator may hand out, by the reads that are made from now on.
--     CallsOnce m x by y      one call that answered: an `init`, a `next` or a `seek`
--     AreCalls m reads x each y      such calls, one behind the other, each with reads that are among these
--     BringsByCalls x m reads r      such calls, and then a `next` that hands out the row
use Rattle.std.specs.Prelude.{◌≡◌, ◌⊎◌, ℕ, List, [], ◌∷◌, Option, Some}
use Rattle.slate_types.specs.declared.types.RowEntry.{RowEntry}
use Rattle.slate_types.specs.Outside.{Act, Meaning}
use Rattle.slate_merge.specs.Handing.{AreAmong}

module _ {S : Type 0} (begins : S → Meaning → List Act → S → Type 0) (takes : S → Meaning → List Act → Option RowEntry → S → Type 0) (seeks : S → Meaning → List Act → List ℕ → S → Type 0) where
  abbrev pub CallsOnce : Meaning → S → List Act → S → Type 0
  CallsOnce m x by y = begins x m by y ⊎ ((answer : Option RowEntry) × takes x m by answer y) ⊎ ((key : List ℕ) × seeks x m by key y)

  abbrev pub AreCalls : Meaning → List Act → S → List (List Act) → S → Type 0
  AreCalls m reads x [] y = x ≡ y
  AreCalls m reads x (by ∷ each) y = AreAmong by reads × ((next : S) × CallsOnce m x by next × AreCalls m reads next each y)

  pub record BringsByCalls (x : S) (m : Meaning) (reads : List Act) (r : RowEntry) : Type 0 where
    pub each : List (List Act)
    pub last : S
    pub calls : AreCalls m reads x each last
    pub by : List Act
    pub among : AreAmong by reads
    pub after : S
    pub taken : takes last m by (Some r) after
