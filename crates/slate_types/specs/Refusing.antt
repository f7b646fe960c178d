-- What iterators may refuse for, by the reads that they make.
--     Refusals      by the reads from now on: in a seek to a key, and, where there is no key, in the other calls
--     IsDamage e      a refusal of bytes that are none of a table
--     NoMore before reads after      behind these reads nothing is refused that wasn't before
--     NoMoreBut refusal before reads after      the same, but for this very error
--     IsReady refuses      nothing is refused for want of an `init`
use Rattle.std.specs.Prelude.{◌≡◌, ◌⊎◌, ℕ, List, ◌++◌, Option}
use Rattle.slate_types.specs.declared.error.SlateDBError.{SlateDBError}
use Rattle.slate_types.specs.declared.error.SlateDBError.TheVariants.{CorruptTable, ChecksumMismatch, InvalidRowFlags, InvalidVersion, InvalidFilterBlock, IteratorNotInitialized}
use Rattle.slate_types.specs.Outside.{Act}

abbrev pub Refusals : Type 1
Refusals = List Act → Option (List ℕ) → SlateDBError → Type 0

abbrev pub IsDamage : SlateDBError → Type 0
IsDamage (CorruptTable place) = Unit {0}
IsDamage (ChecksumMismatch stored computed) = Unit {0}
IsDamage (InvalidRowFlags bits) = Unit {0}
IsDamage (InvalidVersion version) = Unit {0}
IsDamage (InvalidFilterBlock len) = Unit {0}
IsDamage e = ⊥

abbrev pub NoMore : Refusals → List Act → Refusals → Type 0
NoMore before reads after = (later : List Act) (at : Option (List ℕ)) (e : SlateDBError) → after later at e → before (reads ++ later) at e

abbrev pub NoMoreBut : SlateDBError → Refusals → List Act → Refusals → Type 0
NoMoreBut refusal before reads after = (later : List Act) (at : Option (List ℕ)) (e : SlateDBError) → after later at e → before (reads ++ later) at e ⊎ (e ≡ refusal)

abbrev pub IsReady : Refusals → Type 0
IsReady refuses = (reads : List Act) (at : Option (List ℕ)) → ¬ refuses reads at IteratorNotInitialized
