-- Rows that come from a source, and are held before they are handed out.
--     Gives step x reads rows y      steps that bring these rows, one by one, and then perhaps one that brings none
--     AreAmong some all      each of some elements is one of these
--     Held I      a source and the rows that are held of it
--     refuses_held refuses x      what its source refuses
--     HandsHeld takes x m reads answer y      the answer, and all that is held then, was held before, or the source brought it
--     SeeksHeld seeks x m reads key y      all that is held then was held before, and the source sought the key, or wasn't called
--     held_of groups, held_in progress      the rows that one holds that hands out the newest first
--     brings_held brings x reads r      one of the rows that are held, or that the source may bring
use Rattle.std.specs.Prelude.{◌≡◌, ◌⊎◌, ℕ, List, [], ◌++◌, Contains, Option, IfSome}
use Rattle.std.specs.List.{AllByRecursion}
use Rattle.slate_types.specs.declared.error.SlateDBError.{SlateDBError}
use Rattle.slate_types.specs.declared.types.RowEntry.{RowEntry}
use Rattle.slate_types.specs.Outside.{Act, Meaning}
use Rattle.slate_types.specs.Steps.{Takes, TakesAll}
use Rattle.slate_merge.specs.declared.groups.Groups.{Groups}
use Rattle.slate_merge.specs.declared.progress.Progress.{Progress}
use Rattle.slate_merge.specs.declared.progress.Progress.TheVariants.{New, Going, Refused}

abbrev pub Gives : {I : Type 0} → (I → List Act → Option RowEntry → I → Type 0) → I → List Act → List RowEntry → I → Type 0
Gives {I} step x reads rows y = Takes step x reads rows y ⊎ TakesAll step x reads rows y

abbrev pub AreAmong : {A : Type 0} → List A → List A → Type 0
AreAmong {A} some all = AllByRecursion (λ x. Contains all x) some

abbrev pub Held : Type 0 → Type 0
Held I = I × List RowEntry

abbrev pub refuses_held : {I : Type 0} → (I → Meaning → List Act → Option (List ℕ) → SlateDBError → Type 0) → Held I → Meaning → List Act → Option (List ℕ) → SlateDBError → Type 0
refuses_held {I} refuses x m reads at e = refuses x.0 m reads at e

abbrev pub HandsHeld : {I : Type 0} → (I → Meaning → List Act → Option RowEntry → I → Type 0) → Held I → Meaning → List Act → Option RowEntry → Held I → Type 0
HandsHeld {I} takes x m reads answer y =
    (given : List RowEntry) × Gives (λ u rs a v. takes u m rs a v) x.0 reads given y.0 × IfSome answer (λ r. Contains (x.1 ++ given) r) × AreAmong y.1 (x.1 ++ given)

abbrev pub SeeksHeld : {I : Type 0} → (I → Meaning → List Act → List ℕ → I → Type 0) → Held I → Meaning → List Act → List ℕ → Held I → Type 0
SeeksHeld {I} seeks x m reads key y = (((reads ≡ []) × (y.0 ≡ x.0)) ⊎ seeks x.0 m reads key y.0) × AreAmong y.1 x.1

abbrev pub held_of : Groups → List RowEntry
held_of groups = groups.ready.items ++ groups.gathered.items

abbrev pub held_in : Progress → List RowEntry
held_in New = []
held_in (Going groups) = held_of groups
held_in (Refused e) = []

-- one of the rows that are held, or that the source may bring
abbrev pub brings_held : {I : Type 0} → (I → List Act → RowEntry → Type 0) → Held I → List Act → RowEntry → Type 0
brings_held {I} brings x reads r = Contains x.1 r ⊎ brings x.0 reads r
