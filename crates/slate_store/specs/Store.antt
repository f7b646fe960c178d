-- What is known of a store, and what its calls answer.
--     with_object os path bytes      objects by their paths, rising, with one more
--     AnswersRead, AnswersLen, AnswersList      the answers of a store that tells its objects
--     IsRising paths      the paths rise in byte order, each once
--     TakesPut      what a put that is taken leaves, as the store then tells it
--     RefusesPut      a put that is refused changed nothing and told nothing (LeftAlone), or was taken and told (TookPut)
--     IsHonest objects, IsEmpty objects      premises on a store's objects, as it tells them
--     AddsAct before act after      what a store tells of its acts, after one more
--     of_store e      a store's error as the one error type has it
use Rattle.std.specs.Prelude.{◌≡◌, ℕ, List, [], ◌∷◌, ◌++◌, length, map, Option, Some, None, ◌⊎◌}
use Rattle.std.specs.BTreeMap.{insert_entry}
use Rattle.std.specs.List.Sorted.{IsStrictlySortedBy}
use Rattle.slate_types.specs.declared.error.SlateDBError.{SlateDBError}
use Rattle.slate_types.specs.declared.error.SlateDBError.TheVariants.{StoreFault, OutOfMemory}
use Rattle.slate_types.specs.Keys.{key_cmp}
use Rattle.slate_types.specs.Outside.{Objects}
pub use Rattle.slate_types.specs.Outside.{Act, object_at, part, part_of}
use Rattle.slate_store.specs.declared.store.StoreError.{StoreError}
use Rattle.slate_store.specs.declared.store.StoreError.TheVariants.{Failed, OutOfMemory as NoMemory}

abbrev pub with_object : Objects → List ℕ → List ℕ → Objects
with_object os path bytes = insert_entry key_cmp os path bytes

abbrev pub len_of : Option (List ℕ) → Option ℕ
len_of None = None
len_of (Some bytes) = Some (length bytes)

-- ---- the answers that are Ok, where the store tells its objects

abbrev pub AnswersRead : Objects → List ℕ → ℕ → ℕ → Option (List ℕ) → Type 0
AnswersRead os path start len answer = answer ≡ part_of (object_at os path) start len

abbrev pub AnswersLen : Objects → List ℕ → Option ℕ → Type 0
AnswersLen os path answer = answer ≡ len_of (object_at os path)

abbrev pub AnswersList : Objects → List (List ℕ) → Type 0
AnswersList os answer = answer ≡ map (λ o. o.0) os

abbrev pub IsRising : List (List ℕ) → Type 0
IsRising paths = IsStrictlySortedBy key_cmp paths

-- after: what the store tells then
abbrev pub TakesPut : Objects → List ℕ → List ℕ → Option Objects → Type 0
TakesPut os path bytes after = after ≡ Some (with_object os path bytes)

-- objects: what the store tells, and none where it doesn't. A store that tells its objects answers by them, as the
-- calls of every store have it. So one that answers otherwise tells none.
abbrev pub IsHonest : Option Objects → Type 0
IsHonest objects = (os : Objects) × (objects ≡ Some os)

abbrev pub IsEmpty : Option Objects → Type 0
IsEmpty objects = objects ≡ Some []

-- ---- a store that tells its acts, oldest first

-- nothing is asked of a store that doesn't tell them
abbrev pub AddsAct : Option (List Act) → Act → Option (List Act) → Type 0
AddsAct before act after = (known : List Act) → before ≡ Some known → after ≡ Some (known ++ (act ∷ []))

-- objects, acts: what the store tells. Nothing is said of what it doesn't tell.
pub record TookPut {S : Type 0} (objects : S → Option Objects) (acts : S → Option (List Act)) (path bytes : List ℕ) (before after : S) : Type 0 where
  pub stands : (os : Objects) → objects before ≡ Some os → TakesPut os path bytes (objects after)
  pub told : AddsAct (acts before) (Act.put path bytes) (acts after)

pub record LeftAlone {S : Type 0} (objects : S → Option Objects) (acts : S → Option (List Act)) (before after : S) : Type 0 where
  pub stands : objects after ≡ objects before
  pub told : acts after ≡ acts before

abbrev pub RefusesPut : {S : Type 0} → (S → Option Objects) → (S → Option (List Act)) → List ℕ → List ℕ → S → S → Type 0
RefusesPut objects acts path bytes before after = LeftAlone objects acts before after ⊎ TookPut objects acts path bytes before after

abbrev pub of_store : StoreError → SlateDBError
of_store Failed = StoreFault
of_store NoMemory = OutOfMemory
