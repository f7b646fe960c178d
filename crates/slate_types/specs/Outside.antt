-- What lies outside of calls, and what calls do there.
--     Objects      the objects of a store, by their paths
--     object_at os path      the object at a path
--     part at len bytes, part_of object start len      a range of bytes, and of an object where both are there
--     Act      a put, a read that was returned, or an answer of the length
--     Meaning      what the operator and the transformer of a call make
--     Counts      the counts of faults of the store, the operator and the transformer
--     no_faults      where there are none
--     Reach      all that a call reaches: the store's objects and acts as it tells them, the meaning, the counts of faults, and which store it is
--     no_reach      where there is no store, no operator and no transformer
--     IsLater before after      no count fell
--     IsCounted before after e      e is a fault that came between the counts, or want of memory
--     IsFault before after e      e is a fault that came in the call, or want of memory
--     StillBut stays before after result      a count is as it was, and at an error what stays says
--     IsStoreStill, IsOperatorStill, IsTransformerStill before after result      the part's count is as it was, but where the result is its fault
--     unblamed e counts, unblamed_by result counts      the counts without that of the part whose fault the error, or the result, is
--     IsStill before after result      the counts are as they were, but for that of the part whose fault the result is
--     PutsNothing act, AddsReads before after      the act is no put; the acts from before are still told, and behind them more of which none is a put
--     OnlyReads before after      a call puts nothing in the store and changes no part; no count of faults fell
--     Puts before after      a call that may put: it changes no part, and no count of faults fell
use Rattle.std.specs.Prelude.{◌≡◌, ℕ, ◌+◌, ◌≤◌, nat_le, if◌then◌else◌, List, [], ◌∷◌, ◌++◌, length, take, drop, Option, Some, None, Result, Ok, Err, bytes_eq}
use Rattle.std.specs.List.{AllByRecursion}
use Rattle.slate_types.specs.declared.error.SlateDBError.{SlateDBError}
use Rattle.slate_types.specs.declared.error.SlateDBError.TheVariants.{StoreFault, Callback, BlockTransformError, OutOfMemory}
use Rattle.slate_types.specs.Faults.{Rose}

abbrev pub Objects : Type 0
Objects = List (List ℕ × List ℕ)

abbrev pub object_at : Objects → List ℕ → Option (List ℕ)
object_at [] path = None
object_at (o ∷ os) path = if bytes_eq o.0 path then Some o.1 else object_at os path

abbrev pub part : ℕ → ℕ → List ℕ → List ℕ
part at len bytes = take len (drop at bytes)

-- none for a missing object or a range past its end
abbrev pub part_of : Option (List ℕ) → ℕ → ℕ → Option (List ℕ)
part_of None start len = None
part_of (Some bytes) start len = if nat_le (start + len) (length bytes) then Some (part start len bytes) else None

pub data Act : Type 0 where
  put : (path bytes : List ℕ) → Act
  read : (path : List ℕ) (start len : ℕ) (answer : Option (List ℕ)) → Act
  len : (path : List ℕ) (answer : Option ℕ) → Act

-- combine: what the operator makes of a key, an existing value and an operand, and none without one; encode, decode: the bytes that
-- the transformer writes and reads, which are the same without one
pub record Meaning : Type 0 where
  pub combine : Option (List ℕ → Option (List ℕ) → List ℕ → List ℕ)
  pub encode : List ℕ → List ℕ
  pub decode : List ℕ → List ℕ

abbrev pub no_parts : Meaning
no_parts = record { combine = None; encode = λ bytes. bytes; decode = λ bytes. bytes }

pub record Counts : Type 0 where
  pub store : ℕ
  pub operator : ℕ
  pub transformer : ℕ

abbrev pub no_faults : Counts
no_faults = record { store = 0; operator = 0; transformer = 0 }

-- objects, acts: what the store tells, acts oldest first, and none where it doesn't
pub record Reach : Type 0 where
  pub objects : Option Objects
  pub acts : Option (List Act)
  pub meaning : Meaning
  pub faults : Counts
  pub store : ℕ

abbrev pub no_reach : Reach
no_reach = record { objects = Some []; acts = Some []; meaning = no_parts; faults = no_faults; store = 0 }

-- ---- faults

pub record IsLater (before after : Counts) : Type 0 where
  pub store : before.store ≤ after.store
  pub operator : before.operator ≤ after.operator
  pub transformer : before.transformer ≤ after.transformer

abbrev pub IsCounted : Counts → Counts → SlateDBError → Type 0
IsCounted before after OutOfMemory = Unit {0}
IsCounted before after StoreFault = Rose before.store after.store
IsCounted before after (Callback m) = Rose before.operator after.operator
IsCounted before after BlockTransformError = Rose before.transformer after.transformer
IsCounted before after _ = ⊥

abbrev pub IsFault : Reach → Reach → SlateDBError → Type 0
IsFault before after e = IsCounted before.faults after.faults e

-- ---- a fault isn't passed over

abbrev pub StoreStays : ℕ → ℕ → SlateDBError → Type 0
StoreStays before after StoreFault = Unit {0}
StoreStays before after _ = after ≡ before

abbrev pub OperatorStays : ℕ → ℕ → SlateDBError → Type 0
OperatorStays before after (Callback m) = Unit {0}
OperatorStays before after _ = after ≡ before

abbrev pub TransformerStays : ℕ → ℕ → SlateDBError → Type 0
TransformerStays before after BlockTransformError = Unit {0}
TransformerStays before after _ = after ≡ before

abbrev pub StillBut : {A : Type 0} → (ℕ → ℕ → SlateDBError → Type 0) → ℕ → ℕ → Result A SlateDBError → Type 0
StillBut stays before after (Ok x) = after ≡ before
StillBut stays before after (Err e) = stays before after e

abbrev pub IsStoreStill : {A : Type 0} → ℕ → ℕ → Result A SlateDBError → Type 0
IsStoreStill before after result = StillBut StoreStays before after result

abbrev pub IsOperatorStill : {A : Type 0} → ℕ → ℕ → Result A SlateDBError → Type 0
IsOperatorStill before after result = StillBut OperatorStays before after result

abbrev pub IsTransformerStill : {A : Type 0} → ℕ → ℕ → Result A SlateDBError → Type 0
IsTransformerStill before after result = StillBut TransformerStays before after result

unfoldable pub unblamed : SlateDBError → Counts → Counts
unblamed StoreFault counts = record counts { store = 0 }
unblamed (Callback m) counts = record counts { operator = 0 }
unblamed BlockTransformError counts = record counts { transformer = 0 }
unblamed _ counts = counts

abbrev pub unblamed_by : {A : Type 0} → Result A SlateDBError → Counts → Counts
unblamed_by (Ok x) counts = counts
unblamed_by (Err e) counts = unblamed e counts

abbrev pub IsStill : {A : Type 0} → Counts → Counts → Result A SlateDBError → Type 0
IsStill before after result = unblamed_by result after ≡ unblamed_by result before

-- ---- what a call leaves

abbrev pub PutsNothing : Act → Type 0
PutsNothing (Act.put path bytes) = ⊥
PutsNothing _ = Unit {0}

abbrev pub AddsReads : Option (List Act) → Option (List Act) → Type 0
AddsReads before after = (known : List Act) → before ≡ Some known → (more : List Act) × (after ≡ Some (known ++ more)) × AllByRecursion PutsNothing more

pub record OnlyReads (before after : Reach) : Type 0 where
  pub objects : after.objects ≡ before.objects
  pub meaning : after.meaning ≡ before.meaning
  pub acts : AddsReads before.acts after.acts
  pub later : IsLater before.faults after.faults
  pub store : after.store ≡ before.store

pub record Puts (before after : Reach) : Type 0 where
  pub meaning : after.meaning ≡ before.meaning
  pub later : IsLater before.faults after.faults
  pub store : after.store ≡ before.store
