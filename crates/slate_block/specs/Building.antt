-- A block that is being built.
--     CanTake r      the row's lengths are within the limits: a key of at most 65535 bytes, a value of less than 2^32
--     front_key version rows      the key whose front the next row leaves out; none at a restart, and none of the first row
--     row_bytes version n r      the row's bytes, the first n bytes of its key left out
--     is_named version n      whether a block names the place of the row behind n rows
--     Holds version body offsets count front rows      what is kept is that of these rows, spelled with longest fronts
--     Held version body offsets count front      it is that of one list of rows, and of no other
--     named_size version n      how many offsets that is
--     part_size n part r      the size that is held to the block size, where the first n bytes of the row's key are left out
--     IsSamePart old new, IsLongerPart old n r new      the same is kept, or that with a row more, the first n bytes of its key left out
--     Building      what a builder is seen as: the version, the block size, and the rows that it took
--     with_row b r      the same with a row more
use Rattle.std.specs.Prelude.{◌≡◌, ℕ, ◌+◌, ◌*◌, ◌^◌, ◌<◌, Bool, true, if◌then◌else◌, ◌==◌, List, [], ◌∷◌, ◌++◌, length, flat_map}
use Rattle.std.specs.List.{AllByRecursion}
use mathlib.Core.Equiv.{IsContr, IsContr-prop}
use Rattle.slate_types.specs.declared.types.RowEntry.{RowEntry}
use Rattle.slate_types.specs.Rows.{operand}
use Rattle.slate_block.specs.declared.rows_part.Version.{Version}
use Rattle.slate_block.specs.declared.rows_part.Version.TheVariants.{V1, V2, V3}
use Rattle.slate_block.specs.declared.rows_part.RowsPart.{RowsPart}
use Rattle.slate_block.specs.RowSpelling.{v1_bytes, v2_bytes}
use Rattle.slate_block.specs.BlockSpelling.{entry_v1, entry_v2, is_restart, shared_with, offsets_of, spelled, FitsRow}

abbrev pub CanTake : RowEntry → Type 0
CanTake r = (length r.key < 2 ^ 16) × (length (operand r) < 2 ^ 32)

abbrev pub number : Version → ℕ
number V1 = 1
number V2 = 2
number V3 = 3

abbrev pub first_key : List RowEntry → List ℕ
first_key [] = []
first_key (r ∷ rs) = r.key

-- the last row's key, or the one before all
abbrev pub last_key : List ℕ → List RowEntry → List ℕ
last_key before [] = before
last_key before (r ∷ rs) = last_key r.key rs

abbrev pub front_key : ℕ → List RowEntry → List ℕ
front_key version rows = if version == 1 then first_key rows else shared_with (length rows) (last_key [] rows)

abbrev pub row_bytes : ℕ → ℕ → RowEntry → List ℕ
row_bytes version n r = if version == 1 then v1_bytes (entry_v1 n r) else v2_bytes (entry_v2 n r)

abbrev pub is_named : ℕ → ℕ → Bool
is_named version n = if version == 1 then true else is_restart n

-- the place, where it is named
abbrev pub named : ℕ → ℕ → ℕ → List ℕ
named version n at = if is_named version n then at ∷ [] else []

abbrev pub named_size : ℕ → ℕ → ℕ
named_size version n = if version == 1 then 0 else (if is_restart n then 1 else 0)

-- the key whose front is left out behind n rows and one with this key
abbrev pub next_front : ℕ → ℕ → List ℕ → List ℕ → List ℕ
next_front version n front key = if version == 1 then (if n == 0 then key else front) else shared_with (n + 1) key

pub record Holds (version : ℕ) (body offsets : List ℕ) (count : ℕ) (front : List ℕ) (rows : List RowEntry) : Type 0 where
  pub each : AllByRecursion FitsRow rows
  pub is_body : body ≡ flat_map (λ b. b) (spelled version rows)
  pub are_offsets : offsets ≡ offsets_of version (spelled version rows)
  pub fit : AllByRecursion (λ at. at < 2 ^ 16) offsets
  pub counted : count ≡ length rows
  pub few : length rows < 2 ^ 16
  pub front_is : front ≡ front_key version rows

abbrev pub SomeHeld : ℕ → List ℕ → List ℕ → ℕ → List ℕ → Type 0
SomeHeld version body offsets count front = (rows : List RowEntry) × Holds version body offsets count front rows

abbrev pub Held : ℕ → List ℕ → List ℕ → ℕ → List ℕ → Type 0
Held version body offsets count front = IsContr (SomeHeld version body offsets count front)

pub Held_prop : (version : ℕ) (body offsets : List ℕ) (count : ℕ) (front : List ℕ) → IsProp (Held version body offsets count front)
Held_prop version body offsets count front = IsContr-prop

abbrev pub part_size : ℕ → RowsPart → RowEntry → ℕ
part_size n part r = 2 + 2 * (length part.offsets.items + named_size (number part.version) part.num_rows) + length part.body.items + length (row_bytes (number part.version) n r)

pub record IsSamePart (old new : RowsPart) : Type 0 where
  pub version : new.version ≡ old.version
  pub body : new.body.items ≡ old.body.items
  pub offsets : new.offsets.items ≡ old.offsets.items
  pub count : new.num_rows ≡ old.num_rows
  pub front : new.front_key ≡ old.front_key

pub record IsLongerPart (old : RowsPart) (n : ℕ) (r : RowEntry) (new : RowsPart) : Type 0 where
  pub version : new.version ≡ old.version
  pub body : new.body.items ≡ old.body.items ++ row_bytes (number old.version) n r
  pub offsets : new.offsets.items ≡ old.offsets.items ++ named (number old.version) old.num_rows (length old.body.items)
  pub count : new.num_rows ≡ old.num_rows + 1
  pub front : new.front_key ≡ next_front (number old.version) old.num_rows old.front_key r.key

pub record Building : Type 0 where
  pub version : ℕ
  pub size : ℕ
  pub rows : List RowEntry

abbrev pub with_row : Building → RowEntry → Building
with_row b r = record b { rows = b.rows ++ r ∷ [] }
