-- What a checksum tells of a byte that was changed. Each statement is proved in src/reading_laws.rt.
--     IsByteChanged bytes changed      one byte of them is another byte in the changed ones
--     ChangedByteIsTold      a checksum doesn't fit where one byte was changed, of what it covers in a section or of its own
--     SectionsTellChanges      so it is with each section of a table, wherever it lies and in each version
use Rattle.std.specs.Prelude.{◌≡◌, ◌≢◌, ℕ, ◌<◌, false, List, ◌∷◌, ◌++◌, Contains}
use Rattle.slate_types.specs.declared.types.RowEntry.{RowEntry}
use Rattle.slate_types.specs.Outside.{part}
use Rattle.slate_types.specs.World.{Section}
use Rattle.slate_table.specs.Parts.{Encode, sum_fits, summed}
use Rattle.slate_table.specs.Table.{IsTableOf, table_places}

pub record IsByteChanged (bytes changed : List ℕ) : Type 0 where
  pub front : List ℕ
  pub old : ℕ
  pub new : ℕ
  pub behind : List ℕ
  pub was : bytes ≡ front ++ (old ∷ behind)
  pub is : changed ≡ front ++ (new ∷ behind)
  pub old_byte : old < 256
  pub new_byte : new < 256
  pub differs : old ≢ new

abbrev pub ChangedByteIsTold : Type 0
ChangedByteIsTold = (cover stored changed : List ℕ) → IsByteChanged (summed cover stored) changed → sum_fits cover changed ≡ false

abbrev pub SectionsTellChanges : Type 0
SectionsTellChanges = (encode : Encode) (bytes : List ℕ) (version id : ℕ) (blocks : List (List RowEntry)) (filters : List (List ℕ × List ℕ)) → IsTableOf encode bytes version id blocks filters →
    (place : Section) → Contains (table_places encode version id blocks filters) place → (changed : List ℕ) → IsByteChanged (part place.at place.len bytes) changed → sum_fits place.cover changed ≡ false
