-- A table that is being built.
--     Cutting      blocks that were ended, and the rows behind them
--     cut_more size version c r      the same with a row more, which ends a block where it doesn't fit
--     cutting size version rows      the rows, cut one after the other
--     all_blocks c      the blocks of a cutting, the last one not ended
--     TableBuilding      what a builder is seen as: its version, the table's id, its block size, from how many rows on a table has filters, the rows
--                        that were added, the sections of the blocks that were ended and where they begin
--     AreSections encode version id blocks bytes offsets      the bytes are the sections of the blocks, which begin at the offsets
--     begun version id size min      a builder with no row
--     section_size encode b r      the size of the section of the block that a row ends
--     max_blocks, HasTooManyBlocks b r      how many blocks a table has at most; with this row it would have more
--     AreEncoded encode b      the sections of the blocks that were ended were made by this transformer
use Rattle.std.specs.Prelude.{◌≡◌, ℕ, ◌-◌, ◌^◌, ◌<◌, if◌then◌else◌, List, [], ◌∷◌, ◌++◌, length, fold, flat_map, Option, Some, None}
use Rattle.slate_types.specs.declared.types.RowEntry.{RowEntry}
use Rattle.slate_block.specs.BlockSpelling.{places, block_bytes}
use Rattle.slate_block.specs.Fitting.{fits_in}
use Rattle.slate_table.specs.Parts.{Encode, cover_of, block_kind, section}
use Rattle.slate_table.specs.Table.{block_sections, cut}

pub record Cutting : Type 0 where
  pub ended : List (List RowEntry)
  pub filling : List RowEntry

abbrev pub cut_more : ℕ → ℕ → Cutting → RowEntry → Cutting
cut_more size version c r = if fits_in size version c.filling r then record { ended = c.ended; filling = c.filling ++ r ∷ [] }
    else record { ended = c.ended ++ c.filling ∷ []; filling = r ∷ [] }

unfoldable pub cutting : ℕ → ℕ → List RowEntry → Cutting
cutting size version rows = fold (cut_more size version) (record { ended = []; filling = [] }) rows

abbrev pub with_last : List (List RowEntry) → List RowEntry → List (List RowEntry)
with_last ended [] = ended
with_last ended (r ∷ rs) = ended ++ (r ∷ rs) ∷ []

abbrev pub all_blocks : Cutting → List (List RowEntry)
all_blocks c = with_last c.ended c.filling

pub record TableBuilding : Type 0 where
  pub version : ℕ
  pub id : ℕ
  pub size : ℕ
  pub min : ℕ
  pub rows : List RowEntry
  pub bytes : List ℕ
  pub offsets : List ℕ

abbrev pub cut_rows : TableBuilding → Cutting
cut_rows b = cutting b.size b.version b.rows

pub record AreSections (encode : Encode) (version id : ℕ) (blocks : List (List RowEntry)) (bytes offsets : List ℕ) : Type 0 where
  pub are_bytes : bytes ≡ flat_map (λ s. s) (block_sections encode version id blocks)
  pub are_offsets : offsets ≡ places 0 (block_sections encode version id blocks)

abbrev pub AreEncoded : Encode → TableBuilding → Type 0
AreEncoded encode b = AreSections encode b.version b.id (cut_rows b).ended b.bytes b.offsets

abbrev pub begun : ℕ → ℕ → ℕ → ℕ → TableBuilding
begun version id size min = record { version = version; id = id; size = size; min = min; rows = []; bytes = []; offsets = [] }

-- of the block that the row ends, where it doesn't fit
abbrev pub section_size : Encode → TableBuilding → RowEntry → Option ℕ
section_size encode b r = if fits_in b.size b.version (cut_rows b).filling r then None else Some (length (section (cover_of b.version b.id block_kind (length b.bytes)) encode (block_bytes b.version (cut_rows b).filling)))

abbrev pub max_blocks : ℕ
max_blocks = 2 ^ 32 - 1

abbrev pub HasTooManyBlocks : TableBuilding → RowEntry → Type 0
HasTooManyBlocks b r = max_blocks < length (cut b.size b.version (b.rows ++ r ∷ []))
