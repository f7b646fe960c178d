-- The bytes of a table.
--     table_bytes encode version id blocks filters      the table of this id with these blocks and filters
--     AreInOrder rows      by key upwards, then by sequence downwards, and no two rows have both in common
--     IsTableOf encode bytes version id blocks filters      bytes is that table, and all that it spells fits its fields
--     IsTable encode bytes version id rows      bytes is a table of the rows, cut into blocks in some way, with some filters
--     cut size version rows      the cutting in which a block ends just before a row that doesn't fit
--     IsBuilt encode policies min size version id bytes rows      bytes is the table that is built of the rows
--     block_sections, filters_section, index_section, stats_section      the sections of a table
--     blocks_end, index_start, stats_start, info_start      where the sections behind the blocks begin
--     block_places, filter_place, table_places      where the sections of blocks, of filters, and all sections lie, and what their checksums cover
use Rattle.std.specs.Prelude.{◌≡◌, ℕ, ◌+◌, ◌^◌, ◌<◌, if◌then◌else◌, IsTrue, IsUtf8, sum_by, List, [], ◌∷◌, ◌++◌, map, flat_map, length, Option, Some, None}
use Rattle.std.specs.List.{AllByRecursion}
use Rattle.slate_types.specs.declared.types.RowEntry.{RowEntry}
use Rattle.slate_types.specs.Rows.{row_lt, operand}
use Rattle.slate_types.specs.World.{Section}
use Rattle.slate_block.specs.RowSpelling.{be16, be64}
use Rattle.slate_block.specs.BlockSpelling.{block_bytes, places, as_read, FitsBlock, IsKnown}
use Rattle.slate_block.specs.Fitting.{fits_in}
use Rattle.slate_filter.specs.Policy.{Policy, filters_of}
use Rattle.slate_table.specs.Parts.{Encode, cover_of, block_kind, filters_kind, index_kind, stats_kind, info_kind, section, summed, separators, index_bytes, stats_bytes, info_bytes, filters_bytes, last_key}

abbrev pub filter_section : List ℕ → Encode → List (List ℕ × List ℕ) → List ℕ
filter_section cover encode [] = []
filter_section cover encode (f ∷ fs) = section cover encode (filters_bytes (f ∷ fs))

abbrev pub some_first : List RowEntry → Option (List ℕ)
some_first [] = None
some_first (r ∷ rs) = Some r.key

abbrev pub some_last : List RowEntry → Option (List ℕ)
some_last [] = None
some_last (r ∷ rs) = Some (last_key r.key rs)

-- the info, from the sections before it
abbrev pub info_of : ℕ → List RowEntry → ℕ → List ℕ → List ℕ → List ℕ → List ℕ
info_of version rows at filters index stats = info_bytes version (some_first rows) (some_last rows)
    (record { at = at + length filters; len = length index })
    (record { at = at; len = length filters })
    (record { at = at + length filters + length index; len = length stats })

abbrev pub sections_then_info : ℕ → ℕ → List RowEntry → List ℕ → List ℕ → List ℕ → List ℕ → List ℕ
sections_then_info version id rows blocks filters index stats =
    blocks ++ filters ++ index ++ stats ++ summed (cover_of version id info_kind end) (info_of version rows (length blocks) filters index stats)
    ++ be64 end ++ be16 version
  where
    end : ℕ
    end = length blocks + length filters + length index + length stats

-- ---- sections

-- of blocks, one behind the other
abbrev pub sections_from : ℕ → ℕ → Encode → ℕ → List (List ℕ) → List (List ℕ)
sections_from version id encode at [] = []
sections_from version id encode at (p ∷ ps) =
    section (cover_of version id block_kind at) encode p ∷ sections_from version id encode (at + (length (encode p) + 4)) ps

abbrev pub block_sections : Encode → ℕ → ℕ → List (List RowEntry) → List (List ℕ)
block_sections encode version id blocks = sections_from version id encode 0 (map (λ b. block_bytes version b) blocks)

abbrev pub blocks_end : Encode → ℕ → ℕ → List (List RowEntry) → ℕ
blocks_end encode version id blocks = length (flat_map (λ b. b) (block_sections encode version id blocks))

abbrev pub filters_section : Encode → ℕ → ℕ → List (List RowEntry) → List (List ℕ × List ℕ) → List ℕ
filters_section encode version id blocks filters = filter_section (cover_of version id filters_kind (blocks_end encode version id blocks)) encode filters

abbrev pub index_start : Encode → ℕ → ℕ → List (List RowEntry) → List (List ℕ × List ℕ) → ℕ
index_start encode version id blocks filters = blocks_end encode version id blocks + length (filters_section encode version id blocks filters)

abbrev pub index_section : Encode → ℕ → ℕ → List (List RowEntry) → List (List ℕ × List ℕ) → List ℕ
index_section encode version id blocks filters = section (cover_of version id index_kind (index_start encode version id blocks filters)) encode
    (index_bytes (places 0 (block_sections encode version id blocks)) (separators blocks))

abbrev pub stats_start : Encode → ℕ → ℕ → List (List RowEntry) → List (List ℕ × List ℕ) → ℕ
stats_start encode version id blocks filters = index_start encode version id blocks filters + length (index_section encode version id blocks filters)

abbrev pub stats_section : Encode → ℕ → ℕ → List (List RowEntry) → List (List ℕ × List ℕ) → List ℕ
stats_section encode version id blocks filters = section (cover_of version id stats_kind (stats_start encode version id blocks filters)) encode (stats_bytes blocks)

abbrev pub info_start : Encode → ℕ → ℕ → List (List RowEntry) → List (List ℕ × List ℕ) → ℕ
info_start encode version id blocks filters = stats_start encode version id blocks filters + length (stats_section encode version id blocks filters)

abbrev pub info_section : Encode → ℕ → ℕ → List (List RowEntry) → List (List ℕ × List ℕ) → List ℕ
info_section encode version id blocks filters = summed (cover_of version id info_kind (info_start encode version id blocks filters))
    (info_of version (flat_map (λ b. b) blocks) (blocks_end encode version id blocks) (filters_section encode version id blocks filters)
    (index_section encode version id blocks filters) (stats_section encode version id blocks filters))

abbrev pub table_bytes : Encode → ℕ → ℕ → List (List RowEntry) → List (List ℕ × List ℕ) → List ℕ
table_bytes encode version id blocks filters = sections_then_info version id (flat_map (λ b. b) blocks)
    (flat_map (λ b. b) (block_sections encode version id blocks))
    (filters_section encode version id blocks filters)
    (index_section encode version id blocks filters)
    (stats_section encode version id blocks filters)

-- ---- tables

abbrev pub AreInOrder : List RowEntry → Type 0
AreInOrder [] = Unit {0}
AreInOrder (r ∷ rs) = AllByRecursion (λ s. IsTrue (row_lt r s)) rs × AreInOrder rs

pub record FitsFilter (f : List ℕ × List ℕ) : Type 0 where
  pub name : length f.0 < 2 ^ 16
  pub text : ∥ IsUtf8 f.0 ∥₁
  pub bytes : length f.1 < 2 ^ 64

-- bytes is the table of these blocks of rows, as they were written, and these filters
pub record IsTableOf (encode : Encode) (bytes : List ℕ) (version id : ℕ) (blocks : List (List RowEntry)) (filters : List (List ℕ × List ℕ)) : Type 0 where
  pub known : IsKnown version
  pub named : id < 2 ^ 128
  pub each : AllByRecursion (FitsBlock version) blocks
  pub some : 0 < length blocks
  pub few : length blocks < 2 ^ 32
  pub order : AreInOrder (flat_map (λ b. b) blocks)
  pub each_filter : AllByRecursion FitsFilter filters
  pub few_filters : length filters < 2 ^ 16
  pub key_sum : sum_by (λ r. length r.key) (flat_map (λ b. b) blocks) < 2 ^ 64
  pub value_sum : sum_by (λ r. length (operand r)) (flat_map (λ b. b) blocks) < 2 ^ 64
  pub short : length bytes < 2 ^ 64
  pub is : bytes ≡ table_bytes encode version id blocks filters

-- a table of the rows, cut in some way, with some filters; in version 1 the rows are those that are read
abbrev pub IsTable : Encode → List ℕ → ℕ → ℕ → List RowEntry → Type 0
IsTable encode bytes version id rows = (blocks : List (List RowEntry)) × (filters : List (List ℕ × List ℕ))
    × IsTableOf encode bytes version id blocks filters × (rows ≡ map (as_read version) (flat_map (λ b. b) blocks))

-- ---- cutting

abbrev pub cut_from : ℕ → ℕ → List RowEntry → List RowEntry → List (List RowEntry)
cut_from size version block [] = block ∷ []
cut_from size version block (r ∷ rs) =
    if fits_in size version block r then cut_from size version (block ++ (r ∷ [])) rs else block ∷ cut_from size version (r ∷ []) rs

abbrev pub cut : ℕ → ℕ → List RowEntry → List (List RowEntry)
cut size version [] = []
cut size version (r ∷ rs) = cut_from size version (r ∷ []) rs

-- the table that is built of rows: cut at the block size, with the filters of the policies
abbrev pub IsBuilt : Encode → List Policy → ℕ → ℕ → ℕ → ℕ → List ℕ → List RowEntry → Type 0
IsBuilt encode policies min size version id bytes rows = IsTableOf encode bytes version id (cut size version rows) (filters_of policies min rows)

-- ---- where sections lie

abbrev pub lies : ℕ → ℕ → ℕ → ℕ → List ℕ → Section
lies version id kind at bytes = record { at = at; len = length bytes; cover = cover_of version id kind at }

abbrev pub placed : ℕ → ℕ → ℕ → List (List ℕ) → List Section
placed version id at [] = []
placed version id at (s ∷ ss) = lies version id block_kind at s ∷ placed version id (at + length s) ss

abbrev pub block_places : Encode → ℕ → ℕ → List (List RowEntry) → List Section
block_places encode version id blocks = placed version id 0 (block_sections encode version id blocks)

abbrev pub filter_place : Encode → ℕ → ℕ → List (List RowEntry) → List (List ℕ × List ℕ) → Section
filter_place encode version id blocks filters = lies version id filters_kind (blocks_end encode version id blocks) (filters_section encode version id blocks filters)

-- behind the blocks: filters, index, stats, info
abbrev pub later_places : Encode → ℕ → ℕ → List (List RowEntry) → List (List ℕ × List ℕ) → List Section
later_places encode version id blocks filters =
    filter_place encode version id blocks filters
    ∷ lies version id index_kind (index_start encode version id blocks filters) (index_section encode version id blocks filters)
    ∷ lies version id stats_kind (stats_start encode version id blocks filters) (stats_section encode version id blocks filters)
    ∷ lies version id info_kind (info_start encode version id blocks filters) (info_section encode version id blocks filters) ∷ []

abbrev pub table_places : Encode → ℕ → ℕ → List (List RowEntry) → List (List ℕ × List ℕ) → List Section
table_places encode version id blocks filters = block_places encode version id blocks ++ later_places encode version id blocks filters
