-- The parts of a table.
--     cover_of version id kind at      what the checksum of a section covers beside its bytes: in version 3 the table's id, the section's kind and its place
--     section_sum version id kind at bytes      the checksum of a section's bytes
--     summed cover bytes, sum_fits cover bytes      the bytes with their checksum behind, and whether the last four bytes are the checksum of the rest
--     section cover encode part      the transformed part and its checksum
--     first_key block, last_key k block      the first and the last key of a block's rows
--     separators blocks      a block's first key, cut one byte past its common front with the key before it
--     Place      where a section lies
--     index_bytes, stats_bytes, info_bytes, filters_bytes      the layouts
use Rattle.std.specs.Prelude.{ℕ, ◌+◌, ◌-◌, ◌==◌, Bool, if◌then◌else◌, List, [], ◌∷◌, ◌++◌, flat_map, length, take, drop, sum_by, count_by, Option, Some, None, bytes_eq}
use Rattle.std.specs.Int.{w128, to_be_bytes}
use Rattle.slate_types.specs.declared.types.RowEntry.{RowEntry}
use Rattle.slate_types.specs.Rows.{operand, is_operand, is_put, is_tombstone}
use Rattle.slate_block.specs.RowSpelling.{be16, be32, be64}
use Rattle.slate_block.specs.BlockSpelling.{longest}
use Rattle.slate_table.specs.Checksum.{crc32}

abbrev pub Encode : Type 0
Encode = List ℕ → List ℕ

-- ---- checksums

abbrev pub block_kind : ℕ
block_kind = 1

abbrev pub filters_kind : ℕ
filters_kind = 2

abbrev pub index_kind : ℕ
index_kind = 3

abbrev pub stats_kind : ℕ
stats_kind = 4

abbrev pub info_kind : ℕ
info_kind = 5

abbrev pub cover_of : ℕ → ℕ → ℕ → ℕ → List ℕ
cover_of version id kind at = if version == 3 then to_be_bytes w128 id ++ kind ∷ be64 at else []

abbrev pub section_sum : ℕ → ℕ → ℕ → ℕ → List ℕ → ℕ
section_sum version id kind at bytes = crc32 (cover_of version id kind at ++ bytes)

abbrev pub summed : List ℕ → List ℕ → List ℕ
summed cover bytes = bytes ++ be32 (crc32 (cover ++ bytes))

abbrev pub sum_fits : List ℕ → List ℕ → Bool
sum_fits cover bytes = bytes_eq (drop (length bytes - 4) bytes) (be32 (crc32 (cover ++ take (length bytes - 4) bytes)))

abbrev pub section : List ℕ → Encode → List ℕ → List ℕ
section cover encode part = summed cover (encode part)

-- ---- separators

abbrev pub first_key : List RowEntry → List ℕ
first_key [] = []
first_key (r ∷ rs) = r.key

abbrev pub last_key : List ℕ → List RowEntry → List ℕ
last_key k [] = k
last_key k (r ∷ rs) = last_key r.key rs

-- the whole key where both are equal
abbrev pub separator : List ℕ → List ℕ → List ℕ
separator previous key = if bytes_eq previous key then key else take (longest previous key + 1) key

abbrev pub later_separators : List ℕ → List (List RowEntry) → List (List ℕ)
later_separators previous [] = []
later_separators previous (b ∷ bs) = separator previous (first_key b) ∷ later_separators (last_key previous b) bs

-- of the first block it is the whole first key
abbrev pub separators : List (List RowEntry) → List (List ℕ)
separators [] = []
separators (b ∷ bs) = first_key b ∷ later_separators (last_key [] b) bs

-- ---- layouts

abbrev pub index_entries : List ℕ → List (List ℕ) → List ℕ
index_entries [] ks = []
index_entries (at ∷ ats) [] = []
index_entries (at ∷ ats) (k ∷ ks) = be64 at ++ be16 (length k) ++ k ++ index_entries ats ks

abbrev pub index_bytes : List ℕ → List (List ℕ) → List ℕ
index_bytes ats ks = be32 (length ats) ++ index_entries ats ks

abbrev pub counts : (ℕ → List ℕ) → List RowEntry → List ℕ
counts be rows = be (count_by is_put rows) ++ be (count_by is_tombstone rows) ++ be (count_by is_operand rows)

abbrev pub stats_bytes : List (List RowEntry) → List ℕ
stats_bytes blocks = counts be64 rows ++ be64 (sum_by (λ r. length r.key) rows) ++ be64 (sum_by (λ r. length (operand r)) rows)
    ++ be32 (length blocks) ++ flat_map (counts be16) blocks
  where
    rows : List RowEntry
    rows = flat_map (λ b. b) blocks

-- where a section lies, and its length with the checksum
pub record Place : Type 0 where
  pub at : ℕ
  pub len : ℕ

abbrev pub place_bytes : Place → List ℕ
place_bytes p = be64 p.at ++ be64 p.len

abbrev pub key_bytes : Option (List ℕ) → List ℕ
key_bytes None = 0 ∷ []
key_bytes (Some k) = 1 ∷ be16 (length k) ++ k

abbrev pub info_bytes : ℕ → Option (List ℕ) → Option (List ℕ) → Place → Place → Place → List ℕ
info_bytes version first last index filters stats =
    be16 version ++ key_bytes first ++ key_bytes last ++ place_bytes index ++ place_bytes filters ++ place_bytes stats ++ (0 ∷ 1 ∷ [])

-- a name and the bytes of its filter
abbrev pub filter_bytes : List ℕ × List ℕ → List ℕ
filter_bytes f = be16 (length f.0) ++ f.0 ++ be64 (length f.1) ++ f.1

abbrev pub filters_bytes : List (List ℕ × List ℕ) → List ℕ
filters_bytes fs = be16 (length fs) ++ flat_map filter_bytes fs
