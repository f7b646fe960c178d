-- What a table builder keeps, and how a row changes it.
--     version_of format      the number of a block format
--     cover_behind p      what the checksum of the next block's section covers beside its bytes
--     separator_behind rows key      the separator of a block that begins with a key behind these rows
--     cut_parts p      the rows, cut one after the other
--     seen min p      the builder that keeps it, where tables have filters from so many rows on
--     StandsOn c p, Stands p      what is kept is that of the rows, so cut
--     IsSame old new      nothing of it changed but room
--     HasSectionRoom len p      there is room for the section of a block that is stored in so many bytes
--     IsEndedBy stored next old new      the block, which is stored so, was ended, and the next one follows
--     IsEnded encode old new      the block was ended, and its section stands behind the others
--     IsInBlock old r new, IsBegun stored old r new      the row was written into the block, or into the next one
--     IsWritten encode old r new      the row was written where it fits
--     IsKept old r new      a row that was written is one of the rows
--     IsTaken old r new, IsBehind encode old r new      the row was taken into the block, or behind the block that it ended
--     IsAdded encode old r new      the row was taken where it fits
--     ended_size encode p r      the length of the section of the block that the row ended
--     HasSums p r      the lengths of all keys, and of all values, have a sum with the row's
--     IsFull p r      the row would make a block too many
use Rattle.std.specs.Prelude.{◌≡◌, ℕ, ◌+◌, ◌^◌, ◌<◌, ◌≤◌, ◌⊎◌, Bool, true, false, if◌then◌else◌, ◌==◌, List, [], ◌∷◌, ◌++◌, length, map, sum_by, vec_len, vec_capacity, Option, Some, None}
use Rattle.std.specs.List.{AllByRecursion}
use Rattle.slate_types.specs.declared.types.RowEntry.{RowEntry}
use Rattle.slate_types.specs.declared.config.BlockFormat.{BlockFormat}
use Rattle.slate_types.specs.declared.config.BlockFormat.TheVariants.{V1, V2, V3, Latest}
use Rattle.slate_types.specs.Rows.{operand}
use Rattle.slate_block.specs.BlockSpelling.{block_bytes, FitsBlock}
use Rattle.slate_block.specs.Building.{Building, CanTake, with_row}
use Rattle.slate_block.specs.Counting.{Counting, stats_of}
use Rattle.slate_block.specs.Fitting.{fits_in}
use Rattle.slate_table.specs.declared.table_parts.TableParts.{TableParts}
use Rattle.slate_table.specs.Parts.{Encode, cover_of, block_kind, section, summed, separator, separators, last_key}
use Rattle.slate_table.specs.Table.{AreInOrder}
use Rattle.slate_table.specs.TableBuilding.{Cutting, cutting, all_blocks, TableBuilding, max_blocks}

abbrev pub version_of : BlockFormat → ℕ
version_of V1 = 1
version_of V2 = 2
version_of V3 = 3
version_of Latest = 2

-- what the checksum of the block's section covers, which stands behind those of the blocks that were ended
abbrev pub cover_behind : TableParts → List ℕ
cover_behind p = cover_of (version_of p.format) p.id.0 block_kind (length p.bytes.items)

abbrev pub separator_behind : List RowEntry → List ℕ → List ℕ
separator_behind [] key = key
separator_behind (r ∷ rs) key = separator (last_key [] (r ∷ rs)) key

abbrev pub cut_parts : TableParts → Cutting
cut_parts p = cutting p.block_size (version_of p.format) p.rows.items

abbrev pub seen : ℕ → TableParts → TableBuilding
seen min p = record { version = version_of p.format; id = p.id.0; size = p.block_size; min = min; rows = p.rows.items; bytes = p.bytes.items; offsets = p.offsets.items }

abbrev pub filled : TableParts → List RowEntry → Building
filled p rows = record { version = version_of p.format; size = p.block_size; rows = rows }

pub record StandsOn (c : Cutting) (p : TableParts) : Type 0 where
  pub some : 0 < p.block_size
  pub few : p.block_size ≤ 65535
  pub builder : p.block.builder ≡ filled p c.filling
  pub counts : p.block.stats ≡ stats_of c.filling
  pub separators : p.separators.items ≡ separators (all_blocks c)
  pub stats : p.block_stats.items ≡ map stats_of c.ended
  pub begins : length p.offsets.items ≡ length c.ended
  pub blocks : length p.separators.items < 2 ^ 32
  pub each : AllByRecursion (FitsBlock (version_of p.format)) c.ended
  pub order : AreInOrder p.rows.items
  pub lengths : AllByRecursion CanTake p.rows.items
  pub keys : p.raw_key_size ≡ sum_by (λ r. length r.key) p.rows.items
  pub values : p.raw_val_size ≡ sum_by (λ r. length (operand r)) p.rows.items

abbrev pub Stands : TableParts → Type 0
Stands p = StandsOn (cut_parts p) p

pub record IsSame (old new : TableParts) : Type 0 where
  pub size : new.block_size ≡ old.block_size
  pub format : new.format ≡ old.format
  pub id : new.id ≡ old.id
  pub rows : new.rows.items ≡ old.rows.items
  pub block : new.block ≡ old.block
  pub bytes : new.bytes.items ≡ old.bytes.items
  pub offsets : new.offsets.items ≡ old.offsets.items
  pub separators : new.separators.items ≡ old.separators.items
  pub stats : new.block_stats.items ≡ old.block_stats.items
  pub keys : new.raw_key_size ≡ old.raw_key_size
  pub values : new.raw_val_size ≡ old.raw_val_size

pub record HasSectionRoom (len : ℕ) (p : TableParts) : Type 0 where
  pub bytes : vec_len p.bytes + (len + 4) ≤ vec_capacity p.bytes
  pub offsets : vec_len p.offsets < vec_capacity p.offsets
  pub stats : vec_len p.block_stats < vec_capacity p.block_stats

pub record IsEndedBy (stored : List ℕ) (next : Counting) (old new : TableParts) : Type 0 where
  pub size : new.block_size ≡ old.block_size
  pub format : new.format ≡ old.format
  pub id : new.id ≡ old.id
  pub separators : new.separators.items ≡ old.separators.items
  pub keys : new.raw_key_size ≡ old.raw_key_size
  pub values : new.raw_val_size ≡ old.raw_val_size
  pub block : new.block ≡ next
  pub bytes : new.bytes.items ≡ old.bytes.items ++ summed (cover_behind old) stored
  pub offsets : new.offsets.items ≡ old.offsets.items ++ length old.bytes.items ∷ []
  pub stats : new.block_stats.items ≡ old.block_stats.items ++ old.block.stats ∷ []

pub record IsEnded (encode : Encode) (old new : TableParts) : Type 0 where
  pub size : new.block_size ≡ old.block_size
  pub format : new.format ≡ old.format
  pub id : new.id ≡ old.id
  pub rows : new.rows.items ≡ old.rows.items
  pub separators : new.separators.items ≡ old.separators.items
  pub keys : new.raw_key_size ≡ old.raw_key_size
  pub values : new.raw_val_size ≡ old.raw_val_size
  pub bytes : new.bytes.items ≡ old.bytes.items ++ section (cover_behind old) encode (block_bytes old.block.builder.version old.block.builder.rows)
  pub offsets : new.offsets.items ≡ old.offsets.items ++ length old.bytes.items ∷ []
  pub stats : new.block_stats.items ≡ old.block_stats.items ++ old.block.stats ∷ []
  pub fits : FitsBlock old.block.builder.version old.block.builder.rows

pub record IsInBlock (old : TableParts) (r : RowEntry) (new : TableParts) : Type 0 where
  pub size : new.block_size ≡ old.block_size
  pub format : new.format ≡ old.format
  pub id : new.id ≡ old.id
  pub rows : new.rows.items ≡ old.rows.items
  pub separators : new.separators.items ≡ (if length old.block.builder.rows == 0 then old.separators.items ++ separator_behind old.rows.items r.key ∷ [] else old.separators.items)
  pub keys : new.raw_key_size ≡ old.raw_key_size
  pub values : new.raw_val_size ≡ old.raw_val_size
  pub builder : new.block.builder ≡ with_row old.block.builder r
  pub counts : (counted : List RowEntry) → old.block.stats ≡ stats_of counted → new.block.stats ≡ stats_of (counted ++ r ∷ [])
  pub bytes : new.bytes.items ≡ old.bytes.items
  pub offsets : new.offsets.items ≡ old.offsets.items
  pub stats : new.block_stats.items ≡ old.block_stats.items

pub record IsBegun (stored : List ℕ) (old : TableParts) (r : RowEntry) (new : TableParts) : Type 0 where
  pub size : new.block_size ≡ old.block_size
  pub format : new.format ≡ old.format
  pub id : new.id ≡ old.id
  pub rows : new.rows.items ≡ old.rows.items
  pub separators : new.separators.items ≡ old.separators.items ++ separator_behind old.rows.items r.key ∷ []
  pub keys : new.raw_key_size ≡ old.raw_key_size
  pub values : new.raw_val_size ≡ old.raw_val_size
  pub builder : new.block.builder ≡ filled old (r ∷ [])
  pub counts : new.block.stats ≡ stats_of (r ∷ [])
  pub bytes : new.bytes.items ≡ old.bytes.items ++ summed (cover_behind old) stored
  pub offsets : new.offsets.items ≡ old.offsets.items ++ length old.bytes.items ∷ []
  pub stats : new.block_stats.items ≡ old.block_stats.items ++ old.block.stats ∷ []

abbrev pub fits_parts : TableParts → RowEntry → Bool
fits_parts p r = fits_in p.block.builder.size p.block.builder.version p.block.builder.rows r

abbrev pub IsWritten : Encode → TableParts → RowEntry → TableParts → Type 0
IsWritten encode old r new = ((fits_parts old r ≡ true) × IsInBlock old r new)
    ⊎ ((fits_parts old r ≡ false) × FitsBlock old.block.builder.version old.block.builder.rows × IsBegun (encode (block_bytes old.block.builder.version old.block.builder.rows)) old r new)

pub record IsKept (old : TableParts) (r : RowEntry) (new : TableParts) : Type 0 where
  pub size : new.block_size ≡ old.block_size
  pub format : new.format ≡ old.format
  pub id : new.id ≡ old.id
  pub rows : new.rows.items ≡ old.rows.items ++ r ∷ []
  pub block : new.block ≡ old.block
  pub bytes : new.bytes ≡ old.bytes
  pub offsets : new.offsets ≡ old.offsets
  pub separators : new.separators ≡ old.separators
  pub stats : new.block_stats ≡ old.block_stats
  pub keys : new.raw_key_size ≡ old.raw_key_size + length r.key
  pub values : new.raw_val_size ≡ old.raw_val_size + length (operand r)

pub record IsTaken (old : TableParts) (r : RowEntry) (new : TableParts) : Type 0 where
  pub size : new.block_size ≡ old.block_size
  pub format : new.format ≡ old.format
  pub id : new.id ≡ old.id
  pub rows : new.rows.items ≡ old.rows.items ++ r ∷ []
  pub separators : new.separators.items ≡ (if length old.block.builder.rows == 0 then old.separators.items ++ separator_behind old.rows.items r.key ∷ [] else old.separators.items)
  pub keys : new.raw_key_size ≡ old.raw_key_size + length r.key
  pub values : new.raw_val_size ≡ old.raw_val_size + length (operand r)
  pub builder : new.block.builder ≡ with_row old.block.builder r
  pub counts : (counted : List RowEntry) → old.block.stats ≡ stats_of counted → new.block.stats ≡ stats_of (counted ++ r ∷ [])
  pub bytes : new.bytes.items ≡ old.bytes.items
  pub offsets : new.offsets.items ≡ old.offsets.items
  pub stats : new.block_stats.items ≡ old.block_stats.items

pub record IsBehind (encode : Encode) (old : TableParts) (r : RowEntry) (new : TableParts) : Type 0 where
  pub size : new.block_size ≡ old.block_size
  pub format : new.format ≡ old.format
  pub id : new.id ≡ old.id
  pub rows : new.rows.items ≡ old.rows.items ++ r ∷ []
  pub separators : new.separators.items ≡ old.separators.items ++ separator_behind old.rows.items r.key ∷ []
  pub keys : new.raw_key_size ≡ old.raw_key_size + length r.key
  pub values : new.raw_val_size ≡ old.raw_val_size + length (operand r)
  pub builder : new.block.builder ≡ filled old (r ∷ [])
  pub counts : new.block.stats ≡ stats_of (r ∷ [])
  pub bytes : new.bytes.items ≡ old.bytes.items ++ section (cover_behind old) encode (block_bytes old.block.builder.version old.block.builder.rows)
  pub offsets : new.offsets.items ≡ old.offsets.items ++ length old.bytes.items ∷ []
  pub stats : new.block_stats.items ≡ old.block_stats.items ++ old.block.stats ∷ []
  pub fits : FitsBlock old.block.builder.version old.block.builder.rows

abbrev pub IsAdded : Encode → TableParts → RowEntry → TableParts → Type 0
IsAdded encode old r new = ((fits_parts old r ≡ true) × IsTaken old r new) ⊎ ((fits_parts old r ≡ false) × IsBehind encode old r new)

-- the length of the section of the block that the row ended
abbrev pub ended_size : Encode → TableParts → RowEntry → Option ℕ
ended_size encode p r = if fits_parts p r then None else Some (length (section (cover_behind p) encode (block_bytes p.block.builder.version p.block.builder.rows)))

pub record HasSums (p : TableParts) (r : RowEntry) : Type 0 where
  pub keys : p.raw_key_size + length r.key < 2 ^ 64
  pub values : p.raw_val_size + length (operand r) < 2 ^ 64

-- where the row begins a block
abbrev pub IsFull : TableParts → RowEntry → Type 0
IsFull p r = (fits_parts p r ≡ false) × (max_blocks ≤ length p.separators.items)
