-- What files read of a table that the store holds. Each statement is proved in src/file_laws.rt.
--     table_info encode version id blocks filters      the info of a table
--     table_entries encode version id blocks      the offset and the separator of each block
--     table_stats blocks      the counts of the rows, and the sums of their lengths
--     HoldsTable encode objects path version id blocks filters      the store tells objects, and at the path the table of this id with these blocks and filters
--     PutTablesAreHeld      once a built table was put the store holds it
--     InfosAreTheTables      the info that the last bytes of a table lead to is the table's
--     TablesAreOpened      what is opened is the table's version and its info
--     TablesAreMeasured      what is measured is the length of the object
-- Where the transformer is undone:
--     StatsAreTheTables      the statistics that are read are those of the rows
--     IndexIsTheTables      the index that is read has the table's offsets and separators
--     FiltersAreTheTables      the filters that are read, where the table has a section of them, are those that were built
--     BlocksAreTheTables      the rows that are read of a block are those of the table's block, as they are read
--     BlocksReadAreTheTables      blocks that are read by one read are the table's
--     TablesOpen, StatsAreFound, IndexIsFound, FiltersAreFound, BlocksAreFound      nothing is refused in the opening, of the statistics, of the index, of the filters and of a block that there is, where each number of the object is a byte
use Rattle.std.specs.Prelude.{◌≡◌, ◌<◌, ◌≤◌, ℕ, ◌+◌, List, [], ◌∷◌, length, map, flat_map, sum_by, count_by, slice_get, Option, Some}
use Rattle.slate_types.specs.declared.error.SlateDBError.{SlateDBError}
use Rattle.slate_types.specs.declared.error.SlateDBError.TheVariants.{BlockOutOfRange}
use Rattle.slate_types.specs.declared.types.RowEntry.{RowEntry}
use Rattle.slate_types.specs.Lawful.{IsLawfulTransform}
use Rattle.slate_types.specs.Outside.{Objects}
use Rattle.slate_types.specs.Rows.{operand, is_operand, is_put, is_tombstone}
use Rattle.slate_store.specs.Store.{Act, TakesPut, object_at}
use Rattle.slate_block.specs.declared.block.Block.{Block}
use Rattle.slate_block.specs.BlockSpelling.{places, as_read, IsBlockOf}
use Rattle.slate_block.specs.ReadingLaws.{EachIsAByte}
use Rattle.slate_filter.specs.Policy.{Policy, filters_of}
use Rattle.slate_table.specs.declared.info.SsTableHandle.{SsTableHandle}
use Rattle.slate_table.specs.Parts.{Encode, filters_kind, index_kind, stats_kind, separators}
use Rattle.slate_table.specs.Table.{IsTableOf, IsBuilt, cut, some_first, some_last, block_sections, blocks_end, filters_section, index_section, stats_section}
use Rattle.slate_table.specs.Decoded.{Info, Counts, Stats}
use Rattle.slate_table.specs.TableEnd.{HasInfo}
use Rattle.slate_table.specs.InfoReading.{section_place, seen_info}
use Rattle.slate_table.specs.Reading.{Reads, section_read, IsIndexRead, RefusesIndex, IsStatsRead, RefusesStats, AreFiltersRead, RefusesFilters, AreBlocksRead, block_start, blocks_size}
use Rattle.slate_table.specs.Opening.{IsMeasured, IsOpened, RefusesOpen}
use Rattle.slate_table.specs.Finding.{block_read}
use Rattle.slate_table.specs.FileReading.{ReadsRows, RefusesReadRows}

-- ---- what a table has

-- the places of the sections that begin at the blocks' end
abbrev pub info_from : List RowEntry → ℕ → ℕ → ℕ → ℕ → Info
info_from rows at filters index stats = record {
  first = some_first rows;
  last = some_last rows;
  index = section_place (at + filters) index;
  filters = section_place at filters;
  stats = section_place (at + filters + index) stats;
}

abbrev pub table_info : Encode → ℕ → ℕ → List (List RowEntry) → List (List ℕ × List ℕ) → Info
table_info encode version id blocks filters = info_from (flat_map (λ b. b) blocks) (blocks_end encode version id blocks)
    (length (filters_section encode version id blocks filters)) (length (index_section encode version id blocks filters)) (length (stats_section encode version id blocks filters))

abbrev pub paired : List ℕ → List (List ℕ) → List (ℕ × List ℕ)
paired [] keys = []
paired (at ∷ ats) [] = []
paired (at ∷ ats) (key ∷ keys) = (at, key) ∷ paired ats keys

abbrev pub table_entries : Encode → ℕ → ℕ → List (List RowEntry) → List (ℕ × List ℕ)
table_entries encode version id blocks = paired (places 0 (block_sections encode version id blocks)) (separators blocks)

abbrev pub row_counts : List RowEntry → Counts
row_counts rows = record { puts = count_by is_put rows; deletes = count_by is_tombstone rows; merges = count_by is_operand rows }

abbrev pub rows_stats : List RowEntry → List (List RowEntry) → Stats
rows_stats rows blocks = record {
  all = row_counts rows;
  key_bytes = sum_by (λ r. length r.key) rows;
  value_bytes = sum_by (λ r. length (operand r)) rows;
  blocks = map row_counts blocks;
}

abbrev pub table_stats : List (List RowEntry) → Stats
table_stats blocks = rows_stats (flat_map (λ b. b) blocks) blocks

-- ---- a store that holds it

pub record HoldsTable (encode : Encode) (objects : Option Objects) (path : List ℕ) (version id : ℕ) (blocks : List (List RowEntry)) (filters : List (List ℕ × List ℕ)) : Type 0 where
  pub told : Objects
  pub bytes : List ℕ
  pub tells : objects ≡ Some told
  pub there : object_at told path ≡ Some bytes
  pub is : IsTableOf encode bytes version id blocks filters

-- after: what the store tells then
abbrev pub PutTablesAreHeld : Type 0
PutTablesAreHeld = (encode : Encode) (policies : List Policy) (min size version id : ℕ) (told : Objects) (path bytes : List ℕ) (rows : List RowEntry) (after : Option Objects) →
    IsBuilt encode policies min size version id bytes rows → TakesPut told path bytes after → HoldsTable encode after path version id (cut size version rows) (filters_of policies min rows)

abbrev pub InfosAreTheTables : Type 0
InfosAreTheTables = (encode : Encode) (bytes : List ℕ) (version id : ℕ) (blocks : List (List RowEntry)) (filters : List (List ℕ × List ℕ)) (info : Info) →
    IsTableOf encode bytes version id blocks filters → HasInfo bytes version id info → info ≡ table_info encode version id blocks filters

abbrev pub TablesAreOpened : Type 0
TablesAreOpened = (encode : Encode) (objects : Option Objects) (before after : Option (List Act)) (path : List ℕ) (version found id : ℕ) (blocks : List (List RowEntry)) (filters : List (List ℕ × List ℕ)) (info : Info) →
    HoldsTable encode objects path version id blocks filters → IsOpened objects before after path id found info → (found ≡ version) × (info ≡ table_info encode version id blocks filters)

abbrev pub TablesOpen : Type 0
TablesOpen = (encode : Encode) (objects : Option Objects) (before after : Option (List Act)) (path : List ℕ) (version id : ℕ) (blocks : List (List RowEntry)) (filters : List (List ℕ × List ℕ)) (e : SlateDBError) →
    (holds : HoldsTable encode objects path version id blocks filters) → EachIsAByte holds.bytes → RefusesOpen objects before after path id e → ⊥

abbrev pub TablesAreMeasured : Type 0
TablesAreMeasured = (objects : Option Objects) (before after : Option (List Act)) (told : Objects) (path bytes : List ℕ) (size : Option ℕ) →
    objects ≡ Some told → object_at told path ≡ Some bytes → IsMeasured objects before after path size → size ≡ Some (length bytes)

abbrev pub StatsAreTheTables : Type 0
StatsAreTheTables = (encode decode : Encode) → IsLawfulTransform encode decode → (objects : Option Objects) (before after : Option (List Act)) (path : List ℕ) (version id : ℕ) (blocks : List (List RowEntry)) (filters : List (List ℕ × List ℕ)) (stats : Stats) →
    HoldsTable encode objects path version id blocks filters → let info = table_info encode version id blocks filters in
    Reads objects before after path info.stats.at info.stats.len (λ answer. IsStatsRead decode (section_read version id stats_kind info.stats.at answer) stats) → stats ≡ table_stats blocks

abbrev pub StatsAreFound : Type 0
StatsAreFound = (encode decode : Encode) → IsLawfulTransform encode decode → (objects : Option Objects) (before after : Option (List Act)) (path : List ℕ) (version id : ℕ) (blocks : List (List RowEntry)) (filters : List (List ℕ × List ℕ)) (e : SlateDBError) →
    (holds : HoldsTable encode objects path version id blocks filters) → EachIsAByte holds.bytes → let info = table_info encode version id blocks filters in
    Reads objects before after path info.stats.at info.stats.len (λ answer. RefusesStats decode (section_read version id stats_kind info.stats.at answer) e) → ⊥

abbrev pub IndexIsTheTables : Type 0
IndexIsTheTables = (encode decode : Encode) → IsLawfulTransform encode decode → (objects : Option Objects) (before after : Option (List Act)) (path : List ℕ) (version id : ℕ) (blocks : List (List RowEntry)) (filters : List (List ℕ × List ℕ)) (entries : List (ℕ × List ℕ)) →
    HoldsTable encode objects path version id blocks filters → let info = table_info encode version id blocks filters in
    Reads objects before after path info.index.at info.index.len (λ answer. IsIndexRead decode info.filters.at (section_read version id index_kind info.index.at answer) entries) → entries ≡ table_entries encode version id blocks

abbrev pub IndexIsFound : Type 0
IndexIsFound = (encode decode : Encode) → IsLawfulTransform encode decode → (objects : Option Objects) (before after : Option (List Act)) (path : List ℕ) (version id : ℕ) (blocks : List (List RowEntry)) (filters : List (List ℕ × List ℕ)) (e : SlateDBError) →
    (holds : HoldsTable encode objects path version id blocks filters) → EachIsAByte holds.bytes → let info = table_info encode version id blocks filters in
    Reads objects before after path info.index.at info.index.len (λ answer. RefusesIndex decode info.filters.at (section_read version id index_kind info.index.at answer) e) → ⊥

abbrev pub FiltersAreTheTables : Type 0
FiltersAreTheTables = (encode decode : Encode) → IsLawfulTransform encode decode → (objects : Option Objects) (before after : Option (List Act)) (path : List ℕ) (version id : ℕ) (blocks : List (List RowEntry)) (filters found : List (List ℕ × List ℕ)) →
    HoldsTable encode objects path version id blocks filters → let info = table_info encode version id blocks filters in 0 < info.filters.len →
    Reads objects before after path info.filters.at info.filters.len (λ answer. AreFiltersRead decode (section_read version id filters_kind info.filters.at answer) found) → found ≡ filters

abbrev pub FiltersAreFound : Type 0
FiltersAreFound = (encode decode : Encode) → IsLawfulTransform encode decode → (objects : Option Objects) (before after : Option (List Act)) (path : List ℕ) (version id : ℕ) (blocks : List (List RowEntry)) (filters : List (List ℕ × List ℕ)) (e : SlateDBError) →
    (holds : HoldsTable encode objects path version id blocks filters) → EachIsAByte holds.bytes → let info = table_info encode version id blocks filters in 0 < info.filters.len →
    Reads objects before after path info.filters.at info.filters.len (λ answer. RefusesFilters decode (section_read version id filters_kind info.filters.at answer) e) → ⊥

abbrev pub BlocksAreTheTables : Type 0
BlocksAreTheTables = (encode decode : Encode) → IsLawfulTransform encode decode → (objects : Option Objects) (before after : Option (List Act)) (path : List ℕ) (blocks : List (List RowEntry)) (filters : List (List ℕ × List ℕ)) (table : SsTableHandle) (block : ℕ) (rows : List RowEntry) →
    HoldsTable encode objects path table.format_version table.id.0 blocks filters → seen_info table.info ≡ table_info encode table.format_version table.id.0 blocks filters → ReadsRows decode objects before after path table block rows →
    (written : List RowEntry) × (slice_get blocks block ≡ Some written) × (rows ≡ map (as_read table.format_version) written)

-- at: the place of the block among those that were read
abbrev pub BlocksReadAreTheTables : Type 0
BlocksReadAreTheTables = (encode decode : Encode) → IsLawfulTransform encode decode → (objects : Option Objects) (before after : Option (List Act)) (path : List ℕ) (version id : ℕ) (blocks : List (List RowEntry)) (filters : List (List ℕ × List ℕ)) (first stop at : ℕ) (found : List Block) (block : Block) (written : List RowEntry) →
    HoldsTable encode objects path version id blocks filters → let info = table_info encode version id blocks filters in let end = info.filters.at in let entries = table_entries encode version id blocks in
    Reads objects before after path (block_start end entries first) (blocks_size end entries first stop) (λ answer. AreBlocksRead decode (block_read version id info entries first answer) first found) →
    slice_get found at ≡ Some block → first + at < stop → slice_get blocks (first + at) ≡ Some written → IsBlockOf block.body block.offsets.items version (map (as_read version) written)

abbrev pub BlocksAreFound : Type 0
BlocksAreFound = (encode decode : Encode) → IsLawfulTransform encode decode → (objects : Option Objects) (before after : Option (List Act)) (path : List ℕ) (blocks : List (List RowEntry)) (filters : List (List ℕ × List ℕ)) (table : SsTableHandle) (block : ℕ) (e : SlateDBError) →
    (holds : HoldsTable encode objects path table.format_version table.id.0 blocks filters) → EachIsAByte holds.bytes → seen_info table.info ≡ table_info encode table.format_version table.id.0 blocks filters → RefusesReadRows decode objects before after path table block e →
    (length blocks ≤ block) × (e ≡ BlockOutOfRange block (length blocks))
