-- What stands behind the blocks of a table that is built.
--     counted_bytes rows keys values blocks      the bytes of the statistics, from the rows, the sums of lengths, and the blocks' counts
--     placed_info rows at end      the info of a table whose sections behind the blocks begin there, and whose last one ends there
--     part_of_info version i      the bytes of an info
--     HasInfo bytes version id i      the last bytes of the table lead to that info, whose sections lie before it
--     EndsAt version id rows at old new i      that info and the last bytes were appended, where the sections behind the blocks begin there
--     HasShortNames filters      filters are few, and the fields of their names have room
--     parts_bytes encode filters p      the table with these filters, from what is kept once the last block was ended
--     IsFiltered encode filters old new      the section of the filters was appended, where there are any
--     IsSealed encode old at new      the sections of the index and of the statistics were appended, of which the second begins there
--     IsReady p      what is kept fits the fields of an index, of statistics and of an info
--     IsFinished encode filters p bytes i      the bytes are the table of what was kept, once the last block was ended, with these filters and that info
--     EncodedTable      what a built table is seen as: its bytes, its info, its version and its id
use Rattle.std.specs.Prelude.{◌≡◌, ℕ, ◌-◌, ◌^◌, ◌<◌, List, ◌++◌, length, map, flat_map, string_bytes}
use Rattle.std.specs.List.{AllByRecursion}
use Rattle.slate_types.specs.declared.types.RowEntry.{RowEntry}
use Rattle.slate_types.specs.declared.types.Ulid.{Ulid}
use Rattle.slate_block.specs.declared.block.BlockStats.{BlockStats}
use Rattle.slate_block.specs.RowSpelling.{be16, be32, be64}
use Rattle.slate_filter.specs.declared.named_filter.NamedFilter.{NamedFilter}
use Rattle.slate_table.specs.declared.table_parts.TableParts.{TableParts}
use Rattle.slate_table.specs.declared.table_end.SectionOffsets.{SectionOffsets}
use Rattle.slate_table.specs.declared.info.SsTableInfo.{SsTableInfo}
use Rattle.slate_table.specs.Parts.{Encode, cover_of, filters_kind, index_kind, stats_kind, info_kind, section, summed, counts, index_bytes, info_bytes}
use Rattle.slate_table.specs.Table.{FitsFilter, filter_section, some_first, some_last, sections_then_info}
use Rattle.slate_table.specs.Decoded.{Info, IsInfo, FitsShort, SectionsLieBefore, counts_bytes}
use Rattle.slate_table.specs.InfoReading.{section_place, seen_info}
use Rattle.slate_table.specs.SectionReading.{footer_bytes}
use Rattle.slate_table.specs.StatsReading.{counts_of}
use Rattle.slate_table.specs.TableParts.{version_of, IsEnded}

abbrev pub counted_bytes : List RowEntry → ℕ → ℕ → List BlockStats → List ℕ
counted_bytes rows keys values blocks = counts be64 rows ++ be64 keys ++ be64 values ++ be32 (length (map counts_of blocks)) ++ flat_map (counts_bytes be16) (map counts_of blocks)

abbrev pub placed_info : List RowEntry → SectionOffsets → ℕ → Info
placed_info rows at end = record {
  first = some_first rows;
  last = some_last rows;
  index = section_place at.index (at.stats - at.index);
  filters = section_place at.filters (at.index - at.filters);
  stats = section_place at.stats (end - at.stats);
}

abbrev pub part_of_info : ℕ → Info → List ℕ
part_of_info version i = info_bytes version i.first i.last i.index i.filters i.stats

pub record HasInfo (bytes : List ℕ) (version id : ℕ) (i : Info) : Type 0 where
  pub before : List ℕ
  pub part : List ℕ
  pub is : bytes ≡ before ++ (summed (cover_of version id info_kind (length before)) part ++ footer_bytes (length before) version)
  pub spelled : IsInfo version part i
  pub lies : SectionsLieBefore (length before) i

pub record EndsAt (version id : ℕ) (rows : List RowEntry) (at : SectionOffsets) (old new : List ℕ) (i : Info) : Type 0 where
  pub is : new ≡ old ++ (summed (cover_of version id info_kind (length old)) (part_of_info version (placed_info rows at (length old))) ++ footer_bytes (length old) version)
  pub info : HasInfo new version id i

abbrev pub parts_index : TableParts → List ℕ
parts_index p = index_bytes p.offsets.items p.separators.items

abbrev pub parts_stats : TableParts → List ℕ
parts_stats p = counted_bytes p.rows.items p.raw_key_size p.raw_val_size p.block_stats.items

pub record HasShortNames (filters : List NamedFilter) : Type 0 where
  pub few : length filters < 2 ^ 16
  pub each : AllByRecursion (λ f. length (string_bytes f.name) < 2 ^ 16) filters

-- the section of a kind and a part behind these bytes of the table
abbrev pub behind : Encode → ℕ → TableParts → List ℕ → List ℕ → List ℕ
behind encode kind p before part = section (cover_of (version_of p.format) p.id.0 kind (length before)) encode part

abbrev pub filters_behind : Encode → List (List ℕ × List ℕ) → TableParts → List ℕ
filters_behind encode filters p = filter_section (cover_of (version_of p.format) p.id.0 filters_kind (length p.bytes.items)) encode filters

abbrev pub index_behind : Encode → List ℕ → TableParts → List ℕ
index_behind encode before p = behind encode index_kind p before (parts_index p)

abbrev pub stats_behind : Encode → List ℕ → TableParts → List ℕ
stats_behind encode before p = behind encode stats_kind p before (parts_stats p)

abbrev pub parts_bytes : Encode → List (List ℕ × List ℕ) → TableParts → List ℕ
parts_bytes encode filters p = sections_then_info (version_of p.format) p.id.0 p.rows.items p.bytes.items
    (filters_behind encode filters p)
    (index_behind encode (p.bytes.items ++ filters_behind encode filters p) p)
    (stats_behind encode ((p.bytes.items ++ filters_behind encode filters p) ++ index_behind encode (p.bytes.items ++ filters_behind encode filters p) p) p)

pub record IsFiltered (encode : Encode) (filters : List (List ℕ × List ℕ)) (old new : TableParts) : Type 0 where
  pub bytes : new.bytes.items ≡ old.bytes.items ++ filters_behind encode filters old
  pub rows : new.rows.items ≡ old.rows.items
  pub format : new.format ≡ old.format
  pub id : new.id ≡ old.id
  pub offsets : new.offsets.items ≡ old.offsets.items
  pub separators : new.separators.items ≡ old.separators.items
  pub stats : new.block_stats.items ≡ old.block_stats.items
  pub keys : new.raw_key_size ≡ old.raw_key_size
  pub values : new.raw_val_size ≡ old.raw_val_size
  pub each : AllByRecursion FitsFilter filters
  pub few : length filters < 2 ^ 16

pub record IsSealed (encode : Encode) (old : TableParts) (at : ℕ) (new : TableParts) : Type 0 where
  pub place : at ≡ length (old.bytes.items ++ index_behind encode old.bytes.items old)
  pub bytes : new.bytes.items ≡ (old.bytes.items ++ index_behind encode old.bytes.items old) ++ stats_behind encode (old.bytes.items ++ index_behind encode old.bytes.items old) old
  pub rows : new.rows.items ≡ old.rows.items
  pub format : new.format ≡ old.format
  pub id : new.id ≡ old.id
  pub keys : old.raw_key_size < 2 ^ 64
  pub values : old.raw_val_size < 2 ^ 64

pub record IsReady (p : TableParts) : Type 0 where
  pub few : length p.offsets.items < 2 ^ 32
  pub paired : length p.separators.items ≡ length p.offsets.items
  pub counted : length p.block_stats.items ≡ length p.offsets.items
  pub short : AllByRecursion (λ k. length k < 2 ^ 16) p.separators.items
  pub first : FitsShort (some_first p.rows.items)
  pub last : FitsShort (some_last p.rows.items)

pub record IsFinished (encode : Encode) (filters : List (List ℕ × List ℕ)) (p : TableParts) (bytes : List ℕ) (i : SsTableInfo) : Type 0 where
  pub ended : TableParts
  pub end : IsEnded encode p ended
  pub is : bytes ≡ parts_bytes encode filters ended
  pub each : AllByRecursion FitsFilter filters
  pub few : length filters < 2 ^ 16
  pub short : length bytes < 2 ^ 64
  pub keys : p.raw_key_size < 2 ^ 64
  pub values : p.raw_val_size < 2 ^ 64
  pub info : HasInfo bytes (version_of p.format) p.id.0 (seen_info i)

pub record EncodedTable : Type 0 where
  pub bytes : List ℕ
  pub info : SsTableInfo
  pub version : ℕ
  pub id : Ulid
