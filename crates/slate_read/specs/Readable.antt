-- What a world keeps of a table, and that a walk may rest on it. The statement is proved in src/readable_laws.rt.
--     kept_of encode version id blocks filters bytes      what a world has of a table: its sections, its separators and its rows as they are read
--     TablesAreReadable      a world that holds a table's bytes, under a lawful transformer, has what a walk over the table rests on
use Rattle.std.specs.Prelude.{◌≡◌, ℕ, List, map, Some}
use Rattle.slate_types.specs.declared.types.RowEntry.{RowEntry}
use Rattle.slate_types.specs.Lawful.{IsLawfulTransform}
use Rattle.slate_types.specs.World.{Kept, World}
use Rattle.slate_block.specs.BlockSpelling.{as_read}
use Rattle.slate_block.specs.ReadingLaws.{EachIsAByte}
use Rattle.slate_table.specs.declared.info.SsTableHandle.{SsTableHandle}
use Rattle.slate_table.specs.InfoReading.{seen_info}
use Rattle.slate_table.specs.Parts.{Encode, separators, sum_fits}
use Rattle.slate_table.specs.Table.{IsTableOf, table_places}
use Rattle.slate_table.specs.TableEnd.{HasInfo}
use Rattle.slate_read.specs.TableWalk.{IsReadable, path_in}

abbrev pub kept_of : Encode → ℕ → ℕ → List (List RowEntry) → List (List ℕ × List ℕ) → List ℕ → Kept
kept_of encode version id blocks filters bytes = record {
  bytes = bytes;
  sections = table_places encode version id blocks filters;
  keys = separators blocks;
  blocks = map (map (as_read version)) blocks;
}

abbrev pub TablesAreReadable : Type 0
TablesAreReadable = (encode decode : Encode) → IsLawfulTransform encode decode → (w : World) (table : SsTableHandle) (bytes : List ℕ) (blocks : List (List RowEntry)) (filters : List (List ℕ × List ℕ)) →
    w.meaning.decode ≡ decode → w.fits ≡ sum_fits → w.holds (path_in table) ≡ Some (kept_of encode table.format_version table.id.0 blocks filters bytes) →
    EachIsAByte bytes → IsTableOf encode bytes table.format_version table.id.0 blocks filters → HasInfo bytes table.format_version table.id.0 (seen_info table.info) →
    IsReadable w table (kept_of encode table.format_version table.id.0 blocks filters bytes)
