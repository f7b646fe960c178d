-- Tables that are listed.
--     StandsAtItsPath encode o      an object is a table of some rows, at the path of its id below
--                            the root
--     IsListed os ids      the objects rise by their paths, and these ids are those of all paths
--     ListedTablesAreHere      so they are the ids of tables that the objects hold, whose rows
--                            together
--                              are those that the objects hold
use Rattle.std.specs.Prelude.{◌≡◌, ℕ, ◌^◌, ◌<◌, List, map}
use Rattle.std.specs.List.{AllByRecursion}
use Rattle.slate_types.specs.declared.types.RowEntry.{RowEntry}
use Rattle.slate_types.specs.declared.types.Ulid.{Ulid}
use Rattle.slate_types.specs.Lawful.{IsLawfulTransform}
use Rattle.slate_types.specs.Outside.{Meaning, Objects}
use Rattle.slate_store.specs.Store.{IsRising}
use Rattle.slate_block.specs.ReadingLaws.{EachIsAByte}
use Rattle.slate_merge.specs.Merge.{all_rows}
use Rattle.slate_table.specs.Parts.{Encode}
use Rattle.slate_table.specs.Paths.{path_of}
use Rattle.slate_table.specs.Stored.{HoldRows}
use Rattle.slate_table.specs.Table.{IsTable}
use Rattle.slate_read.specs.TableWalk.{root}
use Rattle.slate_tables.specs.Opened.{AreTablesOf}

pub record StandsAtItsPath (encode : Encode) (o : List ℕ × List ℕ) : Type 0 where
  pub id : ℕ
  pub version : ℕ
  pub rows : List RowEntry
  pub path : o.0 ≡ path_of root id
  pub table : IsTable encode o.1 version id rows

pub record IsListed (os : Objects) (ids : List Ulid) : Type 0 where
  pub rise : IsRising (map (λ o. o.0) os)
  pub paths : map (λ id. path_of root id.0) ids ≡ map (λ o. o.0) os
  pub fit : AllByRecursion (λ id. id.0 < 2 ^ 128) ids

-- rows: what the objects hold. Each number of an object is a byte
abbrev pub ListedTablesAreHere : Type 0
ListedTablesAreHere = (m : Meaning) (os : Objects) (ids : List Ulid) (rows : List RowEntry) →
    IsLawfulTransform m.encode m.decode → AllByRecursion (StandsAtItsPath m.encode) os →
    AllByRecursion (λ o. EachIsAByte o.1) os → IsListed os ids → HoldRows m.encode os rows →
    (tables : List (List RowEntry)) × AreTablesOf m.encode os ids tables × (all_rows tables ≡ rows)
