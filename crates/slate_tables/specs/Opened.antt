-- Tables that are opened.
--     IsTableHere encode os id rows      the objects hold a table of the id and these rows
--     AreTablesOf encode os ids tables      the same of several
--     WasOpened objects id h      a handle is what a store answered when the table was opened
--     IsHeld encode os h rows      the objects hold the table of a handle, with these rows
--     AreHeldTables m os handles tables      the same of several, under a transformer that is
--                            undone
--     TablesAreHeld      tables that the objects hold, and that were opened, are held
--     IsWorldHolding os m w      a world of these objects
--     TablesAreInAWorld      tables that are held are read in a world of the objects
--     MayRefuse objects ids e      a store's answers refuse to open one of these tables
use Rattle.std.specs.Prelude.{◌≡◌, ℕ, List, map, flat_map, Contains, Option, Some}
use Rattle.slate_types.specs.declared.error.SlateDBError.{SlateDBError}
use Rattle.slate_types.specs.declared.types.RowEntry.{RowEntry}
use Rattle.slate_types.specs.declared.types.Ulid.{Ulid}
use Rattle.slate_types.specs.Lawful.{IsLawfulTransform}
use Rattle.slate_types.specs.Outside.{Act, Meaning, Objects, object_at}
use Rattle.slate_types.specs.World.{HoldsWorld, World}
use Rattle.slate_block.specs.BlockSpelling.{as_read}
use Rattle.slate_block.specs.ReadingLaws.{EachIsAByte}
use Rattle.slate_table.specs.declared.info.SsTableHandle.{SsTableHandle}
use Rattle.slate_table.specs.InfoReading.{seen_info}
use Rattle.slate_table.specs.Opening.{IsOpened, RefusesOpen}
use Rattle.slate_table.specs.Parts.{Encode}
use Rattle.slate_table.specs.Paths.{path_of}
use Rattle.slate_table.specs.Table.{IsTable, IsTableOf}
use Rattle.slate_table.specs.TableEnd.{HasInfo}
use Rattle.slate_read.specs.TableWalk.{root}
use Rattle.slate_tables.specs.Merging.{AreReadableTables, MatchEach}

-- ---- of ids

pub record IsTableHere (encode : Encode) (os : Objects) (id : Ulid) (rows : List RowEntry)
    : Type 0 where
  pub bytes : List ℕ
  pub version : ℕ
  pub there : object_at os (path_of root id.0) ≡ Some bytes
  pub each : EachIsAByte bytes
  pub table : IsTable encode bytes version id.0 rows

abbrev pub AreTablesOf : Encode → Objects → List Ulid → List (List RowEntry) → Type 0
AreTablesOf encode os ids tables = MatchEach (IsTableHere encode os) ids tables

-- before, after: the acts that the store told
pub record WasOpened (objects : Option Objects) (id : Ulid) (h : SsTableHandle) : Type 0 where
  pub named : h.id ≡ id
  pub before : Option (List Act)
  pub after : Option (List Act)
  pub opened : IsOpened objects before after (path_of root id.0) id.0 h.format_version
      (seen_info h.info)

abbrev pub MayRefuse : Option Objects → List Ulid → SlateDBError → Type 0
MayRefuse objects ids e =
    (id : Ulid) × (before : Option (List Act)) × (after : Option (List Act)) × Contains ids id
    × RefusesOpen objects before after (path_of root id.0) id.0 e

-- ---- of handles

pub record IsHeld (encode : Encode) (os : Objects) (h : SsTableHandle) (rows : List RowEntry)
    : Type 0 where
  pub bytes : List ℕ
  pub blocks : List (List RowEntry)
  pub filters : List (List ℕ × List ℕ)
  pub there : object_at os (path_of root h.id.0) ≡ Some bytes
  pub each : EachIsAByte bytes
  pub table : IsTableOf encode bytes h.format_version h.id.0 blocks filters
  pub info : HasInfo bytes h.format_version h.id.0 (seen_info h.info)
  pub has : rows ≡ map (as_read h.format_version) (flat_map (λ b. b) blocks)

abbrev pub AreHeldTables : Meaning → Objects → List SsTableHandle → List (List RowEntry) → Type 0
AreHeldTables m os handles tables =
    IsLawfulTransform m.encode m.decode × MatchEach (IsHeld m.encode os) handles tables

abbrev pub TablesAreHeld : Type 0
TablesAreHeld = (encode : Encode) (os : Objects) (ids : List Ulid) (handles : List SsTableHandle)
    (tables : List (List RowEntry)) → AreTablesOf encode os ids tables →
    MatchEach (WasOpened (Some os)) ids handles → MatchEach (IsHeld encode os) handles tables

-- ---- a world

pub record IsWorldHolding (os : Objects) (m : Meaning) (w : World) : Type 0 where
  pub meaning : w.meaning ≡ m
  pub holds : HoldsWorld os w

abbrev pub TablesAreInAWorld : Type 0
TablesAreInAWorld = (m : Meaning) (os : Objects) (handles : List SsTableHandle)
    (tables : List (List RowEntry)) → AreHeldTables m os handles tables →
    (w : World) × IsWorldHolding os m w × AreReadableTables w handles tables
