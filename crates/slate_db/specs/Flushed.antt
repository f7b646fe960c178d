-- What a flush makes.
--     IsFolded m b layers out      within each key, the rows up to the barrier became their fold, and the later ones stay
--     CanFlush layers      there are memtables, each with rows, which fit a table and of each key rise from memtable to memtable
--     events_of_flush active frozen      how many events a flush adds
--     Layout, layout_of options policies segments      how a flush cuts and spells rows, and which filters their tables get
--     IsTableAt .. place rows t, AreTablesAt      a table is built of these rows, under the id of its flush and its place; tables are, one of each list
--     AreLastTables .. left tables      the folded rows are cut into tables, of which these are the last, and the rows of the others are left
--     AreTablesOfFlush, AreSomeOfFlush      these are all of them; or some last ones
--     with_tables os ts, TakesTables ts before after      objects with these tables at their paths, put from the last to the first; the store took them
--     MayTakeTables P before after      the store is as it was, or took such tables
--     StandInRuns prefixes runs      of the prefixes of tables, in their order: neighbouring tables stand in one run exactly where they have one prefix, which is the run's
--     IsPut ..      the tables of a flush were put, and these are what an install names and what is kept of them
--     IsTooLarge layout rows e      a table of some first of the rows would have too many blocks
--     HasTooLarge layout rows e      so would one of the tables into which the rows are cut
--     after_install c n ts spare      the core after the tables were installed through n
--     MayFlush m layout c before after      what a refused flush leaves of the objects
--     TooLarge m layout c e      a table of the rows in memory would have too many blocks; so there is much in memory
--     WantsOperator m layers e      one of the rows is an operand, and there is no operator
--     IsFlushed m layout old new n before after      a flush behind its freeze, with the store's objects before and after
--     NoPlace n c, NoPlaceToFlush c      the journal has no place for so many events more, and for those of a flush
--     of what a call reaches before and after it:
--     Flushes layout before after old new n      a flush behind its freeze
--     MayPut layout before after c      what a refused flush leaves of the objects
--     IsFlushError layout before after c e      a fault that came in the flush, or want of memory, of a place or of an operator, or too much in memory
use Rattle.std.specs.Prelude.{◌≡◌, ◌≢◌, ℕ, ◌+◌, ◌-◌, ◌^◌, ◌<◌, ◌⊎◌, true, List, [], ◌∷◌, ◌++◌, map, length, option_to_list, Option, Some, None, IfSome}
use Rattle.std.specs.List.{AllByRecursion}
use Rattle.slate_types.specs.declared.error.SlateDBError.{SlateDBError}
use Rattle.slate_types.specs.declared.error.SlateDBError.TheVariants.{LimitReached, MergeOperatorMissing}
use Rattle.slate_types.specs.declared.types.Ulid.{Ulid}
use Rattle.slate_types.specs.declared.config.Options.{Options}
use Rattle.slate_types.specs.Fold.{fold_rows}
use Rattle.slate_types.specs.Outside.{Objects, IsFault, Reach}
use Rattle.slate_block.specs.BlockSpelling.{as_read}
use Rattle.slate_mem.specs.KeyTests.{Segments}
use Rattle.slate_mem.specs.Lookup.{is_merge_among, newest_first}
use Rattle.slate_store.specs.Store.{with_object}
use Rattle.slate_filter.specs.Policy.{Policy}
use Rattle.slate_table.specs.Parts.{Encode}
use Rattle.slate_table.specs.Table.{AreInOrder, IsBuilt, cut}
use Rattle.slate_table.specs.TableBuilding.{max_blocks}
use Rattle.slate_table.specs.TableParts.{version_of}
use Rattle.slate_txn.specs.declared.event.Event.TheVariants as events
use Rattle.slate_txn.specs.Open.{least_start}
use Rattle.slate_txn.specs.State.{last_of}
use Rattle.slate_read.specs.declared.sorted_run.SortedRun.{SortedRun}
use Rattle.slate_db.specs.Cut.{AreCut, AreOfSegments}
use Rattle.slate_db.specs.Load.{load, weight}
use Rattle.slate_db.specs.Meaning.{Meaning, combine_of}
use Rattle.slate_db.specs.Model.{CoreModel, Rows, memory, versions, versions_in}
use Rattle.slate_db.specs.Sound.{at_most, later}
use Rattle.slate_db.specs.Installs.{runs_of, root, prefixes_of, AreRunsOf}
use Rattle.slate_db.specs.Layers.{FitsMemory, AreRising}
use Rattle.slate_db.specs.Log.{LIMIT}
use Rattle.slate_table.specs.Paths.{path_of, table_id}

abbrev pub IsFolded : Meaning → ℕ → List Rows → Rows → Type 0
IsFolded m b layers out = (k : List ℕ) → versions k out ≡ option_to_list (fold_rows (combine_of m k) (at_most b (versions_in k layers))) ++ later b (versions_in k layers)

pub record CanFlush (layers : List Rows) : Type 0 where
  pub some : 0 < length layers
  pub each : AllByRecursion (λ rows. 0 < length rows) layers
  pub fit : AllByRecursion (λ rows. AllByRecursion FitsMemory rows) layers
  pub rise : (k : List ℕ) → AreRising (versions_in k layers)

-- a freeze of the active rows, and an install where there are rows
abbrev pub events_of_flush : Rows → List Rows → ℕ
events_of_flush [] [] = 0
events_of_flush [] (rows ∷ layers) = 1
events_of_flush (r ∷ rs) layers = 2

-- the options of a flush: the blocks' size, the version, the size of a table, from how many rows on a table has filters, those that make them, and
-- what gives keys their segments
pub record Layout : Type 0 where
  pub block_size : ℕ
  pub version : ℕ
  pub table_bytes : ℕ
  pub min_filter_keys : ℕ
  pub policies : List Policy
  pub segments : Segments

abbrev pub layout_of : Options → List Policy → Segments → Layout
layout_of o policies segments = record {
  block_size = o.block_size;
  version = version_of o.block_format;
  table_bytes = o.table_bytes;
  min_filter_keys = o.min_filter_keys;
  policies = policies;
  segments = segments;
}

-- the version reads the rows as they were
pub record IsTableAt (encode : Encode) (layout : Layout) (number place : ℕ) (rows : Rows) (t : Ulid × List ℕ) : Type 0 where
  pub id : t.0.0 ≡ table_id number place
  pub fits : place < 2 ^ 64
  pub built : IsBuilt encode layout.policies layout.min_filter_keys layout.block_size layout.version t.0.0 t.1 rows
  pub read : map (as_read layout.version) rows ≡ rows

-- place: that of the first
abbrev pub AreTablesAt : Encode → Layout → ℕ → ℕ → List Rows → List (Ulid × List ℕ) → Type 0
AreTablesAt encode layout number place [] [] = Unit {0}
AreTablesAt encode layout number place (rows ∷ parts) (t ∷ ts) = IsTableAt encode layout number place rows t × AreTablesAt encode layout number (place + 1) parts ts
AreTablesAt encode layout number place [] (t ∷ ts) = ⊥
AreTablesAt encode layout number place (rows ∷ parts) [] = ⊥

-- rows: those of all memtables; left: of the tables before these
pub record AreLastTables (m : Meaning) (layout : Layout) (number barrier : ℕ)
    (layers left : List Rows) (tables : List (Ulid × List ℕ)) : Type 0 where
  pub rows : Rows
  pub some : 0 < length rows
  pub folded : IsFolded m barrier layers rows
  pub order : AreInOrder rows
  pub parts : List Rows
  pub cut : AreCut layout.segments layout.table_bytes rows (left ++ parts)
  pub built : AreTablesAt m.encode layout number (length left) parts tables

abbrev pub AreTablesOfFlush : Meaning → Layout → ℕ → ℕ → List Rows → List (Ulid × List ℕ) → Type 0
AreTablesOfFlush m layout number barrier layers tables =
    AreLastTables m layout number barrier layers [] tables

abbrev pub AreSomeOfFlush : Meaning → Layout → ℕ → ℕ → List Rows → List (Ulid × List ℕ) → Type 0
AreSomeOfFlush m layout number barrier layers tables =
    (left : List Rows) × AreLastTables m layout number barrier layers left tables

abbrev pub with_tables : Objects → List (Ulid × List ℕ) → Objects
with_tables os [] = os
with_tables os (t ∷ ts) = with_object (with_tables os ts) (path_of root t.0.0) t.1

abbrev pub TakesTables : List (Ulid × List ℕ) → Option Objects → Option Objects → Type 0
TakesTables ts before after = IfSome before (λ os. after ≡ Some (with_tables os ts))

abbrev pub Differ : List SortedRun → Type 0
Differ [] = Unit {0}
Differ (run ∷ []) = Unit {0}
Differ (run ∷ (next ∷ runs)) = (run.prefix ≢ next.prefix) × Differ (next ∷ runs)

-- prefixes: one for each table
pub record StandInRuns (prefixes : List (List ℕ)) (runs : List SortedRun) : Type 0 where
  pub each : prefixes_of runs ≡ prefixes
  pub some : AllByRecursion (λ run. 0 < length run.tables.items) runs
  pub differ : Differ runs

pub record IsPut (m : Meaning) (layout : Layout) (number barrier : ℕ) (layers : List Rows) (tables : List (Ulid × List ℕ)) (runs : List SortedRun) (before after : Option Objects) : Type 0 where
  pub kept : AreRunsOf tables runs
  pub made : AreTablesOfFlush m layout number barrier layers tables
  pub prefixes : List (List ℕ)
  pub segments : AreOfSegments layout.segments made.parts prefixes
  pub stand : StandInRuns prefixes runs
  pub taken : TakesTables tables before after

abbrev pub MayTakeTables : (List (Ulid × List ℕ) → Type 0) → Option Objects → Option Objects → Type 0
MayTakeTables P before after = IfSome before (λ os. (after ≡ Some os) ⊎ ((ts : List (Ulid × List ℕ)) × P ts × (after ≡ Some (with_tables os ts))))

pub record IsTooLarge (layout : Layout) (rows : Rows) (e : SlateDBError) : Type 0 where
  pub is : e ≡ LimitReached max_blocks
  pub first : Rows
  pub rest : Rows
  pub cut_off : rows ≡ first ++ rest
  pub passes : max_blocks < length (cut layout.block_size layout.version first)

pub record HasTooLarge (layout : Layout) (rows : Rows) (e : SlateDBError) : Type 0 where
  pub before : List Rows
  pub table : Rows
  pub behind : List Rows
  pub cut : AreCut layout.segments layout.table_bytes rows (before ++ (table ∷ behind))
  pub large : IsTooLarge layout table e

abbrev pub after_install : CoreModel → ℕ → List (Ulid × List ℕ) → ℕ → CoreModel
after_install c n ts spare = record c {
  state = record c.state { flushed = n };
  events = c.events ++ (events.Install n ts ∷ []);
  spare = spare;
  frozen = [];
  floor = least_start n c.state;
}

-- nothing to store, or a flush's tables more, whose number is one above that of the installs before
pub data IsFlushed (m : Meaning) (layout : Layout) (old new : CoreModel) (n : ℕ) (before after : Option Objects) : Type 0 where
  idle : old.frozen ≡ [] → new ≡ record old { state = record old.state { flushed = n } } → after ≡ before → IsFlushed m layout old new n before after
  stored : (ts : List (Ulid × List ℕ)) → new ≡ after_install old n ts new.spare → AreTablesOfFlush m layout (length (runs_of old.events) + 1) (least_start n old.state) old.frozen ts →
      TakesTables ts before after → IsFlushed m layout old new n before after

-- what a flush that is refused behind its freeze leaves of the objects
abbrev pub MayFlush : Meaning → Layout → CoreModel → Option Objects → Option Objects → Type 0
MayFlush m layout c before after = MayTakeTables (AreSomeOfFlush m layout (length (runs_of c.events) + 1) (least_start (last_of c.settings.start_seq c.state.commits) c.state) c.frozen) before after

-- the rows that a flush would store make too large a table
abbrev pub TooLarge : Meaning → Layout → CoreModel → SlateDBError → Type 0
TooLarge m layout c e = (rows : Rows) × (IsFolded m (least_start (last_of c.settings.start_seq c.state.commits) c.state) (memory c) rows) × AreInOrder rows × HasTooLarge layout rows e × (2 ^ 32 - 1 < load c)

-- there is an operand in memory, and no operator
abbrev pub WantsOperator : Meaning → List Rows → SlateDBError → Type 0
WantsOperator m layers e = (e ≡ MergeOperatorMissing) × (m.combine ≡ None) × (is_merge_among (newest_first layers) ≡ true)

abbrev pub NoPlace : ℕ → CoreModel → Type 0
NoPlace n c = LIMIT < weight c + n

abbrev pub NoPlaceToFlush : CoreModel → Type 0
NoPlaceToFlush c = NoPlace (events_of_flush c.active c.frozen) c

abbrev pub Flushes : Layout → Reach → Reach → CoreModel → CoreModel → ℕ → Type 0
Flushes layout before after old new n = IsFlushed before.meaning layout old new n before.objects after.objects

abbrev pub MayPut : Layout → Reach → Reach → CoreModel → Type 0
MayPut layout before after c = MayFlush before.meaning layout c before.objects after.objects

abbrev pub IsFlushError : Layout → Reach → Reach → CoreModel → SlateDBError → Type 0
IsFlushError layout before after c e = IsFault before after e ⊎ ((e ≡ LimitReached LIMIT) × NoPlaceToFlush c) ⊎ TooLarge before.meaning layout c e ⊎ WantsOperator before.meaning (memory c) e
