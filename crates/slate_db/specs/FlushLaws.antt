-- Laws of flushes. Each statement is proved by a function of src/laws.rt.
--     first_path number      where the first table of a flush stands
--     NoneNest segments rows      of no two of the rows' segment prefixes, which differ, one begins the other
use Rattle.std.specs.Prelude.{◌≡◌, ℕ, ◌^◌, ◌<◌, ◌⊎◌, false, List, [], ◌∷◌, map, None, Some}
use Rattle.std.specs.List.{AllByRecursion}
use Rattle.slate_types.specs.declared.types.Ulid.{Ulid}
use Rattle.slate_types.specs.Keys.{keys_set}
use Rattle.slate_types.specs.Outside.{Objects, object_at}
use Rattle.slate_mem.specs.KeyTests.{Segments, nest, segment_refusal}
use Rattle.slate_read.specs.declared.sorted_run.SortedRun.{SortedRun}
use Rattle.slate_table.specs.Paths.{path_of, table_id}
use Rattle.slate_table.specs.Table.{AreInOrder}
use Rattle.slate_db.specs.Cut.{AreCut, AreOfSegments, StandsIn, segment_of}
use Rattle.slate_db.specs.Flushed.{AreSomeOfFlush, AreTablesOfFlush, Layout, MayTakeTables, StandInRuns}
use Rattle.slate_db.specs.Installs.{Holds, root}
use Rattle.slate_db.specs.Meaning.{Meaning}
use Rattle.slate_db.specs.Model.{Rows}

abbrev pub first_path : ℕ → List ℕ
first_path number = path_of root (table_id number 0)

abbrev pub NoneNest : Segments → Rows → Type 0
NoneNest segments [] = Unit {0}
NoneNest segments (r ∷ rows) = AllByRecursion (λ s. nest (segment_of segments r.key) (segment_of segments s.key) ≡ false) rows × NoneNest segments rows

-- Where no prefixes nest, the tables of a flush stand in one run for each segment that its rows touch, in the order of the prefixes.
abbrev pub RunsAreOfSegments : Type 0
RunsAreOfSegments = (segments : Segments) (limit : ℕ) (rows : Rows) (tables : List Rows) (prefixes : List (List ℕ)) (runs : List SortedRun) → AreInOrder rows → NoneNest segments rows →
    AreCut segments limit rows tables → AreOfSegments segments tables prefixes → StandInRuns prefixes runs → map (λ run. run.prefix) runs ≡ keys_set (map (λ r. segment_of segments r.key) rows)

-- Where each key has a segment prefix, or there are no segments, the rows of a table have one.
abbrev pub TablesAreOfOneSegment : Type 0
TablesAreOfOneSegment = (segments : Segments) (limit : ℕ) (rows : Rows) (tables : List Rows) → AllByRecursion (λ r. segment_refusal segments r.key ≡ None) rows →
    AreCut segments limit rows tables → AllByRecursion (λ table. (prefix : List ℕ) × AllByRecursion (StandsIn segments prefix) table) tables

-- Whatever a flush leaves, refused or not: where the object of its first table came to stand, all its
-- tables do, with their bytes.
abbrev pub FlushesAreWhole : Type 0
FlushesAreWhole = (m : Meaning) (layout : Layout) (number barrier : ℕ) (layers : List Rows)
    (before after : Objects) → number < 2 ^ 64 →
    MayTakeTables (AreSomeOfFlush m layout number barrier layers) (Some before) (Some after) →
    object_at before (first_path number) ≡ None →
    (object_at after (first_path number) ≡ None) ⊎
    ((tables : List (Ulid × List ℕ)) × AreTablesOfFlush m layout number barrier layers tables ×
    Holds after tables)
