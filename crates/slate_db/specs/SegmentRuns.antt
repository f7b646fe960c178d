-- The runs of a flush, said of the tables that the journal names.
--     SegmentRun      the segment prefix of a run, its tables, and the rows of each
--     of_segment segments prefix rows      the rows of a segment
--     IsSegmentRun m segments rows run      the run has tables, and these are of just the rows of its segment, in their order
--     AddsSegmentRuns m segments c before after      of two lists of tables the second has those of a flush of the rows in memory more: a run for each segment that these touch, the prefixes rising
use Rattle.std.specs.Prelude.{◌≡◌, ℕ, ◌<◌, List, ◌++◌, map, filter, flat_map, length, bytes_eq}
use Rattle.std.specs.List.{AllByRecursion}
use Rattle.slate_types.specs.declared.types.Ulid.{Ulid}
use Rattle.slate_types.specs.Keys.{keys_set}
use Rattle.slate_mem.specs.KeyTests.{Segments}
use Rattle.slate_table.specs.Table.{AreInOrder}
use Rattle.slate_txn.specs.Open.{least_start}
use Rattle.slate_txn.specs.State.{last_of}
use Rattle.slate_db.specs.Cut.{segment_of}
use Rattle.slate_db.specs.Flushed.{IsFolded}
use Rattle.slate_db.specs.Meaning.{Meaning}
use Rattle.slate_db.specs.Model.{CoreModel, Rows, memory}
use Rattle.slate_db.specs.Sound.{AreTables}

-- parts: one for each table
pub record SegmentRun : Type 0 where
  pub prefix : List ℕ
  pub tables : List (Ulid × List ℕ)
  pub parts : List Rows

abbrev pub of_segment : Segments → List ℕ → Rows → Rows
of_segment segments prefix rows = filter (λ r. bytes_eq (segment_of segments r.key) prefix) rows

pub record IsSegmentRun (m : Meaning) (segments : Segments) (rows : Rows) (run : SegmentRun) : Type 0 where
  pub some : 0 < length run.tables
  pub are : AreTables m run.tables run.parts
  pub all : flat_map (λ part. part) run.parts ≡ of_segment segments run.prefix rows

-- rows: those in memory, of each key those up to the barrier folded; none where there are none
pub record AddsSegmentRuns (m : Meaning) (segments : Segments) (c : CoreModel) (before after : List (Ulid × List ℕ)) : Type 0 where
  pub rows : Rows
  pub folded : IsFolded m (least_start (last_of c.settings.start_seq c.state.commits) c.state) (memory c) rows
  pub order : AreInOrder rows
  pub runs : List SegmentRun
  pub added : after ≡ before ++ flat_map (λ run. run.tables) runs
  pub touched : map (λ run. run.prefix) runs ≡ keys_set (map (λ r. segment_of segments r.key) rows)
  pub each : AllByRecursion (IsSegmentRun m segments rows) runs
