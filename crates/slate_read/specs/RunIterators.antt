-- Iterators over a run of tables.
--     all_rows kept, run_rows kepts      the rows of a table, and of several, one after another
--     rows_in_run range order kepts      those in a range, in an order
--     AreBelow rows more, AreRisingTables kepts      each key is below all others, and so are those of each table below those of later ones
--     AreEachReadable w tables kepts, AreReadable w tables kepts      each table is readable, and their rows rise from table to table
--     run_source_rest, run_source_sound, run_source_order, run_source_refuses      of the rows in the range, as they stand in the tables
--     run_rest, run_sound, run_refuses, run_iterator_bound      of an iterator that hands out the newest of each key first
--     BringsRun w order it rows      it is sound in a world, these rows are left there, and they stand in turn
--     reached range order tables      the tables that can hold keys of the range, in the order
--     IsRunOf range tables order it      a walk that has these tables before it, and in each world that has them, their rows in the range
--     IsRunIterator range run order it      it is new and of this range, and in each world that has the run, the rows in the range are left, the newest of each key first
use Rattle.std.specs.Prelude.{◌≡◌, ℕ, true, List, [], ◌∷◌, flat_map, filter, Option, None}
use Rattle.std.specs.List.{AllByRecursion}
use Rattle.slate_types.specs.declared.error.SlateDBError.{SlateDBError}
use Rattle.slate_types.specs.declared.bytes_range.BytesRange.{BytesRange}
use Rattle.slate_types.specs.declared.iter.IterationOrder.{IterationOrder}
use Rattle.slate_types.specs.declared.types.RowEntry.{RowEntry}
use Rattle.slate_types.specs.Iteration.{in_order}
use Rattle.slate_types.specs.Keys.{key_lt}
use Rattle.slate_types.specs.Outside.{Act, Meaning}
use Rattle.slate_types.specs.RowTurns.{AreInTurn, row_before}
use Rattle.slate_types.specs.World.{Kept, World}
use Rattle.slate_table.specs.declared.info.SsTableHandle.{SsTableHandle}
use Rattle.slate_merge.specs.declared.filter_iterator.FilterIterator.{FilterIterator}
use Rattle.slate_merge.specs.declared.newest_first.NewestFirst.{NewestFirst}
use Rattle.slate_merge.specs.Groups.{in_turn}
use Rattle.slate_merge.specs.NewestFirst.{IsNew, bound_newest, refuses_newest, rest_newest, sound_newest}
use Rattle.slate_read.specs.declared.range_rows.InRange.{InRange}
use Rattle.slate_read.specs.declared.run_state.RunWalk.{RunWalk}
use Rattle.slate_read.specs.declared.sorted_run.SortedRun.{SortedRun}
use Rattle.slate_read.specs.RunWalk.{IsNewRun, IsSoundRunWalk, bound_run_in, can_reach, refuses_of_run, rest_of_run, waiting}
use Rattle.slate_read.specs.TableWalk.{IsReadable, is_in}

-- ---- the rows of a run

abbrev pub all_rows : Kept → List RowEntry
all_rows kept = flat_map (λ b. b) kept.blocks

abbrev pub run_rows : List Kept → List RowEntry
run_rows kepts = flat_map all_rows kepts

abbrev pub rows_in_run : BytesRange → IterationOrder → List Kept → List RowEntry
rows_in_run range order kepts = in_order order (filter (is_in range) (run_rows kepts))

abbrev pub AreBelow : List RowEntry → List RowEntry → Type 0
AreBelow rows more = AllByRecursion (λ r. AllByRecursion (λ s. key_lt r.key s.key ≡ true) more) rows

-- no key of a later table is at or below one of an earlier table
abbrev pub AreRisingTables : List Kept → Type 0
AreRisingTables [] = Unit {0}
AreRisingTables (kept ∷ kepts) = AreBelow (all_rows kept) (run_rows kepts) × AreRisingTables kepts

abbrev pub AreEachReadable : World → List SsTableHandle → List Kept → Type 0
AreEachReadable w [] [] = Unit {0}
AreEachReadable w (table ∷ tables) (kept ∷ kepts) = IsReadable w table kept × AreEachReadable w tables kepts
AreEachReadable w [] (kept ∷ kepts) = ⊥
AreEachReadable w (table ∷ tables) [] = ⊥

-- that the rows of a table lie between its first and its last key is a part of IsReadable
pub record AreReadable (w : World) (tables : List SsTableHandle) (kepts : List Kept) : Type 0 where
  pub each : AreEachReadable w tables kepts
  pub rising : AreRisingTables kepts

-- ---- the iterators

abbrev pub run_source_rest : FilterIterator RunWalk InRange → World → List RowEntry
run_source_rest source w = filter (is_in source.predicate.range) (rest_of_run source.iterator w)

abbrev pub run_source_sound : FilterIterator RunWalk InRange → World → Type 0
run_source_sound source w = IsSoundRunWalk source.iterator w

abbrev pub run_source_order : FilterIterator RunWalk InRange → IterationOrder
run_source_order source = source.iterator.order

abbrev pub run_source_refuses : FilterIterator RunWalk InRange → Meaning → List Act → Option (List ℕ) → SlateDBError → Type 0
run_source_refuses source m reads at e = refuses_of_run source.iterator m reads at e

abbrev pub run_rest : NewestFirst (FilterIterator RunWalk InRange) → World → List RowEntry
run_rest it w = rest_newest run_source_rest run_source_order it.iterator it.progress w

abbrev pub run_sound : NewestFirst (FilterIterator RunWalk InRange) → World → Type 0
run_sound it w = sound_newest run_source_rest run_source_sound run_source_order it.iterator it.progress w

abbrev pub run_refuses : NewestFirst (FilterIterator RunWalk InRange) → Meaning → List Act → Option (List ℕ) → SlateDBError → Type 0
run_refuses it m reads at e = refuses_newest run_source_refuses it.range it.iterator it.progress m reads at e

abbrev pub run_iterator_bound : NewestFirst (FilterIterator RunWalk InRange) → ℕ
run_iterator_bound it = bound_newest (bound_run_in it.iterator.iterator.state it.iterator.iterator.cursor) it.progress

pub record BringsRun (w : World) (order : IterationOrder) (it : NewestFirst (FilterIterator RunWalk InRange)) (rows : List RowEntry) : Type 0 where
  pub sound : run_sound it w
  pub rest : run_rest it w ≡ rows
  pub turn : AreInTurn (row_before order) rows
  pub same_order : it.iterator.iterator.order ≡ order

-- tables that can't hold a key of the range are never opened
abbrev pub reached : BytesRange → IterationOrder → List SsTableHandle → List SsTableHandle
reached range order tables = in_order order (filter (λ h. can_reach range h.info) tables)

pub record IsRunOf (range : BytesRange) (tables : List SsTableHandle) (order : IterationOrder) (it : FilterIterator RunWalk InRange) : Type 0 where
  pub same_order : it.iterator.order ≡ order
  pub unopened : IsNewRun it.iterator.state
  pub closed : it.iterator.cursor.current ≡ None
  pub none_ahead : it.iterator.cursor.ahead ≡ None
  pub opens : waiting it.iterator.cursor ≡ reached range order tables
  pub sound : (w : World) (kepts : List Kept) → AreReadable w tables kepts → IsSoundRunWalk it.iterator w
  pub brings : (w : World) (kepts : List Kept) → AreReadable w tables kepts → run_source_rest it w ≡ rows_in_run range order kepts

pub record IsRunIterator (range : BytesRange) (run : SortedRun) (order : IterationOrder) (it : NewestFirst (FilterIterator RunWalk InRange)) : Type 0 where
  pub within : it.range ≡ range
  pub fresh : IsNew it.progress
  pub unopened : IsNewRun it.iterator.iterator.state
  pub closed : it.iterator.iterator.cursor.current ≡ None
  pub none_ahead : it.iterator.iterator.cursor.ahead ≡ None
  pub opens : waiting it.iterator.iterator.cursor ≡ reached range order run.tables.items
  pub brings : (w : World) (kepts : List Kept) → AreReadable w run.tables.items kepts → BringsRun w order it (in_turn order (rows_in_run range order kepts))
