-- Iterators over one stored table.
--     source_rest, source_sound, source_order, source_refuses      of the rows in the range, as they stand in the table
--     sst_rest, sst_sound, sst_refuses, sst_bound      of one that hands out the newest of each key first
--     BringsRows w order it rows      it is sound in a world, these rows are left there, and they stand in turn
--     IsTableIterator range table order it      it is new and of this range, and in each world that has the table, the rows in the range are left, the newest of each key first
use Rattle.std.specs.Prelude.{◌≡◌, ℕ, List, Option, filter}
use Rattle.slate_types.specs.declared.error.SlateDBError.{SlateDBError}
use Rattle.slate_types.specs.Outside.{Act, Meaning}
use Rattle.slate_types.specs.declared.bytes_range.BytesRange.{BytesRange}
use Rattle.slate_types.specs.declared.iter.IterationOrder.{IterationOrder}
use Rattle.slate_types.specs.declared.types.RowEntry.{RowEntry}
use Rattle.slate_types.specs.RowTurns.{AreInTurn, row_before}
use Rattle.slate_types.specs.World.{Kept, World}
use Rattle.slate_table.specs.declared.info.SsTableHandle.{SsTableHandle}
use Rattle.slate_merge.specs.declared.filter_iterator.FilterIterator.{FilterIterator}
use Rattle.slate_merge.specs.declared.newest_first.NewestFirst.{NewestFirst}
use Rattle.slate_merge.specs.Groups.{in_turn}
use Rattle.slate_merge.specs.NewestFirst.{IsNew, bound_newest, refuses_newest, rest_newest, sound_newest}
use Rattle.slate_read.specs.declared.range_rows.InRange.{InRange}
use Rattle.slate_read.specs.declared.table_state.TableWalk.{TableWalk}
use Rattle.slate_read.specs.TableWalk.{IsReadable, IsSoundWalk, IsUnopened, bound_in, is_in, refuses_in, rest_of, rows_in}

abbrev pub source_rest : FilterIterator TableWalk InRange → World → List RowEntry
source_rest source w = filter (is_in source.predicate.range) (rest_of source.iterator w)

abbrev pub source_sound : FilterIterator TableWalk InRange → World → Type 0
source_sound source w = IsSoundWalk source.iterator w

abbrev pub source_order : FilterIterator TableWalk InRange → IterationOrder
source_order source = source.iterator.order

abbrev pub sst_rest : NewestFirst (FilterIterator TableWalk InRange) → World → List RowEntry
sst_rest it w = rest_newest source_rest source_order it.iterator it.progress w

abbrev pub sst_sound : NewestFirst (FilterIterator TableWalk InRange) → World → Type 0
sst_sound it w = sound_newest source_rest source_sound source_order it.iterator it.progress w

abbrev pub source_refuses : FilterIterator TableWalk InRange → Meaning → List Act → Option (List ℕ) → SlateDBError → Type 0
source_refuses source m reads at e = refuses_in source.iterator.state source.iterator.table source.iterator.order m reads at e

abbrev pub sst_refuses : NewestFirst (FilterIterator TableWalk InRange) → Meaning → List Act → Option (List ℕ) → SlateDBError → Type 0
sst_refuses it m reads at e = refuses_newest source_refuses it.range it.iterator it.progress m reads at e

abbrev pub sst_bound : NewestFirst (FilterIterator TableWalk InRange) → ℕ
sst_bound it = bound_newest (bound_in it.iterator.iterator.state) it.progress

pub record BringsRows (w : World) (order : IterationOrder) (it : NewestFirst (FilterIterator TableWalk InRange)) (rows : List RowEntry) : Type 0 where
  pub sound : sst_sound it w
  pub rest : sst_rest it w ≡ rows
  pub turn : AreInTurn (row_before order) rows
  pub same_order : it.iterator.iterator.order ≡ order

pub record IsTableIterator (range : BytesRange) (table : SsTableHandle) (order : IterationOrder) (it : NewestFirst (FilterIterator TableWalk InRange)) : Type 0 where
  pub within : it.range ≡ range
  pub fresh : IsNew it.progress
  pub unopened : IsUnopened it.iterator.iterator.state
  pub over_table : it.iterator.iterator.table ≡ table
  pub brings : (w : World) (kept : Kept) → IsReadable w table kept → BringsRows w order it (in_turn order (rows_in range order kept))
