-- The rows of a stored table in a range, before the table is opened.
--     IsRangeOf range table order it      in each world that has the table it is sound, and the rows of the table in the range are left
use Rattle.std.specs.Prelude.{◌≡◌, filter}
use Rattle.slate_types.specs.declared.bytes_range.BytesRange.{BytesRange}
use Rattle.slate_types.specs.declared.iter.IterationOrder.{IterationOrder}
use Rattle.slate_table.specs.declared.info.SsTableHandle.{SsTableHandle}
use Rattle.slate_merge.specs.declared.filter_iterator.FilterIterator.{FilterIterator}
use Rattle.slate_read.specs.declared.range_rows.InRange.{InRange}
use Rattle.slate_read.specs.declared.table_state.TableWalk.{TableWalk}
use Rattle.slate_types.specs.World.{Kept, World}
use Rattle.slate_read.specs.TableWalk.{IsReadable, IsSoundWalk, is_in, rest_of, rows_in}

-- in each world that has the table its meaning is sound, and the rest is the rows of the table in the range
abbrev pub IsRangeOf : BytesRange → SsTableHandle → IterationOrder → FilterIterator TableWalk InRange → Type 0
IsRangeOf range table order it = (w : World) (kept : Kept) → IsReadable w table kept → IsSoundWalk it.iterator w × (filter (is_in it.predicate.range) (rest_of it.iterator w) ≡ rows_in range order kept)
