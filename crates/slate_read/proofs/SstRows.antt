-- The rows of a table in a range, the newest of each key first.
use Rattle.std.proofs.Common.{◌≡◌, filter, flat_map, sym, ap, subst, ◌∙◌}
use Rattle.slate_types.specs.declared.bytes_range.BytesRange.{BytesRange}
use Rattle.slate_types.specs.declared.iter.IterationOrder.{IterationOrder}
use Rattle.slate_types.specs.declared.iter.IterationOrder.TheVariants.{Ascending}
use Rattle.slate_types.specs.RowTurns.{AreInTurn, row_before}
use Rattle.slate_types.specs.World.{Kept, World}
use Rattle.slate_table.specs.declared.info.SsTableHandle.{SsTableHandle}
use Rattle.slate_merge.specs.declared.filter_iterator.FilterIterator.{FilterIterator}
use Rattle.slate_merge.specs.declared.newest_first.NewestFirst.{NewestFirst}
use Rattle.slate_merge.specs.declared.progress.Progress.TheVariants.{New}
use Rattle.slate_merge.specs.Groups.{in_turn}
use Rattle.slate_merge.specs.NewestFirst.{rest_newest, sound_newest}
use Rattle.slate_merge.proofs.Turns.{either_turn, turn_filtered}
use Rattle.slate_read.specs.declared.range_rows.InRange.{InRange}
use Rattle.slate_read.specs.declared.table_state.TableWalk.{TableWalk}
use Rattle.slate_read.specs.RangeRows.{IsRangeOf}
use Rattle.slate_read.specs.SstIterators.{BringsRows, IsTableIterator, source_order, source_rest, source_sound}
use Rattle.slate_read.specs.TableWalk.{IsReadable, IsUnopened, is_in, rows_in}

pub table_turn : (w : World) (table : SsTableHandle) (kept : Kept) (range : BytesRange) (order : IterationOrder) → IsReadable w table kept → AreInTurn (row_before order) (in_turn order (rows_in range order kept))
table_turn w table kept range order readable = either_turn order (filter (is_in range) (flat_map (λ b. b) kept.blocks)) (turn_filtered (row_before Ascending) (is_in range) (flat_map (λ b. b) kept.blocks) readable.turn)

pub is_table_iterator : (range : BytesRange) (table : SsTableHandle) (order : IterationOrder) (source : FilterIterator TableWalk InRange) (it : NewestFirst (FilterIterator TableWalk InRange)) →
    IsRangeOf range table order source → source.iterator.order ≡ order → IsUnopened source.iterator.state → source.iterator.table ≡ table → it.range ≡ range → it.iterator ≡ source → it.progress ≡ New → IsTableIterator range table order it
is_table_iterator range table order source it is same unopened over_table within from new = record {
  within = within;
  fresh = new;
  unopened = subst (λ (s : FilterIterator TableWalk InRange). IsUnopened s.iterator.state) (sym from) unopened;
  over_table = ap (λ (s : FilterIterator TableWalk InRange). s.iterator.table) from ∙ over_table;
  brings = brings;
}
  where
    brings : (w : World) (kept : Kept) → IsReadable w table kept → BringsRows w order it (in_turn order (rows_in range order kept))
    brings w kept readable = record {
      sound = subst (λ (s : FilterIterator TableWalk InRange). sound_newest source_rest source_sound source_order s it.progress w) (sym from) (subst (λ p. sound_newest source_rest source_sound source_order source p w) (sym new) (k.0, turn));
      rest = (λ i. rest_newest source_rest source_order (from i) (new i) w) ∙ rest;
      turn = table_turn w table kept range order readable;
      same_order = ap (λ (s : FilterIterator TableWalk InRange). s.iterator.order) from ∙ same;
    }
      where
        k : source_sound source w × (source_rest source w ≡ rows_in range order kept)
        k = is w kept readable

        rest : in_turn source.iterator.order (source_rest source w) ≡ in_turn order (rows_in range order kept)
        rest = (λ i. in_turn (same i) (k.1 i))

        turn : AreInTurn (row_before source.iterator.order) (in_turn source.iterator.order (source_rest source w))
        turn = subst (λ (o : IterationOrder). AreInTurn (row_before o) (in_turn source.iterator.order (source_rest source w))) (sym same) (subst (AreInTurn (row_before order)) (sym rest) (table_turn w table kept range order readable))
