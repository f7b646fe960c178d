-- What an export of tables has left in a world in which they are read.
use Rattle.std.proofs.Common.{◌≡◌, ℕ, List, [], ◌∷◌, map, reverse, filter, true, None, refl, sym, ap, subst, ◌∙◌}
use Rattle.std.specs.List.{AllByRecursion}
use Rattle.slate_types.specs.declared.bytes_range.BytesRange.{BytesRange}
use Rattle.slate_types.specs.declared.iter.IterationOrder.{IterationOrder}
use Rattle.slate_types.specs.declared.types.RowEntry.{RowEntry}
use Rattle.slate_types.specs.Fold.{operator_at}
use Rattle.slate_types.specs.Iteration.{IsInOrder, in_order}
use Rattle.slate_types.specs.RowTurns.{AreInTurn, row_before}
use Rattle.slate_types.specs.World.{World}
use Rattle.slate_types.proofs.Lists.{map_reverse}
use Rattle.slate_merge.specs.Folding.{folded}
use Rattle.slate_merge.specs.Groups.{in_turn}
use Rattle.slate_merge.specs.Merge.{all_rows, merged}
use Rattle.slate_merge.specs.Merging.{CanMerge}
use Rattle.slate_merge.specs.MergeStateLaws.{merges, rest_rises}
use Rattle.slate_merge.proofs.Operators.{new_rest, new_sound}
use Rattle.slate_read.specs.declared.internal_sst_iterator.InternalSstIterator.{InternalSstIterator}
use Rattle.slate_read.specs.TableWalk.{is_in, rows_in}
use Rattle.slate_table.specs.declared.info.SsTableHandle.{SsTableHandle}
use Rattle.slate_table.specs.Table.{AreInOrder}
use Rattle.slate_tables.specs.Exported.{IsExport, exported, is_live, table_rows}
use Rattle.slate_tables.specs.Merging.{AreReadableTables, Export, IsExportOf, IsTableSource, MatchEach, Merge, export_rows, export_sound, merge_order, merge_sound, rows_of_merge, rows_of_source, source_order, source_sound, whole_folds}
use Rattle.slate_tables.proofs.Exported.{export_is_stored}
use Rattle.slate_tables.proofs.Sources.{each_back}

module _ (w : World) (range : BytesRange) (order : IterationOrder) where
  abbrev CanMergeHere : InternalSstIterator → Type 0
  CanMergeHere = CanMerge (λ s. rows_of_source s w) (λ s. source_sound s w × (source_order s ≡ order)) order

  sources_merge : (hs : List SsTableHandle) (sources : List InternalSstIterator) (tables : List (List RowEntry)) → MatchEach (IsTableSource range order) hs sources → AreReadableTables w hs tables →
      AllByRecursion CanMergeHere sources × (map (λ s. rows_of_source s w) sources ≡ map (table_rows order range) tables)
  sources_merge [] [] [] h k = (tt, refl)
  sources_merge (x ∷ hs) (s ∷ sources) (rows ∷ tables) h k =
      let b = h.0.brings w k.0.kept k.0.readable in
      let later = sources_merge hs sources tables h.1 k.1 in
      let here : rows_of_source s w ≡ table_rows order range rows = b.rest ∙ ap (λ (all : List RowEntry). in_turn order (in_order order (filter (is_in range) all))) k.0.has in
      ((((b.sound, b.same_order), subst (AreInTurn (row_before order)) (sym b.rest) b.turn), later.0), λ i. here i ∷ later.1 i)
  sources_merge [] (s ∷ sources) tables h k = absurd h
  sources_merge (x ∷ hs) [] tables h k = absurd h
  sources_merge [] [] (rows ∷ tables) h k = absurd k
  sources_merge (x ∷ hs) (s ∷ sources) [] h k = absurd k

  merge_rises : (x : Merge) (v : World) → merge_sound x v → IsInOrder (merge_order x) (rows_of_merge x v)
  merge_rises x v h = rest_rises rows_of_source x.order x.dedup x.state v

  ordered : (hs : List SsTableHandle) (tables : List (List RowEntry)) → AreReadableTables w hs tables → AllByRecursion AreInOrder tables
  ordered [] [] k = tt
  ordered (x ∷ hs) (rows ∷ tables) k = (k.0.order, ordered hs tables k.1)
  ordered [] (rows ∷ tables) k = absurd k
  ordered (x ∷ hs) [] k = absurd k

  -- a new export of all these tables
  pub new_export : (hs : List SsTableHandle) (tables : List (List RowEntry)) (sources : List InternalSstIterator) (it : Export) → MatchEach (IsTableSource range order) (reverse hs) sources → IsExportOf order sources it → AreReadableTables w hs tables →
      export_sound it w × IsExport (operator_at w.meaning.combine) order range (all_rows tables) (export_rows it w)
  new_export hs tables sources it each of are =
      let here = sources_merge (reverse hs) sources (reverse tables) each (each_back _ hs tables are) in
      let merge = merges rows_of_source source_sound source_order w sources order true of.merge of.merges here.0 in
      let rows : export_rows it w ≡ exported (operator_at w.meaning.combine) order (map (table_rows order range) (reverse tables)) =
      ap (filter is_live) (new_rest rows_of_merge of.merge whole_folds it.iterator of.folds w ∙ ap (folded (operator_at w.meaning.combine) true None) (merge.1 ∙ ap (merged order true) here.1)) in (
        new_sound rows_of_merge merge_sound merge_order merge_rises of.merge whole_folds it.iterator of.folds w merge.0,
        subst (IsExport (operator_at w.meaning.combine) order range (all_rows tables)) (sym rows) (export_is_stored (operator_at w.meaning.combine) order range tables (ordered hs tables are)),
      )
