-- The rows of several tables as one merge, folded, without tombstones.
--     Merge, Export      the merge of tables' rows, and what folds it
--     rows_of_source, rows_of_merge, merge_sound, merge_order      what these are in a world
--     export_rows it w, export_sound it w      what is left in a world, and what that rests on
--     MatchEach R xs ys      two lists of one length, of which R is true place by place
--     IsTableSource range order h s      the source is new, of the rows of a table in a range
--     IsExportOf order sources it      the export is new, and merges these sources
--     IsTableIn w h rows, AreReadableTables w handles tables      in a world a table has these
--                            rows, and is read; so are several
use Rattle.std.specs.Prelude.{◌≡◌, ℕ, true, List, [], ◌∷◌, filter, flat_map, None}
use Rattle.slate_types.specs.declared.bytes_range.BytesRange.{BytesRange}
use Rattle.slate_types.specs.declared.iter.IterationOrder.{IterationOrder}
use Rattle.slate_types.specs.declared.types.RowEntry.{RowEntry}
use Rattle.slate_types.specs.World.{Kept, World}
use Rattle.slate_merge.specs.declared.filter_iterator.FilterIterator.{FilterIterator}
use Rattle.slate_merge.specs.declared.folding.Folding.{Folding}
use Rattle.slate_merge.specs.declared.merge_iterator.MergeIterator.{MergeIterator}
use Rattle.slate_merge.specs.declared.operator_iterator.MergeOperatorIterator.{MergeOperatorIterator}
use Rattle.slate_merge.specs.MergeStates.{IsMergeOf, IsSoundMerge, rest_of_merge}
use Rattle.slate_merge.specs.OperatorIterators.{IsFolding, rest_folding, sound_folding}
use Rattle.slate_read.specs.declared.internal_sst_iterator.InternalSstIterator.{InternalSstIterator}
use Rattle.slate_read.specs.SstIterators.{IsTableIterator, sst_rest, sst_sound}
use Rattle.slate_read.specs.TableWalk.{IsReadable}
use Rattle.slate_table.specs.declared.info.SsTableHandle.{SsTableHandle}
use Rattle.slate_table.specs.Table.{AreInOrder}
use Rattle.slate_tables.specs.declared.merging.Live.{Live}
use Rattle.slate_tables.specs.Exported.{is_live}

abbrev pub Merge : Type 0
Merge = MergeIterator InternalSstIterator

abbrev pub Export : Type 0
Export = FilterIterator (MergeOperatorIterator Merge) Live

-- ---- in a world

abbrev pub rows_of_source : InternalSstIterator → World → List RowEntry
rows_of_source s w = sst_rest s.rows w

abbrev pub source_sound : InternalSstIterator → World → Type 0
source_sound s w = sst_sound s.rows w

abbrev pub source_order : InternalSstIterator → IterationOrder
source_order s = s.rows.iterator.iterator.order

abbrev pub rows_of_merge : Merge → World → List RowEntry
rows_of_merge m w = rest_of_merge rows_of_source m w

abbrev pub merge_sound : Merge → World → Type 0
merge_sound m w = IsSoundMerge rows_of_source source_sound source_order m w

abbrev pub merge_order : Merge → IterationOrder
merge_order m = m.order

abbrev pub export_rows : Export → World → List RowEntry
export_rows it w = filter is_live (rest_folding rows_of_merge it.iterator w)

abbrev pub export_sound : Export → World → Type 0
export_sound it w = sound_folding rows_of_merge merge_sound merge_order it.iterator w

-- ---- new ones

abbrev pub MatchEach : {A B : Type 0} → (A → B → Type 0) → List A → List B → Type 0
MatchEach R [] [] = Unit {0}
MatchEach R (x ∷ xs) (y ∷ ys) = R x y × MatchEach R xs ys
MatchEach R [] (y ∷ ys) = ⊥
MatchEach R (x ∷ xs) [] = ⊥

abbrev pub IsTableSource : BytesRange → IterationOrder → SsTableHandle → InternalSstIterator →
    Type 0
IsTableSource range order h s = IsTableIterator range h order s.rows

abbrev pub whole_folds : Folding
whole_folds = record { merge_different_expire_ts = true; snapshot_barrier_seq = None }

pub record IsExportOf (order : IterationOrder) (sources : List InternalSstIterator) (it : Export)
    : Type 0 where
  pub merge : Merge
  pub merges : IsMergeOf sources order true merge
  pub folds : IsFolding merge whole_folds it.iterator

-- ---- tables in a world

pub record IsTableIn (w : World) (h : SsTableHandle) (rows : List RowEntry) : Type 0 where
  pub kept : Kept
  pub readable : IsReadable w h kept
  pub has : flat_map (λ b. b) kept.blocks ≡ rows
  pub order : AreInOrder rows

abbrev pub AreReadableTables : World → List SsTableHandle → List (List RowEntry) → Type 0
AreReadableTables w handles tables = MatchEach (IsTableIn w) handles tables
