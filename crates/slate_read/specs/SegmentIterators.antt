-- Iterators over the runs of segments.
--     meets range prefix      whether a key that begins with the prefix can be in the range
--     can_begin start prefix      a key that begins with the prefix can be behind the start of a range
--     source_rest, source_sound, source_order, source_bound, source_refuses      an iterator over one run
--     IsSegmentWithin it paths      it reads objects at these paths alone
--     segment_rest, segment_sound, segment_order, segment_bound, segment_refuses      an iterator over the runs of segments
--     BeginWith prefix rows      each key begins with the prefix
--     AreRuns range order runs its      new iterators over these runs, one for each
--     met_runs range runs      the runs whose prefixes can begin keys of the range
--     AreSegmentsReadable w runs kepts      the tables of each run are readable, and its keys begin with its prefix
--     merged_runs range order kepts      the rows of runs in a range, in an order, those of a key by falling sequence, and of one sequence that of the earlier run first
--     IsSegmentMerge range runs order it      it is new, and over the runs alone whose prefixes can begin keys of the range; and in each world that has all the runs,
--                                            their rows in the range are left
use Rattle.slate_read.specs.RunWalk.{IsRunWithin}
use Rattle.std.specs.Prelude.{◌≡◌, ℕ, Bool, true, false, ◌&&◌, ◌||◌, List, [], ◌∷◌, map, filter, Option, nat_eq}
use Rattle.std.specs.List.{starts_with, AllByRecursion}
use Rattle.std.specs.declared.ops.Bound.{Bound}
use Rattle.std.specs.declared.ops.Bound.TheVariants.{Included, Excluded, Unbounded}
use Rattle.slate_types.specs.declared.bytes_range.BytesRange.{BytesRange}
use Rattle.slate_types.specs.declared.error.SlateDBError.{SlateDBError}
use Rattle.slate_types.specs.declared.iter.IterationOrder.{IterationOrder}
use Rattle.slate_types.specs.declared.types.RowEntry.{RowEntry}
use Rattle.slate_types.specs.Keys.{key_le, is_before_end}
use Rattle.slate_types.specs.Outside.{Act, Meaning}
use Rattle.slate_types.specs.World.{Kept, World}
use Rattle.slate_merge.specs.Groups.{in_turn}
use Rattle.slate_merge.specs.Merge.{merged}
use Rattle.slate_merge.specs.MergeStates.{IsSoundIn, WaitingAre, bound_in, refuses_in, rest_in, IsWithinIn}
use Rattle.slate_read.specs.declared.segment_merge_iterator.SegmentMergeIterator.{SegmentMergeIterator}
use Rattle.slate_read.specs.declared.sorted_run.SortedRun.{SortedRun}
use Rattle.slate_read.specs.declared.sorted_run_iterator.SortedRunIterator.{SortedRunIterator}
use Rattle.slate_read.specs.RunIterators.{AreReadable, IsRunIterator, rows_in_run, run_iterator_bound, run_refuses, run_rest, run_rows, run_sound}

abbrev pub can_begin : Bound (List ℕ) → List ℕ → Bool
can_begin (Included a) p = starts_with nat_eq a p || key_le a p
can_begin (Excluded a) p = starts_with nat_eq a p || key_le a p
can_begin Unbounded p = true

abbrev pub meets : BytesRange → List ℕ → Bool
meets range p = can_begin range.start p && is_before_end range.end p

-- ---- the iterators

abbrev pub source_rest : SortedRunIterator → World → List RowEntry
source_rest it w = run_rest it.rows w

abbrev pub source_sound : SortedRunIterator → World → Type 0
source_sound it w = run_sound it.rows w

abbrev pub source_order : SortedRunIterator → IterationOrder
source_order it = it.rows.iterator.iterator.order

abbrev pub source_bound : SortedRunIterator → ℕ
source_bound it = run_iterator_bound it.rows

abbrev pub source_refuses : SortedRunIterator → Meaning → List Act → Option (List ℕ) → SlateDBError → Type 0
source_refuses it m reads at e = run_refuses it.rows m reads at e

abbrev pub segment_rest : SegmentMergeIterator → World → List RowEntry
segment_rest it w = rest_in source_rest it.rows.order it.rows.dedup it.rows.state w

abbrev pub segment_sound : SegmentMergeIterator → World → Type 0
segment_sound it w = IsSoundIn source_rest source_sound source_order it.rows.order it.rows.state w

abbrev pub segment_order : SegmentMergeIterator → IterationOrder
segment_order it = it.rows.order

abbrev pub IsSegmentWithin : SegmentMergeIterator → List (List ℕ) → Type 0
IsSegmentWithin it paths = IsWithinIn (λ (run : SortedRunIterator) ps. IsRunWithin run.rows.iterator.iterator ps) it.rows.state paths

abbrev pub segment_bound : SegmentMergeIterator → ℕ
segment_bound it = bound_in source_bound it.rows.state

abbrev pub segment_refuses : SegmentMergeIterator → Meaning → List Act → Option (List ℕ) → SlateDBError → Type 0
segment_refuses it m reads at e = refuses_in source_refuses it.rows.state m reads at e

-- ---- what a new one brings

abbrev pub BeginWith : List ℕ → List RowEntry → Type 0
BeginWith p rows = AllByRecursion (λ r. starts_with nat_eq r.key p ≡ true) rows

abbrev pub AreRuns : BytesRange → IterationOrder → List SortedRun → List SortedRunIterator → Type 0
AreRuns range order [] [] = Unit {0}
AreRuns range order (run ∷ runs) (it ∷ its) = IsRunIterator range run order it.rows × AreRuns range order runs its
AreRuns range order [] (it ∷ its) = ⊥
AreRuns range order (run ∷ runs) [] = ⊥

abbrev pub AreSegmentsReadable : World → List SortedRun → List (List Kept) → Type 0
AreSegmentsReadable w [] [] = Unit {0}
AreSegmentsReadable w (run ∷ runs) (kept ∷ kepts) = (AreReadable w run.tables.items kept × BeginWith run.prefix (run_rows kept)) × AreSegmentsReadable w runs kepts
AreSegmentsReadable w [] (kept ∷ kepts) = ⊥
AreSegmentsReadable w (run ∷ runs) [] = ⊥

abbrev pub merged_runs : BytesRange → IterationOrder → List (List Kept) → List RowEntry
merged_runs range order kepts = merged order false (map (λ kept. in_turn order (rows_in_run range order kept)) kepts)

abbrev pub met_runs : BytesRange → List SortedRun → List SortedRun
met_runs range runs = filter (λ run. meets range run.prefix) runs

pub record IsSegmentMerge (range : BytesRange) (runs : List SortedRun) (order : IterationOrder) (it : SegmentMergeIterator) : Type 0 where
  pub same_order : it.rows.order ≡ order
  pub opens : (sources : List SortedRunIterator) × WaitingAre sources it.rows.state × AreRuns range order (met_runs range runs) sources
  pub brings : (w : World) (kepts : List (List Kept)) → AreSegmentsReadable w runs kepts → segment_sound it w × (segment_rest it w ≡ merged_runs range order kepts)
