-- Rows that a source of a read may hand out, by the reads that it makes from now on.
--     segment_run_begins, segment_run_takes, segment_run_seeks      of an iterator over a run of a segment
--     brings_segments, segments_begin, segments_take, segments_seek      of one over the runs of segments
--     brings_source it m reads r      of a source of each kind
--     rows_here it      the rows in memory that it has left, where it is of a batch or a memtable
--     StayHere before after means      of one in memory: it stays so, and of its rows before and after this holds
--     source_begins, source_takes, source_seeks      what its calls may read and answer, and what becomes of it then
use Rattle.std.specs.Prelude.{◌≡◌, ℕ, List, Contains, Option, Some, None, IfSome, IsSomeAnd}
use Rattle.slate_types.specs.declared.iter.IterationOrder.{IterationOrder}
use Rattle.slate_types.specs.declared.types.RowEntry.{RowEntry}
use Rattle.slate_types.specs.Iteration.{TakesRow, drop_before}
use Rattle.slate_types.specs.Outside.{Act, Meaning}
use Rattle.slate_merge.specs.NoMoreRows.{HandsOut, NoMoreRows}
use Rattle.slate_merge.specs.MergeBringing.{MergeBegins, MergeSeeks, MergeTakes, brings_merge}
use Rattle.slate_read.specs.declared.read_source.ReadSource.{ReadSource}
use Rattle.slate_read.specs.declared.read_source.ReadSource.TheVariants.{Empty, Internal, Table, Run, Segments, Batch, Memory}
use Rattle.slate_read.specs.declared.segment_merge_iterator.SegmentMergeIterator.{SegmentMergeIterator}
use Rattle.slate_read.specs.declared.sorted_run_iterator.SortedRunIterator.{SortedRunIterator}
use Rattle.slate_read.specs.RunBringing.{brings_run_iterator, run_begins, run_seeks, run_takes}
use Rattle.slate_read.specs.SstBringing.{brings_sst}

-- ---- the runs of segments

abbrev pub segment_run_begins : SortedRunIterator → Meaning → List Act → SortedRunIterator → Type 0
segment_run_begins before m reads after = run_begins before.rows m reads after.rows

abbrev pub segment_run_takes : SortedRunIterator → Meaning → List Act → Option RowEntry → SortedRunIterator → Type 0
segment_run_takes before m reads answer after = run_takes before.rows m reads answer after.rows

abbrev pub segment_run_seeks : SortedRunIterator → Meaning → List Act → List ℕ → SortedRunIterator → Type 0
segment_run_seeks before m reads key after = run_seeks before.rows m reads key after.rows

abbrev pub brings_segments : SegmentMergeIterator → Meaning → List Act → RowEntry → Type 0
brings_segments it m reads r = brings_merge segment_run_begins segment_run_takes segment_run_seeks it.rows m reads r

abbrev pub segments_begin : SegmentMergeIterator → Meaning → List Act → SegmentMergeIterator → Type 0
segments_begin before m reads after = MergeBegins segment_run_begins segment_run_takes segment_run_seeks before.rows m reads after.rows

abbrev pub segments_take : SegmentMergeIterator → Meaning → List Act → Option RowEntry → SegmentMergeIterator → Type 0
segments_take before m reads answer after = MergeTakes segment_run_begins segment_run_takes segment_run_seeks before.rows m reads answer after.rows

abbrev pub segments_seek : SegmentMergeIterator → Meaning → List Act → List ℕ → SegmentMergeIterator → Type 0
segments_seek before m reads key after = MergeSeeks segment_run_begins segment_run_takes segment_run_seeks before.rows m reads key after.rows

-- ---- a source of each kind

-- rows in memory are brought without a read
abbrev pub brings_source : ReadSource → Meaning → List Act → RowEntry → Type 0
brings_source (Empty it) m reads r = ⊥
brings_source (Internal it) m reads r = brings_sst it.rows m reads r
brings_source (Table it) m reads r = brings_sst it.rows m reads r
brings_source (Run it) m reads r = brings_run_iterator it.rows m reads r
brings_source (Segments it) m reads r = brings_segments it m reads r
brings_source (Batch it) m reads r = Contains it.rows r
brings_source (Memory it) m reads r = Contains it.rows r

abbrev pub rows_here : ReadSource → Option (List RowEntry)
rows_here (Batch it) = Some it.rows
rows_here (Memory it) = Some it.rows
rows_here _ = None

abbrev pub StayHere : ReadSource → ReadSource → (List RowEntry → List RowEntry → Type 0) → Type 0
StayHere before after means = IfSome (rows_here before) (λ x. IsSomeAnd (rows_here after) (λ y. means x y))

abbrev pub source_begins : ReadSource → Meaning → List Act → ReadSource → Type 0
source_begins before m reads after = NoMoreRows (brings_source before m) reads (brings_source after m) × StayHere before after (λ x y. y ≡ x)

-- rows in memory come as they stand
abbrev pub source_takes : ReadSource → Meaning → List Act → Option RowEntry → ReadSource → Type 0
source_takes before m reads answer after = HandsOut (brings_source before m) reads answer (brings_source after m) × StayHere before after (λ x y. TakesRow x answer y)

abbrev pub source_seeks : ReadSource → Meaning → List Act → List ℕ → ReadSource → Type 0
source_seeks before m reads key after = NoMoreRows (brings_source before m) reads (brings_source after m) × StayHere before after (λ x y. (order : IterationOrder) × (y ≡ drop_before order key x))
