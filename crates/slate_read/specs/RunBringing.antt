-- Rows that an iterator over a run of stored tables may hand out, by the reads that it makes from now on.
--     BringsOpen order x m reads r      of the table that is open, where one is
--     BringsWaiting m order tables reads r      of a table that wasn't opened
--     brings_run order x m reads r      of all, with the row that was read ahead
--     brings_run_in s order x m reads r, brings_walk it m reads r      of a walk; one that was refused brings none
--     run_walk_begins, run_walk_takes, run_walk_seeks      what the calls of a walk over a run may read, and what becomes of it then
--     brings_run_source m source reads r      of one that hands out the rows in a range alone: what its walk brings
--     RunRows      a walk over a run, of which the rows in a range are handed out, the newest of each key first
--     brings_run_iterator it m reads r      one of the rows that it holds, or that its walk brings
--     run_begins, run_takes, run_seeks      what its calls may read and answer, and what becomes of it then
--     UnopenedRunsBring      of one that wasn't opened, the index of a table that can hold a key of the range was read, and a read of
--                            neighbouring blocks shows one that has the row
use Rattle.std.specs.Prelude.{◌≡◌, ◌⊎◌, ℕ, false, List, Contains, Option, None, Some}
use Rattle.slate_types.specs.declared.bytes_range.BytesRange.{BytesRange}
use Rattle.slate_types.specs.declared.iter.IterationOrder.{IterationOrder}
use Rattle.slate_types.specs.declared.types.RowEntry.{RowEntry}
use Rattle.slate_types.specs.Outside.{Act, Meaning}
use Rattle.slate_table.specs.declared.info.SsTableHandle.{SsTableHandle}
use Rattle.slate_merge.specs.declared.filter_iterator.FilterIterator.{FilterIterator}
use Rattle.slate_merge.specs.declared.newest_first.NewestFirst.{NewestFirst}
use Rattle.slate_merge.specs.NoMoreRows.{HandsOut, NoMoreRows}
use Rattle.slate_merge.specs.Handing.{brings_held, held_in}
use Rattle.slate_merge.specs.NewestFirst.{Begins, IsGoing, IsUnrefused, is_below}
use Rattle.slate_read.specs.declared.range_rows.InRange.{InRange}
use Rattle.slate_read.specs.declared.run_state.OpenTable.{OpenTable}
use Rattle.slate_read.specs.declared.run_state.RunCursor.{RunCursor}
use Rattle.slate_read.specs.declared.run_state.RunState.{RunState}
use Rattle.slate_read.specs.declared.run_state.RunState.TheVariants.{New, Going, Refused}
use Rattle.slate_read.specs.declared.run_state.RunWalk.{RunWalk}
use Rattle.slate_read.specs.declared.sorted_run.SortedRun.{SortedRun}
use Rattle.slate_read.specs.Bringing.{BringsUnread, brings_behind}
use Rattle.slate_read.specs.RunIterators.{IsRunIterator, reached}
use Rattle.slate_read.specs.RunWalk.{IsGoingRun, IsSameRun, IsUnrefusedRun, rows_ahead, waiting}

-- ---- a walk

abbrev pub BringsOpen : IterationOrder → Option OpenTable → Meaning → List Act → RowEntry → Type 0
BringsOpen order None m reads r = ⊥
BringsOpen order (Some open_table) m reads r = brings_behind open_table.table order open_table.cursor m reads r

abbrev pub BringsWaiting : Meaning → IterationOrder → List SsTableHandle → List Act → RowEntry → Type 0
BringsWaiting m order tables reads r = (h : SsTableHandle) × Contains tables h × BringsUnread m h order reads r

abbrev pub brings_run : IterationOrder → RunCursor → Meaning → List Act → RowEntry → Type 0
brings_run order x m reads r = Contains (rows_ahead x.ahead) r ⊎ BringsOpen order x.current m reads r ⊎ BringsWaiting m order (waiting x) reads r

abbrev pub brings_run_in : RunState → IterationOrder → RunCursor → Meaning → List Act → RowEntry → Type 0
brings_run_in New order x m reads r = brings_run order x m reads r
brings_run_in Going order x m reads r = brings_run order x m reads r
brings_run_in (Refused e) order x m reads r = ⊥

abbrev pub brings_walk : RunWalk → Meaning → List Act → RowEntry → Type 0
brings_walk it m reads r = brings_run_in it.state it.order it.cursor m reads r

abbrev pub run_walk_begins : RunWalk → Meaning → List Act → RunWalk → Type 0
run_walk_begins before m reads after = IsUnrefusedRun before.state × IsGoingRun after.state × IsSameRun before after × NoMoreRows (brings_walk before m) reads (brings_walk after m)

abbrev pub run_walk_takes : RunWalk → Meaning → List Act → Option RowEntry → RunWalk → Type 0
run_walk_takes before m reads answer after = IsGoingRun before.state × IsGoingRun after.state × IsSameRun before after × HandsOut (brings_walk before m) reads answer (brings_walk after m)

abbrev pub run_walk_seeks : RunWalk → Meaning → List Act → List ℕ → RunWalk → Type 0
run_walk_seeks before m reads key after = IsGoingRun before.state × IsGoingRun after.state × IsSameRun before after × NoMoreRows (brings_walk before m) reads (brings_walk after m)

-- ---- the rows in a range

abbrev pub brings_run_source : Meaning → FilterIterator RunWalk InRange → List Act → RowEntry → Type 0
brings_run_source m source reads r = brings_walk source.iterator m reads r

-- ---- the newest of each key first

abbrev pub RunRows : Type 0
RunRows = NewestFirst (FilterIterator RunWalk InRange)

abbrev pub brings_run_iterator : RunRows → Meaning → List Act → RowEntry → Type 0
brings_run_iterator it m reads r = brings_held (brings_run_source m) (it.iterator, held_in it.progress) reads r

abbrev pub run_begins : RunRows → Meaning → List Act → RunRows → Type 0
run_begins before m reads after = IsUnrefused before.progress × Begins before.progress after.progress × (after.range ≡ before.range) × NoMoreRows (brings_run_iterator before m) reads (brings_run_iterator after m)

abbrev pub run_takes : RunRows → Meaning → List Act → Option RowEntry → RunRows → Type 0
run_takes before m reads answer after = IsGoing before.progress × IsGoing after.progress × (after.range ≡ before.range) × HandsOut (brings_run_iterator before m) reads answer (brings_run_iterator after m)

abbrev pub run_seeks : RunRows → Meaning → List Act → List ℕ → RunRows → Type 0
run_seeks before m reads key after = (is_below before.range key ≡ false) × IsGoing before.progress × IsGoing after.progress × (after.range ≡ before.range) × NoMoreRows (brings_run_iterator before m) reads (brings_run_iterator after m)

abbrev pub UnopenedRunsBring : Type 0
UnopenedRunsBring = (range : BytesRange) (run : SortedRun) (order : IterationOrder) (it : RunRows) → IsRunIterator range run order it →
    (m : Meaning) (reads : List Act) (r : RowEntry) → brings_run_iterator it m reads r → (h : SsTableHandle) × Contains (reached range order run.tables.items) h × ((o : IterationOrder) × BringsUnread m h o reads r)
