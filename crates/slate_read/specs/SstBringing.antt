-- Rows that an iterator over one stored table may hand out, by the reads that it makes from now on.
--     walk_begins, walk_takes, walk_seeks      what the calls of a walk over a table may read, and what becomes of it then
--     brings_walked m source reads r      what the walk of a source brings
--     brings_sst it m reads r      one of the rows that it holds, or that its walk brings
--     sst_begins, sst_takes, sst_seeks      what its calls may read and answer, and what becomes of it then
--     UnopenedWalksBring      of one that wasn't opened, the index was read, and a read of neighbouring blocks shows one that has the row
use Rattle.std.specs.Prelude.{◌≡◌, ℕ, false, List, Option}
use Rattle.slate_types.specs.declared.bytes_range.BytesRange.{BytesRange}
use Rattle.slate_types.specs.declared.iter.IterationOrder.{IterationOrder}
use Rattle.slate_types.specs.declared.types.RowEntry.{RowEntry}
use Rattle.slate_types.specs.Outside.{Act, Meaning}
use Rattle.slate_table.specs.declared.info.SsTableHandle.{SsTableHandle}
use Rattle.slate_merge.specs.declared.filter_iterator.FilterIterator.{FilterIterator}
use Rattle.slate_merge.specs.declared.newest_first.NewestFirst.{NewestFirst}
use Rattle.slate_merge.specs.NoMoreRows.{HandsOut, NoMoreRows}
use Rattle.slate_merge.specs.Handing.{brings_held, held_in}
use Rattle.slate_merge.specs.NewestFirst.{Begins, IsGoing, IsUnrefused, is_below}
use Rattle.slate_read.specs.declared.range_rows.InRange.{InRange}
use Rattle.slate_read.specs.declared.table_state.TableWalk.{TableWalk}
use Rattle.slate_read.specs.Bringing.{BringsUnread, brings_of}
use Rattle.slate_read.specs.SstIterators.{IsTableIterator}
use Rattle.slate_read.specs.TableWalk.{BeginsIn, IsSameWalk, IsWalking}

abbrev pub walk_begins : TableWalk → Meaning → List Act → TableWalk → Type 0
walk_begins before m reads after = BeginsIn before.range before.state after.state × IsSameWalk before after × NoMoreRows (brings_of before m) reads (brings_of after m)

abbrev pub walk_takes : TableWalk → Meaning → List Act → Option RowEntry → TableWalk → Type 0
walk_takes before m reads answer after = IsWalking before.state × IsWalking after.state × IsSameWalk before after × HandsOut (brings_of before m) reads answer (brings_of after m)

abbrev pub walk_seeks : TableWalk → Meaning → List Act → List ℕ → TableWalk → Type 0
walk_seeks before m reads key after = IsWalking before.state × IsWalking after.state × IsSameWalk before after × NoMoreRows (brings_of before m) reads (brings_of after m)

abbrev pub brings_walked : Meaning → FilterIterator TableWalk InRange → List Act → RowEntry → Type 0
brings_walked m source reads r = brings_of source.iterator m reads r

abbrev pub brings_sst : NewestFirst (FilterIterator TableWalk InRange) → Meaning → List Act → RowEntry → Type 0
brings_sst it m reads r = brings_held (brings_walked m) (it.iterator, held_in it.progress) reads r

abbrev pub sst_begins : NewestFirst (FilterIterator TableWalk InRange) → Meaning → List Act → NewestFirst (FilterIterator TableWalk InRange) → Type 0
sst_begins before m reads after = IsUnrefused before.progress × Begins before.progress after.progress × (after.range ≡ before.range) × NoMoreRows (brings_sst before m) reads (brings_sst after m)

abbrev pub sst_takes : NewestFirst (FilterIterator TableWalk InRange) → Meaning → List Act → Option RowEntry → NewestFirst (FilterIterator TableWalk InRange) → Type 0
sst_takes before m reads answer after = IsGoing before.progress × IsGoing after.progress × (after.range ≡ before.range) × HandsOut (brings_sst before m) reads answer (brings_sst after m)

abbrev pub sst_seeks : NewestFirst (FilterIterator TableWalk InRange) → Meaning → List Act → List ℕ → NewestFirst (FilterIterator TableWalk InRange) → Type 0
sst_seeks before m reads key after = (is_below before.range key ≡ false) × IsGoing before.progress × IsGoing after.progress × (after.range ≡ before.range) × NoMoreRows (brings_sst before m) reads (brings_sst after m)

abbrev pub UnopenedWalksBring : Type 0
UnopenedWalksBring = (range : BytesRange) (table : SsTableHandle) (order : IterationOrder) (it : NewestFirst (FilterIterator TableWalk InRange)) → IsTableIterator range table order it →
    (m : Meaning) (reads : List Act) (r : RowEntry) → brings_sst it m reads r → (o : IterationOrder) × BringsUnread m table o reads r
