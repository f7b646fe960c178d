-- Rows that a walk over a table may hand out, by the reads that it makes from now on.
--     HasRead reads r      one of the rows of a block is read as this one
--     IsRowIn version order block r      a walk over a block, which is bytes, has the row
--     BringsLeft rows r      of the block that is open it is left
--     BringsReady version order ready r      a block that was read ahead has it
--     BringsSome m h entries order reads r      a read of neighbouring blocks shows one that has it
--     brings_behind h order cursor m reads r      one of these
--     BringsUnread m h order reads r      the index was read, and a read of neighbouring blocks shows one that has it
--     brings_in s h order m reads r      of a table that wasn't opened, or is walked; one that was refused brings none
--     brings_of it m reads r      what a walk over a table brings
use Rattle.std.specs.Prelude.{◌≡◌, ◌⊎◌, ℕ, ◌<◌, ◌≤◌, List, length, slice_get, Contains, Option, Some, None, Ok}
use Rattle.slate_types.specs.declared.types.RowEntry.{RowEntry}
use Rattle.slate_types.specs.declared.iter.IterationOrder.{IterationOrder}
use Rattle.slate_types.specs.Outside.{Act, Meaning}
use Rattle.slate_block.specs.declared.block.Block.{Block}
use Rattle.slate_block.specs.declared.data_block_iterator.DataBlockIterator.{DataBlockIterator}
use Rattle.slate_block.specs.BlockWalks.{ReadsLeft}
use Rattle.slate_block.specs.EitherVersion.{left_of}
use Rattle.slate_block.specs.ReadingLaws.{EachIsAByte}
use Rattle.slate_block.specs.Walks.{RowRead}
use Rattle.slate_table.specs.declared.info.SsTableHandle.{SsTableHandle}
use Rattle.slate_table.specs.IndexValue.{entries_of}
use Rattle.slate_table.specs.Reading.{of_index, whole_answer, IsIndexRead, IsBlockRead}
use Rattle.slate_read.specs.declared.table_state.Cursor.{Cursor}
use Rattle.slate_read.specs.declared.table_state.TableState.{TableState}
use Rattle.slate_read.specs.declared.table_state.TableState.TheVariants.{New, Walking, Refused}
use Rattle.slate_read.specs.declared.table_state.TableWalk.{TableWalk}
use Rattle.slate_read.specs.TableWalk.{Walks, answer_at, path_in, read_of}

-- ---- the rows of a block

abbrev pub HasRead : List RowRead → RowEntry → Type 0
HasRead reads r = (i : ℕ) × (slice_get reads i ≡ Some (Ok r))

abbrev pub IsRowIn : ℕ → IterationOrder → Block → RowEntry → Type 0
IsRowIn version order block r = EachIsAByte block.body × ((it : ReadsLeft) × Walks version order block it × HasRead it.reads r)

-- ---- of a table

abbrev pub BringsLeft : Option (DataBlockIterator Block) → RowEntry → Type 0
BringsLeft None r = ⊥
BringsLeft (Some it) r = HasRead (left_of it).reads r

abbrev pub BringsReady : ℕ → IterationOrder → List Block → RowEntry → Type 0
BringsReady version order ready r = (n : ℕ) × (block : Block) × (slice_get ready n ≡ Some block) × IsRowIn version order block r

pub record BringsSome (m : Meaning) (h : SsTableHandle) (entries : List (ℕ × List ℕ)) (order : IterationOrder) (reads : List Act) (r : RowEntry) : Type 0 where
  pub first : ℕ
  pub stop : ℕ
  pub at : ℕ
  pub given : Option (List ℕ)
  pub from : first ≤ at
  pub below : at < stop
  pub within : stop ≤ length entries
  pub among : Contains reads (read_of h entries first stop given)
  pub block : Block
  pub read : IsBlockRead m.decode (answer_at h entries first stop given at) block
  pub row : IsRowIn h.format_version order block r

abbrev pub brings_behind : SsTableHandle → IterationOrder → Cursor → Meaning → List Act → RowEntry → Type 0
brings_behind h order cursor m reads r = BringsLeft cursor.rows r ⊎ BringsReady h.format_version order cursor.ready.items r ⊎ BringsSome m h (entries_of cursor.index) order reads r

abbrev pub BringsUnread : Meaning → SsTableHandle → IterationOrder → List Act → RowEntry → Type 0
BringsUnread m h order reads r =
    (given : Option (List ℕ)) × Contains reads (Act.read (path_in h) h.info.index_offset h.info.index_len given)
    × ((entries : List (ℕ × List ℕ)) × IsIndexRead m.decode h.info.filter_offset (of_index h (whole_answer h.info.index_len given)) entries × BringsSome m h entries order reads r)

abbrev pub brings_in : TableState → SsTableHandle → IterationOrder → Meaning → List Act → RowEntry → Type 0
brings_in New h order m reads r = BringsUnread m h order reads r
brings_in (Walking cursor) h order m reads r = brings_behind h order cursor m reads r
brings_in (Refused e) h order m reads r = ⊥

abbrev pub brings_of : TableWalk → Meaning → List Act → RowEntry → Type 0
brings_of it m reads r = brings_in it.state it.table it.order m reads r
