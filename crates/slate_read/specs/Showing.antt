-- Damage of a stored table, shown by reads. Other reads may stand among these.
--     index_read h given, blocks_read h entries first stop given      the read of a table's index, and one of neighbouring blocks, and what was given
--     RefusesBlockOf decode version answer e      the section of a block is refused, or the block, or a row of it
--     ShowsBlock decode h entries reads e      a read of neighbouring blocks shows one that is refused
--     ShowsByReads decode h reads e      the index was read and is refused, or it has these entries, and a read of neighbouring blocks shows one that is refused
--     SomeShows decode tables reads e      one of some tables shows the error
--     UnopenedWalksShow, UnopenedRunsShow      what an iterator that wasn't opened refuses, beside want of an `init` and a seek to a key before its range, a read of an index shows, or that and a read of blocks
use Rattle.std.specs.Prelude.{◌≡◌, ◌⊎◌, ℕ, ◌≤◌, ◌<◌, List, length, Contains, Option}
use Rattle.slate_types.specs.declared.bytes_range.BytesRange.{BytesRange}
use Rattle.slate_types.specs.declared.error.SlateDBError.{SlateDBError}
use Rattle.slate_types.specs.declared.error.SlateDBError.TheVariants.{IteratorNotInitialized}
use Rattle.slate_types.specs.declared.iter.IterationOrder.{IterationOrder}
use Rattle.slate_types.specs.Outside.{Act, Meaning}
use Rattle.slate_types.specs.Refusing.{IsDamage}
use Rattle.slate_block.specs.declared.block.Block.{Block}
use Rattle.slate_table.specs.declared.info.SsTableHandle.{SsTableHandle}
use Rattle.slate_table.specs.Parts.{Encode}
use Rattle.slate_table.specs.Reading.{SectionRead, of_blocks, of_index, whole_answer, IsIndexRead, RefusesIndex, IsBlockRead, RefusesBlock, block_start, blocks_size}
use Rattle.slate_merge.specs.declared.filter_iterator.FilterIterator.{FilterIterator}
use Rattle.slate_merge.specs.declared.newest_first.NewestFirst.{NewestFirst}
use Rattle.slate_merge.specs.NewestFirst.{RefusesSeek}
use Rattle.slate_read.specs.declared.range_rows.InRange.{InRange}
use Rattle.slate_read.specs.declared.run_state.RunWalk.{RunWalk}
use Rattle.slate_read.specs.declared.sorted_run.SortedRun.{SortedRun}
use Rattle.slate_read.specs.declared.table_state.TableWalk.{TableWalk}
use Rattle.slate_read.specs.RunIterators.{IsRunIterator, run_refuses}
use Rattle.slate_read.specs.SstIterators.{IsTableIterator, sst_refuses}
use Rattle.slate_read.specs.TableWalk.{RefusesRows, path_in}

abbrev pub index_read : SsTableHandle → Option (List ℕ) → Act
index_read h given = Act.read (path_in h) h.info.index_offset h.info.index_len given

abbrev pub blocks_read : SsTableHandle → List (ℕ × List ℕ) → ℕ → ℕ → Option (List ℕ) → Act
blocks_read h entries first stop given = Act.read (path_in h) (block_start h.info.filter_offset entries first) (blocks_size h.info.filter_offset entries first stop) given

abbrev pub RefusesBlockOf : Encode → ℕ → SectionRead → SlateDBError → Type 0
RefusesBlockOf decode version s e = RefusesBlock decode s e ⊎ ((block : Block) × IsBlockRead decode s block × ((order : IterationOrder) × RefusesRows version order block e))

pub record ShowsBlock (decode : Encode) (h : SsTableHandle) (entries : List (ℕ × List ℕ)) (reads : List Act) (e : SlateDBError) : Type 0 where
  pub first : ℕ
  pub stop : ℕ
  pub at : ℕ
  pub from : first ≤ at
  pub upto : at < stop
  pub within : stop ≤ length entries
  pub given : Option (List ℕ)
  pub among : Contains reads (blocks_read h entries first stop given)
  pub refuses : RefusesBlockOf decode h.format_version (of_blocks h entries first (whole_answer (blocks_size h.info.filter_offset entries first stop) given) at) e

pub record ShowsByReads (decode : Encode) (h : SsTableHandle) (reads : List Act) (e : SlateDBError) : Type 0 where
  pub given : Option (List ℕ)
  pub among : Contains reads (index_read h given)
  pub why : RefusesIndex decode h.info.filter_offset (of_index h (whole_answer h.info.index_len given)) e
      ⊎ ((entries : List (ℕ × List ℕ)) × IsIndexRead decode h.info.filter_offset (of_index h (whole_answer h.info.index_len given)) entries × ShowsBlock decode h entries reads e)

abbrev pub SomeShows : Encode → List SsTableHandle → List Act → SlateDBError → Type 0
SomeShows decode tables reads e = (h : SsTableHandle) × Contains tables h × ShowsByReads decode h reads e

abbrev pub UnopenedWalksShow : Type 0
UnopenedWalksShow = (range : BytesRange) (table : SsTableHandle) (order : IterationOrder) (it : NewestFirst (FilterIterator TableWalk InRange)) → IsTableIterator range table order it →
    (m : Meaning) (reads : List Act) (at : Option (List ℕ)) (e : SlateDBError) → sst_refuses it m reads at e →
    (e ≡ IteratorNotInitialized) ⊎ RefusesSeek range at e ⊎ (IsDamage e × ShowsByReads m.decode table reads e)

abbrev pub UnopenedRunsShow : Type 0
UnopenedRunsShow = (range : BytesRange) (run : SortedRun) (order : IterationOrder) (it : NewestFirst (FilterIterator RunWalk InRange)) → IsRunIterator range run order it →
    (m : Meaning) (reads : List Act) (at : Option (List ℕ)) (e : SlateDBError) → run_refuses it m reads at e →
    (e ≡ IteratorNotInitialized) ⊎ RefusesSeek range at e ⊎ (IsDamage e × SomeShows m.decode run.tables.items reads e)
