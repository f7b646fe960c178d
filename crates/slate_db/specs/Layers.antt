-- The layers of a core: rows in memory, and what is kept of runs of tables.
--     FitsMemory r      what is true of each row in memory: it fits a table as it is
--     AreRising rows      of the rows of a key, oldest first: the sequences rise
--     LayersModel      what contracts see of layers
--     in_memory y      the memtables, the newest last
--     AreLayers y      what is true of all layers
--     without_seq n rows      the rows without those of a sequence
use Rattle.std.specs.Prelude.{◌≡◌, ℕ, ◌<◌, ◌==◌, not, filter, List, [], ◌∷◌, ◌++◌, length}
use Rattle.std.specs.List.{AllByRecursion}
use Rattle.slate_types.specs.declared.types.RowEntry.{RowEntry}
use Rattle.slate_types.specs.Rows.{operand}
use Rattle.slate_types.specs.Fold.{IsShort}
use Rattle.slate_block.specs.BlockSpelling.{IsKey, as_read}
use Rattle.slate_read.specs.declared.sorted_run.SortedRun.{SortedRun}
use Rattle.slate_table.specs.Table.{AreInOrder}
use Rattle.slate_db.specs.Model.{Rows, versions_in}

-- version 1 reads it as it is: a tombstone has no expiry
pub record FitsMemory (r : RowEntry) : Type 0 where
  pub key : IsKey r.key
  pub value : IsShort (operand r)
  pub read : as_read 1 r ≡ r

abbrev pub AreRising : Rows → Type 0
AreRising [] = Unit {0}
AreRising (r ∷ rs) = AllByRecursion (λ s. r.seq < s.seq) rs × AreRising rs

-- frozen: the oldest memtable first; runs: what is kept of runs of tables, those of the newest install last; floor: the greatest barrier of a flush so far;
-- for_freeze: how many more memtables are frozen without memory
pub record LayersModel : Type 0 where
  pub active : Rows
  pub frozen : List Rows
  pub runs : List SortedRun
  pub floor : ℕ
  pub for_freeze : ℕ

abbrev pub in_memory : LayersModel → List Rows
in_memory y = y.frozen ++ (y.active ∷ [])

pub record AreLayers (y : LayersModel) : Type 0 where
  pub active_order : AreInOrder y.active
  pub frozen_order : AllByRecursion AreInOrder y.frozen
  pub frozen_some : AllByRecursion (λ rows. 0 < length rows) y.frozen
  pub fit : AllByRecursion (λ rows. AllByRecursion FitsMemory rows) (in_memory y)
  pub rise : (k : List ℕ) → AreRising (versions_in k (in_memory y))

abbrev pub without_seq : ℕ → Rows → Rows
without_seq n rows = filter (λ r. not (r.seq == n)) rows
