-- The rows of several memtables in one list.
--     last_row rows      the last one, where there is one
--     IsGathered layers out      the rows of layers, of which the newest stands last, with keys rising and each key's newest first
use Rattle.std.specs.Prelude.{◌≡◌, ℕ, ◌-◌, List, length, slice_get, Option}
use Rattle.slate_types.specs.declared.types.RowEntry.{RowEntry}
use Rattle.slate_types.specs.declared.iter.IterationOrder.TheVariants.{Ascending}
use Rattle.slate_types.specs.Iteration.{IsInOrder}
use Rattle.slate_mem.specs.Lookup.{newest_first}
use Rattle.slate_types.specs.Rows.{of_key}

abbrev pub last_row : List RowEntry → Option RowEntry
last_row rows = slice_get rows (length rows - 1)

pub record IsGathered (layers : List (List RowEntry)) (out : List RowEntry) : Type 0 where
  pub order : IsInOrder Ascending out
  pub same : (k : List ℕ) → of_key k out ≡ of_key k (newest_first layers)
