-- The rows of a commit.
--     commit_rows c default n now ops      the row of each key of the batch, keys rising; `c` is what the operator does at each key
--     row_bytes rows      the bytes of their keys and values
use Rattle.std.specs.Prelude.{ℕ, ◌+◌, List, filter_map, length, Option, ℤ}
use Rattle.std.specs.List.{sum_by}
use Rattle.slate_types.specs.declared.types.RowEntry.{RowEntry}
use Rattle.slate_types.specs.Rows.{operand}
use Rattle.slate_types.specs.Fold.{Combine}
use Rattle.slate_mem.specs.Batch.{Ops, batch_keys}
use Rattle.slate_mem.specs.RowOf.{row_of}

abbrev pub commit_rows : (List ℕ → Combine) → Option ℕ → ℕ → ℤ → Ops → List RowEntry
commit_rows c default_millis n now ops = filter_map (λ k. row_of (c k) default_millis n now ops k) (batch_keys ops)

abbrev pub row_bytes : List RowEntry → ℕ
row_bytes rows = sum_by (λ r. length r.key + length (operand r)) rows
