-- The rows that operations make.
--     op_row k n default now op      an operation of the commit n, made at `now`
--     unstamped_row k n op      an operation at the sequence n, without stamps
--     row_at k n default moment op      the one where there is a moment, else the other
--     own_row k op      an operation that is not committed: above all sequences, without stamps
--     row_of c default n now ops k      the row of a commit for a key, and none where the batch does not hold it
use Rattle.std.specs.Prelude.{ℕ, ◌-◌, ◌^◌, List, map, Option, Some, None, ℤ}
use Rattle.slate_types.specs.declared.types.RowEntry.{RowEntry}
use Rattle.slate_types.specs.Expiry.{expiry}
use Rattle.slate_types.specs.Fold.{Combine, fold_rows}
use Rattle.slate_mem.specs.declared.WriteOp.{WriteOp}
use Rattle.slate_mem.specs.Batch.{Ops, op_value, op_ttl, kept}

abbrev pub op_expiry : Option ℕ → ℤ → WriteOp → Option ℤ
op_expiry default_millis now op = expiry (op_ttl op) default_millis now

abbrev pub op_row : List ℕ → ℕ → Option ℕ → ℤ → WriteOp → RowEntry
op_row k n default_millis now op = record { key = k; value = op_value op; seq = n; create_ts = Some now; expire_ts = op_expiry default_millis now op }

abbrev pub unstamped_row : List ℕ → ℕ → WriteOp → RowEntry
unstamped_row k n op = record { key = k; value = op_value op; seq = n; create_ts = None; expire_ts = None }

abbrev pub row_at : List ℕ → ℕ → Option ℕ → Option ℤ → WriteOp → RowEntry
row_at k n default_millis None op = unstamped_row k n op
row_at k n default_millis (Some now) op = op_row k n default_millis now op

abbrev pub own_row : List ℕ → WriteOp → RowEntry
own_row k op = unstamped_row k (2 ^ 64 - 1) op

abbrev pub row_of : Combine → Option ℕ → ℕ → ℤ → Ops → List ℕ → Option RowEntry
row_of c default_millis n now ops k = fold_rows c (map (op_row k n default_millis now) (kept ops k))
