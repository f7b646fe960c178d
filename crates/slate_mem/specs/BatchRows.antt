-- The rows that a batch's operations make, one of each.
--     batch_rows range n default moment ops k      the rows of a key's kept operations, newest first, where the key is in the range
--     stamped s k op      the row of an operation
--     newest_rows s es      the rows of entries, keys rising, and newest first within a key
--     rows_of_lone range s k op      the row of an operation, where its key is in the range
--     folded_entries c s es      the row that the rows of each entry fold to, keys rising; `c` is what the operator does at each key
use Rattle.std.specs.Prelude.{ℕ, if◌then◌else◌, List, [], ◌∷◌, map, filter_map, flat_map, reverse, Option, ℤ}
use Rattle.slate_types.specs.declared.bytes_range.BytesRange.{BytesRange}
use Rattle.slate_types.specs.declared.types.RowEntry.{RowEntry}
use Rattle.slate_types.specs.Fold.{Combine, fold_rows}
use Rattle.slate_types.specs.Keys.{in_range}
use Rattle.slate_mem.specs.declared.WriteOp.{WriteOp}
use Rattle.slate_mem.specs.declared.batch_iterator.Stamps.{Stamps}
use Rattle.slate_mem.specs.Batch.{Ops, kept}
use Rattle.slate_mem.specs.RowOf.{row_at}
use Rattle.slate_mem.specs.Kept.{Entries}

abbrev pub batch_rows : BytesRange → ℕ → Option ℕ → Option ℤ → Ops → List ℕ → List RowEntry
batch_rows range n default_millis moment ops k = if in_range range k then map (row_at k n default_millis moment) (reverse (kept ops k)) else []

abbrev pub stamped : Stamps → List ℕ → WriteOp → RowEntry
stamped s k op = row_at k s.seq s.default_ttl_millis s.create_ts op

abbrev pub newest_rows : Stamps → Entries → List RowEntry
newest_rows s es = flat_map (λ e. map (stamped s e.0) (reverse e.1.items)) es

abbrev pub rows_of_lone : BytesRange → Stamps → List ℕ → WriteOp → List RowEntry
rows_of_lone range s k op = if in_range range k then stamped s k op ∷ [] else []

abbrev pub folded_entries : (List ℕ → Combine) → Stamps → Entries → List RowEntry
folded_entries c s es = filter_map (λ e. fold_rows (c e.0) (map (stamped s e.0) e.1.items)) es
