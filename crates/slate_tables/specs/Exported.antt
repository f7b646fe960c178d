-- What the tables of a store export: one row for each key.
--     is_live r      the row is no tombstone
--     table_rows order range rows      the rows of one table in a range, as they come in an order
--     exported c order lists      of each key the fold of the rows of all lists, no tombstones;
--                                 the list of the newest table comes first
--     KeysCome order rows      keys come in the order, each once
--     row_with_key rows k      the row of a key
--     first_row rows      the first row, where there is one
--     IsExport c order range rows out      in the range, of each key the row that all rows fold
--                                          to, and no other row
--     IsState c rows out      the same of all keys, keys rising
--     ExportIsStored      so it is of what tables export, in each cutting into tables
use Rattle.std.specs.Prelude.{◌≡◌, ℕ, Bool, not, true, false, if◌then◌else◌}
use Rattle.std.specs.Prelude.{List, [], ◌∷◌, filter, map, reverse, Option, Some, None, bytes_eq}
use Rattle.std.specs.List.{AllByRecursion}
use Rattle.slate_types.specs.declared.bytes_range.BytesRange.{BytesRange}
use Rattle.slate_types.specs.declared.iter.IterationOrder.{IterationOrder}
use Rattle.slate_types.specs.declared.iter.IterationOrder.TheVariants.{Ascending}
use Rattle.slate_types.specs.declared.types.RowEntry.{RowEntry}
use Rattle.slate_types.specs.Fold.{Combine}
use Rattle.slate_types.specs.Iteration.{comes_before, in_order}
use Rattle.slate_types.specs.Keys.{in_range}
use Rattle.slate_types.specs.Rows.{is_tombstone}
use Rattle.slate_merge.specs.Folding.{folded}
use Rattle.slate_merge.specs.Groups.{in_turn}
use Rattle.slate_merge.specs.Merge.{all_rows, merged}
use Rattle.slate_read.specs.TableWalk.{is_in}
use Rattle.slate_table.specs.Stored.{stored}
use Rattle.slate_table.specs.Table.{AreInOrder}

abbrev pub is_live : RowEntry → Bool
is_live r = not (is_tombstone r)

abbrev pub table_rows : IterationOrder → BytesRange → List RowEntry → List RowEntry
table_rows order range rows = in_turn order (in_order order (filter (is_in range) rows))

abbrev pub exported : (List ℕ → Combine) → IterationOrder → List (List RowEntry) → List RowEntry
exported c order lists = filter is_live (folded c true None (merged order true lists))

abbrev pub KeysCome : IterationOrder → List RowEntry → Type 0
KeysCome order [] = Unit {0}
KeysCome order (r ∷ rows) =
    AllByRecursion (λ s. comes_before order r.key s.key ≡ true) rows × KeysCome order rows

abbrev pub row_with_key : List RowEntry → List ℕ → Option RowEntry
row_with_key [] k = None
row_with_key (r ∷ rows) k = if bytes_eq r.key k then Some r else row_with_key rows k

abbrev pub first_row : List RowEntry → Option RowEntry
first_row [] = None
first_row (r ∷ rows) = Some r

pub record IsExport (c : List ℕ → Combine) (order : IterationOrder) (range : BytesRange)
    (rows out : List RowEntry) : Type 0 where
  pub come : KeysCome order out
  pub within : AllByRecursion (λ r. in_range range r.key ≡ true) out
  pub live : AllByRecursion (λ r. is_tombstone r ≡ false) out
  pub each : (k : List ℕ) → in_range range k ≡ true → row_with_key out k ≡ stored (c k) rows k

pub record IsState (c : List ℕ → Combine) (rows out : List RowEntry) : Type 0 where
  pub rise : KeysCome Ascending out
  pub live : AllByRecursion (λ r. is_tombstone r ≡ false) out
  pub each : (k : List ℕ) → row_with_key out k ≡ stored (c k) rows k

-- tables: the rows of each, in the order of their paths
abbrev pub ExportIsStored : Type 0
ExportIsStored = (c : List ℕ → Combine) (order : IterationOrder) (range : BytesRange)
    (tables : List (List RowEntry)) → AllByRecursion AreInOrder tables →
    IsExport c order range (all_rows tables)
    (exported c order (map (table_rows order range) (reverse tables)))
