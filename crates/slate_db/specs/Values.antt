-- The rows that a reader gets of those that are left.
--     has_value r      the row is no tombstone
--     IsUnfolded barrier brings a      what a reader gets of a row that is brought, which is no operand, or stands above the barrier
--     HasValues range rows values      each row is in the range, and these have values: an operand below which nothing stands is one
use Rattle.std.specs.Prelude.{◌≡◌, ℕ, Bool, true, false, not, List, filter, Option}
use Rattle.std.specs.List.{AllByRecursion}
use Rattle.slate_types.specs.declared.bytes_range.BytesRange.{BytesRange}
use Rattle.slate_types.specs.declared.types.KeyValue.{KeyValue}
use Rattle.slate_types.specs.declared.types.RowEntry.{RowEntry}
use Rattle.slate_types.specs.Keys.{in_range}
use Rattle.slate_types.specs.Rows.{is_tombstone, key_value}
use Rattle.slate_merge.specs.Folding.{is_open}

abbrev pub has_value : RowEntry → Bool
has_value r = not (is_tombstone r)

pub record IsUnfolded (barrier : Option ℕ) (brings : RowEntry → Type 0) (a : KeyValue) : Type 0 where
  pub row : RowEntry
  pub closed : is_open barrier row ≡ false
  pub value : a ≡ key_value row
  pub brought : brings row

pub record HasValues (range : BytesRange) (rows values : List RowEntry) : Type 0 where
  pub within : AllByRecursion (λ r. in_range range r.key ≡ true) rows
  pub left : filter has_value rows ≡ values
