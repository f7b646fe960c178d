-- Rows in memory, in their order: by key upwards, and within a key by sequence downwards.
--     MemTableModel      what contracts see of a table: its rows, and the segment prefixes that it recorded, rising
--     no_rows      the table without rows and prefixes
--     put_row rows row      the rows with one more, in place of one of the same key and sequence
--     put_rows rows more      the same of several, one after another
--     last_tick rows, first_seq rows      the greatest creation, and the least moment where there is none; the least sequence, and 0 where there is none
--     ranged range rows      the rows whose keys are in the range
--     after_seq n rows      the rows with sequences above n
--     up_to k n rows      those with sequences of at most n
--     newest k n rows      of these the first ones, to the first that is no operand: what a reader at n sees is their fold
use Rattle.std.specs.Prelude.{ℕ, ◌-◌, ◌^◌, min, ℤ, negsuc, Option, Some, None, unwrap_or, nat_le, nat_lt, ◌&&◌, if◌then◌else◌, List, [], ◌∷◌, filter, bytes_eq}
use Rattle.std.specs.Ordering.{match_ordering}
use Rattle.slate_types.specs.declared.types.RowEntry.{RowEntry}
use Rattle.slate_types.specs.declared.bytes_range.BytesRange.{BytesRange}
use Rattle.slate_types.specs.Keys.{in_range}
use Rattle.slate_types.specs.Rows.{sequenced, sequenced_cmp, is_base}
use Rattle.slate_types.specs.Fold.{latest_creation}

pub record MemTableModel : Type 0 where
  pub rows : List RowEntry
  pub segments : List (List ℕ)

abbrev pub no_rows : MemTableModel
no_rows = record { rows = []; segments = [] }

abbrev pub put_row : List RowEntry → RowEntry → List RowEntry
put_row [] row = row ∷ []
put_row (r ∷ rs) row = match_ordering (sequenced_cmp (sequenced row) (sequenced r)) (row ∷ r ∷ rs) (row ∷ rs) (r ∷ put_row rs row)

abbrev pub put_rows : List RowEntry → List RowEntry → List RowEntry
put_rows rows [] = rows
put_rows rows (m ∷ more) = put_rows (put_row rows m) more

abbrev pub ranged : BytesRange → List RowEntry → List RowEntry
ranged range rows = filter (λ r. in_range range r.key) rows

abbrev pub after_seq : ℕ → List RowEntry → List RowEntry
after_seq n rows = filter (λ r. nat_lt n r.seq) rows

-- to the first that is no operand
abbrev pub to_base : List RowEntry → List RowEntry
to_base [] = []
to_base (r ∷ rs) = if is_base r then r ∷ [] else r ∷ to_base rs

abbrev pub up_to : List ℕ → ℕ → List RowEntry → List RowEntry
up_to k n rows = filter (λ r. bytes_eq r.key k && nat_le r.seq n) rows

abbrev pub newest : List ℕ → ℕ → List RowEntry → List RowEntry
newest k n rows = to_base (up_to k n rows)

abbrev pub last_tick : List RowEntry → ℤ
last_tick rows = unwrap_or (latest_creation None rows) (negsuc (2 ^ 63 - 1))

abbrev pub lesser : Option ℕ → ℕ → ℕ
lesser None n = n
lesser (Some m) n = min m n

abbrev pub least_seq : Option ℕ → List RowEntry → Option ℕ
least_seq n [] = n
least_seq n (r ∷ rs) = least_seq (Some (lesser n r.seq)) rs

abbrev pub first_seq : List RowEntry → ℕ
first_seq rows = unwrap_or (least_seq None rows) 0
