-- Lists of rows merged into one.
--     put_in before x xs, in_turn before xs      an element put into a list in turn; all elements in turn, where those that stand
--                                                alike keep their places
--     put_all before xs zs      the elements xs put into a list in turn, one after another, the last one first
--     decided rows      without the older rows of a key after its first row that is no operand
--     is_hidden hidden key, decides r      the older rows of the key are dropped; the key whose older rows a row decides, where it is no operand
--     decided_after hidden rows      `decided` of rows behind one that decided this key
--     shown_rows dedup rows      with dedup the decided ones, else all
--     merged order dedup lists      all rows of the lists in turn, of rows that stand alike that of the earlier list first; with
--                                   dedup only the decided ones
--     all_rows lists      the rows of all lists, one list behind the other
--     row_bytes r, rows_bytes rows      the bytes of a row's key and value, and of all rows
--     counted n rows      the count n and the bytes of all rows, up to the greatest number
--     with_key key rows, past_key key rows      the leading rows that have the key, and the rows behind them
--     begins_with key rows      the first row has the key
--     taken_rows dedup rows, rows_after dedup rows      what one step takes of the rows that are left, the first one, and with dedup those that it
--                                                       decides; and what it leaves
use Rattle.std.specs.Prelude.{ℕ, ◌+◌, ◌-◌, ◌^◌, min, ◌&&◌, Bool, false, if◌then◌else◌, List, [], ◌∷◌, length, Option, Some, None, bytes_eq, flat_map}
use Rattle.slate_types.specs.declared.types.RowEntry.{RowEntry}
use Rattle.slate_types.specs.declared.iter.IterationOrder.{IterationOrder}
use Rattle.slate_types.specs.Rows.{is_operand, is_base, operand}
use Rattle.slate_types.specs.RowTurns.{row_before}

module _ {X : Type 0} (before : X → X → Bool) where
  -- behind those that stand before it
  abbrev pub put_in : X → List X → List X
  put_in x [] = x ∷ []
  put_in x (z ∷ zs) = if before z x then z ∷ put_in x zs else x ∷ z ∷ zs

  abbrev pub put_all : List X → List X → List X
  put_all [] zs = zs
  put_all (x ∷ xs) zs = put_in x (put_all xs zs)

  abbrev pub in_turn : List X → List X
  in_turn xs = put_all xs []

-- whether the older rows of a key are dropped
abbrev pub is_hidden : Option (List ℕ) → List ℕ → Bool
is_hidden None key = false
is_hidden (Some k) key = bytes_eq k key

-- the key whose older rows a row decides
abbrev pub decides : RowEntry → Option (List ℕ)
decides r = if is_operand r then None else Some r.key

-- hidden: the key that an earlier row decided
abbrev pub decided_after : Option (List ℕ) → List RowEntry → List RowEntry
decided_after hidden [] = []
decided_after hidden (r ∷ rows) = if is_hidden hidden r.key then decided_after hidden rows else r ∷ decided_after (decides r) rows

abbrev pub decided : List RowEntry → List RowEntry
decided rows = decided_after None rows

abbrev pub shown_rows : Bool → List RowEntry → List RowEntry
shown_rows dedup rows = if dedup then decided rows else rows

abbrev pub all_rows : List (List RowEntry) → List RowEntry
all_rows lists = flat_map (λ rows. rows) lists

abbrev pub merged : IterationOrder → Bool → List (List RowEntry) → List RowEntry
merged order dedup lists = shown_rows dedup (in_turn (row_before order) (all_rows lists))

abbrev pub row_bytes : RowEntry → ℕ
row_bytes r = length r.key + length (operand r)

abbrev pub rows_bytes : List RowEntry → ℕ
rows_bytes [] = 0
rows_bytes (r ∷ rows) = row_bytes r + rows_bytes rows

-- a key's leading rows, and the rows behind them
abbrev pub with_key : List ℕ → List RowEntry → List RowEntry
with_key key [] = []
with_key key (r ∷ rows) = if bytes_eq key r.key then r ∷ with_key key rows else []

abbrev pub past_key : List ℕ → List RowEntry → List RowEntry
past_key key [] = []
past_key key (r ∷ rows) = if bytes_eq key r.key then past_key key rows else r ∷ rows

-- whether the first row has the key
abbrev pub begins_with : List ℕ → List RowEntry → Bool
begins_with key [] = false
begins_with key (r ∷ rows) = bytes_eq key r.key

-- what one step takes of all rows that are left: the first row, and with dedup the rows that it decides
abbrev pub taken_rows : Bool → List RowEntry → List RowEntry
taken_rows dedup [] = []
taken_rows dedup (r ∷ rows) = r ∷ (if dedup && is_base r then with_key r.key rows else [])

abbrev pub rows_after : Bool → List RowEntry → List RowEntry
rows_after dedup [] = []
rows_after dedup (r ∷ rows) = if dedup && is_base r then past_key r.key rows else rows

-- a count of bytes that goes on over rows and stops at the greatest number
abbrev pub counted : ℕ → List RowEntry → ℕ
counted n [] = n
counted n (r ∷ rows) = counted (min (n + row_bytes r) (2 ^ 64 - 1)) rows
