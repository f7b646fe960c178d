-- What a lookup finds of a key.
--     is_decided rows      of rows of a key, newest first, the last is no operand, so that no older row counts
--     newest_first layers      the rows of layers of which the newest stands last, the newest layer first
--     is_merge_among rows      one of the rows is an operand
--     IsRowUpTo k n r      a row of the key, of a sequence up to n
--     Brings step before found      each row that was found is one that steps of an iterator answered
--     IsCallback before after e      a failure of the operator, whose count rose
use Rattle.std.specs.Prelude.{◌≡◌, ℕ, ◌-◌, ◌≤◌, Bool, false, List, length, Contains, flat_map, reverse, slice_get, Option, Some, None}
use Rattle.std.specs.List.{AllByRecursion, list_any}
use Rattle.slate_types.specs.declared.error.SlateDBError.{SlateDBError}
use Rattle.slate_types.specs.declared.error.SlateDBError.TheVariants.{Callback}
use Rattle.slate_types.specs.declared.types.RowEntry.{RowEntry}
use Rattle.slate_types.specs.Faults.{Rose}
use Rattle.slate_types.specs.Iteration.{Steps}
use Rattle.slate_types.specs.Rows.{is_base, is_operand}

abbrev pub is_last_base : Option RowEntry → Bool
is_last_base None = false
is_last_base (Some r) = is_base r

abbrev pub is_decided : List RowEntry → Bool
is_decided rows = is_last_base (slice_get rows (length rows - 1))

abbrev pub newest_first : List (List RowEntry) → List RowEntry
newest_first layers = flat_map (λ rows. rows) (reverse layers)

abbrev pub is_merge_among : List RowEntry → Bool
is_merge_among rows = list_any is_operand rows

abbrev pub IsRowUpTo : List ℕ → ℕ → RowEntry → Type 0
IsRowUpTo k n r = (r.key ≡ k) × (r.seq ≤ n)

-- step: what one call may answer, and what becomes of the iterator then
abbrev pub Brings : {A : Type 0} → (A → Option RowEntry → A → Type 0) → A → List RowEntry → Type 0
Brings {A} step before found = (rows : List RowEntry) × (after : A) × Steps step before rows after × AllByRecursion (Contains rows) found

abbrev pub IsCallback : ℕ → ℕ → SlateDBError → Type 0
IsCallback before after (Callback message) = Rose before after
IsCallback before after e = ⊥
