-- What an iterator over rows of a table has left after a refusal.
--     StaysBefore at before after      in a seek to a key only rows before the key may be gone, and else none
use Rattle.std.specs.Prelude.{◌≡◌, ℕ, List, Option, Some, None}
use Rattle.slate_types.specs.Iteration.{RowList, drop_before}

abbrev pub StaysBefore : Option (List ℕ) → RowList → RowList → Type 0
StaysBefore None before after = after ≡ before
StaysBefore (Some key) before after = (after.order ≡ before.order) × (drop_before before.order key after.rows ≡ drop_before before.order key before.rows)
