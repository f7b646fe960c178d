-- The fold of the rows of one key, oldest first. `c` combines an operand onto a value, or onto none.
--     operator_at combine k      what an operator does at a key, where there is one
--     fold_rows c rows      the row that stands for all
--     shown c rows      the same for a reader, to whom a tombstone is no row
--     KeepsShort c      of every operator: short values, of at most 2 ^ 32 - 1 bytes, give a short one
--     IsLawful c      c keeps a first operand and is associative, on short values
use Rattle.std.specs.Prelude.{◌≡◌, ℕ, ◌-◌, ◌^◌, ◌≤◌, max, Bool, if◌then◌else◌, List, [], ◌∷◌, length, Option, Some, None, IfSome, option_and_then, ℤ}
use Rattle.std.specs.List.{list_any, AllByRecursion}
use Rattle.slate_types.specs.declared.types.ValueDeletable.{ValueDeletable}
use Rattle.slate_types.specs.declared.types.ValueDeletable.TheVariants.{Value, Merge, Tombstone}
use Rattle.slate_types.specs.declared.types.RowEntry.{RowEntry}
use Rattle.slate_types.specs.Rows.{is_base, operand, hide_tombstone, latest, earliest}

-- what an operator does at one key: the existing value, the operand, and what they make
abbrev pub Combine : Type 0
Combine = Option (List ℕ) → List ℕ → List ℕ

-- Without an operator no operand is ever kept, and what stands here is never asked.
abbrev pub operator_at : Option (List ℕ → Combine) → List ℕ → Combine
operator_at None k = λ e v. v
operator_at (Some f) k = f k

-- the items from the last one on that passes, or all where none does
abbrev pub from_last : {X : Type 0} → (X → Bool) → List X → List X
from_last test [] = []
from_last test (x ∷ xs) = if list_any test xs then from_last test xs else x ∷ xs

-- the rows from the newest on that is no operand
abbrev pub taken : List RowEntry → List RowEntry
taken rows = from_last is_base rows

-- the operands of the rows, oldest first, combined onto a value
abbrev pub onto : Combine → List ℕ → List RowEntry → List ℕ
onto c v [] = v
onto c v (r ∷ rs) = onto c (c (Some v) (operand r)) rs

-- the value of taken rows, by the first one's value and the others
abbrev pub value_of_taken : Combine → ValueDeletable → List RowEntry → ValueDeletable
value_of_taken c v [] = v
value_of_taken c (Value v) (r ∷ rs) = Value (onto c v (r ∷ rs))
value_of_taken c Tombstone (r ∷ rs) = Value (onto c (c None (operand r)) rs)
value_of_taken c (Merge v) (r ∷ rs) = Merge (onto c (c None v) (r ∷ rs))

abbrev pub greatest_seq : ℕ → List RowEntry → ℕ
greatest_seq n [] = n
greatest_seq n (r ∷ rs) = greatest_seq (max n r.seq) rs

abbrev pub latest_creation : Option ℤ → List RowEntry → Option ℤ
latest_creation t [] = t
latest_creation t (r ∷ rs) = latest_creation (latest t r.create_ts) rs

abbrev pub earliest_expiry : Option ℤ → List RowEntry → Option ℤ
earliest_expiry t [] = t
earliest_expiry t (r ∷ rs) = earliest_expiry (earliest t r.expire_ts) rs

abbrev pub fold_taken : Combine → List RowEntry → Option RowEntry
fold_taken c [] = None
fold_taken c (r ∷ rs) = Some (record {
  key = r.key;
  value = value_of_taken c r.value rs;
  seq = greatest_seq r.seq rs;
  create_ts = latest_creation r.create_ts rs;
  expire_ts = earliest_expiry r.expire_ts rs;
})

abbrev pub fold_rows : Combine → List RowEntry → Option RowEntry
fold_rows c rows = fold_taken c (taken rows)

abbrev pub shown : Combine → List RowEntry → Option RowEntry
shown c rows = option_and_then (λ r. hide_tombstone r.value r) (fold_rows c rows)

abbrev pub IsShort : List ℕ → Type 0
IsShort v = length v ≤ 2 ^ 32 - 1

abbrev pub AreShort : List RowEntry → Type 0
AreShort rows = AllByRecursion (λ r. IsShort (operand r)) rows

abbrev pub KeepsShort : Combine → Type 0
KeepsShort c = (u : Option (List ℕ)) (v : List ℕ) → IfSome u IsShort → IsShort v → IsShort (c u v)

pub record IsLawful (c : Combine) : Type 0 where
  pub first : (v : List ℕ) → IsShort v → c None v ≡ v
  pub assoc : (u v w : List ℕ) → IsShort u → IsShort v → IsShort w → c (Some (c (Some u) v)) w ≡ c (Some u) (c (Some v) w)

-- `merge_batch`: the operands, oldest first, combined onto a value or none
abbrev pub merge_all : Combine → Option (List ℕ) → List (List ℕ) → Option (List ℕ)
merge_all c value [] = value
merge_all c value (v ∷ vs) = merge_all c (Some (c value v)) vs
