-- Rows: the order of rows, and what a reader sees of one.
--     row_lt r s      r stands before s: by key upwards, then by sequence downwards
--     of_key k rows      the rows of a key, in their order
--     sequenced r, sequenced_cmp a b      a row's key with its sequence, and the order of these
--     is_operand r, is_base r      the row is a merge, or no merge
--     is_put r, is_tombstone r      the row holds a value, or is a deletion
--     operand r      the row's bytes, and none of a tombstone
--     bytes_in v      the bytes of a value or an operand, where there are any
--     key_value r      the row as a reader gets it, where it is no tombstone
--     key_value_cmp r s      the order of what readers get, by key, value, sequence, creation and expiry
--     key_value_writes r      what a hasher is fed for what readers get: the same fields in turn
--     latest a b, earliest a b      the greater and the lesser stamp; an absent one yields to a present one
--     encoded_size prefix r      the bytes that a row is counted with where it shares that many bytes of its key
--     estimated_size r      the bytes of key, value, sequence and stamps
use Rattle.std.specs.Prelude.{ℕ, ◌+◌, ◌-◌, Bool, true, false, not, ◌&&◌, ◌||◌, nat_lt, List, [], ◌++◌, length, filter, Option, Some, None, ℤ, pos, unwrap_or, bytes_eq}
use Rattle.std.specs.declared.cmp.Ordering.{Ordering}
use Rattle.std.specs.Ordering.{nat_cmp, int_cmp, on, flip_args, then_cmp}
use Rattle.std.specs.Option.{option_cmp}
use Rattle.std.specs.Hash.{HashWrites}
use Rattle.std.specs.Hash as fed
use Rattle.std.specs.Int.{int_max, int_min}
use Rattle.slate_types.specs.declared.types.ValueDeletable.{ValueDeletable}
use Rattle.slate_types.specs.declared.types.ValueDeletable.TheVariants.{Value, Merge, Tombstone}
use Rattle.slate_types.specs.declared.types.RowEntry.{RowEntry}
use Rattle.slate_types.specs.declared.sequenced_key.SequencedKey.{SequencedKey}
use Rattle.slate_types.specs.declared.types.KeyValue.{KeyValue}
use Rattle.slate_types.specs.Keys.{key_cmp, key_lt}

abbrev pub row_lt : RowEntry → RowEntry → Bool
row_lt r s = key_lt r.key s.key || (bytes_eq r.key s.key && nat_lt s.seq r.seq)

abbrev pub of_key : List ℕ → List RowEntry → List RowEntry
of_key k rows = filter (λ r. bytes_eq r.key k) rows

abbrev pub sequenced : RowEntry → SequencedKey
sequenced r = record { user_key = r.key; seq = r.seq }

abbrev pub sequenced_cmp : SequencedKey → SequencedKey → Ordering
sequenced_cmp = then_cmp (on (λ k. k.user_key) key_cmp) (flip_args (on (λ k. k.seq) nat_cmp))

abbrev pub is_merge : ValueDeletable → Bool
is_merge (Value v) = false
is_merge (Merge v) = true
is_merge Tombstone = false

abbrev pub is_operand : RowEntry → Bool
is_operand r = is_merge r.value

abbrev pub is_base : RowEntry → Bool
is_base r = not (is_operand r)

abbrev pub is_value : ValueDeletable → Bool
is_value (Value v) = true
is_value (Merge v) = false
is_value Tombstone = false

abbrev pub is_deletion : ValueDeletable → Bool
is_deletion (Value v) = false
is_deletion (Merge v) = false
is_deletion Tombstone = true

abbrev pub is_put : RowEntry → Bool
is_put r = is_value r.value

abbrev pub is_tombstone : RowEntry → Bool
is_tombstone r = is_deletion r.value

abbrev pub bytes_of : ValueDeletable → List ℕ
bytes_of (Value v) = v
bytes_of (Merge v) = v
bytes_of Tombstone = []

abbrev pub bytes_in : ValueDeletable → Option (List ℕ)
bytes_in (Value v) = Some v
bytes_in (Merge v) = Some v
bytes_in Tombstone = None

abbrev pub operand : RowEntry → List ℕ
operand r = bytes_of r.value

abbrev pub hide_tombstone : ValueDeletable → RowEntry → Option RowEntry
hide_tombstone (Value v) r = Some r
hide_tombstone (Merge v) r = Some r
hide_tombstone Tombstone r = None

abbrev pub key_value : RowEntry → KeyValue
key_value r = record { key = r.key; value = operand r; seq = r.seq; create_ts = unwrap_or r.create_ts (pos 0); expire_ts = r.expire_ts }

abbrev pub key_value_cmp : KeyValue → KeyValue → Ordering
key_value_cmp = then_cmp (on (λ r. r.key) key_cmp) (then_cmp (on (λ r. r.value) key_cmp) (then_cmp (on (λ r. r.seq) nat_cmp) (then_cmp (on (λ r. r.create_ts) int_cmp) (on (λ r. r.expire_ts) (option_cmp int_cmp)))))

abbrev pub key_value_writes : KeyValue → HashWrites
key_value_writes r = fed.slice fed.u8 r.key ++ fed.slice fed.u8 r.value ++ fed.u64 r.seq ++ fed.i64 r.create_ts ++ fed.option fed.i64 r.expire_ts

abbrev pub latest : Option ℤ → Option ℤ → Option ℤ
latest None b = b
latest (Some x) None = Some x
latest (Some x) (Some y) = Some (int_max x y)

abbrev pub earliest : Option ℤ → Option ℤ → Option ℤ
earliest None b = b
earliest (Some x) None = Some x
earliest (Some x) (Some y) = Some (int_min x y)

abbrev pub stamp_size : Option ℤ → ℕ
stamp_size None = 0
stamp_size (Some z) = 8

-- a value with its length
abbrev pub value_size : ValueDeletable → ℕ
value_size (Value v) = 4 + length v
value_size (Merge v) = 4 + length v
value_size Tombstone = 0

-- the shared length, the length and the bytes of the rest of the key, the sequence, the flags, the stamps and the value
abbrev pub encoded_size : ℕ → RowEntry → ℕ
encoded_size prefix r = 2 + 2 + (length r.key - prefix) + 8 + 1 + stamp_size r.create_ts + stamp_size r.expire_ts + value_size r.value

abbrev pub estimated_size : RowEntry → ℕ
estimated_size r = length r.key + length (operand r) + 8 + stamp_size r.create_ts + stamp_size r.expire_ts
