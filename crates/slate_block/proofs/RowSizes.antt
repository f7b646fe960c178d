-- How many bytes a row has.
use Rattle.std.proofs.Common.{◌≡◌, ℕ, zero, suc, ◌+◌, ◌-◌, ◌/◌, ◌%◌, ◌<◌, ◌≤◌, ◌^◌, Bool, true, false, cond, ltb, min, List, [], ◌∷◌, ◌++◌, length, drop, refl, arith, length-append, length-drop}
use Rattle.std.proofs.lemmas.Bool.{ltb-true, ltb-false}
use Rattle.std.specs.Prelude.{Option, Some, None, ℤ}
use Rattle.slate_types.specs.declared.types.ValueDeletable.{ValueDeletable}
use Rattle.slate_types.specs.declared.types.ValueDeletable.TheVariants.{Value, Merge, Tombstone}
use Rattle.slate_types.specs.declared.types.RowEntry.{RowEntry}
use Rattle.slate_types.specs.Rows.{bytes_of, encoded_size, stamp_size, value_size, operand}
use Rattle.slate_block.specs.Varint.{varint, varint_within}
use Rattle.slate_block.specs.RowSpelling.{be16, be32, be64, flags, v1_bytes, v1_value, meta_bytes, stamp_bytes}
use Rattle.slate_block.specs.BlockSpelling.{entry_v1}

within_groups : (k n : ℕ) → length (varint_within k n) ≤ k
within_groups zero n = omega arith
within_groups (suc k) n = by (ltb n 128) (within_groups k (n / 128))
  where
    by : (t : Bool) → length (varint_within k (n / 128)) ≤ k → length (cond t (n ∷ []) ((128 + n % 128) ∷ varint_within k (n / 128))) ≤ suc k
    by true h = omega arith
    by false h = omega (arith, h)

pub five_groups : (n : ℕ) → length (varint n) ≤ 5
unfolding varint
five_groups n = within_groups 5 n

last_group : (k n : ℕ) → n < 128 → length (varint_within (suc k) n) ≡ 1
last_group k n lt = by (ltb n 128) refl
  where
    by : (t : Bool) → ltb n 128 ≡ t → length (cond t (n ∷ []) ((128 + n % 128) ∷ varint_within k (n / 128))) ≡ 1
    by true e = refl
    by false e = absurd (omega (arith, ltb-false n 128 e, lt))

one_more : (k n m : ℕ) → 128 ≤ n → length (varint_within k (n / 128)) ≡ m → length (varint_within (suc k) n) ≡ suc m
one_more k n m ge h = by (ltb n 128) refl
  where
    by : (t : Bool) → ltb n 128 ≡ t → length (cond t (n ∷ []) ((128 + n % 128) ∷ varint_within k (n / 128))) ≡ suc m
    by true e = absurd (omega (arith, ltb-true n 128 e, ge))
    by false e = omega (arith, h)

pub one_group : (n : ℕ) → n < 128 → length (varint n) ≡ 1
unfolding varint
one_group n lt = last_group 4 n lt

pub two_groups : (n : ℕ) → 128 ≤ n → n < 16384 → length (varint n) ≡ 2
unfolding varint
two_groups n ge lt = one_more 4 n 1 ge (last_group 3 (n / 128) (omega (arith, lt)))

pub three_groups : (n : ℕ) → 16384 ≤ n → n < 2097152 → length (varint n) ≡ 3
unfolding varint
three_groups n ge lt = one_more 4 n 2 (omega (arith, ge)) (one_more 3 (n / 128) 1 (omega (arith, ge)) (last_group 2 (n / 128 / 128) (omega (arith, lt))))

pub four_groups : (n : ℕ) → 2097152 ≤ n → n < 268435456 → length (varint n) ≡ 4
unfolding varint
four_groups n ge lt =
    one_more 4 n 3 (omega (arith, ge)) (one_more 3 (n / 128) 2 (omega (arith, ge)) (one_more 2 (n / 128 / 128) 1 (omega (arith, ge)) (last_group 1 (n / 128 / 128 / 128) (omega (arith, lt)))))

pub all_groups : (n : ℕ) → 268435456 ≤ n → n < 2 ^ 32 → length (varint n) ≡ 5
unfolding varint
all_groups n ge lt =
    one_more 4 n 4 (omega (arith, ge)) (one_more 3 (n / 128) 3 (omega (arith, ge)) (one_more 2 (n / 128 / 128) 2 (omega (arith, ge))
    (one_more 1 (n / 128 / 128 / 128) 1 (omega (arith, ge)) (last_group 0 (n / 128 / 128 / 128 / 128) (omega (arith, lt))))))

length_stamp : (z : Option ℤ) → length (stamp_bytes z) ≡ stamp_size z
length_stamp None = refl
length_stamp (Some z) = refl

length_meta : (seq : ℕ) (value : ValueDeletable) (expire create : Option ℤ) → length (meta_bytes seq value expire create) ≡ 9 + stamp_size expire + stamp_size create
length_meta seq value expire create =
    let front : List ℕ = be64 seq ++ (flags value expire create ∷ []) in
    let a : length (front ++ stamp_bytes expire ++ stamp_bytes create) ≡ length (front ++ stamp_bytes expire) + length (stamp_bytes create) = length-append (front ++ stamp_bytes expire) (stamp_bytes create) in
    let b : length (front ++ stamp_bytes expire) ≡ length front + length (stamp_bytes expire) = length-append front (stamp_bytes expire) in
    let c : length front ≡ 9 = refl in
    omega (arith, a, b, c, length_stamp expire, length_stamp create)

length_value : (v : ValueDeletable) → length (v1_value v) ≡ value_size v
length_value (Value v) = length-append (be32 (length v)) v
length_value (Merge v) = length-append (be32 (length v)) v
length_value Tombstone = refl

pub length_v1 : (n : ℕ) (r : RowEntry) → length (v1_bytes (entry_v1 n r)) ≡ encoded_size n r
length_v1 n r =
    let key = drop n r.key in
    let lens : List ℕ = be16 n ++ be16 (length key) in
    let meta = meta_bytes r.seq r.value r.expire_ts r.create_ts in
    let a : length (lens ++ key ++ meta ++ v1_value r.value) ≡ length (lens ++ key ++ meta) + length (v1_value r.value) = length-append (lens ++ key ++ meta) (v1_value r.value) in
    let b : length (lens ++ key ++ meta) ≡ length (lens ++ key) + length meta = length-append (lens ++ key) meta in
    let c : length (lens ++ key) ≡ length lens + length key = length-append lens key in
    let d : length lens ≡ 4 = refl in
    let e : length meta ≡ 9 + stamp_size r.expire_ts + stamp_size r.create_ts = length_meta r.seq r.value r.expire_ts r.create_ts in
    omega (arith, a, b, c, d, e, length_value r.value, length-drop n r.key)

small_stamp : (z : Option ℤ) → stamp_size z ≤ 8
small_stamp None = omega arith
small_stamp (Some z) = omega arith

small_value : (v : ValueDeletable) → value_size v ≤ 4 + length (bytes_of v)
small_value (Value v) = omega arith
small_value (Merge v) = omega arith
small_value Tombstone = omega arith

pub small_v1 : (n : ℕ) (r : RowEntry) → length r.key < 2 ^ 16 → length (operand r) < 2 ^ 32 → encoded_size n r < 2 ^ 33
small_v1 n r k v = omega (arith, small_stamp r.create_ts, small_stamp r.expire_ts, small_value r.value, k, v)

-- the size that a row is counted with is not cut
pub counted_v1 : (n : ℕ) (r : RowEntry) → length r.key < 2 ^ 16 → length (operand r) < 2 ^ 32 → min (encoded_size n r) (2 ^ 64 - 1) ≡ length (v1_bytes (entry_v1 n r))
counted_v1 n r k v = omega (arith, length_v1 n r, small_v1 n r k v)
