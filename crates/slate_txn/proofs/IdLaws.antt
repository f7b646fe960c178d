-- A new id is none of those before, and stands past them.
use Rattle.std.proofs.Common.{◌≡◌, ℕ, zero, suc, ◌+◌, ◌*◌, ◌/◌, ◌%◌, ◌<◌, ◌≤◌, ◌^◌, ◌⊎◌, inl, inr, true, false, cond, ◌==◌, ltb, List, [], ◌∷◌, None, Less, Equal, Greater, refl, sym, ap, ◌∙◌, arith, bytes_eq}
use Rattle.std.specs.Int.{w128, byte_at, bytes_high_first, from_be_bytes}
use Rattle.std.specs.Ordering.{nat_cmp, ordering_then}
use Rattle.std.proofs.Math.Nat.{div-div-eq-div-mul, pow-succ'}
use Rattle.std.proofs.lemmas.Bool.{cases_lt}
use Rattle.std.proofs.lemmas.Bool.Decides.{nat_tests}
use Rattle.std.proofs.lemmas.Nat.{div-add-mod', le-div}
use Rattle.std.specs.List.{AllByRecursion}
use Rattle.std.proofs.lemmas.Slice.Eq.{bytes_eq-Decides}
use Rattle.std.proofs.lemmas.Bool.{false_from_ne_true}
use Rattle.uuid.proofs.OrderLemmas.{from_be_bytes-to_be_bytes_16}
use Rattle.slate_types.specs.Keys.{among, key_cmp}
use Rattle.slate_txn.specs.Named.{find_named}
use Rattle.slate_txn.specs.Ids.{id_of, snapshot_id, IsOfCount, IsSnapshotOf}

same_count : (n m : ℕ) → n < 2 ^ 128 → m < 2 ^ 128 → id_of n ≡ id_of m → n ≡ m
same_count n m h k e = sym (from_be_bytes-to_be_bytes_16 n h) ∙ ap (λ bs. from_be_bytes w128 bs) e ∙ from_be_bytes-to_be_bytes_16 m k

differ : (n m : ℕ) (id : List ℕ) → n < 2 ^ 128 → m < 2 ^ 128 → (n ≡ m → ⊥) → id ≡ id_of n → bytes_eq id (id_of m) ≡ false
differ n m id h k apart is = false_from_ne_true _ (λ t. apart (same_count n m h k (sym is ∙ (bytes_eq-Decides id (id_of m)).0 t)))

pub other : (n x : ℕ) (id : List ℕ) → n < x → x < 2 ^ 128 → IsOfCount n id → bytes_eq id (id_of x) ≡ false
other n x id h b o = let within : o.count ≤ n = o.within in differ o.count x id (omega arith) b (λ e. omega arith) o.is

pub fresh_among : (n x : ℕ) (ids : List (List ℕ)) → n < x → x < 2 ^ 128 → AllByRecursion (λ id. IsOfCount n id) ids → among (id_of x) ids ≡ false
fresh_among n x [] h b o = refl
fresh_among n x (id ∷ ids) h b o = rw (other n x id h b o.0) (fresh_among n x ids h b o.1)

pub fresh_named : {X : Type 0} (n x : ℕ) (ps : List (List ℕ × X)) → n < x → x < 2 ^ 128 → AllByRecursion (λ p. IsOfCount n p.0) ps → find_named (id_of x) ps ≡ None
fresh_named n x [] h b o = refl
fresh_named n x (p ∷ ps) h b o = rw (other n x p.0 h b o.0) (fresh_named n x ps h b o.1)

pub wider : (n m : ℕ) → n ≤ m → (id : List ℕ) → IsOfCount n id → IsOfCount m id
wider n m h id o = record { count = o.count; within = let w : o.count ≤ n = o.within in omega arith; is = o.is }

-- ---- ids of transactions and of snapshots

pub of_snapshot : (k : ℕ) (id : List ℕ) → IsSnapshotOf k id → IsOfCount (2 ^ 127 + k) id
of_snapshot k id o = record { count = 2 ^ 127 + o.count; within = let w : o.count ≤ k = o.within in omega arith; is = o.is }

pub wider_snapshot : (k m : ℕ) → k ≤ m → (id : List ℕ) → IsSnapshotOf k id → IsSnapshotOf m id
wider_snapshot k m h id o = record { count = o.count; within = let w : o.count ≤ k = o.within in omega arith; is = o.is }

pub not_both : (n k : ℕ) (id : List ℕ) → n < 2 ^ 127 → k < 2 ^ 64 → IsOfCount n id → IsSnapshotOf k id → ⊥
not_both n k id h l o s =
    let few : o.count ≤ n = o.within in
    let shown : s.count ≤ k = s.within in
    let same : o.count ≡ 2 ^ 127 + s.count = same_count o.count (2 ^ 127 + s.count) (omega arith) (omega arith) (sym o.is ∙ s.is) in
    omega arith

-- an id of one kind is no later one of the same kind, and none of the other
pub snapshot_other : (k : ℕ) (id : List ℕ) → k < 2 ^ 64 → IsSnapshotOf k id → bytes_eq id (snapshot_id (k + 1)) ≡ false
snapshot_other k id h o = other (2 ^ 127 + k) (2 ^ 127 + (k + 1)) id (omega arith) (omega arith) (of_snapshot k id o)

pub snapshot_not_count : (n k : ℕ) (id : List ℕ) → n < 2 ^ 127 → k < 2 ^ 64 → IsOfCount n id → bytes_eq id (snapshot_id (k + 1)) ≡ false
snapshot_not_count n k id h l o = other n (2 ^ 127 + (k + 1)) id (omega arith) (omega arith) o

pub count_not_snapshot : (k x : ℕ) (id : List ℕ) → k < 2 ^ 64 → x < 2 ^ 127 → IsSnapshotOf k id → bytes_eq id (id_of x) ≡ false
count_not_snapshot k x id h b o = let within : o.count ≤ k = o.within in differ (2 ^ 127 + o.count) x id (omega arith) (omega arith) (λ e. omega arith) o.is

not_named : {X : Type 0} (P : List ℕ → Type 0) (x : List ℕ) → ((id : List ℕ) → P id → bytes_eq id x ≡ false) → (ps : List (List ℕ × X)) → AllByRecursion (λ p. P p.0) ps → find_named x ps ≡ None
not_named P x apart [] o = refl
not_named P x apart (p ∷ ps) o = rw (apart p.0 o.0) (not_named P x apart ps o.1)

pub fresh_snapshot : {X : Type 0} (k : ℕ) (ps : List (List ℕ × X)) → k < 2 ^ 64 → AllByRecursion (λ p. IsSnapshotOf k p.0) ps → find_named (snapshot_id (k + 1)) ps ≡ None
fresh_snapshot k ps h o = not_named (IsSnapshotOf k) (snapshot_id (k + 1)) (λ id i. snapshot_other k id h i) ps o

pub snapshot_not_named : {X : Type 0} (n k : ℕ) (ps : List (List ℕ × X)) → n < 2 ^ 127 → k < 2 ^ 64 → AllByRecursion (λ p. IsOfCount n p.0) ps → find_named (snapshot_id (k + 1)) ps ≡ None
snapshot_not_named n k ps h l o = not_named (IsOfCount n) (snapshot_id (k + 1)) (λ id i. snapshot_not_count n k id h l i) ps o

pub count_not_named : {X : Type 0} (k x : ℕ) (ps : List (List ℕ × X)) → k < 2 ^ 64 → x < 2 ^ 127 → AllByRecursion (λ p. IsSnapshotOf k p.0) ps → find_named (id_of x) ps ≡ None
count_not_named k x ps h b o = not_named (IsSnapshotOf k) (id_of x) (λ id i. count_not_snapshot k x id h b i) ps o

-- ---- ids stand in the order of their counts

byte_is : (k n : ℕ) → byte_at k n ≡ n / 256 ^ k % 256
byte_is zero n = omega arith
byte_is (suc k) n = refl

positive : (k : ℕ) → 0 < 256 ^ k
positive zero = omega arith
positive (suc k) = omega (arith, positive k, pow-succ' 256 k)

quotient_le : (x y k : ℕ) → y < x → y / 256 ^ k ≤ x / 256 ^ k
quotient_le x y k h = le-div (y / 256 ^ k) x (256 ^ k) (positive k) (omega (arith, div-add-mod' y (256 ^ k)))

same_byte : (a b : ℕ) → a ≡ b → nat_cmp a b ≡ Equal
same_byte a b e =
    let below : ltb a b ≡ false = grind (arith, nat_tests) in
    let same : (a == b) ≡ true = grind (arith, nat_tests) in
    λ i. cond (below i) Less (cond (same i) Equal Greater)

greater_byte : (a b : ℕ) → b < a → nat_cmp a b ≡ Greater
greater_byte a b h =
    let below : ltb a b ≡ false = grind (arith, nat_tests) in
    let same : (a == b) ≡ false = grind (arith, nat_tests) in
    λ i. cond (below i) Less (cond (same i) Equal Greater)

-- of two numbers that agree above the lowest k bytes
bytes_rise : (k x y : ℕ) → y < x → x / 256 ^ k ≡ y / 256 ^ k → key_cmp (bytes_high_first k x) (bytes_high_first k y) ≡ Greater
bytes_rise zero x y h e = absurd (omega arith)
bytes_rise (suc k) x y h e = by (cases_lt (y / 256 ^ k) (x / 256 ^ k)) (bytes_rise k x y h)
  where
    upper : (n : ℕ) → n / 256 ^ k / 256 ≡ n / 256 ^ suc k
    upper n = div-div-eq-div-mul n (256 ^ k) 256 ∙ ap (λ (p : ℕ). n / p) (let s : 256 ^ k * 256 ≡ 256 ^ suc k = omega (arith, pow-succ' 256 k) in s)

    agree : x / 256 ^ k / 256 ≡ y / 256 ^ k / 256
    agree = upper x ∙ e ∙ sym (upper y)

    by : (y / 256 ^ k < x / 256 ^ k) ⊎ (x / 256 ^ k ≤ y / 256 ^ k) → (x / 256 ^ k ≡ y / 256 ^ k → key_cmp (bytes_high_first k x) (bytes_high_first k y) ≡ Greater) →
        key_cmp (byte_at k x ∷ bytes_high_first k x) (byte_at k y ∷ bytes_high_first k y) ≡ Greater
    by (inl less) later =
        let first : byte_at k y < byte_at k x = omega (arith, byte_is k x, byte_is k y, agree) in
        ap (λ o. ordering_then o (key_cmp (bytes_high_first k x) (bytes_high_first k y))) (greater_byte (byte_at k x) (byte_at k y) first)
    by (inr more) later =
        let same : x / 256 ^ k ≡ y / 256 ^ k = omega (arith, quotient_le x y k h) in
        let first : byte_at k x ≡ byte_at k y = omega (arith, byte_is k x, byte_is k y, same) in
        ap (λ o. ordering_then o (key_cmp (bytes_high_first k x) (bytes_high_first k y))) (same_byte (byte_at k x) (byte_at k y) first)
        ∙ later same

pub id_past : (n x : ℕ) (id : List ℕ) → n < x → x < 2 ^ 128 → IsOfCount n id → key_cmp (id_of x) id ≡ Greater
id_past n x id h b o =
    let within : o.count ≤ n = o.within in
    ap (key_cmp (id_of x)) o.is ∙ bytes_rise 16 x o.count (omega arith) (omega arith)

pub all_past : {X : Type 0} (n x : ℕ) (ps : List (List ℕ × X)) → n < x → x < 2 ^ 128 → AllByRecursion (λ p. IsOfCount n p.0) ps → AllByRecursion (λ p. key_cmp (id_of x) p.0 ≡ Greater) ps
all_past n x [] h b o = tt
all_past n x (p ∷ ps) h b o = (id_past n x p.0 h b o.0, all_past n x ps h b o.1)
