-- Bytes by their bits.
use Rattle.std.proofs.Common.{◌≡◌, ℕ, zero, suc, ◌+◌, ◌-◌, ◌*◌, ◌/◌, ◌%◌, ◌^◌, ◌<◌, ◌≤◌, Bool, true, false, cond, ◌||◌, ltb, eqb, List, [], ◌∷◌, length, get_or, drop, replicate, refl, sym, ap, ◌∙◌, arith}
use Rattle.std.specs.List.{list_any, flat_map, AllByRecursion}
use Rattle.std.proofs.Math.Seq.{drop-cons}
use Rattle.std.proofs.Math.ListN.{drop_of_length-le}
use Rattle.std.proofs.lemmas.List.Folds.{list_any-append}
use Rattle.std.specs.Int.{bit_at}
use Rattle.std.proofs.lemmas.Bool.Decides.{nat_tests}
use Rattle.std.proofs.Math.Nat.{zero-div}
use Rattle.slate_filter.specs.Bloom.{byte_of_bits, bits_from, is_set}
use Rattle.std.proofs.Math.Bool.{or_assoc, or-false}

-- ---- the eight bits of a byte

times : Bool → ℕ
times b = cond b 1 0

record IsTimes (b : Bool) (v p : ℕ) : Type 0 where
  pub most : cond b 1 0 ≤ 1
  pub is : v ≡ cond b 1 0 * p

is_times : (b : Bool) (p : ℕ) → IsTimes b (cond b p 0) p
is_times true p = record { most = omega arith; is = omega arith }
is_times false p = record { most = omega arith; is = omega arith }

test_of : (b : Bool) → eqb (cond b 1 0) 1 ≡ b
test_of true = refl
test_of false = refl

bit_0 : (b0 b1 b2 b3 b4 b5 b6 b7 : Bool) → eqb (bit_at (cond b0 1 0 + cond b1 2 0 + cond b2 4 0 + cond b3 8 0 + cond b4 16 0 + cond b5 32 0 + cond b6 64 0 + cond b7 128 0) 0) 1 ≡ b0
bit_0 b0 b1 b2 b3 b4 b5 b6 b7 =
    let i0 = is_times b0 1 in
    let i1 = is_times b1 2 in
    let i2 = is_times b2 4 in
    let i3 = is_times b3 8 in
    let i4 = is_times b4 16 in
    let i5 = is_times b5 32 in
    let i6 = is_times b6 64 in
    let i7 = is_times b7 128 in
    let e : (cond b0 1 0 + cond b1 2 0 + cond b2 4 0 + cond b3 8 0 + cond b4 16 0 + cond b5 32 0 + cond b6 64 0 + cond b7 128 0) / 2 ^ 0 % 2 ≡ cond b0 1 0 = omega (arith, i0.most, i0.is, i1.most, i1.is, i2.most, i2.is, i3.most, i3.is, i4.most, i4.is, i5.most, i5.is, i6.most, i6.is, i7.most, i7.is) in
    ap (λ (n : ℕ). eqb n 1) e ∙ test_of b0

bit_1 : (b0 b1 b2 b3 b4 b5 b6 b7 : Bool) → eqb (bit_at (cond b0 1 0 + cond b1 2 0 + cond b2 4 0 + cond b3 8 0 + cond b4 16 0 + cond b5 32 0 + cond b6 64 0 + cond b7 128 0) 1) 1 ≡ b1
bit_1 b0 b1 b2 b3 b4 b5 b6 b7 =
    let i0 = is_times b0 1 in
    let i1 = is_times b1 2 in
    let i2 = is_times b2 4 in
    let i3 = is_times b3 8 in
    let i4 = is_times b4 16 in
    let i5 = is_times b5 32 in
    let i6 = is_times b6 64 in
    let i7 = is_times b7 128 in
    let e : (cond b0 1 0 + cond b1 2 0 + cond b2 4 0 + cond b3 8 0 + cond b4 16 0 + cond b5 32 0 + cond b6 64 0 + cond b7 128 0) / 2 ^ 1 % 2 ≡ cond b1 1 0 = omega (arith, i0.most, i0.is, i1.most, i1.is, i2.most, i2.is, i3.most, i3.is, i4.most, i4.is, i5.most, i5.is, i6.most, i6.is, i7.most, i7.is) in
    ap (λ (n : ℕ). eqb n 1) e ∙ test_of b1

bit_2 : (b0 b1 b2 b3 b4 b5 b6 b7 : Bool) → eqb (bit_at (cond b0 1 0 + cond b1 2 0 + cond b2 4 0 + cond b3 8 0 + cond b4 16 0 + cond b5 32 0 + cond b6 64 0 + cond b7 128 0) 2) 1 ≡ b2
bit_2 b0 b1 b2 b3 b4 b5 b6 b7 =
    let i0 = is_times b0 1 in
    let i1 = is_times b1 2 in
    let i2 = is_times b2 4 in
    let i3 = is_times b3 8 in
    let i4 = is_times b4 16 in
    let i5 = is_times b5 32 in
    let i6 = is_times b6 64 in
    let i7 = is_times b7 128 in
    let e : (cond b0 1 0 + cond b1 2 0 + cond b2 4 0 + cond b3 8 0 + cond b4 16 0 + cond b5 32 0 + cond b6 64 0 + cond b7 128 0) / 2 ^ 2 % 2 ≡ cond b2 1 0 = omega (arith, i0.most, i0.is, i1.most, i1.is, i2.most, i2.is, i3.most, i3.is, i4.most, i4.is, i5.most, i5.is, i6.most, i6.is, i7.most, i7.is) in
    ap (λ (n : ℕ). eqb n 1) e ∙ test_of b2

bit_3 : (b0 b1 b2 b3 b4 b5 b6 b7 : Bool) → eqb (bit_at (cond b0 1 0 + cond b1 2 0 + cond b2 4 0 + cond b3 8 0 + cond b4 16 0 + cond b5 32 0 + cond b6 64 0 + cond b7 128 0) 3) 1 ≡ b3
bit_3 b0 b1 b2 b3 b4 b5 b6 b7 =
    let i0 = is_times b0 1 in
    let i1 = is_times b1 2 in
    let i2 = is_times b2 4 in
    let i3 = is_times b3 8 in
    let i4 = is_times b4 16 in
    let i5 = is_times b5 32 in
    let i6 = is_times b6 64 in
    let i7 = is_times b7 128 in
    let e : (cond b0 1 0 + cond b1 2 0 + cond b2 4 0 + cond b3 8 0 + cond b4 16 0 + cond b5 32 0 + cond b6 64 0 + cond b7 128 0) / 2 ^ 3 % 2 ≡ cond b3 1 0 = omega (arith, i0.most, i0.is, i1.most, i1.is, i2.most, i2.is, i3.most, i3.is, i4.most, i4.is, i5.most, i5.is, i6.most, i6.is, i7.most, i7.is) in
    ap (λ (n : ℕ). eqb n 1) e ∙ test_of b3

bit_4 : (b0 b1 b2 b3 b4 b5 b6 b7 : Bool) → eqb (bit_at (cond b0 1 0 + cond b1 2 0 + cond b2 4 0 + cond b3 8 0 + cond b4 16 0 + cond b5 32 0 + cond b6 64 0 + cond b7 128 0) 4) 1 ≡ b4
bit_4 b0 b1 b2 b3 b4 b5 b6 b7 =
    let i0 = is_times b0 1 in
    let i1 = is_times b1 2 in
    let i2 = is_times b2 4 in
    let i3 = is_times b3 8 in
    let i4 = is_times b4 16 in
    let i5 = is_times b5 32 in
    let i6 = is_times b6 64 in
    let i7 = is_times b7 128 in
    let e : (cond b0 1 0 + cond b1 2 0 + cond b2 4 0 + cond b3 8 0 + cond b4 16 0 + cond b5 32 0 + cond b6 64 0 + cond b7 128 0) / 2 ^ 4 % 2 ≡ cond b4 1 0 = omega (arith, i0.most, i0.is, i1.most, i1.is, i2.most, i2.is, i3.most, i3.is, i4.most, i4.is, i5.most, i5.is, i6.most, i6.is, i7.most, i7.is) in
    ap (λ (n : ℕ). eqb n 1) e ∙ test_of b4

bit_5 : (b0 b1 b2 b3 b4 b5 b6 b7 : Bool) → eqb (bit_at (cond b0 1 0 + cond b1 2 0 + cond b2 4 0 + cond b3 8 0 + cond b4 16 0 + cond b5 32 0 + cond b6 64 0 + cond b7 128 0) 5) 1 ≡ b5
bit_5 b0 b1 b2 b3 b4 b5 b6 b7 =
    let i0 = is_times b0 1 in
    let i1 = is_times b1 2 in
    let i2 = is_times b2 4 in
    let i3 = is_times b3 8 in
    let i4 = is_times b4 16 in
    let i5 = is_times b5 32 in
    let i6 = is_times b6 64 in
    let i7 = is_times b7 128 in
    let e : (cond b0 1 0 + cond b1 2 0 + cond b2 4 0 + cond b3 8 0 + cond b4 16 0 + cond b5 32 0 + cond b6 64 0 + cond b7 128 0) / 2 ^ 5 % 2 ≡ cond b5 1 0 = omega (arith, i0.most, i0.is, i1.most, i1.is, i2.most, i2.is, i3.most, i3.is, i4.most, i4.is, i5.most, i5.is, i6.most, i6.is, i7.most, i7.is) in
    ap (λ (n : ℕ). eqb n 1) e ∙ test_of b5

bit_6 : (b0 b1 b2 b3 b4 b5 b6 b7 : Bool) → eqb (bit_at (cond b0 1 0 + cond b1 2 0 + cond b2 4 0 + cond b3 8 0 + cond b4 16 0 + cond b5 32 0 + cond b6 64 0 + cond b7 128 0) 6) 1 ≡ b6
bit_6 b0 b1 b2 b3 b4 b5 b6 b7 =
    let i0 = is_times b0 1 in
    let i1 = is_times b1 2 in
    let i2 = is_times b2 4 in
    let i3 = is_times b3 8 in
    let i4 = is_times b4 16 in
    let i5 = is_times b5 32 in
    let i6 = is_times b6 64 in
    let i7 = is_times b7 128 in
    let e : (cond b0 1 0 + cond b1 2 0 + cond b2 4 0 + cond b3 8 0 + cond b4 16 0 + cond b5 32 0 + cond b6 64 0 + cond b7 128 0) / 2 ^ 6 % 2 ≡ cond b6 1 0 = omega (arith, i0.most, i0.is, i1.most, i1.is, i2.most, i2.is, i3.most, i3.is, i4.most, i4.is, i5.most, i5.is, i6.most, i6.is, i7.most, i7.is) in
    ap (λ (n : ℕ). eqb n 1) e ∙ test_of b6

bit_7 : (b0 b1 b2 b3 b4 b5 b6 b7 : Bool) → eqb (bit_at (cond b0 1 0 + cond b1 2 0 + cond b2 4 0 + cond b3 8 0 + cond b4 16 0 + cond b5 32 0 + cond b6 64 0 + cond b7 128 0) 7) 1 ≡ b7
bit_7 b0 b1 b2 b3 b4 b5 b6 b7 =
    let i0 = is_times b0 1 in
    let i1 = is_times b1 2 in
    let i2 = is_times b2 4 in
    let i3 = is_times b3 8 in
    let i4 = is_times b4 16 in
    let i5 = is_times b5 32 in
    let i6 = is_times b6 64 in
    let i7 = is_times b7 128 in
    let e : (cond b0 1 0 + cond b1 2 0 + cond b2 4 0 + cond b3 8 0 + cond b4 16 0 + cond b5 32 0 + cond b6 64 0 + cond b7 128 0) / 2 ^ 7 % 2 ≡ cond b7 1 0 = omega (arith, i0.most, i0.is, i1.most, i1.is, i2.most, i2.is, i3.most, i3.is, i4.most, i4.is, i5.most, i5.is, i6.most, i6.is, i7.most, i7.is) in
    ap (λ (n : ℕ). eqb n 1) e ∙ test_of b7

test_at : (ps : List ℕ) (at j : ℕ) → Bool
test_at ps at j = list_any (λ p. eqb p (at + j)) ps

pick : (ps : List ℕ) (at b : ℕ) → b < 8 → eqb (bit_at (byte_of_bits ps at) b) 1 ≡ list_any (λ p. eqb p (at + b)) ps
unfolding test_at
pick ps at zero p = bit_0 (test_at ps at 0) (test_at ps at 1) (test_at ps at 2) (test_at ps at 3) (test_at ps at 4) (test_at ps at 5) (test_at ps at 6) (test_at ps at 7)
pick ps at (suc zero) p = bit_1 (test_at ps at 0) (test_at ps at 1) (test_at ps at 2) (test_at ps at 3) (test_at ps at 4) (test_at ps at 5) (test_at ps at 6) (test_at ps at 7)
pick ps at (suc (suc zero)) p = bit_2 (test_at ps at 0) (test_at ps at 1) (test_at ps at 2) (test_at ps at 3) (test_at ps at 4) (test_at ps at 5) (test_at ps at 6) (test_at ps at 7)
pick ps at (suc (suc (suc zero))) p = bit_3 (test_at ps at 0) (test_at ps at 1) (test_at ps at 2) (test_at ps at 3) (test_at ps at 4) (test_at ps at 5) (test_at ps at 6) (test_at ps at 7)
pick ps at (suc (suc (suc (suc zero)))) p = bit_4 (test_at ps at 0) (test_at ps at 1) (test_at ps at 2) (test_at ps at 3) (test_at ps at 4) (test_at ps at 5) (test_at ps at 6) (test_at ps at 7)
pick ps at (suc (suc (suc (suc (suc zero))))) p = bit_5 (test_at ps at 0) (test_at ps at 1) (test_at ps at 2) (test_at ps at 3) (test_at ps at 4) (test_at ps at 5) (test_at ps at 6) (test_at ps at 7)
pick ps at (suc (suc (suc (suc (suc (suc zero)))))) p = bit_6 (test_at ps at 0) (test_at ps at 1) (test_at ps at 2) (test_at ps at 3) (test_at ps at 4) (test_at ps at 5) (test_at ps at 6) (test_at ps at 7)
pick ps at (suc (suc (suc (suc (suc (suc (suc zero))))))) p = bit_7 (test_at ps at 0) (test_at ps at 1) (test_at ps at 2) (test_at ps at 3) (test_at ps at 4) (test_at ps at 5) (test_at ps at 6) (test_at ps at 7)
pick ps at (suc (suc (suc (suc (suc (suc (suc (suc b)))))))) p = absurd (omega (arith, p))

-- ---- bytes

pub from_at : (n at : ℕ) (ps : List ℕ) (b : ℕ) → b < 8 * n → is_set (bits_from n at ps) b ≡ list_any (λ p. eqb p (at + b)) ps
from_at zero at ps b p = absurd (omega (arith, p))
from_at (suc n) at ps b p = by (ltb b 8) refl (λ (far : 8 ≤ b). from_at n (at + 8) ps (b - 8) (omega (arith, p, far)))
  where
    by : (t : Bool) → ltb b 8 ≡ t → (8 ≤ b → is_set (bits_from n (at + 8) ps) (b - 8) ≡ list_any (λ p. eqb p (at + 8 + (b - 8))) ps) →
        cond t (eqb (bit_at (byte_of_bits ps at) b) 1) (is_set (bits_from n (at + 8) ps) (b - 8)) ≡ list_any (λ p. eqb p (at + b)) ps
    by true e rest = let near : b < 8 = grind (arith, nat_tests) in pick ps at b near
    by false e rest =
        let far : 8 ≤ b = grind (arith, nat_tests) in
        let place : at + 8 + (b - 8) ≡ at + b = omega (arith, far) in
        rest far ∙ ap (λ (q : ℕ). list_any (λ p. eqb p q) ps) place

pub from_length : (n at : ℕ) (ps : List ℕ) → length (bits_from n at ps) ≡ n
from_length zero at ps = refl
from_length (suc n) at ps = let rest = from_length n (at + 8) ps in omega (arith, rest)

pub from_bytes : (n at : ℕ) (ps : List ℕ) → AllByRecursion (λ x. x < 256) (bits_from n at ps)
from_bytes zero at ps = tt
from_bytes (suc n) at ps = (byte ps at, from_bytes n (at + 8) ps)
  where
    byte : (ps : List ℕ) (at : ℕ) → byte_of_bits ps at < 256
    byte ps at =
        let i0 = is_times (list_any (λ p. eqb p (at + 0)) ps) 1 in
        let i1 = is_times (list_any (λ p. eqb p (at + 1)) ps) 2 in
        let i2 = is_times (list_any (λ p. eqb p (at + 2)) ps) 4 in
        let i3 = is_times (list_any (λ p. eqb p (at + 3)) ps) 8 in
        let i4 = is_times (list_any (λ p. eqb p (at + 4)) ps) 16 in
        let i5 = is_times (list_any (λ p. eqb p (at + 5)) ps) 32 in
        let i6 = is_times (list_any (λ p. eqb p (at + 6)) ps) 64 in
        let i7 = is_times (list_any (λ p. eqb p (at + 7)) ps) 128 in
        omega (arith, i0.most, i0.is, i1.most, i1.is, i2.most, i2.is, i3.most, i3.is, i4.most, i4.is, i5.most, i5.is, i6.most, i6.is, i7.most, i7.is)

same_bit : (x y : ℕ) → eqb (x % 2) 1 ≡ eqb (y % 2) 1 → x % 2 ≡ y % 2
same_bit x y e = grind (arith, nat_tests)

same_byte : (x y : ℕ) → x < 256 → y < 256 → ((b : ℕ) → b < 8 → eqb (bit_at x b) 1 ≡ eqb (bit_at y b) 1) → x ≡ y
same_byte x y p q e =
    let e0 = same_bit (x / 2 ^ 0) (y / 2 ^ 0) (e 0 (omega arith)) in
    let e1 = same_bit (x / 2 ^ 1) (y / 2 ^ 1) (e 1 (omega arith)) in
    let e2 = same_bit (x / 2 ^ 2) (y / 2 ^ 2) (e 2 (omega arith)) in
    let e3 = same_bit (x / 2 ^ 3) (y / 2 ^ 3) (e 3 (omega arith)) in
    let e4 = same_bit (x / 2 ^ 4) (y / 2 ^ 4) (e 4 (omega arith)) in
    let e5 = same_bit (x / 2 ^ 5) (y / 2 ^ 5) (e 5 (omega arith)) in
    let e6 = same_bit (x / 2 ^ 6) (y / 2 ^ 6) (e 6 (omega arith)) in
    let e7 = same_bit (x / 2 ^ 7) (y / 2 ^ 7) (e 7 (omega arith)) in
    omega (arith, p, q, e0, e1, e2, e3, e4, e5, e6, e7)

later_bit : (x : ℕ) (xs : List ℕ) (b : ℕ) → is_set (x ∷ xs) (b + 8) ≡ is_set xs b
later_bit x xs b =
    let far : ltb (b + 8) 8 ≡ false = grind (arith, nat_tests) in
    let place : b + 8 - 8 ≡ b = omega arith in
    ap (λ (t : Bool). cond t (eqb (bit_at x (b + 8)) 1) (is_set xs (b + 8 - 8))) far ∙ ap (is_set xs) place

first_bit : (x : ℕ) (xs : List ℕ) (b : ℕ) → b < 8 → is_set (x ∷ xs) b ≡ eqb (bit_at x b) 1
first_bit x xs b p = let near : ltb b 8 ≡ true = grind (arith, nat_tests) in ap (λ (t : Bool). cond t (eqb (bit_at x b) 1) (is_set xs (b - 8))) near

-- bytes with the same bits are the same
pub same_bytes : (xs ys : List ℕ) → length xs ≡ length ys → AllByRecursion (λ x. x < 256) xs → AllByRecursion (λ x. x < 256) ys →
    ((b : ℕ) → b < 8 * length xs → is_set xs b ≡ is_set ys b) → xs ≡ ys
same_bytes [] [] l f g e = refl
same_bytes [] (y ∷ ys) l f g e = absurd (omega (arith, l))
same_bytes (x ∷ xs) [] l f g e = absurd (omega (arith, l))
same_bytes (x ∷ xs) (y ∷ ys) l f g e =
    let head : x ≡ y = same_byte x y f.0 g.0 (λ b p. sym (first_bit x xs b p) ∙ e b (omega (arith, p)) ∙ first_bit y ys b p) in
    let rest : xs ≡ ys = same_bytes xs ys (omega (arith, l)) f.1 g.1 (λ b p. sym (later_bit x xs b) ∙ e (b + 8) (omega (arith, p)) ∙ later_bit y ys b) in
    λ i. head i ∷ rest i

-- no bit of zeros is set
pub zeros_clear : (n b : ℕ) → is_set (replicate n 0) b ≡ false
zeros_clear zero b = refl
zeros_clear (suc n) b = by (ltb b 8) refl (zeros_clear n (b - 8))
  where
    clear : (b : ℕ) → eqb (bit_at 0 b) 1 ≡ false
    clear b = ap (λ (n : ℕ). eqb (n % 2) 1) (zero-div (2 ^ b))

    by : (t : Bool) → ltb b 8 ≡ t → is_set (replicate n 0) (b - 8) ≡ false → cond t (eqb (bit_at 0 b) 1) (is_set (replicate n 0) (b - 8)) ≡ false
    by true e rest = clear b
    by false e rest = rest

pub all_clear : (xs : List ℕ) (b : ℕ) (rest : Bool) → xs ≡ replicate (length xs) 0 → (is_set xs b || rest) ≡ rest
all_clear xs b rest e = ap (λ (l : List ℕ). is_set l b || rest) e ∙ ap (λ (t : Bool). t || rest) (zeros_clear (length xs) b)

-- the bits of one hash more
pub hash_set : (f : ℕ → List ℕ) (hashes : List ℕ) (i b : ℕ) (was is all : Bool) → i < length hashes →
    (was || list_any (λ p. eqb p b) (flat_map f (drop i hashes))) ≡ all → is ≡ (was || list_any (λ p. eqb p b) (f (get_or hashes i 0))) →
    (is || list_any (λ p. eqb p b) (flat_map f (drop (i + 1) hashes))) ≡ all
hash_set f hashes i b was is all p inv e =
    let here = drop-cons hashes i 0 p in
    let next : i + 1 ≡ suc i = omega arith in
    let rest : List ℕ = flat_map f (drop (suc i) hashes) in
    let both = list_any-append (λ (q : ℕ). eqb q b) (f (get_or hashes i 0)) rest in
    ap (λ (k : ℕ). is || list_any (λ p. eqb p b) (flat_map f (drop k hashes))) next
    ∙ ap (λ (t : Bool). t || list_any (λ p. eqb p b) rest) e
    ∙ or_assoc was (list_any (λ p. eqb p b) (f (get_or hashes i 0))) (list_any (λ p. eqb p b) rest)
    ∙ sym (ap (λ (t : Bool). was || t) both)
    ∙ sym (ap (λ (l : List ℕ). was || list_any (λ p. eqb p b) (flat_map f l)) here) ∙ inv

byte_items : (xs : List ℕ) → ((k : ℕ) → get_or xs k 0 < 256) → AllByRecursion (λ x. x < 256) xs
byte_items [] h = tt
byte_items (x ∷ xs) h = (h 0, byte_items xs (λ k. h (suc k)))

-- all of them
pub all_set : (f : ℕ → List ℕ) (hashes : List ℕ) (i n : ℕ) (xs : List ℕ) → length hashes ≤ i → length xs ≡ n → ((k : ℕ) → get_or xs k 0 < 256) →
    ((b : ℕ) → (is_set xs b || list_any (λ p. eqb p b) (flat_map f (drop i hashes))) ≡ list_any (λ p. eqb p b) (flat_map f hashes)) → xs ≡ bits_from n 0 (flat_map f hashes)
all_set f hashes i n xs p l h inv =
    let end : drop i hashes ≡ [] = drop_of_length-le hashes p in
    let size = from_length n 0 (flat_map f hashes) in
    same_bytes xs (bits_from n 0 (flat_map f hashes)) (omega (arith, l, size)) (byte_items xs h) (from_bytes n 0 (flat_map f hashes))
    (λ b q. let place : 0 + b ≡ b = omega arith in
    sym (or-false (is_set xs b)) ∙ sym (ap (λ (r : List ℕ). is_set xs b || list_any (λ p. eqb p b) (flat_map f r)) end) ∙ inv b
    ∙ sym (ap (λ (k : ℕ). list_any (λ p. eqb p k) (flat_map f hashes)) place) ∙ sym (from_at n 0 (flat_map f hashes) b (omega (arith, q, l))))
