-- A path has one id. slate_db has the same lemmas, and stands beside this crate.
use Rattle.std.proofs.Common.{◌≡◌, ℕ, zero, suc, ◌+◌, ◌*◌, ◌/◌, ◌%◌, ◌^◌, ◌<◌, List, ◌∷◌, ◌++◌, refl, sym, ap, subst, ◌∙◌, arith}
use native.Mathlib.Numerals.{unary_clauses}
use Rattle.std.proofs.Math.Arith.{mod-mul}
use Rattle.std.proofs.Math.Nat.{mul_comm}
use Rattle.std.specs.Prelude.{codes}
use Rattle.std.proofs.lemmas.Bool.Decides.{nat_tests}
use Rattle.std.proofs.lemmas.List.{append_cancel_right}
use Rattle.slate_table.specs.Paths.{hex_digit, hex, path_of}
use Rattle.slate_read.specs.TableWalk.{root}

digit_same : (a b : ℕ) → a < 16 → b < 16 → hex_digit a ≡ hex_digit b → a ≡ b
digit_same a b h k e = grind (arith, nat_tests)

first_same : {X : Type 0} (x y : X) (xs ys : List X) → x ∷ xs ≡ y ∷ ys → x ≡ y
first_same x y xs ys h = cc

rest_same : {X : Type 0} (x y : X) (xs ys : List X) → x ∷ xs ≡ y ∷ ys → xs ≡ ys
rest_same x y xs ys h = cc

below_16 : (a : ℕ) → a % 16 < 16
below_16 a = omega arith

more_power : (k : ℕ) → 16 ^ suc k ≡ 16 * 16 ^ k
more_power k = simp unary_clauses (mul_comm (16 ^ k) 16)

some_power : (k : ℕ) → 0 < 16 ^ k
some_power zero = omega arith
some_power (suc k) = let h : 0 < 16 ^ k = some_power k in omega (arith, more_power k)

-- the lowest k digits
hex_same : (k a b : ℕ) → hex k a ≡ hex k b → a % 16 ^ k ≡ b % 16 ^ k
hex_same zero a b h = omega arith
hex_same (suc k) a b h =
    let high : a / 16 ^ k % 16 ≡ b / 16 ^ k % 16 = digit_same _ _ (below_16 (a / 16 ^ k)) (below_16 (b / 16 ^ k)) (first_same _ _ _ _ h) in
    let low : a % 16 ^ k ≡ b % 16 ^ k = hex_same k a b (rest_same _ _ _ _ h) in
    let pow : 16 ^ suc k ≡ 16 * 16 ^ k = more_power k in
    ap (λ m. a % m) pow ∙ mod-mul a (omega arith) (some_power k) ∙ (λ i. high i * 16 ^ k + low i) ∙ sym (ap (λ m. b % m) pow ∙ mod-mul b (omega arith) (some_power k))

digits_same : (a b : ℕ) → path_of root a ≡ path_of root b → hex 32 a ≡ hex 32 b
digits_same a b h = append_cancel_right (hex 32 a) (hex 32 b) (codes ".sst") cc

pub one_id : (a b : ℕ) → a < 2 ^ 128 → b < 2 ^ 128 → path_of root a ≡ path_of root b → a ≡ b
one_id a b k l e = let same : a % 16 ^ 32 ≡ b % 16 ^ 32 = hex_same 32 a b (digits_same a b e) in omega (arith, same, k, l)
