-- The texts of byte tokens.
use Rattle.std.proofs.Common.{◌≡◌, ℕ, zero, suc, ◌/◌, ◌%◌, ◌<◌, Bool, true, false, cond, ◌&&◌, ◌==◌, inl, inr, List, [], ◌∷◌, ◌++◌, codes, refl, sym, ap, ◌∙◌, arith}
use Rattle.std.specs.Prelude.{slice_index}
use Rattle.std.specs.List.{list_all}
use Rattle.std.proofs.lemmas.Bool.{and_parts, cases_lt, eqb-true}
use Rattle.hex.specs.Hex.{encode_lower, encode_with, lower_digits, IsBytes}
use Rattle.slate_language.specs.Text.{hex, hex_digit, is_visible, shown_bytes}

-- the first n digits are those of the table
abbrev same_digits : ℕ → Bool
same_digits zero = true
same_digits (suc n) = (slice_index lower_digits n == hex_digit n) && same_digits n

digit_below : (n k : ℕ) → same_digits n ≡ true → k < n → slice_index lower_digits k ≡ hex_digit k
digit_below zero k h lt = absurd (omega arith)
digit_below (suc n) k h lt =
    let parts = and_parts (slice_index lower_digits n == hex_digit n) (same_digits n) h in
    elim (cases_lt k n) [
      | inl below ↦ digit_below n k parts.1 below
      | inr top ↦
          let same : k ≡ n = omega arith in
          rw same (eqb-true (slice_index lower_digits n) (hex_digit n) parts.0)
    ]

digit_is : (k : ℕ) → k < 16 → slice_index lower_digits k ≡ hex_digit k
digit_is k lt = digit_below 16 k refl lt

-- The digits of the crate `hex` are those of the text.
pub hex_is : (bytes : List ℕ) → IsBytes bytes → encode_lower bytes ≡ hex bytes
unfolding encode_with
hex_is [] h = refl
hex_is (b ∷ bs) h =
    let small : b < 256 = h 0 in
    λ i. digit_is (b / 16) (omega arith) i ∷ digit_is (b % 16) (omega arith) i ∷ hex_is bs (λ k. h (suc k)) i

-- the byte token of bytes that don't all show as themselves
pub hidden_text : (bytes : List ℕ) → IsBytes bytes → list_all is_visible bytes ≡ false → codes "0x" ++ encode_lower bytes ≡ shown_bytes bytes
hidden_text bytes h hidden = ap (λ ds. codes "0x" ++ ds) (hex_is bytes h) ∙ (λ i. cond (sym hidden i) (39 ∷ bytes) (codes "0x" ++ hex bytes))

-- the byte token of bytes that do
pub visible_text : (bytes : List ℕ) → list_all is_visible bytes ≡ true → 39 ∷ bytes ≡ shown_bytes bytes
visible_text bytes all = λ i. cond (sym all i) (39 ∷ bytes) (codes "0x" ++ hex bytes)
