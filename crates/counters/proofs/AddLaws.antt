-- Adding is lawful.
use Rattle.std.specs.Prelude.{◌≡◌, ℕ, ◌+◌, ◌-◌, ◌^◌, ◌<◌, min}
use Rattle.std.specs.Int.{w64, to_be_bytes}
use Rattle.std.proofs.Common.{refl, ap, sym, ◌∙◌, arith}
use Rattle.std.proofs.lemmas.Nat.{from_be_bytes-to_be_bytes_8}
use Rattle.counters.specs.Counters.{counter_value, added}
use Rattle.slate_types.specs.Fold.{IsLawful}

below : (n : ℕ) → min n (2 ^ 64 - 1) < 2 ^ 64
below n = omega arith

value_again : (n : ℕ) → counter_value (to_be_bytes w64 (min n (2 ^ 64 - 1))) ≡ min n (2 ^ 64 - 1)
value_again n =
    ap (λ m. min m (2 ^ 64 - 1)) (from_be_bytes-to_be_bytes_8 (min n (2 ^ 64 - 1)) (below n)) ∙ (omega arith)

sums : (a b c : ℕ) → min (min (a + b) (2 ^ 64 - 1) + c) (2 ^ 64 - 1) ≡ min (a + min (b + c) (2 ^ 64 - 1)) (2 ^ 64 - 1)
sums a b c = omega arith

pub add_lawful : IsLawful added
add_lawful = record {
  first = λ v h. refl;
  assoc = λ u v w hu hv hw.
      ap (λ n. to_be_bytes w64 (min (n + counter_value w) (2 ^ 64 - 1))) (value_again (counter_value u + counter_value v))
      ∙ ap (to_be_bytes w64) (sums (counter_value u) (counter_value v) (counter_value w))
      ∙ sym (ap (λ n. to_be_bytes w64 (min (counter_value u + n) (2 ^ 64 - 1))) (value_again (counter_value v + counter_value w)));
}
