-- Bytes that are the flags of a row.
use Rattle.std.proofs.Common.{◌≡◌, ℕ, zero, suc, ◌<◌, ◌≤◌, ◌+◌, Bool, true, false, not, cond, eqb, bit_and, List, Option, Some, None, is_some, ℤ, refl, sym, ◌∙◌, inl, inr, arith}
use Rattle.std.proofs.lemmas.Bool.{cases_lt, le-ltb, false≢true}
use Rattle.std.proofs.lemmas.Nat.{and_le_r}
use Rattle.slate_types.specs.declared.types.ValueDeletable.{ValueDeletable}
use Rattle.slate_types.specs.declared.types.ValueDeletable.TheVariants.{Value, Merge, Tombstone}
use Rattle.slate_types.specs.Rows.{bytes_of}
use Rattle.slate_block.specs.declared.flags.RowFlags.{RowFlags}
use Rattle.slate_block.specs.RowSpelling.{are_flags, flags, kind_bits}
use Rattle.slate_block.specs.Damage.{row_flags, has}
use Rattle.slate_block.specs.RowReading.{value_of}

each_of_16 : (P : ℕ → Type 0) → P 0 → P 1 → P 2 → P 3 → P 4 → P 5 → P 6 → P 7 → P 8 → P 9 → P 10 → P 11 → P 12 → P 13 → P 14 → P 15 → (b : ℕ) → b < 16 → P b
each_of_16 P p0 p1 p2 p3 p4 p5 p6 p7 p8 p9 p10 p11 p12 p13 p14 p15 zero h = p0
each_of_16 P p0 p1 p2 p3 p4 p5 p6 p7 p8 p9 p10 p11 p12 p13 p14 p15 (suc zero) h = p1
each_of_16 P p0 p1 p2 p3 p4 p5 p6 p7 p8 p9 p10 p11 p12 p13 p14 p15 (suc (suc zero)) h = p2
each_of_16 P p0 p1 p2 p3 p4 p5 p6 p7 p8 p9 p10 p11 p12 p13 p14 p15 (suc (suc (suc zero))) h = p3
each_of_16 P p0 p1 p2 p3 p4 p5 p6 p7 p8 p9 p10 p11 p12 p13 p14 p15 (suc (suc (suc (suc zero)))) h = p4
each_of_16 P p0 p1 p2 p3 p4 p5 p6 p7 p8 p9 p10 p11 p12 p13 p14 p15 (suc (suc (suc (suc (suc zero))))) h = p5
each_of_16 P p0 p1 p2 p3 p4 p5 p6 p7 p8 p9 p10 p11 p12 p13 p14 p15 (suc (suc (suc (suc (suc (suc zero)))))) h = p6
each_of_16 P p0 p1 p2 p3 p4 p5 p6 p7 p8 p9 p10 p11 p12 p13 p14 p15 (suc (suc (suc (suc (suc (suc (suc zero))))))) h = p7
each_of_16 P p0 p1 p2 p3 p4 p5 p6 p7 p8 p9 p10 p11 p12 p13 p14 p15 (suc (suc (suc (suc (suc (suc (suc (suc zero)))))))) h = p8
each_of_16 P p0 p1 p2 p3 p4 p5 p6 p7 p8 p9 p10 p11 p12 p13 p14 p15 (suc (suc (suc (suc (suc (suc (suc (suc (suc zero))))))))) h = p9
each_of_16 P p0 p1 p2 p3 p4 p5 p6 p7 p8 p9 p10 p11 p12 p13 p14 p15 (suc (suc (suc (suc (suc (suc (suc (suc (suc (suc zero)))))))))) h = p10
each_of_16 P p0 p1 p2 p3 p4 p5 p6 p7 p8 p9 p10 p11 p12 p13 p14 p15 (suc (suc (suc (suc (suc (suc (suc (suc (suc (suc (suc zero))))))))))) h = p11
each_of_16 P p0 p1 p2 p3 p4 p5 p6 p7 p8 p9 p10 p11 p12 p13 p14 p15 (suc (suc (suc (suc (suc (suc (suc (suc (suc (suc (suc (suc zero)))))))))))) h = p12
each_of_16 P p0 p1 p2 p3 p4 p5 p6 p7 p8 p9 p10 p11 p12 p13 p14 p15 (suc (suc (suc (suc (suc (suc (suc (suc (suc (suc (suc (suc (suc zero))))))))))))) h = p13
each_of_16 P p0 p1 p2 p3 p4 p5 p6 p7 p8 p9 p10 p11 p12 p13 p14 p15 (suc (suc (suc (suc (suc (suc (suc (suc (suc (suc (suc (suc (suc (suc zero)))))))))))))) h = p14
each_of_16 P p0 p1 p2 p3 p4 p5 p6 p7 p8 p9 p10 p11 p12 p13 p14 p15 (suc (suc (suc (suc (suc (suc (suc (suc (suc (suc (suc (suc (suc (suc (suc zero))))))))))))))) h = p15
each_of_16 P p0 p1 p2 p3 p4 p5 p6 p7 p8 p9 p10 p11 p12 p13 p14 p15 (suc (suc (suc (suc (suc (suc (suc (suc (suc (suc (suc (suc (suc (suc (suc (suc k)))))))))))))))) h = absurd (omega arith)

and_15 : (b : ℕ) → b < 16 → bit_and b 15 ≡ b
and_15 = each_of_16 (λ b. bit_and b 15 ≡ b) refl refl refl refl refl refl refl refl refl refl refl refl refl refl refl refl

flags_below : (b : ℕ) → b < 16 → are_flags b ≡ not (eqb (bit_and b 9) 9)
flags_below = each_of_16 (λ b. are_flags b ≡ not (eqb (bit_and b 9) 9)) refl refl refl refl refl refl refl refl refl refl refl refl refl refl refl refl

below_16 : (b : ℕ) → bit_and b 15 ≡ b → b < 16
below_16 b h = omega (arith, h, and_le_r b 15)

pub known_flags : (b : ℕ) → bit_and b 15 ≡ b → are_flags b ≡ not (eqb (bit_and b 9) 9)
known_flags b h = flags_below b (below_16 b h)

pub other_bits : (b : ℕ) → (bit_and b 15 ≡ b → ⊥) → are_flags b ≡ false
other_bits b h = elim (cases_lt b 16) [ inl lt ↦ absurd (h (and_15 b lt)) | inr le ↦ rw (le-ltb b 16 le) refl ]

-- ---- the byte is the sum of what it names

sum_of : ℕ → ℕ
sum_of b = cond (eqb (bit_and b 1) 1) 1 (cond (eqb (bit_and b 8) 8) 8 0) + cond (eqb (bit_and b 2) 2) 2 0 + cond (eqb (bit_and b 4) 4) 4 0

sum_below : (b : ℕ) → b < 16 → are_flags b ≡ true → sum_of b ≡ b
unfolding sum_of
sum_below = each_of_16 (λ b. are_flags b ≡ true → sum_of b ≡ b) (λ h. refl) (λ h. refl) (λ h. refl) (λ h. refl) (λ h. refl) (λ h. refl) (λ h. refl) (λ h. refl) (λ h. refl) (λ h. absurd (false≢true h)) (λ h. refl) (λ h. absurd (false≢true h)) (λ h. refl) (λ h. absurd (false≢true h)) (λ h. refl) (λ h. absurd (false≢true h))

are_below : (b : ℕ) → are_flags b ≡ true → b < 16
are_below b h = elim (cases_lt b 16) [ inl lt ↦ lt | inr le ↦ absurd (false≢true (sym (other_high b le) ∙ h)) ]
  where
    other_high : (b : ℕ) → 16 ≤ b → are_flags b ≡ false
    other_high b le = rw (le-ltb b 16 le) refl

kind_is : (f : RowFlags) (bytes : List ℕ) → kind_bits (value_of f bytes) ≡ cond (has 1 f) 1 (cond (has 8 f) 8 0)
kind_is f bytes = by (has 1 f) (has 8 f)
  where
    by : (s t : Bool) → kind_bits (cond s Tombstone (cond t (Merge bytes) (Value bytes))) ≡ cond s 1 (cond t 8 0)
    by true t = refl
    by false true = refl
    by false false = refl

pub flags_sum : (f : RowFlags) (bytes : List ℕ) (expire create : Option ℤ) → are_flags f.0 ≡ true → is_some expire ≡ has 2 f → is_some create ≡ has 4 f → flags (value_of f bytes) expire create ≡ f.0
unfolding sum_of
flags_sum f bytes expire create known p q =
    let whole : sum_of f.0 ≡ f.0 = sum_below f.0 (are_below f.0 known) known in
    rw (kind_is f bytes, p, q) whole

-- ---- the byte of a row names what the row is and has

pub record Named (value : ValueDeletable) (expire create : Option ℤ) : Type 0 where
  pub known : are_flags (flags value expire create) ≡ true
  pub back : value_of (row_flags (flags value expire create)) (bytes_of value) ≡ value
  pub has_expire : has 2 (row_flags (flags value expire create)) ≡ is_some expire
  pub has_create : has 4 (row_flags (flags value expire create)) ≡ is_some create

pub named : (value : ValueDeletable) (expire create : Option ℤ) → Named value expire create
named (Value v) None None = record { known = refl; back = refl; has_expire = refl; has_create = refl }
named (Value v) None (Some y) = record { known = refl; back = refl; has_expire = refl; has_create = refl }
named (Value v) (Some x) None = record { known = refl; back = refl; has_expire = refl; has_create = refl }
named (Value v) (Some x) (Some y) = record { known = refl; back = refl; has_expire = refl; has_create = refl }
named (Merge v) None None = record { known = refl; back = refl; has_expire = refl; has_create = refl }
named (Merge v) None (Some y) = record { known = refl; back = refl; has_expire = refl; has_create = refl }
named (Merge v) (Some x) None = record { known = refl; back = refl; has_expire = refl; has_create = refl }
named (Merge v) (Some x) (Some y) = record { known = refl; back = refl; has_expire = refl; has_create = refl }
named Tombstone None None = record { known = refl; back = refl; has_expire = refl; has_create = refl }
named Tombstone None (Some y) = record { known = refl; back = refl; has_expire = refl; has_create = refl }
named Tombstone (Some x) None = record { known = refl; back = refl; has_expire = refl; has_create = refl }
named Tombstone (Some x) (Some y) = record { known = refl; back = refl; has_expire = refl; has_create = refl }
