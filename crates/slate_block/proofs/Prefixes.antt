-- How many bytes two keys share.
use Rattle.std.proofs.Common.{◌≡◌, ℕ, zero, suc, ◌+◌, ◌-◌, ◌<◌, ◌≤◌, Bool, true, false, cond, eqb, nat_eq, List, [], ◌∷◌, ◌++◌, length, get_or, take, drop, refl, sym, subst, ◌∙◌, arith, ◌^◌}
use Rattle.slate_block.specs.WholeKeys.{IsRestored}
use Rattle.std.proofs.lemmas.List.{length-append, length-take}
use Rattle.std.specs.List.{common_prefix_len}
use Rattle.std.specs.Prelude.{slice_range}
use Rattle.std.proofs.lemmas.Bool.{eq-eqb}
use Rattle.std.proofs.lemmas.Bool.Decides.{nat_tests}
use Rattle.std.proofs.lemmas.Slice.Eq.{bytes_eq-Decides}
use Rattle.std.proofs.Math.Seq.{take-add}
use Rattle.std.specs.Str.{bytes_eq}
use Rattle.slate_block.proofs.Pieces.{same_head, same_tail}

-- both go on alike up to a place, and there one ends or they differ
pub front_len : (a b : List ℕ) (at : ℕ) → at ≤ length a → at ≤ length b → take at a ≡ take at b → (at < length a → at < length b → get_or a at 0 ≡ get_or b at 0 → ⊥) → at ≡ common_prefix_len nat_eq a b
front_len [] b zero p q s d = refl
front_len [] b (suc at) p q s d = absurd (omega arith)
front_len (x ∷ a) [] zero p q s d = refl
front_len (x ∷ a) [] (suc at) p q s d = absurd (omega arith)
front_len (x ∷ a) (y ∷ b) zero p q s d = by (eqb x y) refl
  where
    by : (t : Bool) → eqb x y ≡ t → 0 ≡ cond t (1 + common_prefix_len nat_eq a b) 0
    by true e = absurd (d (omega arith) (omega arith) (grind (arith, nat_tests)))
    by false e = refl
front_len (x ∷ a) (y ∷ b) (suc at) p q s d =
    let first : x ≡ y = same_head x y (take at a) (take at b) s in
    let rest = front_len a b at (omega (arith, p)) (omega (arith, q)) (same_tail x y (take at a) (take at b) s) (λ lt lu e. d (omega (arith, lt)) (omega (arith, lu)) e) in
    rw (eq-eqb x y first) (omega (arith, rest))

pub chunk_more : (a b : List ℕ) (at n : ℕ) → take at a ≡ take at b → take n (drop at a) ≡ take n (drop at b) → take (at + n) a ≡ take (at + n) b
chunk_more a b at n h k = take-add at n a ∙ (λ i. h i ++ k i) ∙ sym (take-add at n b)

pub chunk_again : (a b : List ℕ) (at : ℕ) → take at a ≡ take at b → bytes_eq (slice_range a at (at + 8)) (slice_range b at (at + 8)) ≡ true → take (at + 8) a ≡ take (at + 8) b
chunk_again a b at h e =
    let k : at + 8 - at ≡ 8 = omega arith in
    let same : take 8 (drop at a) ≡ take 8 (drop at b) = subst (λ (n : ℕ). take n (drop at a) ≡ take n (drop at b)) k ((bytes_eq-Decides (slice_range a at (at + 8)) (slice_range b at (at + 8))).0 e) in
    chunk_more a b at 8 h same

-- so many bytes of another key and a suffix are a key
pub whole_restored : (n : ℕ) (other suffix : List ℕ) → n ≤ length other → 0 < n + length suffix → n + length suffix < 2 ^ 16 → IsRestored n other suffix
whole_restored n other suffix le some few =
    let front = length-take n other in
    let whole = length-append (take n other) suffix in
    (le, (omega (arith, front, whole, le, some), omega (arith, front, whole, le, few)))
