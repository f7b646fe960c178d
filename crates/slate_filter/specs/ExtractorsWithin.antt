-- No prefix of the extractors that come with the store is longer than its target, which each of them proves of itself.
use Rattle.std.proofs.Common.{◌≡◌, ℕ, ◌+◌, ◌≤◌, Bool, true, false, cond, eqb, leb, List, [], ◌∷◌, length, Option, Some, None, refl, arith}
use Rattle.std.specs.Prelude.{IfSome}
use Rattle.std.proofs.lemmas.Bool.Decides.{nat_tests}
use Rattle.slate_types.specs.declared.filter_policy.PrefixTarget.TheVariants.{Point, Prefix}
use Rattle.slate_types.specs.Lawful.{IsWithinTarget, target_bytes}
use Rattle.slate_filter.specs.Extractors.{one_more, or_here, through_first, through_last, fixed, colon, last_colon}

pub fixed_within : (n : ℕ) → IsWithinTarget (fixed n)
fixed_within n t = by (leb n (length (target_bytes t))) refl
  where
    by : (b : Bool) → leb n (length (target_bytes t)) ≡ b → IfSome (cond b (Some n) None) (λ m. m ≤ length (target_bytes t))
    by true e = grind (arith, nat_tests)
    by false e = tt

one_more_within : (o : Option ℕ) (n : ℕ) → IfSome o (λ m. m ≤ n) → IfSome (one_more o) (λ m. m ≤ n + 1)
one_more_within None n h = tt
one_more_within (Some m) n h = omega (arith, h)

first_within : (c : ℕ) (bs : List ℕ) → IfSome (through_first c bs) (λ n. n ≤ length bs)
first_within c [] = tt
first_within c (b ∷ bs) = by (eqb b c) (one_more_within (through_first c bs) (length bs) (first_within c bs))
  where
    by : (t : Bool) → IfSome (one_more (through_first c bs)) (λ m. m ≤ length bs + 1) → IfSome (cond t (Some 1) (one_more (through_first c bs))) (λ n. n ≤ length (b ∷ bs))
    by true h = omega arith
    by false h = more (one_more (through_first c bs)) h
      where
        more : (o : Option ℕ) → IfSome o (λ m. m ≤ length bs + 1) → IfSome o (λ n. n ≤ length (b ∷ bs))
        more None h = tt
        more (Some m) h = omega (arith, h)

pub colon_within : IsWithinTarget colon
colon_within t = first_within 58 (target_bytes t)

last_within : (c : ℕ) (bs : List ℕ) → IfSome (through_last c bs) (λ n. n ≤ length bs)
last_within c [] = tt
last_within c (b ∷ bs) = by (eqb b c) (through_last c bs) (last_within c bs)
  where
    by : (t : Bool) (o : Option ℕ) → IfSome o (λ n. n ≤ length bs) → IfSome (or_here (cond t (Some 1) None) o) (λ n. n ≤ length (b ∷ bs))
    by true None h = omega arith
    by false None h = tt
    by t (Some n) h = omega (arith, h)

pub last_colon_within : IsWithinTarget last_colon
last_colon_within (Point k) = last_within 58 k
last_colon_within (Prefix p) = tt
