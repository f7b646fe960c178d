-- The extractors that come with the store are lawful.
use Rattle.std.proofs.Common.{◌≡◌, ℕ, ◌+◌, ◌≤◌, Bool, true, false, cond, eqb, leb, List, [], ◌∷◌, ◌++◌, length, Option, Some, None, refl, ap, arith, length-append}
use Rattle.std.specs.Prelude.{IfSome}
use Rattle.std.proofs.lemmas.Bool.Decides.{nat_tests}
use Rattle.slate_types.specs.declared.filter_policy.PrefixTarget.TheVariants.{Point}
use Rattle.slate_types.specs.Lawful.{IsWithinTarget, IsLawfulLengths}
use Rattle.slate_filter.specs.Extractors.{one_more, through_first, fixed, colon, last_colon}
use Rattle.slate_filter.specs.ExtractorsWithin.{fixed_within, colon_within, last_colon_within}

fixed_lawful : (n : ℕ) → IsLawfulLengths (fixed n)
fixed_lawful n p rest = by (leb n (length p)) refl
  where
    by : (b : Bool) → leb n (length p) ≡ b → IfSome (cond b (Some n) None) (λ m. fixed n (Point (p ++ rest)) ≡ Some m)
    by true e =
        let whole : length (p ++ rest) ≡ length p + length rest = length-append p rest in
        let near : n ≤ length p = grind (arith, nat_tests) in
        let far : n ≤ length (p ++ rest) = omega (arith, whole, near) in
        let fits : leb n (length (p ++ rest)) ≡ true = grind (arith, nat_tests) in
        ap (λ b. cond b (Some n) None) fits
    by false e = tt

-- ---- up to the first

first_lawful : (c : ℕ) (p rest : List ℕ) → IfSome (through_first c p) (λ n. through_first c (p ++ rest) ≡ Some n)
first_lawful c [] rest = tt
first_lawful c (b ∷ p) rest = by (eqb b c) (through_first c p) (first_lawful c p rest)
  where
    by : (t : Bool) (o : Option ℕ) → IfSome o (λ n. through_first c (p ++ rest) ≡ Some n) →
        IfSome (cond t (Some 1) (one_more o)) (λ n. cond t (Some 1) (one_more (through_first c (p ++ rest))) ≡ Some n)
    by true o h = refl
    by false None h = tt
    by false (Some n) h = ap one_more h

colon_lawful : IsLawfulLengths colon
colon_lawful p rest = first_lawful 58 p rest

-- ---- up to the last

last_colon_lawful : IsLawfulLengths last_colon
last_colon_lawful p rest = tt

pub extractors_lawful : ((n : ℕ) → IsWithinTarget (fixed n) × IsLawfulLengths (fixed n)) × IsWithinTarget colon × IsLawfulLengths colon × IsWithinTarget last_colon × IsLawfulLengths last_colon
extractors_lawful = (λ n. (fixed_within n, fixed_lawful n), colon_within, colon_lawful, last_colon_within, last_colon_lawful)
