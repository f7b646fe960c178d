-- The keys of an asset's balances are those of no other asset, and none is an issued amount's.
use Rattle.std.proofs.Common.{◌≡◌, ℕ, Bool, true, false, ◌&&◌, nat_eq, nat_le, length, take, List, [], ◌∷◌, ◌++◌, bytes_eq, refl, sym, ap, subst, ◌∙◌, arith, ◌≢◌, append_assoc}
use Rattle.std.specs.List.{list_all}
use Rattle.std.specs.Cmp.Lexicographic.{pointwise}
use Rattle.std.proofs.lemmas.Bool.Decides.{nat_tests}
use Rattle.slate_stock.specs.Names.{is_letter_or_digit}
use Rattle.slate_stock.specs.Commits.{IsPlainName}
use Rattle.slate_stock.specs.Amounts.{balance_key, issued_key, is_balance_of}

-- an issued amount is no balance
pub not_issued : (asset other : List ℕ) → is_balance_of asset (issued_key other) ≡ false
not_issued asset other = refl

-- the test on what stands behind the first two bytes
front : List ℕ → List ℕ → Bool
front asset k = pointwise nat_eq (asset ++ (58 ∷ [])) (take (length (asset ++ (58 ∷ []))) k)

-- without a colon
abbrev pub NoColon : List ℕ → Type 0
NoColon [] = Unit {0}
NoColon (b ∷ bs) = (b ≢ 58) × NoColon bs

pub and_both : (a b : Bool) → (a && b) ≡ true → (a ≡ true) × (b ≡ true)
and_both true true h = (refl, refl)
and_both true false h = cc
and_both false b h = cc

no_colon : (n : List ℕ) → list_all is_letter_or_digit n ≡ true → NoColon n
no_colon [] h = tt
no_colon (b ∷ bs) h = (first (and_both (is_letter_or_digit b) (list_all is_letter_or_digit bs) h).0, no_colon bs (and_both (is_letter_or_digit b) (list_all is_letter_or_digit bs) h).1)
  where
    first : is_letter_or_digit b ≡ true → b ≢ 58
    first e f = not_digit (subst (λ x. is_letter_or_digit x ≡ true) f e)
      where
        not_digit : is_letter_or_digit 58 ≡ true → ⊥
        not_digit x = cc

pub of_name : (n : List ℕ) → IsPlainName n → NoColon n
of_name n h = no_colon n (and_both (nat_le 1 (length n) && nat_le (length n) 32) (list_all is_letter_or_digit n) h).1

pub unequal : (a b : ℕ) → a ≢ b → nat_eq a b ≡ false
unequal a b h = grind (arith, nat_tests)

and_no : (a b : Bool) → a ≡ false → (a && b) ≡ false
and_no true b e = cc
and_no false b e = refl

same_front : (asset other name : List ℕ) → NoColon asset → NoColon other → front asset (other ++ (58 ∷ name)) ≡ bytes_eq asset other
unfolding front
same_front [] [] name h g = refl
same_front [] (b ∷ bs) name h g = and_no (nat_eq 58 b) true (unequal 58 b (λ e. g.0 (sym e)))
same_front (a ∷ xs) [] name h g = and_no (nat_eq a 58) (front xs name) (unequal a 58 h.0)
same_front (a ∷ xs) (b ∷ bs) name h g = ap (λ c. nat_eq a b && c) (same_front xs bs name h.1 g.1)

pub is_of_asset : (asset other name : List ℕ) → IsPlainName asset → IsPlainName other → is_balance_of asset (balance_key other name) ≡ bytes_eq asset other
unfolding front
is_of_asset asset other name h g = ap (front asset) (append_assoc other (58 ∷ []) name) ∙ same_front asset other name (of_name asset h) (of_name other g)
