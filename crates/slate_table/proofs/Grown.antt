-- Pieces that were appended one after the other.
use Rattle.std.proofs.Common.{◌≡◌, ℕ, ◌+◌, ◌<◌, ◌≤◌, List, [], ◌∷◌, ◌++◌, length, map, take, get_or, ap, ◌∙◌, append_assoc, subst, sym}
use Rattle.std.specs.List.{flat_map, AllByRecursion}
use Rattle.std.proofs.lemmas.List.{take_more, take_all, append-nil}
use Rattle.std.proofs.lemmas.Grind.{flat_map-append}
use Rattle.slate_types.proofs.Lists.{AllByRecursion_push}

pub grown : (old x y : List ℕ) (between after : List ℕ) → between ≡ old ++ x → after ≡ between ++ y → after ≡ old ++ (x ++ y)
grown old x y between after p q = q ∙ ap (λ (l : List ℕ). l ++ y) p ∙ append_assoc old x y

-- a loop over a list, by one element more, and at its end
pub one_grown : {X : Type 0} (f : X → List ℕ) (xs : List X) (i : ℕ) (d : X) (old between after : List ℕ) → i < length xs →
    between ≡ old ++ flat_map f (take i xs) → after ≡ between ++ f (get_or xs i d) → after ≡ old ++ flat_map f (take (i + 1) xs)
one_grown {X} f xs i d old between after low before piece =
    let more = flat_map-append f (take i xs) (get_or xs i d ∷ []) in
    let whole : flat_map f (take (i + 1) xs) ≡ flat_map f (take i xs) ++ flat_map f (get_or xs i d ∷ []) = ap (flat_map f) (take_more xs i d low) ∙ more in
    grown old (flat_map f (take i xs)) (f (get_or xs i d)) between after before piece ∙ ap (λ (l : List ℕ). old ++ l) (sym (whole ∙ ap (λ (l : List ℕ). flat_map f (take i xs) ++ l) (append-nil (f (get_or xs i d)))))

pub one_holds : {X : Type 0} (P : X → Type 0) (xs : List X) (i : ℕ) (d : X) → i < length xs → AllByRecursion P (take i xs) → P (get_or xs i d) → AllByRecursion P (take (i + 1) xs)
one_holds {X} P xs i d low all p = subst (λ (l : List X). AllByRecursion P l) (sym (take_more xs i d low)) (AllByRecursion_push P (take i xs) (get_or xs i d) all p)

pub all_grew : {X : Type 0} (f : X → List ℕ) (xs : List X) (i : ℕ) (old after : List ℕ) → length xs ≤ i → after ≡ old ++ flat_map f (take i xs) → after ≡ old ++ flat_map f xs
all_grew f xs i old after high is = is ∙ (λ j. old ++ flat_map f (take_all i xs high j))

pub all_hold : {X : Type 0} (P : X → Type 0) (xs : List X) (i : ℕ) → length xs ≤ i → AllByRecursion P (take i xs) → AllByRecursion P xs
all_hold {X} P xs i high all = subst (λ (l : List X). AllByRecursion P l) (take_all i xs high) all
