-- Lists of sources, place by place.
use Rattle.std.proofs.Common.{◌≡◌, ℕ, zero, suc, ◌+◌, ◌<◌, ◌≤◌, List, [], ◌∷◌, ◌++◌, drop, get_or, length, map, reverse, Option, Some, None, refl, sym, ap, subst, ◌∙◌, arith, append-nil, append_assoc}
use Rattle.std.specs.List.{AllByRecursion}
use Rattle.std.proofs.lemmas.List.{drop_all, reverse-append}
use Rattle.slate_tables.specs.Merging.{MatchEach}

pub each_both : {A B : Type 0} (R : A → B → Type 0) (xs : List A) (ys : List B) (us : List A) (vs : List B) → MatchEach R xs ys → MatchEach R us vs → MatchEach R (xs ++ us) (ys ++ vs)
each_both R [] [] us vs h k = k
each_both R (x ∷ xs) (y ∷ ys) us vs h k = (h.0, each_both R xs ys us vs h.1 k)
each_both R [] (y ∷ ys) us vs h k = absurd h
each_both R (x ∷ xs) [] us vs h k = absurd h

pub each_back : {A B : Type 0} (R : A → B → Type 0) (xs : List A) (ys : List B) → MatchEach R xs ys → MatchEach R (reverse xs) (reverse ys)
each_back R [] [] h = tt
each_back {A = A} {B = B} R (x ∷ xs) (y ∷ ys) h =
    subst (λ (us : List A). MatchEach R us (reverse (y ∷ ys))) (sym (reverse-append (x ∷ []) xs))
    (subst (λ (vs : List B). MatchEach R (reverse xs ++ (x ∷ [])) vs) (sym (reverse-append (y ∷ []) ys))
    (each_both R (reverse xs) (reverse ys) (x ∷ []) (y ∷ []) (each_back R xs ys h.1) (h.0, tt)))
each_back R [] (y ∷ ys) h = absurd h
each_back R (x ∷ xs) [] h = absurd h

-- the elements from a place on
pub from_place : {A : Type 0} (xs : List A) (i : ℕ) (x : A) → i < length xs → x ≡ get_or xs i x → drop i xs ≡ x ∷ drop (i + 1) xs
from_place [] i x within is = absurd (omega (arith, within))
from_place (y ∷ xs) zero x within is = ap (λ z. z ∷ xs) (sym is)
from_place (y ∷ xs) (suc i) x within is = from_place xs i x (omega (arith, within)) is ∙ (let place : suc (i + 1) ≡ suc i + 1 = omega arith in ap (λ n. x ∷ drop n (y ∷ xs)) place)

-- sources of the elements from a place on, the last first
pub sources_none : {A B : Type 0} (R : A → B → Type 0) (xs : List A) (i : ℕ) (ys : List B) → length xs ≤ i → ys ≡ [] → MatchEach R (reverse (drop i xs)) ys
sources_none {A = A} {B = B} R xs i ys end none = subst (λ (us : List A). MatchEach R us ys) (sym (ap (λ (us : List A). reverse us) (drop_all i xs end))) (subst (λ (l : List B). MatchEach R [] l) (sym none) tt)

pub sources_more : {A B : Type 0} (R : A → B → Type 0) (xs : List A) (i : ℕ) (x : A) (ys zs : List B) (y : B) → drop i xs ≡ x ∷ drop (i + 1) xs → zs ≡ ys ++ (y ∷ []) → R x y → MatchEach R (reverse (drop (i + 1) xs)) ys → MatchEach R (reverse (drop i xs)) zs
sources_more {A = A} {B = B} R xs i x ys zs y here is r h =
    subst (λ (vs : List B). MatchEach R (reverse (drop i xs)) vs) (sym is)
    (subst (λ (us : List A). MatchEach R us (ys ++ (y ∷ [])))
    (sym (reverse-append (x ∷ []) (drop (i + 1) xs)) ∙ ap reverse (sym here))
    (each_both R (reverse (drop (i + 1) xs)) ys (x ∷ []) (y ∷ []) h (r, tt)))

pub sources_end : {A B : Type 0} (R : A → B → Type 0) (xs : List A) (i : ℕ) (ys : List B) → i ≡ 0 → MatchEach R (reverse (drop i xs)) ys → MatchEach R (reverse xs) ys
sources_end {A = A} R xs i ys none h = subst (λ (j : ℕ). MatchEach R (reverse (drop j xs)) ys) none h
