-- The policies that words use, and that words in any order use the same.
use Rattle.std.proofs.Common.{◌≡◌, ℕ, Bool, true, false, if◌then◌else◌, ◌&&◌, ◌||◌, not, map, filter, List, [], ◌∷◌, ◌++◌, Option, Some, None, codes, bytes_eq, refl, sym, ap, ◌∙◌}
use Rattle.std.proofs.lemmas.Slice.Eq.{bytes_eq-Decides}
use Rattle.slate_types.specs.Keys.{among}
use Rattle.slate_language.specs.Words.{are_filters, are_handed, is_handed, is_none, is_used, with_value}
use Rattle.slate_types.proofs.Plain.{or_swap}

bytes_eq_symmetric : (a b : List ℕ) → bytes_eq a b ≡ bytes_eq b a
bytes_eq_symmetric a b = by (bytes_eq a b) (bytes_eq b a) refl refl
  where
    by : (s t : Bool) → bytes_eq a b ≡ s → bytes_eq b a ≡ t → s ≡ t
    by true true e f = refl
    by false false e f = refl
    by true false e f = let g : bytes_eq b a ≡ true = (bytes_eq-Decides b a).1 (sym ((bytes_eq-Decides a b).0 e)) in cc
    by false true e f = let g : bytes_eq a b ≡ true = (bytes_eq-Decides a b).1 (sym ((bytes_eq-Decides b a).0 f)) in cc

-- ---- names in any order

among_swap : (name : List ℕ) (vs us : List (List ℕ)) (x y : List ℕ) → among name (vs ++ (x ∷ y ∷ us)) ≡ among name (vs ++ (y ∷ x ∷ us))
among_swap name [] us x y = or_swap (bytes_eq x name) (bytes_eq y name) (among name us)
among_swap name (v ∷ vs) us x y = ap (λ b. bytes_eq v name || b) (among_swap name vs us x y)

several : (vs us : List (List ℕ)) (x y : List ℕ) → is_none (vs ++ (x ∷ y ∷ us)) ≡ false
several [] us x y = refl
several (v ∷ []) us x y = refl
several (v ∷ u ∷ vs) us x y = refl

none_swap : (vs us : List (List ℕ)) (x y : List ℕ) → is_none (vs ++ (x ∷ y ∷ us)) ≡ is_none (vs ++ (y ∷ x ∷ us))
none_swap vs us x y = several vs us x y ∙ sym (several vs us y x)

-- p and q: each of two names may stand; e: they are one; c and d: it stands behind them again
both_swap : (p q e c d r : Bool) → ((p && not (e || c)) && ((q && not d) && r)) ≡ ((q && not (e || d)) && ((p && not c) && r))
both_swap true true true c d r = refl
both_swap true true false true true r = refl
both_swap true true false true false r = refl
both_swap true true false false true r = refl
both_swap true true false false false r = refl
both_swap true false true c d r = refl
both_swap true false false true d r = refl
both_swap true false false false d r = refl
both_swap false true true c d r = refl
both_swap false true false c true r = refl
both_swap false true false c false r = refl
both_swap false false e c d r = refl

handed_swap : (handed vs us : List (List ℕ)) (x y : List ℕ) → are_handed handed (vs ++ (x ∷ y ∷ us)) ≡ are_handed handed (vs ++ (y ∷ x ∷ us))
handed_swap handed [] us x y =
    both_swap (among x handed && not (bytes_eq x (codes "none"))) (among y handed && not (bytes_eq y (codes "none"))) (bytes_eq y x) (among x us) (among y us) (are_handed handed us)
    ∙ ap (λ e. ((among y handed && not (bytes_eq y (codes "none"))) && not (e || among y us)) && (is_handed handed x us && are_handed handed us)) (bytes_eq_symmetric y x)
handed_swap handed (v ∷ vs) us x y = λ i. (among v handed && not (bytes_eq v (codes "none")) && not (among_swap v vs us x y i)) && handed_swap handed vs us x y i

pub filters_swap : (handed vs us : List (List ℕ)) (x y : List ℕ) → are_filters handed (vs ++ (x ∷ y ∷ us)) ≡ are_filters handed (vs ++ (y ∷ x ∷ us))
filters_swap handed vs us x y = λ i. none_swap vs us x y i || handed_swap handed vs us x y i

pub used_swap : (name : List ℕ) (vs us : List (List ℕ)) (x y : List ℕ) → is_used (vs ++ (x ∷ y ∷ us)) name ≡ is_used (vs ++ (y ∷ x ∷ us)) name
used_swap name [] us x y = among_swap name [] us x y
used_swap name (v ∷ vs) us x y = λ i. not (none_swap (v ∷ vs) us x y i) && among_swap name (v ∷ vs) us x y i

-- what two names may change places in, two words may
pub given_swap : {B : Type 0} (f : List (List ℕ) → B) → ((vs us : List (List ℕ)) (x y : List ℕ) → f (vs ++ (x ∷ y ∷ us)) ≡ f (vs ++ (y ∷ x ∷ us))) → (vs us : List (List ℕ)) (o p : Option (List ℕ)) → f (vs ++ with_value o (with_value p us)) ≡ f (vs ++ with_value p (with_value o us))
given_swap f h vs us None p = refl
given_swap f h vs us (Some x) None = refl
given_swap f h vs us (Some x) (Some y) = h vs us x y

-- ---- the policies that are kept

pub map_filter : {A B : Type 0} (f : A → B) (test : B → Bool) (xs : List A) → map f (filter (λ x. test (f x)) xs) ≡ filter test (map f xs)
map_filter f test [] = refl
map_filter f test (x ∷ xs) = by (test (f x)) (map_filter f test xs)
  where
    by : (b : Bool) → map f (filter (λ x. test (f x)) xs) ≡ filter test (map f xs) → map f (if b then x ∷ filter (λ x. test (f x)) xs else filter (λ x. test (f x)) xs) ≡ (if b then f x ∷ filter test (map f xs) else filter test (map f xs))
    by true rest = ap (λ ys. f x ∷ ys) rest
    by false rest = rest
