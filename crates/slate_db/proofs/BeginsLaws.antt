-- Which keys of a composed range begin with its prefix, whatever numbers they have: all, unless the prefix ends with byte 255.
use Rattle.std.proofs.Common.{◌≡◌, ℕ, suc, ◌+◌, ◌-◌, ◌<◌, ◌⊎◌, inl, inr, Bool, true, false, cond, ◌&&◌, List, [], ◌∷◌, ◌++◌, length, slice_get, Option, Some, None, unwrap_or, refl, sym, ap, ◌∙◌, subst, arith, ltb, Ordering, Less, Equal, Greater}
use Rattle.std.specs.Prelude.{nat_eq}
use Rattle.std.specs.List.{starts_with}
use Rattle.std.specs.Ordering.{is_lt, is_le, nat_cmp, ordering_then}
use Rattle.std.proofs.lemmas.Bool.Decides.{nat_tests}
use Rattle.std.specs.declared.ops.Bound.{Bound}
use Rattle.std.specs.declared.ops.Bound.TheVariants.{Included, Excluded, Unbounded}
use Rattle.slate_types.specs.declared.bytes_range.BytesRange.{BytesRange}
use Rattle.slate_types.specs.Keys.{key_cmp, key_lt, key_le, carried, successor, is_past_start, is_before_end, in_range, is_refused, prefix_start, prefix_end, excluded_or_open, behind, prefix_subrange}
use Rattle.slate_types.proofs.KeyOrder.{lt_le}
use Rattle.slate_db.specs.Prefixes.{EndsBelow}
use Rattle.slate_types.proofs.Plain.{both_true}

-- ---- the first numbers of two keys

abbrev Heads : (Ordering → Bool) → ℕ → ℕ → Ordering → Type 0
Heads below x y m = (x < y) ⊎ ((x ≡ y) × (below m ≡ true))

heads : (below : Ordering → Bool) → below Greater ≡ false → (x y : ℕ) (m : Ordering) → below (ordering_then (nat_cmp x y) m) ≡ true → Heads below x y m
heads below none x y m h = by (ltb x y) refl (nat_eq x y) refl h
  where
    by : (s : Bool) → ltb x y ≡ s → (t : Bool) → nat_eq x y ≡ t → below (ordering_then (cond s Less (cond t Equal Greater)) m) ≡ true → Heads below x y m
    by true e t f k = let less : x < y = grind (arith, nat_tests, e) in inl less
    by false e true f k = let same : x ≡ y = grind (arith, nat_tests, f) in inr (same, k)
    by false e false f k = let clash : false ≡ true = sym none ∙ k in cc

le_less : (x y : ℕ) (m : Ordering) → x < y → is_le (ordering_then (nat_cmp x y) m) ≡ true
le_less x y m less = let e : ltb x y ≡ true = grind (arith, nat_tests, less) in ap (λ t. is_le (ordering_then (cond t Less (cond (nat_eq x y) Equal Greater)) m)) e

le_same : (x y : ℕ) (m : Ordering) → x ≡ y → is_le m ≡ true → is_le (ordering_then (nat_cmp x y) m) ≡ true
le_same x y m same h =
    let e : ltb x y ≡ false = grind (arith, nat_tests, same) in
    let f : nat_eq x y ≡ true = grind (arith, nat_tests, same) in
    (λ i. is_le (ordering_then (cond (e i) Less (cond (f i) Equal Greater)) m)) ∙ h

-- ---- keys from a prefix on

front_le : (p a k : List ℕ) → key_le (p ++ a) k ≡ true → key_le p k ≡ true
front_le [] a [] h = refl
front_le [] a (x ∷ k) h = refl
front_le (b ∷ p) a [] h = cc
front_le (b ∷ p) a (x ∷ k) h = by (heads is_le refl b x (key_cmp (p ++ a) k) h) (front_le p a k)
  where
    by : Heads is_le b x (key_cmp (p ++ a) k) → (key_le (p ++ a) k ≡ true → key_le p k ≡ true) → key_le (b ∷ p) (x ∷ k) ≡ true
    by (inl less) later = le_less b x (key_cmp p k) less
    by (inr same) later = le_same b x (key_cmp p k) same.0 (later same.1)

-- equal first numbers, and the same of what stands behind them
onto : (b x : ℕ) (p k : List ℕ) → b ≡ x → starts_with nat_eq k p ≡ true → starts_with nat_eq (x ∷ k) (b ∷ p) ≡ true
onto b x p k same h = let e : nat_eq b x ≡ true = grind (arith, nat_tests, same) in λ i. e i && h i

begins_between : (p a k : List ℕ) → key_le p k ≡ true → key_le k (p ++ a) ≡ true → starts_with nat_eq k p ≡ true
begins_between [] a k h g = refl
begins_between (b ∷ p) a [] h g = cc
begins_between (b ∷ p) a (x ∷ k) h g = by (heads is_le refl b x (key_cmp p k) h) (heads is_le refl x b (key_cmp k (p ++ a)) g) (begins_between p a k)
  where
    by : Heads is_le b x (key_cmp p k) → Heads is_le x b (key_cmp k (p ++ a)) → (key_le p k ≡ true → key_le k (p ++ a) ≡ true → starts_with nat_eq k p ≡ true) → starts_with nat_eq (x ∷ k) (b ∷ p) ≡ true
    by (inl less) (inl more) later = absurd (omega (arith, less, more))
    by (inl less) (inr same) later = absurd (omega (arith, less, same.0))
    by (inr same) (inl more) later = absurd (omega (arith, same.0, more))
    by (inr same) (inr other) later = onto b x p k same.0 (later same.1 other.1)

-- ---- the end of a prefix's range

-- one added to the last number
past : List ℕ → List ℕ
past [] = []
past (b ∷ []) = (b + 1) ∷ []
past (b ∷ c ∷ p) = b ∷ past (c ∷ p)

successor_is : (b : ℕ) (p : List ℕ) → EndsBelow (b ∷ p) → successor (b ∷ p) ≡ Some (past (b ∷ p))
unfolding past
successor_is b [] h = by (nat_eq b 255) refl
  where
    by : (t : Bool) → nat_eq b 255 ≡ t → cond t None (Some ((b + 1) ∷ [])) ≡ Some ((b + 1) ∷ [])
    by true e = let same : b ≡ 255 = grind (arith, nat_tests, e) in absurd (h (ap Some same))
    by false e = refl
successor_is b (c ∷ p) h = ap (carried b) (successor_is c p (λ e. h (ap (slice_get (b ∷ c ∷ p)) next ∙ e)))
  where
    next : length (b ∷ c ∷ p) - 1 ≡ suc (length (c ∷ p) - 1)
    next = omega arith

nil_not_lt : (k : List ℕ) → key_lt k [] ≡ false
nil_not_lt [] = refl
nil_not_lt (x ∷ k) = refl

begins_below : (p k : List ℕ) → key_le p k ≡ true → key_lt k (past p) ≡ true → starts_with nat_eq k p ≡ true
unfolding past
begins_below [] k h g = refl
begins_below (b ∷ []) [] h g = cc
begins_below (b ∷ []) (x ∷ k) h g = by (heads is_le refl b x (key_cmp [] k) h) (heads is_lt refl x (b + 1) (key_cmp k []) g)
  where
    by : Heads is_le b x (key_cmp [] k) → Heads is_lt x (b + 1) (key_cmp k []) → starts_with nat_eq (x ∷ k) (b ∷ []) ≡ true
    by (inl less) (inl more) = absurd (omega (arith, less, more))
    by (inr same) (inl more) = onto b x [] k same.0 refl
    by first (inr other) = let clash : false ≡ true = sym (nil_not_lt k) ∙ other.1 in cc
begins_below (b ∷ c ∷ p) [] h g = cc
begins_below (b ∷ c ∷ p) (x ∷ k) h g = by (heads is_le refl b x (key_cmp (c ∷ p) k) h) (heads is_lt refl x b (key_cmp k (past (c ∷ p))) g) (begins_below (c ∷ p) k)
  where
    by : Heads is_le b x (key_cmp (c ∷ p) k) → Heads is_lt x b (key_cmp k (past (c ∷ p))) → (key_le (c ∷ p) k ≡ true → key_lt k (past (c ∷ p)) ≡ true → starts_with nat_eq k (c ∷ p) ≡ true) →
        starts_with nat_eq (x ∷ k) (b ∷ c ∷ p) ≡ true
    by (inl less) (inl more) later = absurd (omega (arith, less, more))
    by (inl less) (inr same) later = absurd (omega (arith, less, same.0))
    by (inr same) (inl more) later = absurd (omega (arith, same.0, more))
    by (inr same) (inr other) later = onto b x (c ∷ p) k same.0 (later same.1 other.1)

-- ---- keys of composed ranges

from_start : (b : ℕ) (p : List ℕ) (start : Bound (List ℕ)) (k : List ℕ) → is_past_start (behind (b ∷ p) start (prefix_start (b ∷ p))) k ≡ true → key_le (b ∷ p) k ≡ true
from_start b p (Included a) k h = front_le (b ∷ p) a k h
from_start b p (Excluded a) k h = front_le (b ∷ p) a k (lt_le ((b ∷ p) ++ a) k h)
from_start b p Unbounded k h = h

to_end : (b : ℕ) (p : List ℕ) (end : Bound (List ℕ)) (k : List ℕ) → EndsBelow (b ∷ p) → key_le (b ∷ p) k ≡ true → is_before_end (behind (b ∷ p) end (prefix_end (b ∷ p))) k ≡ true → starts_with nat_eq k (b ∷ p) ≡ true
to_end b p (Included a) k below from h = begins_between (b ∷ p) a k from h
to_end b p (Excluded a) k below from h = begins_between (b ∷ p) a k from (lt_le k ((b ∷ p) ++ a) h)
to_end b p Unbounded k below from h = begins_below (b ∷ p) k from (subst (λ o. is_before_end (excluded_or_open o) k ≡ true) (successor_is b p below) h)

some_range : (t : Bool) (r s : BytesRange) → cond t None (Some r) ≡ Some s → r ≡ s
some_range true r s e = cc
some_range false r s e = ap (λ o. unwrap_or o r) e

pub begins_in : (p : List ℕ) (start end : Bound (List ℕ)) (r : BytesRange) (k : List ℕ) → EndsBelow p → prefix_subrange p start end ≡ Some r → in_range r k ≡ true → starts_with nat_eq k p ≡ true
begins_in [] start end r k below is within = refl
begins_in (b ∷ p) start end r k below is within =
    let made : BytesRange = record { start = behind (b ∷ p) start (prefix_start (b ∷ p)); end = behind (b ∷ p) end (prefix_end (b ∷ p)) } in
    let same = some_range (is_refused made.start made.end) made r is in
    let bounds = both_true (is_past_start made.start k) (is_before_end made.end k) (ap (λ q. in_range q k) same ∙ within) in
    to_end b p end k below (from_start b p start k bounds.0) bounds.1
