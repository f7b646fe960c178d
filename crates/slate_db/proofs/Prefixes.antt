-- Keys that begin with prefixes.
use Rattle.std.proofs.Common.{◌≡◌, ◌⊎◌, inl, inr, ℕ, Bool, true, false, cond, ◌&&◌, List, [], ◌∷◌, take, zero, suc, Option, Some, None, unwrap_or, refl, sym, ap, ◌∙◌, arith, ltb, Ordering, Less, Equal, Greater}
use Rattle.std.specs.Prelude.{nat_eq}
use Rattle.std.specs.List.{starts_with}
use Rattle.std.specs.Ordering.{is_lt, is_le, ordering_then}
use Rattle.std.proofs.lemmas.Bool.Decides.{nat_tests}
use Rattle.slate_types.specs.Keys.{key_cmp, key_lt, key_le}
use Rattle.slate_mem.specs.KeyTests.{Segments, prefix_of_len}
use Rattle.slate_db.specs.Cut.{segment_of}
use Rattle.slate_types.proofs.Plain.{both_true, and_first}
use Rattle.slate_mem.proofs.NestLaws.{begins_front}

heads : (a b : ℕ) → nat_eq a b ≡ true → a ≡ b
heads a b h = grind (arith, nat_tests, h)

same_heads : (a b : ℕ) → a ≡ b → nat_eq a b ≡ true
same_heads a b h = grind (arith, nat_tests, h)

-- of keys with a first byte, by what its tests say and by the rest
first_le : (x y : ℕ) (o : Ordering) → is_le (ordering_then (cond (ltb x y) Less (cond (nat_eq x y) Equal Greater)) o) ≡ true → (ltb x y ≡ true) ⊎ ((x ≡ y) × (is_le o ≡ true))
first_le x y o h = by (ltb x y) (nat_eq x y) refl refl h
  where
    by : (below same : Bool) → ltb x y ≡ below → nat_eq x y ≡ same → is_le (ordering_then (cond below Less (cond same Equal Greater)) o) ≡ true → (ltb x y ≡ true) ⊎ ((x ≡ y) × (is_le o ≡ true))
    by true same e f h = inl e
    by false true e f h = inr (heads x y f, h)
    by false false e f h = cc

not_below : (x y z : ℕ) → ltb x y ≡ true → ltb y z ≡ true → x ≡ z → ⊥
not_below x y z h k e = grind (arith, nat_tests, h, k, e)

not_itself : (x y : ℕ) → ltb x y ≡ true → x ≡ y → ⊥
not_itself x y h e = grind (arith, nat_tests, h, e)

-- a key between two that begin with a prefix begins with it
pub between : (p j k l : List ℕ) → key_le j k ≡ true → key_le k l ≡ true → starts_with nat_eq j p ≡ true → starts_with nat_eq l p ≡ true → starts_with nat_eq k p ≡ true
between [] j k l a e s t = refl
between (b ∷ p) [] k l a e s t = cc
between (b ∷ p) (x ∷ j) k [] a e s t = cc
between (b ∷ p) (x ∷ j) [] (z ∷ l) a e s t = cc
between (b ∷ p) (x ∷ j) (y ∷ k) (z ∷ l) a e s t =
    by (λ a e s t. between p j k l a e s t) (both_true (nat_eq b x) (starts_with nat_eq j p) s) (both_true (nat_eq b z) (starts_with nat_eq l p) t) (first_le x y (key_cmp j k) a) (first_le y z (key_cmp k l) e)
  where
    by : (key_le j k ≡ true → key_le k l ≡ true → starts_with nat_eq j p ≡ true → starts_with nat_eq l p ≡ true → starts_with nat_eq k p ≡ true) → (nat_eq b x ≡ true) × (starts_with nat_eq j p ≡ true) → (nat_eq b z ≡ true) × (starts_with nat_eq l p ≡ true) → (ltb x y ≡ true) ⊎ ((x ≡ y) × (key_le j k ≡ true)) → (ltb y z ≡ true) ⊎ ((y ≡ z) × (key_le k l ≡ true)) → starts_with nat_eq (y ∷ k) (b ∷ p) ≡ true
    by rest s t (inl below) (inl above) = absurd (not_below x y z below above (sym (heads b x s.0) ∙ heads b z t.0))
    by rest s t (inl below) (inr above) = absurd (not_itself x y below (sym (heads b x s.0) ∙ heads b z t.0 ∙ sym above.0))
    by rest s t (inr below) (inl above) = absurd (not_itself y z above (sym below.0 ∙ sym (heads b x s.0) ∙ heads b z t.0))
    by rest s t (inr below) (inr above) = ap (λ c. c && starts_with nat_eq k p) (same_heads b y (heads b x s.0 ∙ below.0)) ∙ rest below.1 above.1 s.1 t.1

-- of two prefixes of a key one begins the other
pub share : (k p q : List ℕ) → starts_with nat_eq k p ≡ true → starts_with nat_eq k q ≡ true → (starts_with nat_eq p q ≡ true) ⊎ (starts_with nat_eq q p ≡ true)
share k [] q s t = inr refl
share k (b ∷ p) [] s t = inl refl
share [] (b ∷ p) (c ∷ q) s t = cc
share (x ∷ k) (b ∷ p) (c ∷ q) s t = by (λ s t. share k p q s t) (both_true (nat_eq b x) (starts_with nat_eq k p) s) (both_true (nat_eq c x) (starts_with nat_eq k q) t)
  where
    on : b ≡ c → (starts_with nat_eq p q ≡ true) ⊎ (starts_with nat_eq q p ≡ true) → (starts_with nat_eq (b ∷ p) (c ∷ q) ≡ true) ⊎ (starts_with nat_eq (c ∷ q) (b ∷ p) ≡ true)
    on e (inl h) = inl (ap (λ d. d && starts_with nat_eq p q) (same_heads c b (sym e)) ∙ h)
    on e (inr h) = inr (ap (λ d. d && starts_with nat_eq q p) (same_heads b c e) ∙ h)

    by : (starts_with nat_eq k p ≡ true → starts_with nat_eq k q ≡ true → (starts_with nat_eq p q ≡ true) ⊎ (starts_with nat_eq q p ≡ true)) → (nat_eq b x ≡ true) × (starts_with nat_eq k p ≡ true) → (nat_eq c x ≡ true) × (starts_with nat_eq k q ≡ true) → (starts_with nat_eq (b ∷ p) (c ∷ q) ≡ true) ⊎ (starts_with nat_eq (c ∷ q) (b ∷ p) ≡ true)
    by rest s t = on (heads b x s.0 ∙ sym (heads c x t.0)) (rest s.1 t.1)

-- prefixes of which none begins the other rise with the keys that begin with them
pub rises : (p q j k : List ℕ) → key_le j k ≡ true → starts_with nat_eq j p ≡ true → starts_with nat_eq k q ≡ true → starts_with nat_eq p q ≡ false → starts_with nat_eq q p ≡ false → key_lt p q ≡ true
rises [] q j k a s t f g = cc
rises (b ∷ p) [] j k a s t f g = cc
rises (b ∷ p) (c ∷ q) [] k a s t f g = cc
rises (b ∷ p) (c ∷ q) (x ∷ j) [] a s t f g = cc
rises (b ∷ p) (c ∷ q) (x ∷ j) (y ∷ k) a s t f g = by (λ a s t f g. rises p q j k a s t f g) (both_true (nat_eq b x) (starts_with nat_eq j p) s) (both_true (nat_eq c y) (starts_with nat_eq k q) t) (first_le x y (key_cmp j k) a)
  where
    below : ltb b c ≡ true → key_lt (b ∷ p) (c ∷ q) ≡ true
    below h = ap (λ d. is_lt (ordering_then (cond d Less (cond (nat_eq b c) Equal Greater)) (key_cmp p q))) h

    level : b ≡ c → key_lt p q ≡ true → key_lt (b ∷ p) (c ∷ q) ≡ true
    level e h = two (ltb b c) (nat_eq b c) (same_heads b c e)
      where
        two : (u v : Bool) → v ≡ true → is_lt (ordering_then (cond u Less (cond v Equal Greater)) (key_cmp p q)) ≡ true
        two true v w = refl
        two false true w = h
        two false false w = cc

    by : (key_le j k ≡ true → starts_with nat_eq j p ≡ true → starts_with nat_eq k q ≡ true → starts_with nat_eq p q ≡ false → starts_with nat_eq q p ≡ false → key_lt p q ≡ true) → (nat_eq b x ≡ true) × (starts_with nat_eq j p ≡ true) → (nat_eq c y ≡ true) × (starts_with nat_eq k q ≡ true) → (ltb x y ≡ true) ⊎ ((x ≡ y) × (key_le j k ≡ true)) → key_lt (b ∷ p) (c ∷ q) ≡ true
    by rest s t (inl h) = below (ap (λ u. ltb u c) (heads b x s.0) ∙ ap (λ u. ltb x u) (heads c y t.0) ∙ h)
    by rest s t (inr h) =
        let e : b ≡ c = heads b x s.0 ∙ h.0 ∙ sym (heads c y t.0) in
        level e (rest h.1 s.1 t.1 (and_first (nat_eq c b) (starts_with nat_eq p q) (same_heads c b (sym e)) f) (and_first (nat_eq b c) (starts_with nat_eq q p) (same_heads b c e) g))

-- ---- the prefix of a key

-- a key begins with the prefix of its segment
pub begins_itself : (g : Segments) (k : List ℕ) → starts_with nat_eq k (segment_of g k) ≡ true
begins_itself None k = refl
begins_itself (Some f) k = by (f k)
  where
    by : (o : Option ℕ) → starts_with nat_eq k (unwrap_or (prefix_of_len k o) []) ≡ true
    by None = refl
    by (Some zero) = refl
    by (Some (suc n)) = begins_front (suc n) k
