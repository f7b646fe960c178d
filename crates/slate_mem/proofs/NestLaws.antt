-- Prefixes that nest: fronts, what begins with a prefix, and the least of a set.
use Rattle.std.proofs.Common.{◌≡◌, ◌⊎◌, inl, inr, ℕ, zero, suc, ◌+◌, ◌-◌, ◌<◌, ◌≤◌, Bool, true, false, cond, not, ◌&&◌, ◌||◌, List, [], ◌∷◌, ◌++◌, length, take, map, bytes_eq, Option, Some, None, refl, sym, ap, subst, ◌∙◌, arith, ltb, Ordering, Less, Equal, Greater}
use Rattle.std.specs.Prelude.{nat_eq, find, option_map, IfSome, IsTrue}
use Rattle.std.specs.declared.ops.Bound.TheVariants.{Excluded, Unbounded}
use Rattle.std.specs.BTreeSet.{BTreeSet}
use Rattle.std.specs.BTreeSet as set
use Rattle.std.specs.BTreeMap.Range.{IsInRange, IsLeBy}
use Rattle.std.specs.BTreeMap.{is_at}
use Rattle.std.specs.List.{list_any, slice_get, starts_with}
use Rattle.std.specs.List.Sorted.{IsStrictlySortedBy}
use Rattle.std.specs.Ordering.{is_lt, is_le, is_gt, ordering_then, ordering_reverse}
use Rattle.std.proofs.lemmas.Bool.Decides.{nat_tests}
use Rattle.std.proofs.lemmas.List.{take_all}
use Rattle.std.proofs.lemmas.Slice.Eq.{bytes_eq-Decides}
use Rattle.slate_types.specs.declared.error.SlateDBError.{SlateDBError}
use Rattle.slate_types.specs.declared.error.SlateDBError.TheVariants as errors
use Rattle.slate_types.specs.Keys.{key_cmp, key_lt, key_le, keys_set, among}
use Rattle.slate_types.proofs.KeyOrder.{equal_keys, turned_key, bytes_eq_same, bytes_eq_below, is_less, lt_le, not_lt, le_lt_trans, lt_le_trans, lt_irreflexive}
use Rattle.slate_types.proofs.KeySetLaws.{set_rises, set_keeps, same_set, AllAbove, among_above}
use Rattle.slate_mem.specs.KeyTests.{nest, nest_refusal, nest_refusals}
use Rattle.slate_mem.specs.Refusals.{first_refusal}
use Rattle.slate_mem.specs.Segments.{NeverNest, HasNoFront, IsFirstFront, lesser}
use Rattle.slate_mem.proofs.TableLaws.{among_is, any_append, set_of_set}
use Rattle.slate_types.proofs.Plain.{both_true}

abbrev pub IsLeast : (List ℕ → Bool) → (List ℕ → Bool) → Option (List ℕ) → Type 0
IsLeast passes is_there None = (x : List ℕ) → is_there x ≡ true → passes x ≡ false
IsLeast passes is_there (Some q) = (is_there q ≡ true) × ((passes q ≡ true) × ((x : List ℕ) → is_there x ≡ true → key_lt x q ≡ true → passes x ≡ false))

-- ---- fronts

begins : List ℕ → List ℕ → Bool
begins p k = starts_with nat_eq k p

-- bytes b and x, and what stands behind them
abbrev Steps : ℕ → ℕ → Ordering → Type 0
Steps b x o = (b < x) ⊎ ((b ≡ x) × (is_le o ≡ true))

steps : (b x : ℕ) (o : Ordering) → is_le (ordering_then (cond (ltb b x) Less (cond (nat_eq b x) Equal Greater)) o) ≡ true → Steps b x o
steps b x o h = by (ltb b x) (nat_eq b x) refl refl h
  where
    by : (below same : Bool) → ltb b x ≡ below → nat_eq b x ≡ same → is_le (ordering_then (cond below Less (cond same Equal Greater)) o) ≡ true → (b < x) ⊎ ((b ≡ x) × (is_le o ≡ true))
    by true same e f g = inl (grind (arith, nat_tests, e))
    by false true e f g = inr (grind (arith, nat_tests, f), g)
    by false false e f g = cc

nil_le : (k : List ℕ) → key_le [] k ≡ true
nil_le [] = refl
nil_le (x ∷ k) = refl

-- what begins with p is not below it
pub begins_le : (p k : List ℕ) → starts_with nat_eq k p ≡ true → key_le p k ≡ true
begins_le [] k h = nil_le k
begins_le (b ∷ p) [] h = cc
begins_le (b ∷ p) (x ∷ k) h =
    let parts = both_true (nat_eq b x) (starts_with nat_eq k p) h in
    let apart : ltb b x ≡ false = grind (arith, nat_tests, parts.0) in
    (λ i. is_le (ordering_then (cond (apart i) Less (cond (parts.0 i) Equal Greater)) (key_cmp p k))) ∙ begins_le p k parts.1

-- and what is between it and such a key begins with it too
pub begins_between : (p x y : List ℕ) → key_le p x ≡ true → key_le x y ≡ true → starts_with nat_eq y p ≡ true → starts_with nat_eq x p ≡ true
begins_between [] x y h g s = refl
begins_between (b ∷ p) [] y h g s = cc
begins_between (b ∷ p) (a ∷ x) [] h g s = cc
begins_between (b ∷ p) (a ∷ x) (c ∷ y) h g s =
    by (λ u v. begins_between p x y u v (both_true (nat_eq b c) (starts_with nat_eq y p) s).1) (steps b a (key_cmp p x) h) (steps a c (key_cmp x y) g)
  where
    parts : (nat_eq b c ≡ true) × (starts_with nat_eq y p ≡ true)
    parts = both_true (nat_eq b c) (starts_with nat_eq y p) s

    above : b < a → Steps a c (key_cmp x y) → (nat_eq b a && starts_with nat_eq x p) ≡ true
    above e (inl f) = absurd (grind (arith, nat_tests, parts.0, e, f))
    above e (inr f) = absurd (grind (arith, nat_tests, parts.0, e, f.0))

    level : (key_le p x ≡ true → key_le x y ≡ true → starts_with nat_eq x p ≡ true) → b ≡ a → is_le (key_cmp p x) ≡ true → Steps a c (key_cmp x y) → (nat_eq b a && starts_with nat_eq x p) ≡ true
    level rest e h (inl f) = absurd (grind (arith, nat_tests, parts.0, e, f))
    level rest e h (inr f) =
        let same : nat_eq b a ≡ true = grind (arith, nat_tests, e) in
        (λ i. same i && rest h f.1 i)

    by : (key_le p x ≡ true → key_le x y ≡ true → starts_with nat_eq x p ≡ true) → Steps b a (key_cmp p x) → Steps a c (key_cmp x y) → (nat_eq b a && starts_with nat_eq x p) ≡ true
    by rest (inl e) g = above e g
    by rest (inr e) g = level rest e.0 e.1 g

-- p begins with x
pub front_of : (p x : List ℕ) → starts_with nat_eq p x ≡ true → (length x ≤ length p) × (x ≡ take (length x) p)
front_of p [] h = (omega arith, refl)
front_of [] (b ∷ x) h = cc
front_of (c ∷ p) (b ∷ x) h =
    let parts = both_true (nat_eq b c) (starts_with nat_eq p x) h in
    let rest = front_of p x parts.1 in
    let same : b ≡ c = grind (arith, nat_tests, parts.0) in
    let within : length x ≤ length p = rest.0 in
    (omega arith, λ i. same i ∷ rest.1 i)

pub begins_front : (n : ℕ) (p : List ℕ) → starts_with nat_eq p (take n p) ≡ true
begins_front zero p = refl
begins_front (suc n) [] = refl
begins_front (suc n) (b ∷ p) =
    let same : nat_eq b b ≡ true = grind (arith, nat_tests) in
    ap (λ t. t && starts_with nat_eq p (take n p)) same ∙ begins_front n p

-- a shorter front begins a longer one
front_begins : (m n : ℕ) (p : List ℕ) → n ≤ m → starts_with nat_eq (take m p) (take n p) ≡ true
front_begins m zero p h = refl
front_begins zero (suc n) p h = absurd (omega arith)
front_begins (suc m) (suc n) [] h = refl
front_begins (suc m) (suc n) (b ∷ p) h =
    let same : nat_eq b b ≡ true = grind (arith, nat_tests) in
    ap (λ t. t && starts_with nat_eq (take m p) (take n p)) same ∙ front_begins m n p (omega arith)

length_front : (n : ℕ) (p : List ℕ) → n ≤ length p → length (take n p) ≡ n
length_front zero p h = refl
length_front (suc n) [] h = absurd (omega arith)
length_front (suc n) (b ∷ p) h = ap suc (length_front n p (omega arith))

-- ---- what nests with a prefix

pub le_trans : (a b c : List ℕ) → key_le a b ≡ true → key_le b c ≡ true → key_le a c ≡ true
le_trans a b c u v = by (key_cmp b c) refl v
  where
    by : (o : Ordering) → key_cmp b c ≡ o → is_le o ≡ true → key_le a c ≡ true
    by Less e m = lt_le a c (le_lt_trans a b c u (ap is_lt e))
    by Equal e m = ap (λ x. key_le a x) (sym (equal_keys b c e)) ∙ u
    by Greater e m = cc

or_true : (b : Bool) → (b || true) ≡ true
or_true true = refl
or_true false = refl

nest_sym : (p q : List ℕ) → nest p q ≡ nest q p
nest_sym p q = λ i. not (eq i) && (or_swap (starts_with nat_eq p q) (starts_with nat_eq q p) i)
  where
    or_swap : (a b : Bool) → (a || b) ≡ (b || a)
    or_swap true true = refl
    or_swap true false = refl
    or_swap false true = refl
    or_swap false false = refl

    same : (s t : Bool) → bytes_eq p q ≡ s → bytes_eq q p ≡ t → s ≡ t
    same true true e f = refl
    same true false e f = sym ((bytes_eq-Decides q p).1 (sym ((bytes_eq-Decides p q).0 e))) ∙ f
    same false true e f = sym (sym ((bytes_eq-Decides p q).1 (sym ((bytes_eq-Decides q p).0 f))) ∙ e)
    same false false e f = refl

    eq : bytes_eq p q ≡ bytes_eq q p
    eq = same (bytes_eq p q) (bytes_eq q p) refl refl

nest_itself : (p : List ℕ) → nest p p ≡ false
nest_itself p = ap (λ t. not t && (starts_with nat_eq p p || starts_with nat_eq p p)) (bytes_eq_same p)

-- neither begins the other
apart : (p x : List ℕ) → (starts_with nat_eq p x ≡ true → nest p x ≡ false) → (starts_with nat_eq x p ≡ true → nest p x ≡ false) → nest p x ≡ false
apart p x f g = by (starts_with nat_eq p x) (starts_with nat_eq x p) refl refl
  where
    by : (s t : Bool) → starts_with nat_eq p x ≡ s → starts_with nat_eq x p ≡ t → nest p x ≡ false
    by true t e h = f e
    by false true e h = g h
    by false false e h = (λ i. not (bytes_eq p x) && (e i || h i)) ∙ none (not (bytes_eq p x))
      where
        none : (b : Bool) → (b && false) ≡ false
        none true = refl
        none false = refl

greater : {A : Type 0} (p x : List ℕ) → key_cmp p x ≡ Greater → key_le p x ≡ true → A
greater p x e h = let is : true ≡ false = sym h ∙ ap is_le e in cc

turned_less : (p x : List ℕ) → key_cmp p x ≡ Greater → key_lt x p ≡ true
turned_less p x e = ap is_lt (turned_key x p ∙ ap ordering_reverse e)

-- what is below p nests with it only where it is a front of it
nests_below : (p x : List ℕ) → key_cmp p x ≡ Greater → starts_with nat_eq p x ≡ false → nest p x ≡ false
nests_below p x e h =
    apart p x (λ f. let is : true ≡ false = sym f ∙ h in cc) (λ g. greater p x e (begins_le p x g))

-- what is above p nests with it only where it begins with it
nests_above : (p x : List ℕ) → key_cmp p x ≡ Less → starts_with nat_eq x p ≡ false → nest p x ≡ false
nests_above p x e h =
    apart p x (λ f. lt_irreflexive p (lt_le_trans p x p (ap is_lt e) (begins_le x p f))) (λ g. let is : true ≡ false = sym g ∙ h in cc)

nests_longer : (p x : List ℕ) → key_cmp p x ≡ Less → starts_with nat_eq x p ≡ true → nest p x ≡ true
nests_longer p x e h = (λ i. not (bytes_eq_below p x e i) && (starts_with nat_eq p x || h i)) ∙ or_true (starts_with nat_eq p x)

nests_front : (p : List ℕ) (n : ℕ) → n < length p → nest p (take n p) ≡ true
nests_front p n h = λ i. not (differ i) && (begins_front n p i || starts_with nat_eq (take n p) p)
  where
    differ : bytes_eq p (take n p) ≡ false
    differ = by (bytes_eq p (take n p)) refl
      where
        by : (t : Bool) → bytes_eq p (take n p) ≡ t → t ≡ false
        by true e = absurd (omega (arith, ap length ((bytes_eq-Decides p (take n p)).0 e), length_front n p (omega arith)))
        by false e = refl

-- ---- the least of a set

le_same : (k : List ℕ) → key_le k k ≡ true
le_same k = not_lt k k (irreflexive (key_lt k k) refl)
  where
    irreflexive : (b : Bool) → key_lt k k ≡ b → b ≡ false
    irreflexive true h = lt_irreflexive k h
    irreflexive false h = refl

pub find_least : (P : List ℕ → Bool) (ks : List (List ℕ)) → IsStrictlySortedBy key_cmp ks → IsLeast P (λ x. among x ks) (find P ks)
unfolding IsStrictlySortedBy
find_least P [] h = λ x there. cc
find_least P (k ∷ ks) h = by (P k) refl (find P ks) (find_least P ks h.1)
  where
    none_below : (x : List ℕ) → among x (k ∷ ks) ≡ true → key_lt x k ≡ true → P x ≡ false
    none_below x there below =
        let out : among x (k ∷ ks) ≡ false = among_above x (k ∷ ks) (is_less (key_cmp x k) below, above ks h.0) in
        let is : true ≡ false = sym there ∙ out in cc
      where
        above : (js : List (List ℕ)) → AllAbove k js → AllAbove x js
        above [] g = tt
        above (j ∷ js) g = (is_less (key_cmp x j) (lt_le_trans x k j below (lt_le k j (ap is_lt g.0))), above js g.1)

    in_rest : P k ≡ false → (x : List ℕ) → among x (k ∷ ks) ≡ true → (among x ks ≡ true → P x ≡ false) → P x ≡ false
    in_rest e x there f = each (bytes_eq k x) refl there
      where
        each : (t : Bool) → bytes_eq k x ≡ t → (t || among x ks) ≡ true → P x ≡ false
        each true s g = ap P (sym ((bytes_eq-Decides k x).0 s)) ∙ e
        each false s g = f g

    by : (t : Bool) → P k ≡ t → (o : Option (List ℕ)) → IsLeast P (λ x. among x ks) o → IsLeast P (λ x. among x (k ∷ ks)) (cond t (Some k) o)
    by true e o later = (ap (λ b. b || among k ks) (bytes_eq_same k), (e, none_below))
    by false e None later = λ x there. in_rest e x there (later x)
    by false e (Some q) later =
        (ap (λ b. bytes_eq k q || b) later.0 ∙ or_true (bytes_eq k q), (later.1.0, λ x there below. in_rest e x there (λ t. later.1.1 x t below)))

pub least_one : (P m n : List ℕ → Bool) (a b : Option (List ℕ)) → ((x : List ℕ) → m x ≡ n x) → IsLeast P m a → IsLeast P n b → a ≡ b
least_one P m n None None same f g = refl
least_one P m n None (Some q) same f g = let is : true ≡ false = sym g.1.0 ∙ f q (same q ∙ g.0) in cc
least_one P m n (Some p) None same f g = let is : true ≡ false = sym f.1.0 ∙ g p (sym (same p) ∙ f.0) in cc
least_one P m n (Some p) (Some q) same f g = by (key_cmp p q) refl
  where
    by : (o : Ordering) → key_cmp p q ≡ o → Some p ≡ Some q
    by Less e = let is : true ≡ false = sym f.1.0 ∙ g.1.1 p (sym (same p) ∙ f.0) (ap is_lt e) in cc
    by Equal e = ap Some (equal_keys p q e)
    by Greater e = let is : true ≡ false = sym g.1.0 ∙ f.1.1 q (same q ∙ g.0) (turned_less p q e) in cc

-- of two sets
pub least_both : (P m n : List ℕ → Bool) (a b : Option (List ℕ)) → IsLeast P m a → IsLeast P n b → IsLeast P (λ x. m x || n x) (lesser a b)
least_both P m n None None f g = λ x there. either (m x) (n x) refl refl there
  where
    either : (s t : Bool) → {x : List ℕ} → m x ≡ s → n x ≡ t → (s || t) ≡ true → P x ≡ false
    either true t {x} e h there = f x e
    either false true {x} e h there = g x h
    either false false {x} e h there = cc
least_both P m n None (Some q) f g = (ap (λ t. m q || t) g.0 ∙ or_true (m q), (g.1.0, λ x there below. either x (m x) (n x) refl refl below there))
  where
    either : (x : List ℕ) (s t : Bool) → m x ≡ s → n x ≡ t → key_lt x q ≡ true → (s || t) ≡ true → P x ≡ false
    either x true t e h below there = f x e
    either x false true e h below there = g.1.1 x h below
    either x false false e h below there = cc
least_both P m n (Some p) None f g = (ap (λ t. t || n p) f.0, (f.1.0, λ x there below. either x (m x) (n x) refl refl below there))
  where
    either : (x : List ℕ) (s t : Bool) → m x ≡ s → n x ≡ t → key_lt x p ≡ true → (s || t) ≡ true → P x ≡ false
    either x true t e h below there = f.1.1 x e below
    either x false true e h below there = g x h
    either x false false e h below there = cc
least_both P m n (Some p) (Some q) f g = by (key_lt q p) refl
  where
    either : (x r : List ℕ) → key_le r p ≡ true → key_le r q ≡ true → key_lt x r ≡ true → (s t : Bool) → m x ≡ s → n x ≡ t → (s || t) ≡ true → P x ≡ false
    either x r u v below true t e h there = f.1.1 x e (lt_le_trans x r p below u)
    either x r u v below false true e h there = g.1.1 x h (lt_le_trans x r q below v)
    either x r u v below false false e h there = cc

    by : (t : Bool) → key_lt q p ≡ t → IsLeast P (λ x. m x || n x) (cond t (Some q) (Some p))
    by true e = (ap (λ t. m q || t) g.0 ∙ or_true (m q), (g.1.0, λ x there below. either x q (lt_le q p e) (le_same q) below (m x) (n x) refl refl there))
    by false e = (ap (λ t. t || n p) f.0, (f.1.0, λ x there below. either x p (le_same p) (not_lt q p e) below (m x) (n x) refl refl there))

-- ---- what a search finds

whole_front : (p : List ℕ) (n : ℕ) → take (n - 0) p ≡ take n p
whole_front p n = let same : n - 0 ≡ n = omega arith in ap (λ m. take m p) same

-- a front that is looked up
pub one_more : (p f : List ℕ) (ks : List (List ℕ)) (n : ℕ) → f ≡ take (n - 0) p → list_any (is_at (key_cmp f)) ks ≡ false → HasNoFront p ks n → HasNoFront p ks (n + 1)
one_more p f ks n is absent none m below = by (ltb m n) refl
  where
    by : (t : Bool) → ltb m n ≡ t → among (take m p) ks ≡ false
    by true e = none m (grind (arith, nat_tests, e))
    by false e =
        let last : m ≡ n = grind (arith, nat_tests, e, below) in
        (λ i. among (take (last i) p) ks) ∙ ap (λ g. among g ks) (sym (whole_front p n) ∙ sym is) ∙ sym (among_is f ks) ∙ absent

pub front_found : (p f q : List ℕ) (ks : List (List ℕ)) (n : ℕ) → f ≡ take (n - 0) p → n < length p → key_cmp f q ≡ Equal → list_any (is_at (key_cmp f)) ks ≡ true → HasNoFront p ks n → IsFirstFront p ks (Some q)
front_found p f q ks n is below found there none =
    let same = sym (equal_keys f q found) in
    (n, (below, (same ∙ is ∙ whole_front p n, (ap (λ k. among k ks) same ∙ sym (among_is f ks) ∙ there, none))))

fronts_below : (p x : List ℕ) (ks : List (List ℕ)) (n : ℕ) → HasNoFront p ks n → among x ks ≡ true → length x < n → starts_with nat_eq p x ≡ false
fronts_below p x ks n none there short = by (starts_with nat_eq p x) refl
  where
    by : (t : Bool) → starts_with nat_eq p x ≡ t → t ≡ false
    by true e =
        let out : among x ks ≡ false = ap (λ y. among y ks) (front_of p x e).1 ∙ none (length x) short in
        let is : true ≡ false = sym there ∙ out in cc
    by false e = refl

-- the shortest front is the least that nests
pub front_least : (p : List ℕ) (ks : List (List ℕ)) (q : List ℕ) → IsFirstFront p ks (Some q) → IsLeast (nest p) (λ x. among x ks) (Some q)
front_least p ks q h = (h.1.1.1.0, (ap (nest p) is ∙ nests_front p n h.1.0, below))
  where
    n : ℕ
    n = h.0

    is : q ≡ take n p
    is = h.1.1.0

    within : key_le q p ≡ true
    within = ap (λ y. key_le y p) is ∙ begins_le (take n p) p (begins_front n p)

    below : (x : List ℕ) → among x ks ≡ true → key_lt x q ≡ true → nest p x ≡ false
    below x there lower = apart p x front longer
      where
        longer : starts_with nat_eq x p ≡ true → nest p x ≡ false
        longer f = lt_irreflexive x (lt_le_trans x q x lower (le_trans q p x within (begins_le p x f)))

        front : starts_with nat_eq p x ≡ true → nest p x ≡ false
        front f = absurd (impossible f)
          where
            impossible : starts_with nat_eq p x ≡ true → ⊥
            impossible f = shorter (ltb (length x) n) refl
              where
                shorter : (t : Bool) → ltb (length x) n ≡ t → ⊥
                shorter true e = let is : true ≡ false = sym f ∙ fronts_below p x ks n h.1.1.1.1 there (grind (arith, nat_tests, e)) in cc
                shorter false e =
                    let upto : n ≤ length x = grind (arith, nat_tests, e) in
                    let begun : starts_with nat_eq x q ≡ true = (λ i. starts_with nat_eq ((front_of p x f).1 i) (is i)) ∙ front_begins (length x) n p upto in
                    lt_irreflexive x (lt_le_trans x q x lower (begins_le q x begun))

pub found_front : (p : List ℕ) (ks : List (List ℕ)) (q : List ℕ) → IsStrictlySortedBy key_cmp ks → IsFirstFront p ks (Some q) → Some q ≡ find (nest p) ks
found_front p ks q rising h =
    least_one (nest p) (λ x. among x ks) (λ x. among x ks) (Some q) (find (nest p) ks) (λ x. refl) (front_least p ks q h) (find_least (nest p) ks rising)

-- the keys up to p, where no front of it is among them
upto_none : (p x : List ℕ) (ks : List (List ℕ)) → HasNoFront p ks (length p) → among x ks ≡ true → (key_cmp p x ≡ Less → nest p x ≡ false) → nest p x ≡ false
upto_none p x ks none there f = by (key_cmp p x) refl
  where
    by : (o : Ordering) → key_cmp p x ≡ o → nest p x ≡ false
    by Less e = f e
    by Equal e = ap (nest p) (sym (equal_keys p x e)) ∙ nest_itself p
    by Greater e = nests_below p x e (shorter (ltb (length x) (length p)) refl)
      where
        shorter : (t : Bool) → ltb (length x) (length p) ≡ t → starts_with nat_eq p x ≡ false
        shorter true l = fronts_below p x ks (length p) none there (grind (arith, nat_tests, l))
        shorter false l = not_front (starts_with nat_eq p x) refl
          where
            not_front : (t : Bool) → starts_with nat_eq p x ≡ t → t ≡ false
            not_front true f =
                let upto : length p ≤ length x = grind (arith, nat_tests, l) in
                let is : x ≡ p = (front_of p x f).1 ∙ take_all (length x) p upto in
                lt_irreflexive p (ap (λ y. key_lt y p) (sym is) ∙ turned_less p x e)
            not_front false f = refl

pub none_nest : (p : List ℕ) (ks : List (List ℕ)) → IsStrictlySortedBy key_cmp ks → HasNoFront p ks (length p) → ((x : List ℕ) → key_cmp p x ≡ Less → among x ks ≡ false) →
    None ≡ find (nest p) ks
none_nest p ks rising none above =
    least_one (nest p) (λ x. among x ks) (λ x. among x ks) None (find (nest p) ks) (λ x. refl)
    (λ x there. upto_none p x ks none there (λ e. let is : true ≡ false = sym there ∙ above x e in cc)) (find_least (nest p) ks rising)

pub next_nests : (p y : List ℕ) (ks : List (List ℕ)) → IsStrictlySortedBy key_cmp ks → HasNoFront p ks (length p) → key_cmp p y ≡ Less → among y ks ≡ true →
    ((x : List ℕ) → key_cmp p x ≡ Less → among x ks ≡ true → key_le y x ≡ true) → starts_with nat_eq y p ≡ true → Some y ≡ find (nest p) ks
next_nests p y ks rising none past there least begun =
    least_one (nest p) (λ x. among x ks) (λ x. among x ks) (Some y) (find (nest p) ks) (λ x. refl)
    (there, (nests_longer p y past begun, λ x t lower. upto_none p x ks none t (λ e. lt_irreflexive x (lt_le_trans x y x lower (least x e t)))))
    (find_least (nest p) ks rising)

pub next_differs : (p y : List ℕ) (ks : List (List ℕ)) → IsStrictlySortedBy key_cmp ks → HasNoFront p ks (length p) → key_cmp p y ≡ Less →
    ((x : List ℕ) → key_cmp p x ≡ Less → among x ks ≡ true → key_le y x ≡ true) → starts_with nat_eq y p ≡ false → None ≡ find (nest p) ks
next_differs p y ks rising none past least differs =
    least_one (nest p) (λ x. among x ks) (λ x. among x ks) None (find (nest p) ks) (λ x. refl)
    (λ x t. upto_none p x ks none t (λ e. nests_above p x e (longer x t e (starts_with nat_eq x p) refl))) (find_least (nest p) ks rising)
  where
    longer : (x : List ℕ) → among x ks ≡ true → key_cmp p x ≡ Less → (t : Bool) → starts_with nat_eq x p ≡ t → t ≡ false
    longer x t e true f =
        let begun = begins_between p y x (lt_le p y (ap is_lt past)) (least x e t) f in
        let is : true ≡ false = sym begun ∙ differs in cc
    longer x t e false f = refl

-- of two sets, the lesser of what the searches find
pub find_both : (p : List ℕ) (firsts more : List (List ℕ)) → IsStrictlySortedBy key_cmp firsts → IsStrictlySortedBy key_cmp more →
    find (nest p) (keys_set (firsts ++ more)) ≡ lesser (find (nest p) firsts) (find (nest p) more)
find_both p firsts more rise rising =
    least_one (nest p) (λ x. among x (keys_set (firsts ++ more))) (λ x. among x firsts || among x more) (find (nest p) (keys_set (firsts ++ more))) (lesser (find (nest p) firsts) (find (nest p) more))
    (λ x. set_keeps (firsts ++ more) x ∙ any_append x firsts more) (find_least (nest p) (keys_set (firsts ++ more)) (set_rises (firsts ++ more)))
    (least_both (nest p) (λ x. among x firsts) (λ x. among x more) (find (nest p) firsts) (find (nest p) more) (find_least (nest p) firsts rise) (find_least (nest p) more rising))

-- ---- refusals

-- sets are known by their keys
pub sets_same : (firsts more : List (List ℕ)) → ((k : List ℕ) → among k firsts ≡ among k more) → keys_set firsts ≡ keys_set more
sets_same firsts more same = same_set (keys_set firsts) (keys_set more) (set_rises firsts) (set_rises more) (λ k. set_keeps firsts k ∙ same k ∙ sym (set_keeps more k))

pub both_same : (firsts more others rest : List (List ℕ)) → ((k : List ℕ) → among k firsts ≡ among k others) → ((k : List ℕ) → among k more ≡ among k rest) → keys_set (firsts ++ more) ≡ keys_set (others ++ rest)
both_same firsts more others rest f g = sets_same (firsts ++ more) (others ++ rest) (λ k. any_append k firsts more ∙ (λ i. f k i || g k i) ∙ sym (any_append k others rest))

pub set_of_front : (firsts more : List (List ℕ)) → keys_set (keys_set firsts ++ more) ≡ keys_set (firsts ++ more)
set_of_front firsts more = both_same (keys_set firsts) more firsts more (set_keeps firsts) (λ k. refl)

pub set_of_rest : (firsts more : List (List ℕ)) → keys_set (firsts ++ keys_set more) ≡ keys_set (firsts ++ more)
set_of_rest firsts more = both_same firsts (keys_set more) firsts more (λ k. refl) (set_keeps more)

-- the refusals depend on sets alone
pub refusals_of_sets : (firsts more others rest : List (List ℕ)) → ((k : List ℕ) → among k firsts ≡ among k others) → ((k : List ℕ) → among k more ≡ among k rest) → nest_refusals firsts more ≡ nest_refusals others rest
refusals_of_sets firsts more others rest f g = λ i. map (nest_refusal (both_same firsts more others rest f g i)) (sets_same more rest g i)

none_refused : (all : List (List ℕ)) (ks : List (List ℕ)) → first_refusal (map (nest_refusal all) ks) ≡ None → (p : List ℕ) → among p ks ≡ true → find (nest p) all ≡ None
none_refused all [] h p there = cc
none_refused all (k ∷ ks) h p there = by (λ g u. none_refused all ks g p u) (find (nest k) all) refl h
  where
    by : (first_refusal (map (nest_refusal all) ks) ≡ None → among p ks ≡ true → find (nest p) all ≡ None) → (o : Option (List ℕ)) → find (nest k) all ≡ o →
        first_refusal (option_map (λ q. errors.InvalidSegmentPrefix k q) o ∷ map (nest_refusal all) ks) ≡ None → find (nest p) all ≡ None
    by later (Some q) e g = cc
    by later None e g = each (bytes_eq k p) refl there
      where
        each : (t : Bool) → bytes_eq k p ≡ t → (t || among p ks) ≡ true → find (nest p) all ≡ None
        each true s u = ap (λ x. find (nest x) all) (sym ((bytes_eq-Decides k p).0 s)) ∙ e
        each false s u = later g u

-- where those before don't nest, and none is refused, none of all nest
pub never_nest : (firsts more : List (List ℕ)) → NeverNest firsts → first_refusal (nest_refusals firsts more) ≡ None → NeverNest (keys_set (firsts ++ more))
never_nest firsts more before none p q is-p is-q = by (among p more) (among q more) refl refl
  where
    all : List (List ℕ)
    all = keys_set (firsts ++ more)

    against : (x y : List ℕ) → among x more ≡ true → among y all ≡ true → nest x y ≡ false
    against x y there other = least (find (nest x) all) (none_refused all (keys_set more) none x (set_keeps more x ∙ there)) (find_least (nest x) all (set_rises (firsts ++ more)))
      where
        least : (o : Option (List ℕ)) → o ≡ None → IsLeast (nest x) (λ z. among z all) o → nest x y ≡ false
        least None e h = h y other
        least (Some z) e h = cc

    earlier : (x : List ℕ) → among x all ≡ true → among x more ≡ false → among x firsts ≡ true
    earlier x there not-own = last (among x firsts) (among x more) (sym (any_append x firsts more) ∙ sym (set_keeps (firsts ++ more) x) ∙ there) not-own
      where
        last : (s t : Bool) → (s || t) ≡ true → t ≡ false → s ≡ true
        last true t h g = refl
        last false t h g = let is : true ≡ false = sym h ∙ g in cc

    by : (s t : Bool) → among p more ≡ s → among q more ≡ t → nest p q ≡ false
    by true t e f = against p q e is-q
    by false true e f = nest_sym p q ∙ against q p f is-p
    by false false e f = before p q (earlier p is-p e) (earlier q is-q f)

-- ---- a loop over the prefixes of a batch

pub refused_next : (recorded own left rest : List (List ℕ)) (p : List ℕ) (e : SlateDBError) → IsStrictlySortedBy key_cmp own → left ≡ p ∷ rest →
    first_refusal (map (nest_refusal (keys_set (recorded ++ own))) left) ≡ first_refusal (map (nest_refusal (keys_set (recorded ++ own))) own) →
    nest_refusal (keys_set (recorded ++ own)) p ≡ Some e → first_refusal (nest_refusals recorded own) ≡ Some e
refused_next recorded own left rest p e rising is same refused =
    let test = nest_refusal (keys_set (recorded ++ own)) in
    ap (λ ks. first_refusal (map test ks)) (set_of_set own rising) ∙ sym same ∙ ap (λ ks. first_refusal (map test ks)) is
    ∙ ap (λ o. first_refusal (o ∷ map test rest)) refused

pub refused_none : (recorded own left : List (List ℕ)) → IsStrictlySortedBy key_cmp own → left ≡ [] →
    first_refusal (map (nest_refusal (keys_set (recorded ++ own))) left) ≡ first_refusal (map (nest_refusal (keys_set (recorded ++ own))) own) →
    first_refusal (nest_refusals recorded own) ≡ None
refused_none recorded own left rising is same =
    let test = nest_refusal (keys_set (recorded ++ own)) in
    ap (λ ks. first_refusal (map test ks)) (set_of_set own rising) ∙ sym same ∙ ap (λ ks. first_refusal (map test ks)) is

-- ---- the first key behind a prefix, as a range of a set says

behind : (p x : List ℕ) (s : BTreeSet (List ℕ)) → among x s.keys ≡ true → key_cmp p x ≡ Less → IsInRange key_cmp (Excluded p) Unbounded x × (set.contains key_cmp s x ≡ true)
behind p x s there past = ((past, tt), among_is x s.keys ∙ there)

pub no_next : (p : List ℕ) (s : BTreeSet (List ℕ)) → IsStrictlySortedBy key_cmp s.keys → HasNoFront p s.keys (length p) →
    ((x : List ℕ) → IsInRange key_cmp (Excluded p) Unbounded x → set.contains key_cmp s x ≡ false) → None ≡ find (nest p) s.keys
no_next p s rising none out = none_nest p s.keys rising none (λ x past. sym (among_is x s.keys) ∙ out x (past, tt))

First : List ℕ → BTreeSet (List ℕ) → List ℕ → Type 0
First p s y = (key_cmp p y ≡ Less) × ((among y s.keys ≡ true) × ((x : List ℕ) → key_cmp p x ≡ Less → among x s.keys ≡ true → key_le y x ≡ true))

first : (p y : List ℕ) (s : BTreeSet (List ℕ)) (found rest : List (List ℕ)) → found ≡ y ∷ rest → IfSome (slice_get found 0) (set.IsKeyInRange key_cmp (Excluded p) Unbounded s) →
    ((x : List ℕ) → IsInRange key_cmp (Excluded p) Unbounded x → IsTrue (set.contains key_cmp s x) → IfSome (slice_get found 0) (λ k. IsLeBy key_cmp k x)) → First p s y
unfolding First
first p y s found rest is inside least =
    let here = subst (λ ks. IfSome (slice_get ks 0) (set.IsKeyInRange key_cmp (Excluded p) Unbounded s)) is inside in (
      here.0.0,
      (
        sym (among_is y s.keys) ∙ here.1,
        λ x past there. not_gt (key_cmp y x) (subst (λ ks. IfSome (slice_get ks 0) (λ k. IsLeBy key_cmp k x)) is (least x (past, tt) (among_is x s.keys ∙ there))),
      ),
    )
  where
    not_gt : (o : Ordering) → is_gt o ≡ false → is_le o ≡ true
    not_gt Less h = refl
    not_gt Equal h = refl
    not_gt Greater h = cc

pub next_begins : (p y : List ℕ) (s : BTreeSet (List ℕ)) (found rest : List (List ℕ)) → found ≡ y ∷ rest → IsStrictlySortedBy key_cmp s.keys → HasNoFront p s.keys (length p) →
    IfSome (slice_get found 0) (set.IsKeyInRange key_cmp (Excluded p) Unbounded s) →
    ((x : List ℕ) → IsInRange key_cmp (Excluded p) Unbounded x → IsTrue (set.contains key_cmp s x) → IfSome (slice_get found 0) (λ k. IsLeBy key_cmp k x)) →
    starts_with nat_eq y p ≡ true → Some y ≡ find (nest p) s.keys
unfolding First
next_begins p y s found rest is rising none inside least begun =
    let f = first p y s found rest is inside least in
    next_nests p y s.keys rising none f.0 f.1.0 f.1.1 begun

pub next_other : (p y : List ℕ) (s : BTreeSet (List ℕ)) (found rest : List (List ℕ)) → found ≡ y ∷ rest → IsStrictlySortedBy key_cmp s.keys → HasNoFront p s.keys (length p) →
    IfSome (slice_get found 0) (set.IsKeyInRange key_cmp (Excluded p) Unbounded s) →
    ((x : List ℕ) → IsInRange key_cmp (Excluded p) Unbounded x → IsTrue (set.contains key_cmp s x) → IfSome (slice_get found 0) (λ k. IsLeBy key_cmp k x)) →
    starts_with nat_eq y p ≡ false → None ≡ find (nest p) s.keys
unfolding First
next_other p y s found rest is rising none inside least differs =
    let f = first p y s found rest is inside least in
    next_differs p y s.keys rising none f.0 f.1.1 differs
