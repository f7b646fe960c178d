-- The common range of two ranges is membership in both.
use Rattle.std.proofs.Common.{◌≡◌, ℕ, Bool, true, false, cond, ◌&&◌, List, Some, None, unwrap_or, refl, sym, ap, ◌∙◌, Ordering, Less, Equal, Greater}
use Rattle.std.specs.Ordering.{is_lt, is_le, is_gt, ordering_reverse}
use Rattle.std.proofs.lemmas.Cmp.{nat_list_cmp_total}
use Rattle.std.specs.declared.ops.Bound.{Bound}
use Rattle.std.specs.declared.ops.Bound.TheVariants.{Included, Excluded, Unbounded}
use Rattle.slate_types.specs.declared.bytes_range.BytesRange.{BytesRange}
use Rattle.slate_types.proofs.KeyOrder.{equal_keys, lt_le_trans, lt_trans, lt_irreflexive}
use Rattle.slate_types.specs.Keys.{key_cmp, is_past_start, is_before_end, in_range, later_start, earlier_end, common_range, is_refused}

-- how three keys a, b, k may lie, by the orders of a and b, a and k, b and k
abbrev Lie : Ordering → Ordering → Ordering → Type 0
Lie Less x y = is_le y ≡ true → x ≡ Less
Lie Equal x y = x ≡ y
Lie Greater x y = is_le x ≡ true → y ≡ Less

below : (a b k : List ℕ) → key_cmp a b ≡ Less → is_le (key_cmp b k) ≡ true → key_cmp a k ≡ Less
below a b k h l = by (key_cmp b k) refl l
  where
    by : (o : Ordering) → key_cmp b k ≡ o → is_le o ≡ true → key_cmp a k ≡ Less
    by Less e m = nat_list_cmp_total.trans a b k h e
    by Equal e m = ap (λ c. key_cmp a c) (sym (equal_keys b k e)) ∙ h
    by Greater e m = cc

lie : (a b k : List ℕ) → Lie (key_cmp a b) (key_cmp a k) (key_cmp b k)
lie a b k = by (key_cmp a b) refl
  where
    by : (o : Ordering) → key_cmp a b ≡ o → Lie o (key_cmp a k) (key_cmp b k)
    by Less e = below a b k e
    by Equal e = ap (λ c. key_cmp c k) (equal_keys a b e)
    by Greater e = below b a k (nat_list_cmp_total.antisymm b a ∙ ap ordering_reverse e)

impossible : {A : Type 0} → Equal ≡ Less → A
impossible e = cc

impossible' : {A : Type 0} → Greater ≡ Less → A
impossible' e = cc

start_ii : (z x y : Ordering) → Lie z x y → cond (is_lt z) (is_le y) (is_le x) ≡ (is_le x && is_le y)
start_ii Less Less Less h = refl
start_ii Less Less Equal h = refl
start_ii Less Less Greater h = refl
start_ii Less Equal Less h = refl
start_ii Less Equal Equal h = refl
start_ii Less Equal Greater h = refl
start_ii Less Greater Less h = impossible' (h refl)
start_ii Less Greater Equal h = impossible' (h refl)
start_ii Less Greater Greater h = refl
start_ii Equal Less Less h = refl
start_ii Equal Less Equal h = refl
start_ii Equal Less Greater h = cc
start_ii Equal Equal Less h = refl
start_ii Equal Equal Equal h = refl
start_ii Equal Equal Greater h = cc
start_ii Equal Greater Less h = refl
start_ii Equal Greater Equal h = refl
start_ii Equal Greater Greater h = refl
start_ii Greater Less Less h = refl
start_ii Greater Less Equal h = refl
start_ii Greater Less Greater h = impossible' (h refl)
start_ii Greater Equal Less h = refl
start_ii Greater Equal Equal h = refl
start_ii Greater Equal Greater h = impossible' (h refl)
start_ii Greater Greater Less h = refl
start_ii Greater Greater Equal h = refl
start_ii Greater Greater Greater h = refl

start_ie : (z x y : Ordering) → Lie z x y → cond (is_gt z) (is_le x) (is_lt y) ≡ (is_le x && is_lt y)
start_ie Less Less Less h = refl
start_ie Less Less Equal h = refl
start_ie Less Less Greater h = refl
start_ie Less Equal Less h = refl
start_ie Less Equal Equal h = refl
start_ie Less Equal Greater h = refl
start_ie Less Greater Less h = impossible' (h refl)
start_ie Less Greater Equal h = refl
start_ie Less Greater Greater h = refl
start_ie Equal Less Less h = refl
start_ie Equal Less Equal h = refl
start_ie Equal Less Greater h = refl
start_ie Equal Equal Less h = refl
start_ie Equal Equal Equal h = refl
start_ie Equal Equal Greater h = refl
start_ie Equal Greater Less h = cc
start_ie Equal Greater Equal h = refl
start_ie Equal Greater Greater h = refl
start_ie Greater Less Less h = refl
start_ie Greater Less Equal h = impossible (h refl)
start_ie Greater Less Greater h = impossible' (h refl)
start_ie Greater Equal Less h = refl
start_ie Greater Equal Equal h = impossible (h refl)
start_ie Greater Equal Greater h = impossible' (h refl)
start_ie Greater Greater Less h = refl
start_ie Greater Greater Equal h = refl
start_ie Greater Greater Greater h = refl

start_ei : (z x y : Ordering) → Lie z x y → cond (is_lt z) (is_le y) (is_lt x) ≡ (is_lt x && is_le y)
start_ei Less Less Less h = refl
start_ei Less Less Equal h = refl
start_ei Less Less Greater h = refl
start_ei Less Equal Less h = impossible (h refl)
start_ei Less Equal Equal h = impossible (h refl)
start_ei Less Equal Greater h = refl
start_ei Less Greater Less h = impossible' (h refl)
start_ei Less Greater Equal h = impossible' (h refl)
start_ei Less Greater Greater h = refl
start_ei Equal Less Less h = refl
start_ei Equal Less Equal h = refl
start_ei Equal Less Greater h = cc
start_ei Equal Equal Less h = refl
start_ei Equal Equal Equal h = refl
start_ei Equal Equal Greater h = refl
start_ei Equal Greater Less h = refl
start_ei Equal Greater Equal h = refl
start_ei Equal Greater Greater h = refl
start_ei Greater Less Less h = refl
start_ei Greater Less Equal h = refl
start_ei Greater Less Greater h = impossible' (h refl)
start_ei Greater Equal Less h = refl
start_ei Greater Equal Equal h = refl
start_ei Greater Equal Greater h = refl
start_ei Greater Greater Less h = refl
start_ei Greater Greater Equal h = refl
start_ei Greater Greater Greater h = refl

start_ee : (z x y : Ordering) → Lie z x y → cond (is_lt z) (is_lt y) (is_lt x) ≡ (is_lt x && is_lt y)
start_ee Less Less Less h = refl
start_ee Less Less Equal h = refl
start_ee Less Less Greater h = refl
start_ee Less Equal Less h = impossible (h refl)
start_ee Less Equal Equal h = refl
start_ee Less Equal Greater h = refl
start_ee Less Greater Less h = impossible' (h refl)
start_ee Less Greater Equal h = refl
start_ee Less Greater Greater h = refl
start_ee Equal Less Less h = refl
start_ee Equal Less Equal h = cc
start_ee Equal Less Greater h = cc
start_ee Equal Equal Less h = refl
start_ee Equal Equal Equal h = refl
start_ee Equal Equal Greater h = refl
start_ee Equal Greater Less h = refl
start_ee Equal Greater Equal h = refl
start_ee Equal Greater Greater h = refl
start_ee Greater Less Less h = refl
start_ee Greater Less Equal h = impossible (h refl)
start_ee Greater Less Greater h = impossible' (h refl)
start_ee Greater Equal Less h = refl
start_ee Greater Equal Equal h = refl
start_ee Greater Equal Greater h = refl
start_ee Greater Greater Less h = refl
start_ee Greater Greater Equal h = refl
start_ee Greater Greater Greater h = refl

-- ---- bounds

push_start : (t : Bool) (p q : Bound (List ℕ)) (k : List ℕ) → is_past_start (cond t p q) k ≡ cond t (is_past_start p k) (is_past_start q k)
push_start true p q k = refl
push_start false p q k = refl

push_end : (t : Bool) (p q : Bound (List ℕ)) (k : List ℕ) → is_before_end (cond t p q) k ≡ cond t (is_before_end p k) (is_before_end q k)
push_end true p q k = refl
push_end false p q k = refl

pub reversed : (o : Ordering) → is_lt (ordering_reverse o) ≡ is_gt o
reversed Less = refl
reversed Equal = refl
reversed Greater = refl

turned : (a b : List ℕ) → is_lt (key_cmp b a) ≡ is_gt (key_cmp a b)
turned a b = ap is_lt (nat_list_cmp_total.antisymm b a) ∙ reversed (key_cmp a b)

and_true : (t : Bool) → t ≡ (t && true)
and_true true = refl
and_true false = refl

start_both : (s t : Bound (List ℕ)) (k : List ℕ) → is_past_start (later_start s t) k ≡ (is_past_start s k && is_past_start t k)
start_both Unbounded t k = refl
start_both (Included a) (Included b) k = push_start (is_lt (key_cmp a b)) (Included b) (Included a) k ∙ start_ii (key_cmp a b) (key_cmp a k) (key_cmp b k) (lie a b k)
start_both (Included a) (Excluded b) k =
    push_start (is_lt (key_cmp b a)) (Included a) (Excluded b) k
    ∙ ap (λ t. cond t (is_le (key_cmp a k)) (is_lt (key_cmp b k))) (turned a b) ∙ start_ie (key_cmp a b) (key_cmp a k) (key_cmp b k) (lie a b k)
start_both (Included a) Unbounded k = and_true (is_le (key_cmp a k))
start_both (Excluded a) (Included b) k = push_start (is_lt (key_cmp a b)) (Included b) (Excluded a) k ∙ start_ei (key_cmp a b) (key_cmp a k) (key_cmp b k) (lie a b k)
start_both (Excluded a) (Excluded b) k = push_start (is_lt (key_cmp a b)) (Excluded b) (Excluded a) k ∙ start_ee (key_cmp a b) (key_cmp a k) (key_cmp b k) (lie a b k)
start_both (Excluded a) Unbounded k = and_true (is_lt (key_cmp a k))

-- the same seen from the key
above : (a b k : List ℕ) → key_cmp b a ≡ Less → is_le (key_cmp k b) ≡ true → key_cmp k a ≡ Less
above a b k h l = by (key_cmp k b) refl l
  where
    by : (o : Ordering) → key_cmp k b ≡ o → is_le o ≡ true → key_cmp k a ≡ Less
    by Less e m = nat_list_cmp_total.trans k b a e h
    by Equal e m = ap (λ c. key_cmp c a) (equal_keys k b e) ∙ h
    by Greater e m = cc

lie_end : (a b k : List ℕ) → Lie (key_cmp b a) (key_cmp k a) (key_cmp k b)
lie_end a b k = by (key_cmp b a) refl
  where
    by : (o : Ordering) → key_cmp b a ≡ o → Lie o (key_cmp k a) (key_cmp k b)
    by Less e = above a b k e
    by Equal e = ap (λ c. key_cmp k c) (sym (equal_keys b a e))
    by Greater e = above b a k (nat_list_cmp_total.antisymm a b ∙ ap ordering_reverse e)

end_both : (s t : Bound (List ℕ)) (k : List ℕ) → is_before_end (earlier_end s t) k ≡ (is_before_end s k && is_before_end t k)
end_both Unbounded t k = refl
end_both (Included a) (Included b) k = push_end (is_lt (key_cmp b a)) (Included b) (Included a) k ∙ start_ii (key_cmp b a) (key_cmp k a) (key_cmp k b) (lie_end a b k)
end_both (Included a) (Excluded b) k =
    push_end (is_lt (key_cmp a b)) (Included a) (Excluded b) k
    ∙ ap (λ t. cond t (is_le (key_cmp k a)) (is_lt (key_cmp k b))) (turned b a) ∙ start_ie (key_cmp b a) (key_cmp k a) (key_cmp k b) (lie_end a b k)
end_both (Included a) Unbounded k = and_true (is_le (key_cmp k a))
end_both (Excluded a) (Included b) k = push_end (is_lt (key_cmp b a)) (Included b) (Excluded a) k ∙ start_ei (key_cmp b a) (key_cmp k a) (key_cmp k b) (lie_end a b k)
end_both (Excluded a) (Excluded b) k = push_end (is_lt (key_cmp b a)) (Excluded b) (Excluded a) k ∙ start_ee (key_cmp b a) (key_cmp k a) (key_cmp k b) (lie_end a b k)
end_both (Excluded a) Unbounded k = and_true (is_lt (key_cmp k a))

-- ---- ranges

and_swap : (p q r s : Bool) → ((p && q) && (r && s)) ≡ ((p && r) && (q && s))
and_swap true true r s = refl
and_swap true false true s = refl
and_swap true false false s = refl
and_swap false q r s = refl

some_range : (t : Bool) (r s : BytesRange) → cond t None (Some r) ≡ Some s → r ≡ s
some_range true r s e = cc
some_range false r s e = ap (λ o. unwrap_or o r) e

pub common_is_both : (a b r : BytesRange) (k : List ℕ) → common_range a b ≡ Some r → in_range r k ≡ (in_range a k && in_range b k)
common_is_both a b r k e =
    let is = some_range (is_refused (later_start a.start b.start) (earlier_end a.end b.end)) (record { start = later_start a.start b.start; end = earlier_end a.end b.end }) r e in
    ap (λ q. in_range q k) (sym is)
    ∙ (λ i. start_both a.start b.start k i && end_both a.end b.end k i)
    ∙ and_swap (is_past_start a.start k) (is_past_start b.start k) (is_before_end a.end k) (is_before_end b.end k)

-- ---- bounds that leave no range

refused_none : (start end : Bound (List ℕ)) (k : List ℕ) → is_refused start end ≡ true → is_past_start start k ≡ true → is_before_end end k ≡ true → true ≡ false
refused_none Unbounded end k h s e = cc
refused_none (Included a) Unbounded k h s e = cc
refused_none (Excluded a) Unbounded k h s e = cc
refused_none (Included a) (Included b) k h s e = lt_irreflexive b (lt_le_trans b k b (lt_le_trans b a k h s) e)
refused_none (Included a) (Excluded b) k h s e = lt_irreflexive k (lt_le_trans k a k (lt_le_trans k b a e h) s)
refused_none (Excluded a) (Included b) k h s e = lt_irreflexive a (lt_le_trans a b a (lt_le_trans a k b s e) h)
refused_none (Excluded a) (Excluded b) k h s e = lt_irreflexive a (lt_le_trans a b a (lt_trans a k b s e) h)

pub both_false : (s t : Bool) → (s ≡ true → t ≡ true → true ≡ false) → (s && t) ≡ false
both_false true true h = h refl refl
both_false true false h = refl
both_false false t h = refl

pub refused_holds_none : (start end : Bound (List ℕ)) (k : List ℕ) → is_refused start end ≡ true → in_range (record { start = start; end = end }) k ≡ false
refused_holds_none start end k h = both_false (is_past_start start k) (is_before_end end k) (refused_none start end k h)

no_range : (t : Bool) (r : BytesRange) → cond t None (Some r) ≡ None → t ≡ true
no_range true r e = refl
no_range false r e = cc

pub no_common_key : (a b : BytesRange) (k : List ℕ) → common_range a b ≡ None → (in_range a k && in_range b k) ≡ false
no_common_key a b k e =
    let start = later_start a.start b.start in
    let end = earlier_end a.end b.end in
    sym ((λ i. start_both a.start b.start k i && end_both a.end b.end k i)
    ∙ and_swap (is_past_start a.start k) (is_past_start b.start k) (is_before_end a.end k) (is_before_end b.end k))
    ∙ refused_holds_none start end k (no_range (is_refused start end) (record { start = start; end = end }) e)
