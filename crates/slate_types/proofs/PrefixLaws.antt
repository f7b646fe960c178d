-- What the range of a prefix holds: the keys that begin with it.
use Rattle.std.proofs.Common.{◌≡◌, ℕ, ◌+◌, Bool, true, false, cond, ◌&&◌, ◌||◌, not, ◌==◌, List, [], ◌∷◌, ◌++◌, length, drop, Option, Some, None, unwrap_or, refl, sym, ap, ◌∙◌, arith, ltb, Ordering, Less, Equal, Greater}
use Rattle.std.specs.Prelude.{nat_eq}
use Rattle.std.specs.List.{starts_with}
use Rattle.std.specs.Ordering.{is_lt, is_le, ordering_then, ordering_reverse}
use Rattle.std.proofs.lemmas.Bool.Decides.{nat_tests}
use Rattle.std.specs.declared.ops.Bound.{Bound}
use Rattle.std.specs.declared.ops.Bound.TheVariants.{Included, Excluded, Unbounded}
use Rattle.slate_types.specs.declared.bytes_range.BytesRange.{BytesRange}
use Rattle.slate_types.specs.Keys.{key_cmp, key_lt, AreBytes, carried, successor, is_past_start, is_before_end, in_range, is_refused, prefix_start, prefix_end, excluded_or_open, prefix_range, behind, prefix_subrange}
use Rattle.slate_types.proofs.KeyOrder.{equal_keys, turned_key, lt_irreflexive, lt_trans}
use Rattle.std.proofs.lemmas.List.{append-nil}
use Rattle.std.proofs.Math.Bool.{and-true}
use Rattle.slate_types.proofs.RangeLaws.{both_false}

begins : List ℕ → List ℕ → Bool
begins p k = starts_with nat_eq k p

-- ---- a key against a prefix and more

-- bytes b and x, and what stands behind them
same_front : (below same : Bool) → (below ≡ true → same ≡ false) → (s : Bool) (m n o : Ordering) → m ≡ cond s n o →
    ordering_then (cond below Less (cond same Equal Greater)) m ≡ cond (same && s) n (ordering_then (cond below Less (cond same Equal Greater)) o)
same_front true true h s m n o e = let f : true ≡ false = h refl in cc
same_front true false h s m n o e = refl
same_front false true h true m n o e = e
same_front false true h false m n o e = e
same_front false false h s m n o e = refl

cmp_behind : (p a k : List ℕ) → key_cmp (p ++ a) k ≡ cond (begins p k) (key_cmp a (drop (length p) k)) (key_cmp p k)
unfolding begins
cmp_behind [] a k = refl
cmp_behind (b ∷ p) a [] = refl
cmp_behind (b ∷ p) a (x ∷ k) =
    let apart : (ltb b x ≡ true → nat_eq b x ≡ false) = λ h. grind (arith, nat_tests, h) in
    same_front (ltb b x) (nat_eq b x) apart (begins p k) (key_cmp (p ++ a) k) (key_cmp a (drop (length p) k)) (key_cmp p k) (cmp_behind p a k)

-- ---- what begins with a prefix

nil_le : (k : List ℕ) → is_le (key_cmp [] k) ≡ true
nil_le [] = refl
nil_le (x ∷ xs) = refl

nil_not_lt : (k : List ℕ) → is_lt (key_cmp k []) ≡ false
nil_not_lt [] = refl
nil_not_lt (x ∷ xs) = refl

-- the same seen from the key
turn : (t : Bool) (m n o p : Ordering) → m ≡ ordering_reverse o → n ≡ ordering_reverse p → ordering_reverse (cond t o p) ≡ cond t m n
turn true m n o p e f = sym e
turn false m n o p e f = sym f

cmp_before : (p a k : List ℕ) → key_cmp k (p ++ a) ≡ cond (begins p k) (key_cmp (drop (length p) k) a) (key_cmp k p)
cmp_before p a k =
    turned_key k (p ++ a) ∙ ap ordering_reverse (cmp_behind p a k)
    ∙ turn (begins p k) (key_cmp (drop (length p) k) a) (key_cmp k p) (key_cmp a (drop (length p) k)) (key_cmp p k) (turned_key (drop (length p) k) a) (turned_key k p)

same_begins : (k : List ℕ) → begins k k ≡ true
unfolding begins
same_begins [] = refl
same_begins (x ∷ xs) = let same : nat_eq x x ≡ true = grind (arith, nat_tests) in ap (λ b. b && begins xs xs) same ∙ same_begins xs

-- a key that does not begin with p is not p
other_than : (p k : List ℕ) → begins p k ≡ false → is_le (key_cmp p k) ≡ true → is_lt (key_cmp p k) ≡ true
other_than p k not_p h = by (key_cmp p k) refl h
  where
    by : (o : Ordering) → key_cmp p k ≡ o → is_le o ≡ true → is_lt o ≡ true
    by Less e m = refl
    by Equal e m = let is : true ≡ false = sym (same_begins k) ∙ ap (λ q. begins q k) (sym (equal_keys p k e)) ∙ not_p in cc
    by Greater e m = m

other_before : (p k : List ℕ) → begins p k ≡ false → is_le (key_cmp k p) ≡ true → is_lt (key_cmp k p) ≡ true
other_before p k not_p h = by (key_cmp k p) refl h
  where
    by : (o : Ordering) → key_cmp k p ≡ o → is_le o ≡ true → is_lt o ≡ true
    by Less e m = refl
    by Equal e m = let is : true ≡ false = sym (same_begins k) ∙ ap (λ q. begins q k) (equal_keys k p e) ∙ not_p in cc
    by Greater e m = m

-- ---- the successor of a prefix

-- bytes x and b, and what stands behind them: keys below the prefix with a successor of what stands behind
lt_front : (below same : Bool) → (below ≡ true → same ≡ false) → (s : Bool) (m o : Ordering) → is_lt m ≡ cond s true (is_lt o) →
    is_lt (ordering_then (cond below Less (cond same Equal Greater)) m) ≡ cond (same && s) true (is_lt (ordering_then (cond below Less (cond same Equal Greater)) o))
lt_front true true h s m o e = let f : true ≡ false = h refl in cc
lt_front true false h s m o e = refl
lt_front false true h s m o e = e
lt_front false false h s m o e = refl

-- with all bytes behind below the end
open_front : (below same : Bool) → (below ≡ true → same ≡ false) → (not below ≡ true → same ≡ true) → (s : Bool) (o : Ordering) → true ≡ cond s true (is_lt o) →
    true ≡ cond (same && s) true (is_lt (ordering_then (cond below Less (cond same Equal Greater)) o))
open_front true true h g s o e = let f : true ≡ false = h refl in cc
open_front true false h g s o e = refl
open_front false true h g s o e = e
open_front false false h g s o e = let f : false ≡ true = g refl in cc

-- with the next byte as the end
next_front : (below same next over : Bool) → (below ≡ true → same ≡ false) → (below ≡ true → next ≡ true) → (same ≡ true → next ≡ true) → ((below || same) ≡ false → next ≡ false) →
    (s : Bool) (m o : Ordering) → is_lt m ≡ false → true ≡ cond s true (is_lt o) →
    is_lt (ordering_then (cond next Less (cond over Equal Greater)) m) ≡ cond (same && s) true (is_lt (ordering_then (cond below Less (cond same Equal Greater)) o))
next_front true true next over h a b c s m o f e = let g : true ≡ false = h refl in cc
next_front true false next over h a b c s m o f e = ap (λ t. is_lt (ordering_then (cond t Less (cond over Equal Greater)) m)) (a refl)
next_front false true next over h a b c s m o f e = ap (λ t. is_lt (ordering_then (cond t Less (cond over Equal Greater)) m)) (b refl) ∙ e
next_front false false next over h a b c s m o f e = ap (λ t. is_lt (ordering_then (cond t Less (cond over Equal Greater)) m)) (c refl) ∙ last over
  where
    last : (t : Bool) → is_lt (ordering_then (cond t Equal Greater) m) ≡ false
    last true = f
    last false = refl

-- the end of a prefix's range lets through what begins with it and what is below it
before_end : (p k : List ℕ) → AreBytes k → is_before_end (prefix_end p) k ≡ cond (begins p k) true (key_lt k p)
unfolding begins
before_end [] k bytes = refl
before_end (b ∷ p) k bytes = by (successor p) refl (before_end p)
  where
    Behind : Option (List ℕ) → Type 0
    Behind o = (xs : List ℕ) → AreBytes xs → is_before_end (excluded_or_open o) xs ≡ cond (begins p xs) true (key_lt xs p)

    some : (q xs : List ℕ) → AreBytes xs → Behind (Some q) → is_before_end (Excluded (b ∷ q)) xs ≡ cond (begins (b ∷ p) xs) true (key_lt xs (b ∷ p))
    some q [] h later = refl
    some q (x ∷ xs) h later =
        let apart : (ltb x b ≡ true → nat_eq b x ≡ false) = λ h. grind (arith, nat_tests, h) in
        let same : nat_eq x b ≡ nat_eq b x = grind (arith, nat_tests) in
        ap (λ t. is_lt (ordering_then (cond (ltb x b) Less (cond t Equal Greater)) (key_cmp xs q))) same
        ∙ lt_front (ltb x b) (nat_eq b x) apart (begins p xs) (key_cmp xs q) (key_cmp xs p) (later xs h.1)
        ∙ sym (ap (λ t. cond (begins (b ∷ p) (x ∷ xs)) true (is_lt (ordering_then (cond (ltb x b) Less (cond t Equal Greater)) (key_cmp xs p)))) same)

    last : (xs : List ℕ) → AreBytes xs → (t : Bool) → (b == 255) ≡ t → Behind None →
        is_before_end (excluded_or_open (cond t None (Some ((b + 1) ∷ [])))) xs ≡ cond (begins (b ∷ p) xs) true (key_lt xs (b ∷ p))
    last [] h true e later = refl
    last [] h false e later = refl
    last (x ∷ xs) h true e later =
        let apart : (ltb x b ≡ true → nat_eq b x ≡ false) = λ h. grind (arith, nat_tests, h) in
        let within : (not (ltb x b) ≡ true → nat_eq b x ≡ true) = λ g. grind (arith, nat_tests, g, e, h.0) in
        let same : nat_eq x b ≡ nat_eq b x = grind (arith, nat_tests) in
        open_front (ltb x b) (nat_eq b x) apart within (begins p xs) (key_cmp xs p) (later xs h.1)
        ∙ sym (ap (λ t. cond (begins (b ∷ p) (x ∷ xs)) true (is_lt (ordering_then (cond (ltb x b) Less (cond t Equal Greater)) (key_cmp xs p)))) same)
    last (x ∷ xs) h false e later =
        let apart : (ltb x b ≡ true → nat_eq b x ≡ false) = λ h. grind (arith, nat_tests, h) in
        let same : nat_eq x b ≡ nat_eq b x = grind (arith, nat_tests) in
        let first : (ltb x b ≡ true → ltb x (b + 1) ≡ true) = λ h. grind (arith, nat_tests, h) in
        let second : (nat_eq b x ≡ true → ltb x (b + 1) ≡ true) = λ h. grind (arith, nat_tests, h) in
        let neither : ((ltb x b || nat_eq b x) ≡ false → ltb x (b + 1) ≡ false) = λ h. grind (arith, nat_tests, h) in
        next_front (ltb x b) (nat_eq b x) (ltb x (b + 1)) (x == (b + 1)) apart first second neither (begins p xs) (key_cmp xs []) (key_cmp xs p) (nil_not_lt xs) (later xs h.1)
        ∙ sym (ap (λ t. cond (begins (b ∷ p) (x ∷ xs)) true (is_lt (ordering_then (cond (ltb x b) Less (cond t Equal Greater)) (key_cmp xs p)))) same)

    by : (o : Option (List ℕ)) → successor p ≡ o → ((xs : List ℕ) → AreBytes xs → is_before_end (prefix_end p) xs ≡ cond (begins p xs) true (key_lt xs p)) →
        is_before_end (excluded_or_open (carried b (successor p))) k ≡ cond (begins (b ∷ p) k) true (key_lt k (b ∷ p))
    by (Some q) is later =
        ap (λ o. is_before_end (excluded_or_open (carried b o)) k) is
        ∙ some q k bytes (λ xs h. sym (ap (λ o. is_before_end (excluded_or_open o) xs) is) ∙ later xs h)
    by None is later =
        ap (λ o. is_before_end (excluded_or_open (carried b o)) k) is
        ∙ last k bytes (b == 255) refl (λ xs h. sym (ap (λ o. is_before_end (excluded_or_open o) xs) is) ∙ later xs h)

-- ---- composed bounds, of keys that begin with the prefix

start_within : (p : List ℕ) (start : Bound (List ℕ)) (k : List ℕ) → begins p k ≡ true → is_past_start (behind p start (prefix_start p)) k ≡ is_past_start start (drop (length p) k)
start_within p (Included a) k h = ap is_le (cmp_behind p a k ∙ ap (λ t. cond t (key_cmp a (drop (length p) k)) (key_cmp p k)) h)
start_within p (Excluded a) k h = ap is_lt (cmp_behind p a k ∙ ap (λ t. cond t (key_cmp a (drop (length p) k)) (key_cmp p k)) h)
start_within [] Unbounded k h = refl
start_within (b ∷ p) Unbounded k h =
    ap (λ q. is_le (key_cmp q k)) (sym (append-nil (b ∷ p)))
    ∙ ap is_le (cmp_behind (b ∷ p) [] k ∙ ap (λ t. cond t (key_cmp [] (drop (length (b ∷ p)) k)) (key_cmp (b ∷ p) k)) h)
    ∙ nil_le (drop (length (b ∷ p)) k)

end_within : (p : List ℕ) (end : Bound (List ℕ)) (k : List ℕ) → AreBytes k → begins p k ≡ true → is_before_end (behind p end (prefix_end p)) k ≡ is_before_end end (drop (length p) k)
end_within p (Included a) k bytes h = ap is_le (cmp_before p a k ∙ ap (λ t. cond t (key_cmp (drop (length p) k) a) (key_cmp k p)) h)
end_within p (Excluded a) k bytes h = ap is_lt (cmp_before p a k ∙ ap (λ t. cond t (key_cmp (drop (length p) k) a) (key_cmp k p)) h)
end_within p Unbounded k bytes h = before_end p k bytes ∙ ap (λ t. cond t true (key_lt k p)) h

-- ---- and of the others

start_outside : (p : List ℕ) (start : Bound (List ℕ)) (k : List ℕ) → begins p k ≡ false → is_past_start (behind p start (prefix_start p)) k ≡ true → key_lt p k ≡ true
unfolding begins
start_outside p (Included a) k h past = other_than p k h (sym (ap is_le (cmp_behind p a k ∙ ap (λ t. cond t (key_cmp a (drop (length p) k)) (key_cmp p k)) h)) ∙ past)
start_outside p (Excluded a) k h past = sym (ap is_lt (cmp_behind p a k ∙ ap (λ t. cond t (key_cmp a (drop (length p) k)) (key_cmp p k)) h)) ∙ past
start_outside [] Unbounded k h past = let is : true ≡ false = h in cc
start_outside (b ∷ p) Unbounded k h past = other_than (b ∷ p) k h past

end_outside : (p : List ℕ) (end : Bound (List ℕ)) (k : List ℕ) → AreBytes k → begins p k ≡ false → is_before_end (behind p end (prefix_end p)) k ≡ true → key_lt k p ≡ true
end_outside p (Included a) k bytes h before = other_before p k h (sym (ap is_le (cmp_before p a k ∙ ap (λ t. cond t (key_cmp (drop (length p) k) a) (key_cmp k p)) h)) ∙ before)
end_outside p (Excluded a) k bytes h before = sym (ap is_lt (cmp_before p a k ∙ ap (λ t. cond t (key_cmp (drop (length p) k) a) (key_cmp k p)) h)) ∙ before
end_outside p Unbounded k bytes h before = sym (before_end p k bytes ∙ ap (λ t. cond t true (key_lt k p)) h) ∙ before

bounds_behind : (p : List ℕ) (start end : Bound (List ℕ)) (k : List ℕ) → AreBytes k →
    (is_past_start (behind p start (prefix_start p)) k && is_before_end (behind p end (prefix_end p)) k)
    ≡ (begins p k && (is_past_start start (drop (length p) k) && is_before_end end (drop (length p) k)))
bounds_behind p start end k bytes = by (begins p k) refl
  where
    by : (t : Bool) → begins p k ≡ t → (is_past_start (behind p start (prefix_start p)) k && is_before_end (behind p end (prefix_end p)) k)
        ≡ (t && (is_past_start start (drop (length p) k) && is_before_end end (drop (length p) k)))
    by true e = λ i. start_within p start k e i && end_within p end k bytes e i
    by false e = both_false (is_past_start (behind p start (prefix_start p)) k) (is_before_end (behind p end (prefix_end p)) k)
        (λ s t. lt_irreflexive p (lt_trans p k p (start_outside p start k e s) (end_outside p end k bytes e t)))

some_range : (t : Bool) (r s : BytesRange) → cond t None (Some r) ≡ Some s → r ≡ s
some_range true r s e = cc
some_range false r s e = ap (λ o. unwrap_or o r) e

-- The composed range has the keys that are the prefix and a key of the subrange.
pub subrange_behind : (p : List ℕ) (start end : Bound (List ℕ)) (r : BytesRange) (k : List ℕ) → prefix_subrange p start end ≡ Some r → AreBytes k →
    in_range r k ≡ (starts_with nat_eq k p && in_range (record { start = start; end = end }) (drop (length p) k))
unfolding begins
subrange_behind p start end r k e bytes =
    let is = some_range (is_refused (behind p start (prefix_start p)) (behind p end (prefix_end p))) (record { start = behind p start (prefix_start p); end = behind p end (prefix_end p) }) r e in
    ap (λ q. in_range q k) (sym is) ∙ bounds_behind p start end k bytes

-- The range of a prefix has the keys that begin with it.
pub range_of_prefix : (p k : List ℕ) → AreBytes k → in_range (prefix_range p) k ≡ starts_with nat_eq k p
unfolding begins
range_of_prefix p k bytes = bounds_behind p Unbounded Unbounded k bytes ∙ and-true (begins p k)
