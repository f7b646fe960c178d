-- How many first keys pass a test, and where the partitions are that can hold a key.
use Rattle.std.proofs.Common.{◌≡◌, ℕ, zero, suc, ◌+◌, ◌-◌, ◌<◌, ◌≤◌, ◌⊎◌, inl, inr, Bool, true, false, cond, ◌&&◌, nat_lt, List, [], ◌∷◌, length, get_or, slice_get, count_by, Option, Some, None, IfSome, IsSomeAnd, unwrap_or, IsSorted, refl, sym, ap, ◌∙◌, subst, arith}
use Rattle.std.specs.Ordering.{is_lt, is_le, is_gt}
use Rattle.std.specs.declared.cmp.Ordering.{Ordering}
use Rattle.std.specs.declared.cmp.Ordering.TheVariants.{Less, Equal, Greater}
use Rattle.std.specs.declared.ops.Bound.{Bound}
use Rattle.std.specs.declared.ops.Bound.TheVariants.{Included, Excluded, Unbounded}
use Rattle.std.proofs.lemmas.Bool.{cases_lt}
use Rattle.std.proofs.lemmas.Bool.Decides.{nat_tests}
use Rattle.std.proofs.lemmas.Cmp.{nat_list_cmp_total, tied_itself, upto}
use Rattle.std.proofs.lemmas.List.Sorted.{ranks_by, sorted_far}
use Rattle.std.proofs.lemmas.List.Sums.{sum_by-cons, count_by-le-length}
use Rattle.std.proofs.lemmas.Option.{slice_get_within, slice_get-get_or, get_or_from_slice_get}
use Rattle.std.proofs.lemmas.Slice.Eq.{bytes_eq-Decides}
use Rattle.slate_types.specs.Keys.{key_cmp, key_lt, key_le, is_past_start, is_before_end, in_range, is_refused}
use Rattle.slate_types.specs.Partitions.{CanHold, IsLeast, IsGreatest, count_below, count_upto, counts, is_key, begins_at, last_of, first_including, covering_start, past, past_unless_at, covering_end}
use Rattle.slate_types.specs.Laws.{FirstIncludingIsFirst, LastIncludingIsLast}
use Rattle.slate_types.proofs.KeyOrder.{equal_keys, lt_le, not_lt, not_le, le_lt_trans, lt_irreflexive}

-- ---- the order

le_from_gt : (o : Ordering) → is_gt o ≡ false → is_le o ≡ true
le_from_gt Less h = refl
le_from_gt Equal h = refl
le_from_gt Greater h = cc

gt_from_le : (o : Ordering) → is_le o ≡ true → is_gt o ≡ false
gt_from_le Less h = refl
gt_from_le Equal h = refl
gt_from_le Greater h = cc

pub le_trans : (a b c : List ℕ) → key_le a b ≡ true → key_le b c ≡ true → key_le a c ≡ true
le_trans a b c h k = le_from_gt (key_cmp a c) (upto nat_list_cmp_total a b c (gt_from_le (key_cmp a b) h) (gt_from_le (key_cmp b c) k))

-- what is not below a key is below nothing that is not past it
apart : {A : Type 0} (a k : List ℕ) → key_le a k ≡ true → key_lt k a ≡ true → A
apart a k h l = lt_irreflexive a (le_lt_trans a k a h l)

first_true : (a b : Bool) → (a && b) ≡ true → a ≡ true
first_true true b h = refl
first_true false b h = cc

second_true : (a b : Bool) → (a && b) ≡ true → b ≡ true
second_true true b h = h
second_true false b h = cc

-- ---- tests that pass on a front of a list

abbrev pub Front : (List ℕ → Bool) → List (List ℕ) → Type 0
Front p keys = (i j : ℕ) (a b : List ℕ) → i ≤ j → slice_get keys i ≡ Some a → slice_get keys j ≡ Some b → p b ≡ true → p a ≡ true

count_cons : (p : List ℕ → Bool) (x : List ℕ) (xs : List (List ℕ)) (t : Bool) → p x ≡ t → count_by p (x ∷ xs) ≡ cond t 1 0 + count_by p xs
count_cons p x xs t e = sum_by-cons (λ y. cond (p y) 1 0) x xs ∙ ap (λ u. cond u 1 0 + count_by p xs) e

-- a front that passes, behind which nothing does, is as long as the count
pub count_is : (p : List ℕ → Bool) (keys : List (List ℕ)) (n : ℕ) → n ≤ length keys → ((i : ℕ) (a : List ℕ) → i < n → slice_get keys i ≡ Some a → p a ≡ true)
    → ((i : ℕ) (a : List ℕ) → n ≤ i → slice_get keys i ≡ Some a → p a ≡ false) → n ≡ count_by p keys
count_is p [] n within before behind = omega arith
count_is p (x ∷ xs) zero within before behind =
    let e = count_cons p x xs false (behind 0 x (omega arith) refl) in
    let none : 0 ≡ count_by p xs = count_is p xs 0 (omega arith) (λ i a h g. absurd (omega arith)) (λ i a h g. behind (suc i) a (omega arith) g) in
    omega (arith, e)
count_is p (x ∷ xs) (suc n) within before behind =
    let e = count_cons p x xs true (before 0 x (omega arith) refl) in
    let rest : n ≡ count_by p xs = count_is p xs n (omega arith) (λ i a h g. before (suc i) a (omega arith) g) (λ i a h g. behind (suc i) a (omega arith) g) in
    omega (arith, e)

behind_fails : (p : List ℕ → Bool) (keys : List (List ℕ)) → Front p keys → (i j : ℕ) (a b : List ℕ) → i ≤ j → slice_get keys i ≡ Some a → slice_get keys j ≡ Some b → p a ≡ false → p b ≡ false
behind_fails p keys front i j a b h g f e = by (p b) refl
  where
    by : (t : Bool) → p b ≡ t → p b ≡ false
    by true t = let passes : p a ≡ true = front i j a b h g f t in cc
    by false t = t

abbrev Splits : (List ℕ → Bool) → ℕ → ℕ → List ℕ → Type 0
Splits p count i a = (i < count → p a ≡ true) × (count ≤ i → p a ≡ false)

-- of a front that passes, the count is the length
pub count_splits : (p : List ℕ → Bool) (keys : List (List ℕ)) → Front p keys → (i : ℕ) (a : List ℕ) → slice_get keys i ≡ Some a → Splits p (count_by p keys) i a
count_splits p [] front i a e = cc
count_splits p (x ∷ xs) front i a e = by (p x) refl i e (λ j g. count_splits p xs tail j a g)
  where
    tail : Front p xs
    tail = λ i j a b h g f t. front (suc i) (suc j) a b (omega arith) g f t

    none : p x ≡ false → 0 ≡ count_by p xs
    none t = count_is p xs 0 (omega arith) (λ i a h g. absurd (omega arith)) (λ i a h g. behind_fails p (x ∷ xs) front 0 (suc i) x a (omega arith) refl g t)

    by : (t : Bool) → p x ≡ t → (i : ℕ) → slice_get (x ∷ xs) i ≡ Some a → ((j : ℕ) → slice_get xs j ≡ Some a → Splits p (count_by p xs) j a) → Splits p (count_by p (x ∷ xs)) i a
    by true t zero e rest = let c = count_cons p x xs true t in (λ h. cc, λ h. absurd (omega (arith, c)))
    by true t (suc i) e rest = let c = count_cons p x xs true t in (λ h. (rest i e).0 (omega (arith, c)), λ h. (rest i e).1 (omega (arith, c)))
    by false t zero e rest = let c = count_cons p x xs false t in (λ h. absurd (omega (arith, c, none t)), λ h. cc)
    by false t (suc i) e rest =
        let c = count_cons p x xs false t in
        (λ h. absurd (omega (arith, c, none t)), λ h. behind_fails p (x ∷ xs) front 0 (suc i) x a (omega arith) refl e t)

-- ---- first keys that don't fall

pub rises : (keys : List (List ℕ)) → IsSorted key_cmp keys → (i j : ℕ) (a b : List ℕ) → i ≤ j → slice_get keys i ≡ Some a → slice_get keys j ≡ Some b → key_le a b ≡ true
rises keys up i j a b h g f =
    let far = sorted_far (λ x y. is_lt (key_cmp x y)) (ranks_by nat_list_cmp_total (λ x. x)) keys up i j a h (slice_get_within keys j b f) in
    let first : get_or keys i a ≡ a = get_or_from_slice_get keys i a a g in
    let last : get_or keys j a ≡ b = get_or_from_slice_get keys j b a f in
    not_lt b a (sym (ap (λ x. key_lt x a) last) ∙ sym (ap (λ x. key_lt (get_or keys j a) x) first) ∙ far)

below_front : (keys : List (List ℕ)) → IsSorted key_cmp keys → (k : List ℕ) → Front (λ first. key_lt first k) keys
below_front keys up k i j a b h g f t = le_lt_trans a b k (rises keys up i j a b h g f) t

upto_front : (keys : List (List ℕ)) → IsSorted key_cmp keys → (k : List ℕ) → Front (λ first. key_le first k) keys
upto_front keys up k i j a b h g f t = le_trans a b k (rises keys up i j a b h g f) t

pub counts_front : (upto : Bool) (keys : List (List ℕ)) → IsSorted key_cmp keys → (k : List ℕ) → Front (λ first. counts upto first k) keys
counts_front false = below_front
counts_front true = upto_front

-- ---- the partitions of a range

start_of : (n : ℕ) (b : Bool) → unwrap_or (cond (nat_lt 0 n) (Some (n - 1)) (cond b (Some 0) None)) 0 ≡ n - 1
start_of zero true = refl
start_of zero false = refl
start_of (suc n) b = grind (arith, nat_tests)

start_is : (keys : List (List ℕ)) (a : List ℕ) → unwrap_or (first_including keys a) 0 ≡ count_below keys a - 1
start_is keys a = start_of (count_below keys a) (begins_at keys 0 a)

last_is : (n : ℕ) → 0 < n → last_of n ≡ Some (n - 1)
last_is n h = let t : nat_lt 0 n ≡ true = grind (arith, nat_tests) in ap (λ t. cond t (Some (n - 1)) None) t

past_last : (start n : ℕ) → 0 < n → past start (last_of n) ≡ n
past_last start n h = ap (past start) (last_is n h) ∙ omega arith

count_le : (keys : List (List ℕ)) → IsSorted key_cmp keys → (a b : List ℕ) → key_le a b ≡ true → count_below keys a ≤ count_upto keys b
count_le keys up a b h = by (cases_lt (count_upto keys b) (count_below keys a))
  where
    by : (count_upto keys b < count_below keys a) ⊎ (count_below keys a ≤ count_upto keys b) → count_below keys a ≤ count_upto keys b
    by (inr le) = le
    by (inl lt) =
        let i = count_upto keys b in
        let within : count_below keys a ≤ length keys = count_by-le-length (λ first. key_lt first a) keys in
        let at_i : slice_get keys i ≡ Some (get_or keys i []) = slice_get-get_or keys i [] (omega arith) in
        let passes : key_lt (get_or keys i []) a ≡ true = (count_splits (λ first. key_lt first a) keys (below_front keys up a) i (get_or keys i []) at_i).0 lt in
        let fails : key_le (get_or keys i []) b ≡ false = (count_splits (λ first. key_le first b) keys (upto_front keys up b) i (get_or keys i []) at_i).1 (omega arith) in
        let is : key_le (get_or keys i []) b ≡ true = le_trans (get_or keys i []) a b (lt_le (get_or keys i []) a passes) h in
        cc

ordered_past : (s n : ℕ) → s ≤ n → s ≤ past s (last_of n)
ordered_past s n h = by (nat_lt 0 n)
  where
    by : (t : Bool) → s ≤ past s (cond t (Some (n - 1)) None)
    by true = omega arith
    by false = omega arith

ordered_unless : (keys : List (List ℕ)) (k : List ℕ) (s n : ℕ) → s ≤ n - 1 → s ≤ past_unless_at keys k s (last_of n)
ordered_unless keys k s n h = by (nat_lt 0 n) (begins_at keys (n - 1) k) refl
  where
    by : (t b : Bool) → begins_at keys (n - 1) k ≡ b → s ≤ past_unless_at keys k s (cond t (Some (n - 1)) None)
    by false b e = omega arith
    by true true e = omega (arith, ap (λ b. cond b (n - 1) (n - 1 + 1)) e)
    by true false e = omega (arith, ap (λ b. cond b (n - 1) (n - 1 + 1)) e)

pub ordered : (keys : List (List ℕ)) → IsSorted key_cmp keys → (start end : Bound (List ℕ)) → is_refused start end ≡ false → covering_start keys start ≤ covering_end keys (covering_start keys start) end
ordered keys up Unbounded end h = omega arith
ordered keys up (Included a) Unbounded h = omega (arith, start_is keys a, count_by-le-length (λ first. key_lt first a) keys)
ordered keys up (Included a) (Included b) h = ordered_past _ _ (omega (arith, start_is keys a, count_le keys up a b (not_lt b a h)))
ordered keys up (Included a) (Excluded b) h = ordered_unless keys b _ _ (omega (arith, start_is keys a, count_le keys up a b (lt_le a b (not_le b a h))))
ordered keys up (Excluded a) Unbounded h = omega (arith, start_is keys a, count_by-le-length (λ first. key_lt first a) keys)
ordered keys up (Excluded a) (Included b) h = ordered_past _ _ (omega (arith, start_is keys a, count_le keys up a b (lt_le a b (not_le b a h))))
ordered keys up (Excluded a) (Excluded b) h = ordered_unless keys b _ _ (omega (arith, start_is keys a, count_le keys up a b (lt_le a b (not_le b a h))))

begun : (o : Option (List ℕ)) (k : List ℕ) → IsSomeAnd o (λ first. key_le first k ≡ true) → (first : List ℕ) × (o ≡ Some first) × (key_le first k ≡ true)
begun None k h = absurd h
begun (Some first) k h = (first, refl, h)

is_key_some : (o : Option (List ℕ)) (k : List ℕ) → is_key o k ≡ true → o ≡ Some k
is_key_some None k h = cc
is_key_some (Some first) k h = ap Some ((bytes_eq-Decides first k).0 h)

-- a partition whose next one begins below a key holds nothing from the key on
start_reached : (keys : List (List ℕ)) → IsSorted key_cmp keys → (i : ℕ) (k a : List ℕ) → CanHold keys i k → key_le a k ≡ true → count_below keys a - 1 ≤ i
start_reached keys up i k a hold h = by (cases_lt (i + 1) (count_below keys a))
  where
    by : (i + 1 < count_below keys a) ⊎ (count_below keys a ≤ i + 1) → count_below keys a - 1 ≤ i
    by (inr le) = omega arith
    by (inl lt) =
        let within : count_below keys a ≤ length keys = count_by-le-length (λ first. key_lt first a) keys in
        let next = get_or keys (i + 1) [] in
        let at_next : slice_get keys (i + 1) ≡ Some next = slice_get-get_or keys (i + 1) [] (omega arith) in
        let below : key_lt next a ≡ true = (count_splits (λ first. key_lt first a) keys (below_front keys up a) (i + 1) next at_next).0 lt in
        let upto : key_le k next ≡ true = subst (λ o. IfSome o (λ n. key_le k n ≡ true)) at_next hold.ends in
        apart a k h (le_lt_trans k next a upto below)

-- a partition that begins past a key holds nothing up to the key
end_reached : (keys : List (List ℕ)) → IsSorted key_cmp keys → (i : ℕ) (k b : List ℕ) → CanHold keys i k → key_le k b ≡ true → i < count_upto keys b
end_reached keys up i k b hold h = by (begun (slice_get keys i) k hold.begins) (cases_lt i (count_upto keys b))
  where
    by : (first : List ℕ) × (slice_get keys i ≡ Some first) × (key_le first k ≡ true) → (i < count_upto keys b) ⊎ (count_upto keys b ≤ i) → i < count_upto keys b
    by p (inl lt) = lt
    by (first, at_i, begins) (inr le) =
        let fails : key_le first b ≡ false = (count_splits (λ x. key_le x b) keys (upto_front keys up b) i first at_i).1 le in
        let is : key_le first b ≡ true = le_trans first k b begins h in
        cc

-- nor does one that begins at an excluded key
not_at_end : (keys : List (List ℕ)) (i : ℕ) (k b : List ℕ) → CanHold keys i k → key_lt k b ≡ true → (j : ℕ) → begins_at keys j b ≡ true → i ≡ j → ⊥
not_at_end keys i k b hold h j t e = by (begun (slice_get keys i) k hold.begins)
  where
    by : (first : List ℕ) × (slice_get keys i ≡ Some first) × (key_le first k ≡ true) → ⊥
    by (first, at_i, begins) =
        let at_b : slice_get keys j ≡ Some b = is_key_some (slice_get keys j) b t in
        let same : first ≡ b = cc in
        apart b k (sym (ap (λ x. key_le x k) same) ∙ begins) h

end_unless : (keys : List (List ℕ)) (i s n : ℕ) (k b : List ℕ) → CanHold keys i k → key_lt k b ≡ true → i < n → i < past_unless_at keys b s (last_of n)
end_unless keys i s n k b hold h within = subst (λ o. i < past_unless_at keys b s o) (sym (last_is n (omega arith))) (by (begins_at keys (n - 1) b) refl)
  where
    by : (t : Bool) → begins_at keys (n - 1) b ≡ t → i < cond t (n - 1) (n - 1 + 1)
    by false t = omega arith
    by true t = omega (arith, not_at_end keys i k b hold h (n - 1) t)

start_covers : (keys : List (List ℕ)) → IsSorted key_cmp keys → (start : Bound (List ℕ)) (i : ℕ) (k : List ℕ) → CanHold keys i k → is_past_start start k ≡ true → covering_start keys start ≤ i
start_covers keys up (Included a) i k hold h = omega (arith, start_is keys a, start_reached keys up i k a hold h)
start_covers keys up (Excluded a) i k hold h = omega (arith, start_is keys a, start_reached keys up i k a hold (lt_le a k h))
start_covers keys up Unbounded i k hold h = omega arith

end_covers : (keys : List (List ℕ)) → IsSorted key_cmp keys → (s : ℕ) (end : Bound (List ℕ)) (i : ℕ) (k : List ℕ) → CanHold keys i k → is_before_end end k ≡ true → i < covering_end keys s end
end_covers keys up s (Included b) i k hold h =
    let within = end_reached keys up i k b hold h in
    omega (arith, within, past_last s (count_upto keys b) (omega (arith, within)))
end_covers keys up s (Excluded b) i k hold h = end_unless keys i s _ k b hold h (end_reached keys up i k b hold (lt_le k b h))
end_covers keys up s Unbounded i k hold h = slice_get_within keys i (begun (slice_get keys i) k hold.begins).0 (begun (slice_get keys i) k hold.begins).1

pub covers : (keys : List (List ℕ)) → IsSorted key_cmp keys → (start end : Bound (List ℕ)) (i : ℕ) (k : List ℕ) → CanHold keys i k → in_range (record { start = start; end = end }) k ≡ true
    → (covering_start keys start ≤ i) × (i < covering_end keys (covering_start keys start) end)
covers keys up start end i k hold h =
    (start_covers keys up start i k hold (first_true (is_past_start start k) (is_before_end end k) h), end_covers keys up (covering_start keys start) end i k hold (second_true (is_past_start start k) (is_before_end end k) h))

-- ---- the first and the last partition that can hold a key

le_itself : (k : List ℕ) → key_le k k ≡ true
le_itself k = ap is_le (tied_itself nat_list_cmp_total k)

is_equal : (o : Ordering) → is_le o ≡ true → is_lt o ≡ false → o ≡ Equal
is_equal Less h k = cc
is_equal Equal h k = refl
is_equal Greater h k = cc

-- the next partition begins no earlier than a key, where none behind begins below it
next_from : (o : Option (List ℕ)) (k : List ℕ) → ((next : List ℕ) → o ≡ Some next → key_le k next ≡ true) → IfSome o (λ next. key_le k next ≡ true)
next_from None k h = tt
next_from (Some next) k h = h next refl

holds : (keys : List (List ℕ)) (i : ℕ) (k first : List ℕ) → slice_get keys i ≡ Some first → key_le first k ≡ true → ((next : List ℕ) → slice_get keys (i + 1) ≡ Some next → key_le k next ≡ true) → CanHold keys i k
holds keys i k first at_i begins ends = record {
  begins = subst (λ o. IsSomeAnd o (λ x. key_le x k ≡ true)) (sym at_i) begins;
  ends = next_from (slice_get keys (i + 1)) k ends;
}

first_below : (keys : List (List ℕ)) → IsSorted key_cmp keys → (k : List ℕ) → 0 < count_below keys k → CanHold keys (count_below keys k - 1) k
first_below keys up k h =
    let n = count_below keys k in
    let p : List ℕ → Bool = λ x. key_lt x k in
    let within : n ≤ length keys = count_by-le-length p keys in
    let first = get_or keys (n - 1) [] in
    let at_first : slice_get keys (n - 1) ≡ Some first = slice_get-get_or keys (n - 1) [] (omega arith) in
    let below : key_lt first k ≡ true = (count_splits p keys (below_front keys up k) (n - 1) first at_first).0 (omega arith) in
    holds keys (n - 1) k first at_first (lt_le first k below) (λ next e. not_lt next k ((count_splits p keys (below_front keys up k) (n - 1 + 1) next e).1 (omega arith)))

begins_first : (keys : List (List ℕ)) → IsSorted key_cmp keys → (k : List ℕ) → begins_at keys 0 k ≡ true → CanHold keys 0 k
begins_first keys up k h =
    let at_first = is_key_some (slice_get keys 0) k h in
    holds keys 0 k k at_first (le_itself k) (λ next e. rises keys up 0 (0 + 1) k next (omega arith) at_first e)

-- where none begins below a key, and the first not at it, none begins at it
none_holds : (keys : List (List ℕ)) → IsSorted key_cmp keys → (k : List ℕ) → count_below keys k ≡ 0 → begins_at keys 0 k ≡ false → (i : ℕ) → CanHold keys i k → ⊥
none_holds keys up k none apart i hold = by (begun (slice_get keys i) k hold.begins)
  where
    by : (first : List ℕ) × (slice_get keys i ≡ Some first) × (key_le first k ≡ true) → ⊥
    by (x, at_i, begins) =
        let within : i < length keys = slice_get_within keys i x at_i in
        let first = get_or keys 0 [] in
        let at_first : slice_get keys 0 ≡ Some first = slice_get-get_or keys 0 [] (omega arith) in
        let upto : key_le first k ≡ true = le_trans first x k (rises keys up 0 i first x (omega arith) at_first at_i) begins in
        let below : key_lt first k ≡ false = (count_splits (λ y. key_lt y k) keys (below_front keys up k) 0 first at_first).1 (omega arith) in
        let same : first ≡ k = equal_keys first k (is_equal (key_cmp first k) upto below) in
        let begins : begins_at keys 0 k ≡ true = ap (λ o. is_key o k) at_first ∙ (bytes_eq-Decides first k).1 same in
        cc

pub first_is_first : FirstIncludingIsFirst
first_is_first keys k up = by (nat_lt 0 (count_below keys k)) refl (begins_at keys 0 k) refl
  where
    some : nat_lt 0 (count_below keys k) ≡ true → 0 < count_below keys k
    some t = grind (arith, nat_tests)

    none : nat_lt 0 (count_below keys k) ≡ false → count_below keys k ≡ 0
    none t = grind (arith, nat_tests)

    by : (t : Bool) → nat_lt 0 (count_below keys k) ≡ t → (b : Bool) → begins_at keys 0 k ≡ b → IsLeast (λ i. CanHold keys i k) (cond t (Some (count_below keys k - 1)) (cond b (Some 0) None))
    by true t b e = (first_below keys up k (some t), λ i hold. start_reached keys up i k k hold (le_itself k))
    by false t true e = (begins_first keys up k e, λ i hold. omega arith)
    by false t false e = none_holds keys up k (none t) e

last_holds : (keys : List (List ℕ)) → IsSorted key_cmp keys → (k : List ℕ) → 0 < count_upto keys k → CanHold keys (count_upto keys k - 1) k
last_holds keys up k h =
    let n = count_upto keys k in
    let p : List ℕ → Bool = λ x. key_le x k in
    let within : n ≤ length keys = count_by-le-length p keys in
    let last = get_or keys (n - 1) [] in
    let at_last : slice_get keys (n - 1) ≡ Some last = slice_get-get_or keys (n - 1) [] (omega arith) in
    let begins : key_le last k ≡ true = (count_splits p keys (upto_front keys up k) (n - 1) last at_last).0 (omega arith) in
    holds keys (n - 1) k last at_last begins (λ next e. lt_le k next (not_le next k ((count_splits p keys (upto_front keys up k) (n - 1 + 1) next e).1 (omega arith))))

pub last_is_last : LastIncludingIsLast
last_is_last keys k up = by (nat_lt 0 (count_upto keys k)) refl
  where
    some : nat_lt 0 (count_upto keys k) ≡ true → 0 < count_upto keys k
    some t = grind (arith, nat_tests)

    none : nat_lt 0 (count_upto keys k) ≡ false → count_upto keys k ≡ 0
    none t = grind (arith, nat_tests)

    by : (t : Bool) → nat_lt 0 (count_upto keys k) ≡ t → IsGreatest (λ i. CanHold keys i k) (cond t (Some (count_upto keys k - 1)) None)
    by true t = (last_holds keys up k (some t), λ i hold. let h = end_reached keys up i k k hold (le_itself k) in omega (arith, h))
    by false t = λ i hold. let h = end_reached keys up i k k hold (le_itself k) in omega (arith, h, none t)
