-- The sum of an asset's balances over a set of keys, and what one more put makes of it.
use Rattle.std.proofs.Common.{◌≡◌, ℕ, ◌+◌, Bool, true, false, cond, ◌||◌, List, [], ◌∷◌, bytes_eq, refl, sym, ap, subst, ◌∙◌, arith, Ordering, Less, Equal, Greater}
use Rattle.std.specs.Ordering.{ordering_reverse, match_ordering}
use Rattle.std.specs.List.Sorted.{IsStrictlySortedBy}
use Rattle.std.specs.BTreeSet.{insert_key}
use Rattle.std.proofs.lemmas.Cmp.{nat_list_cmp_total}
use Rattle.std.proofs.lemmas.Slice.Eq.{bytes_eq-Decides}
use Rattle.slate_types.specs.Keys.{key_cmp, keys_set, among}
use Rattle.slate_types.proofs.KeyOrder.{equal_keys, turned_key, bytes_eq_above, bytes_eq_below, bytes_eq_same}
use Rattle.slate_types.proofs.KeySetLaws.{AllAbove, set_rises, set_keeps, among_above, same_set}
use Rattle.slate_stock.specs.Amounts.{Amounts, is_balance_of, put_amount, put_amounts, balances_sum}

above_all : (k x : List ℕ) (xs : List (List ℕ)) → key_cmp k x ≡ Less → AllAbove x xs → AllAbove k xs
above_all k x [] h hs = tt
above_all k x (y ∷ ys) h hs = (nat_list_cmp_total.trans k x y h hs.0, above_all k x ys h hs.1)

or_rest : (a b : Bool) → (a || b) ≡ false → (a ≡ false) × (b ≡ false)
or_rest true b h = cc
or_rest false b h = (refl, h)

-- what a key has part in the sum with
abbrev pub share : List ℕ → List ℕ → ℕ → ℕ
share asset k n = cond (is_balance_of asset k) n 0

share_none : (asset k : List ℕ) (n : ℕ) → n ≡ 0 → share asset k n ≡ 0
share_none asset k n e = by (is_balance_of asset k)
  where
    by : (b : Bool) → cond b n 0 ≡ 0
    by true = e
    by false = refl

pub sum_same : (m o : Amounts) (asset : List ℕ) (ks : List (List ℕ)) → ((k : List ℕ) → m k ≡ o k) → balances_sum m asset ks ≡ balances_sum o asset ks
sum_same m o asset [] same = refl
sum_same m o asset (k ∷ ks) same = λ i. share asset k (same k i) + sum_same m o asset ks same i

-- ---- one more key

abbrev more : Bool → ℕ → ℕ
more true n = 0
more false n = n

first_is : (k : List ℕ) (xs : List (List ℕ)) → among k (k ∷ xs) ≡ true
first_is k xs = ap (λ b. b || among k xs) (bytes_eq_same k)

not_first : (k x : List ℕ) (xs : List (List ℕ)) → bytes_eq x k ≡ false → among k (x ∷ xs) ≡ among k xs
not_first k x xs e = ap (λ b. b || among k xs) e

sum_insert : (m : Amounts) (asset k : List ℕ) (xs : List (List ℕ)) → IsStrictlySortedBy key_cmp xs → balances_sum m asset (insert_key key_cmp xs k) ≡ more (among k xs) (share asset k (m k)) + balances_sum m asset xs
unfolding IsStrictlySortedBy
sum_insert m asset k [] h = refl
sum_insert m asset k (x ∷ xs) h = by (key_cmp k x) refl (sum_insert m asset k xs h.1)
  where
    one : ℕ
    one = share asset k (m k)

    below : key_cmp k x ≡ Less → among k (x ∷ xs) ≡ false
    below e = not_first k x xs (bytes_eq_above k x e) ∙ among_above k xs (above_all k x xs e h.0)

    by : (o : Ordering) → key_cmp k x ≡ o → balances_sum m asset (insert_key key_cmp xs k) ≡ more (among k xs) one + balances_sum m asset xs →
        balances_sum m asset (match_ordering o (k ∷ x ∷ xs) (x ∷ xs) (x ∷ insert_key key_cmp xs k)) ≡ more (among k (x ∷ xs)) one + (share asset x (m x) + balances_sum m asset xs)
    by Less e later = sym (ap (λ b. more b one + (share asset x (m x) + balances_sum m asset xs)) (below e))
    by Equal e later =
        let is : among k (x ∷ xs) ≡ true = ap (λ j. among k (j ∷ xs)) (sym (equal_keys k x e)) ∙ first_is k xs in
        sym (ap (λ b. more b one + (share asset x (m x) + balances_sum m asset xs)) is ∙ omega arith)
    by Greater e later =
        let past : bytes_eq x k ≡ false = bytes_eq_below x k (turned_key x k ∙ ap ordering_reverse e) in
        let is : among k (x ∷ xs) ≡ among k xs = not_first k x xs past in
        let f : share asset x (m x) + balances_sum m asset (insert_key key_cmp xs k) ≡ more (among k xs) one + (share asset x (m x) + balances_sum m asset xs) = omega arith in
        f ∙ sym (ap (λ b. more b one + (share asset x (m x) + balances_sum m asset xs)) is)

-- ---- one more put

pub put_there : (m : Amounts) (k : List ℕ) (n : ℕ) (j : List ℕ) → bytes_eq k j ≡ true → put_amount m k n j ≡ n
put_there m k n j e = ap (λ b. cond b n (m j)) e

pub put_elsewhere : (m : Amounts) (k : List ℕ) (n : ℕ) (j : List ℕ) → bytes_eq k j ≡ false → put_amount m k n j ≡ m j
put_elsewhere m k n j e = ap (λ b. cond b n (m j)) e

pub turned_eq : (j k : List ℕ) → bytes_eq j k ≡ bytes_eq k j
turned_eq j k = by (bytes_eq j k) refl (bytes_eq k j) refl
  where
    by : (b : Bool) → bytes_eq j k ≡ b → (c : Bool) → bytes_eq k j ≡ c → bytes_eq j k ≡ bytes_eq k j
    by true e c f = ap (λ x. bytes_eq x k) ((bytes_eq-Decides j k).0 e) ∙ ap (bytes_eq k) (sym ((bytes_eq-Decides j k).0 e))
    by false e true f = ap (λ x. bytes_eq j x) ((bytes_eq-Decides k j).0 f) ∙ ap (λ x. bytes_eq x j) (sym ((bytes_eq-Decides k j).0 f))
    by false e false f = e ∙ sym f

put_absent : (m : Amounts) (asset k : List ℕ) (n : ℕ) (xs : List (List ℕ)) → among k xs ≡ false → balances_sum (put_amount m k n) asset xs ≡ balances_sum m asset xs
put_absent m asset k n [] h = refl
put_absent m asset k n (x ∷ xs) h = λ i. share asset x (same i) + put_absent m asset k n xs (or_rest (bytes_eq x k) (among k xs) h).1 i
  where
    same : put_amount m k n x ≡ m x
    same = put_elsewhere m k n x (turned_eq k x ∙ (or_rest (bytes_eq x k) (among k xs) h).0)

put_present : (m : Amounts) (asset k : List ℕ) (n : ℕ) (xs : List (List ℕ)) → IsStrictlySortedBy key_cmp xs → among k xs ≡ true →
    balances_sum (put_amount m k n) asset xs + share asset k (m k) ≡ balances_sum m asset xs + share asset k n
unfolding IsStrictlySortedBy
put_present m asset k n [] h e = cc
put_present m asset k n (x ∷ xs) h e = by (bytes_eq x k) refl (put_present m asset k n xs h.1)
  where
    by : (b : Bool) → bytes_eq x k ≡ b → (among k xs ≡ true → balances_sum (put_amount m k n) asset xs + share asset k (m k) ≡ balances_sum m asset xs + share asset k n) → balances_sum (put_amount m k n) asset (x ∷ xs) + share asset k (m k) ≡ balances_sum m asset (x ∷ xs) + share asset k n
    by true f rest_of =
        let is : x ≡ k = (bytes_eq-Decides x k).0 f in
        let rest : balances_sum (put_amount m k n) asset xs ≡ balances_sum m asset xs = put_absent m asset k n xs (among_above k xs (subst (λ j. AllAbove j xs) is h.0)) in
        let first : share asset x (put_amount m k n x) ≡ share asset k n = ap (share asset x) (put_there m k n x (turned_eq k x ∙ f)) ∙ ap (λ j. share asset j n) is in
        let old : share asset x (m x) ≡ share asset k (m k) = ap (λ j. share asset j (m j)) is in
        omega arith
    by false f rest_of =
        let later = rest_of (sym (not_first k x xs f) ∙ e) in
        let first : share asset x (put_amount m k n x) ≡ share asset x (m x) = ap (share asset x) (put_elsewhere m k n x (turned_eq k x ∙ f)) in
        omega arith

-- a map that is 0 outside some keys
abbrev pub Within : Amounts → List (List ℕ) → Type 0
Within m ks = (k : List ℕ) → among k ks ≡ false → m k ≡ 0

abbrev pub total : Amounts → List ℕ → List (List ℕ) → ℕ
total m asset ks = balances_sum m asset (keys_set ks)

pub within_put : (m : Amounts) (k : List ℕ) (n : ℕ) (ks : List (List ℕ)) → Within m ks → Within (put_amount m k n) (k ∷ ks)
within_put m k n ks h j e = put_elsewhere m k n j (or_rest (bytes_eq k j) (among j ks) e).0 ∙ h j (or_rest (bytes_eq k j) (among j ks) e).1

pub total_put : (m : Amounts) (asset k : List ℕ) (n : ℕ) (ks : List (List ℕ)) → Within m ks → total (put_amount m k n) asset (k ∷ ks) + share asset k (m k) ≡ total m asset ks + share asset k n
total_put m asset k n ks h = by (among k (keys_set ks)) refl
  where
    new : Amounts
    new = put_amount m k n

    whole : total new asset (k ∷ ks) ≡ more (among k (keys_set ks)) (share asset k (new k)) + balances_sum new asset (keys_set ks)
    whole = sum_insert new asset k (keys_set ks) (set_rises ks)

    here : share asset k (new k) ≡ share asset k n
    here = ap (share asset k) (put_there m k n k (bytes_eq_same k))

    by : (b : Bool) → among k (keys_set ks) ≡ b → total new asset (k ∷ ks) + share asset k (m k) ≡ total m asset ks + share asset k n
    by true e =
        let w : total new asset (k ∷ ks) ≡ balances_sum new asset (keys_set ks) = whole ∙ ap (λ b. more b (share asset k (new k)) + balances_sum new asset (keys_set ks)) e ∙ omega arith in
        ap (λ x. x + share asset k (m k)) w ∙ put_present m asset k n (keys_set ks) (set_rises ks) e
    by false e =
        let w : total new asset (k ∷ ks) ≡ share asset k (new k) + balances_sum new asset (keys_set ks) = whole ∙ ap (λ b. more b (share asset k (new k)) + balances_sum new asset (keys_set ks)) e in
        let same : balances_sum new asset (keys_set ks) ≡ total m asset ks = put_absent m asset k n (keys_set ks) e in
        let none : share asset k (m k) ≡ 0 = share_none asset k (m k) (h k (sym (set_keeps ks k) ∙ e)) in
        let there : share asset k (new k) ≡ share asset k n = here in
        omega arith

-- the same keys in another order, and again
pub total_same : (m : Amounts) (asset : List ℕ) (ks js : List (List ℕ)) → ((k : List ℕ) → among k ks ≡ among k js) → total m asset ks ≡ total m asset js
total_same m asset ks js same = ap (balances_sum m asset) (same_set (keys_set ks) (keys_set js) (set_rises ks) (set_rises js) (λ k. set_keeps ks k ∙ same k ∙ sym (set_keeps js k)))

-- ---- some more puts

abbrev pub pushed : List (List ℕ) → List (List ℕ × ℕ) → List (List ℕ)
pushed ks [] = ks
pushed ks (p ∷ ps) = pushed (p.0 ∷ ks) ps

abbrev pub paid : Amounts → List ℕ → List (List ℕ × ℕ) → ℕ
paid m asset [] = 0
paid m asset (p ∷ ps) = share asset p.0 (m p.0) + paid (put_amount m p.0 p.1) asset ps

abbrev pub gained : List ℕ → List (List ℕ × ℕ) → ℕ
gained asset [] = 0
gained asset (p ∷ ps) = share asset p.0 p.1 + gained asset ps

pub total_puts : (m : Amounts) (asset : List ℕ) (ps : List (List ℕ × ℕ)) (ks : List (List ℕ)) → Within m ks →
    total (put_amounts m ps) asset (pushed ks ps) + paid m asset ps ≡ total m asset ks + gained asset ps
total_puts m asset [] ks h = refl
total_puts m asset (p ∷ ps) ks h =
    let first = total_put m asset p.0 p.1 ks h in
    let later = total_puts (put_amount m p.0 p.1) asset ps (p.0 ∷ ks) (within_put m p.0 p.1 ks h) in
    omega arith

pub within_puts : (m : Amounts) (ps : List (List ℕ × ℕ)) (ks : List (List ℕ)) → Within m ks → Within (put_amounts m ps) (pushed ks ps)
within_puts m [] ks h = h
within_puts m (p ∷ ps) ks h = within_puts (put_amount m p.0 p.1) ps (p.0 ∷ ks) (within_put m p.0 p.1 ks h)
