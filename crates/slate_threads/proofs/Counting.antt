-- How many commits, writes and installs a journal has, by places.
use Rattle.std.proofs.Common.{◌≡◌, ◌⊎◌, inl, inr, ⊎_elim, ℕ, zero, suc, ◌+◌, ◌<◌, ◌≤◌, ◌==◌}
use Rattle.std.proofs.Common.{Bool, true, false, if◌then◌else◌, Some, refl, sym, ap, subst, ◌∙◌}
use Rattle.std.proofs.Common.{List, [], ◌∷◌, length, slice_get, arith, eq-eqb}
use Rattle.std.specs.Prelude.{count_by}
use Rattle.std.proofs.lemmas.Bool.{eqb-true}
use Rattle.std.proofs.lemmas.List.Recursion.{is_count_by}
use Rattle.slate_txn.specs.declared.event.Event.{Event}
use Rattle.slate_shared.specs.Shared.{is_own, same, times}
use Rattle.slate_shared.proofs.Lists.{get_below, same-eq}
use Rattle.slate_threads.specs.Laws.{EachIsCounted}

one_if : Bool → ℕ
one_if b = if b then 1 else 0

owned : List Event → ℕ
owned [] = 0
owned (e ∷ es) = one_if (is_own e) + owned es

owned_is : (es : List Event) → owned es ≡ count_by is_own es
unfolding owned one_if
owned_is es = is_count_by owned is_own refl (λ x xs. by (is_own x) (owned xs)) es
  where
    by : (b : Bool) (n : ℕ) → one_if b + n ≡ if b then (1 + n) else n
    by true n = refl
    by false n = omega arith

-- how often n numbers from k on stand in a list
from_on : ℕ → ℕ → List ℕ → ℕ
from_on k zero own = 0
from_on k (suc n) own = times k own + from_on (suc k) n own

-- where each place stands once if its event has an owner, and else not at all
counts_from : (k : ℕ) (own : List ℕ) (es : List Event) →
    ((i : ℕ) (e : Event) → slice_get es i ≡ Some e → times (k + i) own ≡ one_if (is_own e)) →
    from_on k (length es) own ≡ owned es
unfolding from_on owned
counts_from k own [] h = refl
counts_from k own (e ∷ es) h =
    let at : k + 0 ≡ k = omega arith in
    let here : times k own ≡ one_if (is_own e) =
    subst (λ (n : ℕ). times n own ≡ one_if (is_own e)) at (h 0 e refl) in
    let later : from_on (suc k) (length es) own ≡ owned es =
    counts_from (suc k) own es
    (λ i x is. subst (λ (n : ℕ). times n own ≡ one_if (is_own x)) (next i) (h (suc i) x is)) in
    omega (arith, here, later)
  where
    next : (i : ℕ) → k + suc i ≡ suc k + i
    next i = omega arith

-- ---- each number of the list stands among these

none_from : (k n : ℕ) → from_on k n [] ≡ 0
unfolding from_on
none_from k zero = refl
none_from k (suc n) = let rest = none_from (suc k) n in omega (arith, rest)

same_apart : (k x : ℕ) → x < k → same k x ≡ 0
unfolding one_if
same_apart k x l = by (k == x) refl
  where
    by : (b : Bool) → (k == x) ≡ b → one_if b ≡ 0
    by true e = let is = eqb-true k x e in absurd (omega (arith, is, l))
    by false e = refl

above : (k n x : ℕ) → x < k → from_on k n (x ∷ []) ≡ 0
unfolding from_on
above k zero x l = refl
above k (suc n) x l =
    let here = same_apart k x l in
    let rest = above (suc k) n x (omega (arith, l)) in
    omega (arith, here, rest)

low_or_same : (a b : ℕ) → a ≤ b → (suc a ≤ b) ⊎ (a ≡ b)
low_or_same zero zero l = inr refl
low_or_same zero (suc b) l = inl (omega arith)
low_or_same (suc a) zero l = absurd (omega (arith, l))
low_or_same (suc a) (suc b) l =
    ⊎_elim (λ (h : suc a ≤ b). inl (omega (arith, h))) (λ (h : a ≡ b). inr (ap suc h))
    (low_or_same a b (omega (arith, l)))

differ : (a b : ℕ) → (a == b) ≡ false → a ≤ b → suc a ≤ b
differ a b e l =
    ⊎_elim (λ (h : suc a ≤ b). h)
    (λ (h : a ≡ b). let clash : true ≡ false = sym (eq-eqb a b h) ∙ e in absurd (cc clash))
    (low_or_same a b l)

once : (k n x : ℕ) → k ≤ x → x < k + n → from_on k n (x ∷ []) ≡ 1
unfolding from_on
once k zero x low high = absurd (omega (arith, low, high))
once k (suc n) x low high =
    by (k == x) refl (λ (l : suc k ≤ x). once (suc k) n x l (omega (arith, high)))
  where
    by : (b : Bool) → (k == x) ≡ b → (suc k ≤ x → from_on (suc k) n (x ∷ []) ≡ 1) →
        same k x + 0 + from_on (suc k) n (x ∷ []) ≡ 1
    by true e later =
        let is = eqb-true k x e in
        let here : same k x ≡ 1 = same-eq k x is in
        let rest = above (suc k) n x (omega (arith, is)) in
        omega (arith, here, rest)
    by false e later =
        let here : same k x ≡ 0 = ap (λ (c : Bool). if c then 1 else 0) e in
        let rest = later (differ k x e low) in
        omega (arith, here, rest)

splits : (k n x : ℕ) (own : List ℕ) →
    from_on k n (x ∷ own) ≡ from_on k n (x ∷ []) + from_on k n own
unfolding from_on
splits k zero x own = omega arith
splits k (suc n) x own = let rest = splits (suc k) n x own in omega (arith, rest)

all_counted : (n : ℕ) (own : List ℕ) → ((p : ℕ) → 0 < times p own → p < n) →
    from_on 0 n own ≡ length own
all_counted n [] h = none_from 0 n
all_counted n (x ∷ own) h =
    let one = once 0 n x (omega arith) first in
    let rest = all_counted n own (λ p mine. h p (omega (arith, mine))) in
    let parts = splits 0 n x own in
    omega (arith, one, rest, parts)
  where
    first : x < 0 + n
    first = let is = same-eq x x refl in let low = h x (omega (arith, is)) in omega (arith, low)

pub each_is_counted : EachIsCounted
unfolding one_if
each_is_counted own es whole owner =
    sym (owned_is es)
    ∙ sym (counts_from 0 own es
    (λ i e is. subst (λ (n : ℕ). times n own ≡ one_if (is_own e)) (zero_first i)
    (by i e is (is_own e) refl)))
    ∙ all_counted (length es) own
    (λ p mine. let there = (owner p mine).1 in get_below es there.0 p there.1)
  where
    zero_first : (i : ℕ) → i ≡ 0 + i
    zero_first i = omega arith

    none : (n : ℕ) → (0 < n → ⊥) → n ≡ 0
    none zero h = refl
    none (suc n) h = absurd (h (omega arith))

    clash : (i : ℕ) (e : Event) → slice_get es i ≡ Some e → is_own e ≡ false →
        ((x : Event) × (slice_get es i ≡ Some x) × (is_own x ≡ true)) → ⊥
    clash i e is mine (x, there, has_one) = cc (is, mine, there, has_one)

    by : (i : ℕ) (e : Event) → slice_get es i ≡ Some e → (b : Bool) → is_own e ≡ b →
        times i own ≡ one_if b
    by i e is true mine = whole i e is mine
    by i e is false mine = none (times i own) (λ some. clash i e is mine (owner i some).1)
