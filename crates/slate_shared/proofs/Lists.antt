-- Beginnings of one list, places in a list, and counts of them.
use Rattle.std.proofs.Common.{◌≡◌, ◌≢◌, ◌⊎◌, ℕ, zero, suc, ◌+◌, ◌*◌, ◌<◌, ◌≤◌, ◌==◌, Bool, if◌then◌else◌, List, [], ◌∷◌, ◌++◌, length, set, Some, slice_get, refl, sym, ap, ◌∙◌, ⊎_elim, inl, inr, arith, append_assoc, length-append, eq-eqb, ne_eqb}
use Rattle.std.proofs.lemmas.List.{append-nil}
use mathlib.Core.Option.{some, some-injective, some-ne-none}
use mathlib.Core.List.{IsPrefix}
use lib.ListN.{get_elem?}
use Rattle.slate_txn.specs.declared.event.Event.{Event}
use Rattle.slate_shared.specs.declared.board.View.{View}
use Rattle.slate_shared.specs.Shared.{same, times, longer, total_parts}

module _ {A : Type 0} where
  pub prefix_self : (xs : List A) → IsPrefix xs xs
  prefix_self xs = ([], append-nil xs)

  pub prefix_more : (xs ys zs : List A) → IsPrefix xs ys → IsPrefix xs (ys ++ zs)
  prefix_more xs ys zs p = (p.0 ++ zs, sym (append_assoc xs p.0 zs) ∙ ap (λ (l : List A). l ++ zs) p.1)

  pub prefix_length : (xs ys : List A) → IsPrefix xs ys → length xs ≤ length ys
  prefix_length xs ys p = omega (arith, sym (ap length p.1) ∙ length-append xs p.0)

  pub at_below : (l : List A) (i : ℕ) (a : A) → get_elem? l i ≡ some a → i < length l
  at_below [] i a e = absurd (some-ne-none a (sym e))
  at_below (x ∷ xs) zero a e = omega arith
  at_below (x ∷ xs) (suc i) a e = let h = at_below xs i a e in omega (arith, h)

  pub at_end : (l : List A) (a b : A) (j : ℕ) → get_elem? (l ++ a ∷ []) j ≡ some b → (get_elem? l j ≡ some b) ⊎ ((j ≡ length l) × (a ≡ b))
  at_end [] a b zero e = inr (refl, some-injective a b e)
  at_end [] a b (suc j) e = absurd (some-ne-none b (sym e))
  at_end (x ∷ xs) a b zero e = inl e
  at_end (x ∷ xs) a b (suc j) e = ⊎_elim (λ t. inl t) (λ t. inr (ap suc t.0, t.1)) (at_end xs a b j e)

  pub last_or : A → List A → A
  last_or d [] = d
  last_or d (x ∷ xs) = last_or x xs

  pub last_or-snoc : (d x : A) (xs : List A) → last_or d (xs ++ x ∷ []) ≡ x
  unfolding last_or
  last_or-snoc d x [] = refl
  last_or-snoc d x (y ∷ ys) = last_or-snoc y x ys

pub get_snoc : (xs : List Event) (x y : Event) (p : ℕ) → slice_get (xs ++ x ∷ []) p ≡ Some y → (slice_get xs p ≡ Some y) ⊎ ((p ≡ length xs) × (x ≡ y))
get_snoc [] x y zero e = inr (refl, cc e)
get_snoc [] x y (suc p) e = absurd (cc e)
get_snoc (z ∷ zs) x y zero e = inl e
get_snoc (z ∷ zs) x y (suc p) e = ⊎_elim (λ t. inl t) (λ t. inr (ap suc t.0, t.1)) (get_snoc zs x y p e)

pub get_below : (xs : List Event) (y : Event) (p : ℕ) → slice_get xs p ≡ Some y → p < length xs
get_below [] y p e = absurd (cc e)
get_below (z ∷ zs) y zero e = omega arith
get_below (z ∷ zs) y (suc p) e = let h = get_below zs y p e in omega (arith, h)

pub prefix_longer : (xs ys zs : List Event) → IsPrefix xs zs → IsPrefix ys zs → IsPrefix (longer xs ys) zs
prefix_longer [] [] zs p q = p
prefix_longer (x ∷ xs) [] zs p q = p
prefix_longer [] (y ∷ ys) zs p q = q
prefix_longer (x ∷ xs) (y ∷ ys) [] p q = absurd (cc (p.1))
prefix_longer (x ∷ xs) (y ∷ ys) (z ∷ zs) p q =
    let r = prefix_longer xs ys zs (p.0, cc (p.1)) (q.0, cc (q.1)) in
    let head : x ≡ z = cc (p.1) in
    (r.0, cc (head, r.1))

pub longer_begins : (xs ys : List Event) → IsPrefix xs (longer xs ys)
longer_begins [] [] = ([], refl)
longer_begins (x ∷ xs) [] = prefix_self (x ∷ xs)
longer_begins [] (y ∷ ys) = (y ∷ ys, refl)
longer_begins (x ∷ xs) (y ∷ ys) = (let r = longer_begins xs ys in r.0, ap (λ (l : List Event). x ∷ l) (longer_begins xs ys).1)

-- where both lists begin a third, the longer begins with the second too
pub longer_covers : (xs ys zs : List Event) → IsPrefix (longer xs ys) zs → IsPrefix ys zs → IsPrefix ys (longer xs ys)
longer_covers [] [] zs p q = ([], refl)
longer_covers (x ∷ xs) [] zs p q = (x ∷ xs, refl)
longer_covers [] (y ∷ ys) zs p q = prefix_self (y ∷ ys)
longer_covers (x ∷ xs) (y ∷ ys) [] p q = absurd (cc (p.1))
longer_covers (x ∷ xs) (y ∷ ys) (z ∷ zs) p q =
    let r = longer_covers xs ys zs (p.0, cc (p.1)) (q.0, cc (q.1)) in
    let head : y ≡ x = cc (p.1, q.1) in
    (r.0, cc (head, r.1))

-- a list that the second begins with is no longer
pub longer_whole : (xs ys : List Event) → IsPrefix xs ys → longer xs ys ≡ ys
longer_whole [] [] p = refl
longer_whole (x ∷ xs) [] p = absurd (cc (p.1))
longer_whole [] (y ∷ ys) p = refl
longer_whole (x ∷ xs) (y ∷ ys) p =
    let r = longer_whole xs ys (p.0, cc (p.1)) in
    let head : x ≡ y = cc (p.1) in
    cc (head, r)

pub prefix_trans : (xs ys zs : List Event) → IsPrefix xs ys → IsPrefix ys zs → IsPrefix xs zs
prefix_trans xs ys zs p q = (p.0 ++ q.0, sym (append_assoc xs p.0 q.0) ∙ (ap (λ (l : List Event). l ++ q.0) p.1 ∙ q.1))

-- a place below the length has an event
pub get_there : (xs : List Event) (p : ℕ) → p < length xs → (e : Event) × (slice_get xs p ≡ Some e)
get_there [] p l = absurd (omega arith)
get_there (x ∷ xs) zero l = (x, refl)
get_there (x ∷ xs) (suc p) l = get_there xs p (omega arith)

pub longer_first : (xs ys : List Event) → length xs ≤ length (longer xs ys)
longer_first [] [] = omega arith
longer_first (x ∷ xs) [] = omega arith
longer_first [] (y ∷ ys) = omega arith
longer_first (x ∷ xs) (y ∷ ys) = let h = longer_first xs ys in omega (arith, h)

pub longer_second : (xs ys : List Event) → length ys ≤ length (longer xs ys)
longer_second [] [] = omega arith
longer_second (x ∷ xs) [] = omega arith
longer_second [] (y ∷ ys) = omega arith
longer_second (x ∷ xs) (y ∷ ys) = let h = longer_second xs ys in omega (arith, h)

pub same-eq : (a b : ℕ) → a ≡ b → same a b ≡ 1
same-eq a b e = ap (λ (c : Bool). if c then 1 else 0) (eq-eqb a b e)

pub same-ne : (a b : ℕ) → a ≢ b → same a b ≡ 0
same-ne a b ne = ap (λ (c : Bool). if c then 1 else 0) (ne_eqb a b ne)

pub times-append : (p : ℕ) (xs ys : List ℕ) → times p (xs ++ ys) ≡ times p xs + times p ys
times-append p [] ys = omega arith
times-append p (x ∷ xs) ys = let h = times-append p xs ys in omega (arith, h)

-- f, but x at n
abbrev pub mark : (ℕ → ℕ) → ℕ → ℕ → ℕ → ℕ
mark f n x p = if p == n then x else f p

pub mark_here : (f : ℕ → ℕ) (n x p : ℕ) → p ≡ n → mark f n x p ≡ x
mark_here f n x p e = ap (λ (c : Bool). if c then x else f p) (eq-eqb p n e)

pub mark_else : (f : ℕ → ℕ) (n x p : ℕ) → p ≢ n → mark f n x p ≡ f p
mark_else f n x p ne = ap (λ (c : Bool). if c then x else f p) (ne_eqb p n ne)

-- y where a is x, and else a
abbrev pub moved : ℕ → ℕ → ℕ → ℕ
moved x y a = if a == x then y else a

pub moved_here : (x y a : ℕ) → a ≡ x → moved x y a ≡ y
moved_here x y a e = ap (λ (c : Bool). if c then y else a) (eq-eqb a x e)

pub moved_else : (x y a : ℕ) → a ≢ x → moved x y a ≡ a
moved_else x y a ne = ap (λ (c : Bool). if c then y else a) (ne_eqb a x ne)

-- the parts of all seats, after a change of one, and with one seat more
pub total_set : (vs : List View) (i : ℕ) (v w : View) → get_elem? vs i ≡ some v → total_parts (set vs i w) + v.parts ≡ total_parts vs + w.parts
total_set [] i v w e = absurd (some-ne-none v (sym e))
total_set (x ∷ xs) zero v w e = let same_one = ap (λ (u : View). u.parts) (some-injective x v e) in omega (arith, same_one)
total_set (x ∷ xs) (suc i) v w e = let h = total_set xs i v w e in omega (arith, h)

pub total_more : (vs : List View) (w : View) → total_parts (vs ++ w ∷ []) ≡ total_parts vs + w.parts
total_more [] w = omega arith
total_more (x ∷ xs) w = let h = total_more xs w in omega (arith, h)

pub total_one : (vs : List View) (i : ℕ) (v : View) → get_elem? vs i ≡ some v → v.parts ≤ total_parts vs
total_one [] i v e = absurd (some-ne-none v (sym e))
total_one (x ∷ xs) zero v e = let same_one = ap (λ (u : View). u.parts) (some-injective x v e) in omega (arith, same_one)
total_one (x ∷ xs) (suc i) v e = let h = total_one xs i v e in omega (arith, h)

pub total_two : (vs : List View) (i j : ℕ) (v w : View) → i ≢ j → get_elem? vs i ≡ some v → get_elem? vs j ≡ some w → v.parts + w.parts ≤ total_parts vs
total_two [] i j v w apart a b = absurd (some-ne-none v (sym a))
total_two (x ∷ xs) zero zero v w apart a b = absurd (apart refl)
total_two (x ∷ xs) zero (suc j) v w apart a b = let one = ap (λ (u : View). u.parts) (some-injective x v a) in let h = total_one xs j w b in omega (arith, one, h)
total_two (x ∷ xs) (suc i) zero v w apart a b = let one = ap (λ (u : View). u.parts) (some-injective x w b) in let h = total_one xs i v a in omega (arith, one, h)
total_two (x ∷ xs) (suc i) (suc j) v w apart a b = let h = total_two xs i j v w (λ e. apart (ap suc e)) a b in omega (arith, h)

pub view_there : (vs : List View) (j : ℕ) → j < length vs → (v : View) × (get_elem? vs j ≡ some v)
view_there [] j l = absurd (omega arith)
view_there (x ∷ xs) zero l = (x, refl)
view_there (x ∷ xs) (suc j) l = view_there xs j (omega arith)

-- the word after one event more
pub twice_more : (base z : List Event) (e : Event) (n : ℕ) → n ≡ length z → z ≡ base ++ e ∷ [] → 2 * n ≡ 2 * length base + 2
twice_more base z e n is more = let l = is ∙ ap length more ∙ length-append base (e ∷ []) in omega (arith, l)
