-- A set of keys rises, has the keys that it was made of, and is known by them.
use Rattle.std.proofs.Common.{◌≡◌, ℕ, Bool, true, false, ◌||◌, List, [], ◌∷◌, bytes_eq, refl, sym, ap, ◌∙◌, Ordering, Less, Equal, Greater}
use Rattle.std.specs.Ordering.{ordering_reverse, match_ordering}
use Rattle.std.specs.List.{AllByRecursion}
use Rattle.std.specs.List.Sorted.{IsStrictlySortedBy}
use Rattle.std.specs.BTreeSet.{insert_key}
use Rattle.std.proofs.lemmas.Cmp.{nat_list_cmp_total}
use Rattle.std.proofs.lemmas.Slice.Eq.{bytes_eq-Decides}
use Rattle.slate_types.specs.Keys.{key_cmp, keys_set, among}
use Rattle.slate_types.proofs.KeyOrder.{equal_keys, turned_key, bytes_eq_above, bytes_eq_same}
use Rattle.slate_types.proofs.Plain.{or_swap}

-- ---- a set rises

abbrev pub AllAbove : List ℕ → List (List ℕ) → Type 0
AllAbove k ks = AllByRecursion (λ x. key_cmp k x ≡ Less) ks

above_trans : (k x : List ℕ) (xs : List (List ℕ)) → key_cmp k x ≡ Less → AllAbove x xs → AllAbove k xs
above_trans k x [] h hs = tt
above_trans k x (y ∷ ys) h hs = (nat_list_cmp_total.trans k x y h hs.0, above_trans k x ys h hs.1)

above_insert : (k j : List ℕ) (xs : List (List ℕ)) → key_cmp k j ≡ Less → AllAbove k xs → AllAbove k (insert_key key_cmp xs j)
above_insert k j [] h hs = (h, tt)
above_insert k j (x ∷ xs) h hs = by (key_cmp j x) (above_insert k j xs h hs.1)
  where
    by : (o : Ordering) → AllAbove k (insert_key key_cmp xs j) → AllAbove k (match_ordering o (j ∷ x ∷ xs) (x ∷ xs) (x ∷ insert_key key_cmp xs j))
    by Less later = (h, hs)
    by Equal later = hs
    by Greater later = (hs.0, later)

rising_insert : (j : List ℕ) (xs : List (List ℕ)) → IsStrictlySortedBy key_cmp xs → IsStrictlySortedBy key_cmp (insert_key key_cmp xs j)
unfolding IsStrictlySortedBy
rising_insert j [] h = (tt, tt)
rising_insert j (x ∷ xs) h = by (key_cmp j x) refl (rising_insert j xs h.1)
  where
    by : (o : Ordering) → key_cmp j x ≡ o → IsStrictlySortedBy key_cmp (insert_key key_cmp xs j) → IsStrictlySortedBy key_cmp (match_ordering o (j ∷ x ∷ xs) (x ∷ xs) (x ∷ insert_key key_cmp xs j))
    by Less e later = ((e, above_trans j x xs e h.0), h)
    by Equal e later = h
    by Greater e later = (above_insert x j xs (turned_key x j ∙ ap ordering_reverse e) h.0, later)

pub set_rises : (ks : List (List ℕ)) → IsStrictlySortedBy key_cmp (keys_set ks)
unfolding IsStrictlySortedBy
set_rises [] = tt
set_rises (k ∷ ks) = rising_insert k (keys_set ks) (set_rises ks)

-- ---- it has the keys that it was made of

or_twice : (a b : Bool) → (a || (a || b)) ≡ (a || b)
or_twice true b = refl
or_twice false b = refl

among_insert : (k j : List ℕ) (xs : List (List ℕ)) → among k (insert_key key_cmp xs j) ≡ (bytes_eq j k || among k xs)
among_insert k j [] = refl
among_insert k j (x ∷ xs) = by (key_cmp j x) refl (among_insert k j xs)
  where
    by : (o : Ordering) → key_cmp j x ≡ o → among k (insert_key key_cmp xs j) ≡ (bytes_eq j k || among k xs) →
        among k (match_ordering o (j ∷ x ∷ xs) (x ∷ xs) (x ∷ insert_key key_cmp xs j)) ≡ (bytes_eq j k || (bytes_eq x k || among k xs))
    by Less e later = refl
    by Equal e later = sym (or_twice (bytes_eq x k) (among k xs)) ∙ ap (λ a. bytes_eq a k || (bytes_eq x k || among k xs)) (sym (equal_keys j x e))
    by Greater e later = ap (λ b. bytes_eq x k || b) later ∙ or_swap (bytes_eq x k) (bytes_eq j k) (among k xs)

pub set_keeps : (ks : List (List ℕ)) (k : List ℕ) → among k (keys_set ks) ≡ among k ks
set_keeps [] k = refl
set_keeps (j ∷ js) k = among_insert k j (keys_set js) ∙ ap (λ b. bytes_eq j k || b) (set_keeps js k)

-- ---- rising lists with the same keys are the same

pub among_above : (k : List ℕ) (xs : List (List ℕ)) → AllAbove k xs → among k xs ≡ false
among_above k [] h = refl
among_above k (x ∷ xs) h = λ i. bytes_eq_above k x h.0 i || among_above k xs h.1 i

among_first : (k : List ℕ) (ks : List (List ℕ)) → among k (k ∷ ks) ≡ true
among_first k ks = ap (λ b. b || among k ks) (bytes_eq_same k)

no_lower : {A : Type 0} (x y : List ℕ) (xs ys : List (List ℕ)) → key_cmp x y ≡ Less → AllAbove y ys → among x (x ∷ xs) ≡ among x (y ∷ ys) → A
no_lower x y xs ys e above same =
    let none : among x (y ∷ ys) ≡ false = among_above x (y ∷ ys) (e, above_trans x y ys e above) in
    let is : true ≡ false = sym (among_first x xs) ∙ same ∙ none in
    cc

pub same_set : (xs ys : List (List ℕ)) → IsStrictlySortedBy key_cmp xs → IsStrictlySortedBy key_cmp ys → ((k : List ℕ) → among k xs ≡ among k ys) → xs ≡ ys
unfolding IsStrictlySortedBy
same_set [] [] h g same = refl
same_set [] (y ∷ ys) h g same = let is : false ≡ true = same y ∙ among_first y ys in cc
same_set (x ∷ xs) [] h g same = let is : true ≡ false = sym (among_first x xs) ∙ same x in cc
same_set (x ∷ xs) (y ∷ ys) h g same = by (key_cmp x y) refl (λ e. same_set xs ys h.1 g.1 (rest e))
  where
    rest : x ≡ y → (k : List ℕ) → among k xs ≡ among k ys
    rest e k = each (bytes_eq x k) refl
      where
        each : (b : Bool) → bytes_eq x k ≡ b → among k xs ≡ among k ys
        each true f =
            let is : x ≡ k = (bytes_eq-Decides x k).0 f in
            ap (λ j. among j xs) (sym is) ∙ among_above x xs h.0 ∙ sym (among_above y ys g.0) ∙ ap (λ j. among j ys) (sym e ∙ is)
        each false f =
            sym (ap (λ b. b || among k xs) f) ∙ same k ∙ ap (λ j. bytes_eq j k || among k ys) (sym e) ∙ ap (λ b. b || among k ys) f

    by : (o : Ordering) → key_cmp x y ≡ o → (x ≡ y → xs ≡ ys) → (x ∷ xs) ≡ (y ∷ ys)
    by Less e later = no_lower x y xs ys e g.0 (same x)
    by Equal e later = let is : x ≡ y = equal_keys x y e in λ i. is i ∷ later is i
    by Greater e later = no_lower y x ys xs (turned_key y x ∙ ap ordering_reverse e) h.0 (sym (same y))
