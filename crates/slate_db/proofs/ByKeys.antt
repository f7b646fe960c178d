-- Rows in the order of their keys are known by the rows of each key.
use Rattle.std.proofs.Common.{◌≡◌, ℕ, Bool, true, false, cond, List, [], ◌∷◌, ◌++◌, ◌||◌, Option, Some, None, option_to_list, filter_map, reverse, filter, bytes_eq, refl, sym, ap, subst, ◌∙◌, Ordering, Less, Equal, Greater, append-nil}
use Rattle.std.specs.Ordering.{is_lt, ordering_reverse}
use Rattle.std.specs.List.{AllByRecursion, cons_option}
use Rattle.std.specs.List.Sorted.{IsStrictlySortedBy}
use Rattle.std.proofs.lemmas.List.{reverse-append}
use Rattle.std.proofs.lemmas.List.Elements.{filter-append, filter_map-append}
use Rattle.std.proofs.lemmas.Slice.Eq.{bytes_eq-Decides}
use Rattle.slate_types.specs.declared.types.RowEntry.{RowEntry}
use Rattle.slate_types.specs.declared.iter.IterationOrder.{IterationOrder}
use Rattle.slate_types.specs.declared.iter.IterationOrder.TheVariants.{Ascending, Descending}
use Rattle.slate_types.specs.Iteration.{comes_before, NoneBefore, IsInOrder, in_order}
use Rattle.slate_types.specs.Keys.{key_cmp, key_lt, among}
use Rattle.slate_types.specs.Rows.{of_key}
use Rattle.slate_types.proofs.KeyOrder.{bytes_eq_same, equal_keys, turned_key, lt_irreflexive}
use Rattle.slate_types.proofs.KeySetLaws.{AllAbove, among_above}
use Rattle.slate_types.proofs.Lists.{AllByRecursion_reverse}
use Rattle.slate_txn.proofs.PartLaws.{filter_reverse}

-- ---- keys in an order

apart : (a b : List ℕ) → key_lt a b ≡ true → bytes_eq b a ≡ false
apart a b h = by (bytes_eq b a) refl
  where
    by : (t : Bool) → bytes_eq b a ≡ t → t ≡ false
    by true e = lt_irreflexive a (subst (λ (x : List ℕ). key_lt a x ≡ true) ((bytes_eq-Decides b a).0 e) h)
    by false e = refl

apart_above : (a b : List ℕ) → key_lt a b ≡ true → bytes_eq a b ≡ false
apart_above a b h = by (bytes_eq a b) refl
  where
    by : (t : Bool) → bytes_eq a b ≡ t → t ≡ false
    by true e = lt_irreflexive a (subst (λ (x : List ℕ). key_lt a x ≡ true) (sym ((bytes_eq-Decides a b).0 e)) h)
    by false e = refl

apart_in : (order : IterationOrder) (a b : List ℕ) → comes_before order a b ≡ true → bytes_eq b a ≡ false
apart_in Ascending a b h = apart a b h
apart_in Descending a b h = apart_above b a h

-- one of two keys comes before the other, or they are the same
one_first : {A : Type 0} (order : IterationOrder) (a b : List ℕ) → (comes_before order a b ≡ true → A) → (a ≡ b → A) → (comes_before order b a ≡ true → A) → A
one_first {A} order a b less same more = by order (key_cmp a b) refl less more
  where
    back : (o : Ordering) → key_cmp a b ≡ o → key_cmp b a ≡ ordering_reverse o
    back o e = turned_key b a ∙ ap ordering_reverse e

    by : (order : IterationOrder) (o : Ordering) → key_cmp a b ≡ o → (comes_before order a b ≡ true → A) → (comes_before order b a ≡ true → A) → A
    by Ascending Less e less more = less (ap is_lt e)
    by Ascending Equal e less more = same (equal_keys a b e)
    by Ascending Greater e less more = more (ap is_lt (back Greater e))
    by Descending Less e less more = more (ap is_lt e)
    by Descending Equal e less more = same (equal_keys a b e)
    by Descending Greater e less more = less (ap is_lt (back Greater e))

-- ---- rows of one key

first_row : (x : RowEntry) (xs : List RowEntry) → of_key x.key (x ∷ xs) ≡ x ∷ of_key x.key xs
first_row x xs = ap (λ b. cond b (x ∷ of_key x.key xs) (of_key x.key xs)) (bytes_eq_same x.key)

not_first : (k : List ℕ) (y : RowEntry) (ys : List RowEntry) → bytes_eq y.key k ≡ false → of_key k (y ∷ ys) ≡ of_key k ys
not_first k y ys e = ap (λ b. cond b (y ∷ of_key k ys) (of_key k ys)) e

none_of : (order : IterationOrder) (k s : List ℕ) (rows : List RowEntry) → comes_before order k s ≡ true → NoneBefore order s rows → of_key k rows ≡ []
none_of order k s [] e h = refl
none_of order k s (r ∷ rows) e h = by (bytes_eq r.key k) refl (none_of order k s rows e h.1)
  where
    by : (t : Bool) → bytes_eq r.key k ≡ t → of_key k rows ≡ [] → cond t (r ∷ of_key k rows) (of_key k rows) ≡ []
    by true f later = let no : comes_before order k s ≡ false = subst (λ (x : List ℕ). comes_before order x s ≡ false) ((bytes_eq-Decides r.key k).0 f) h.0 in cc
    by false f later = later

-- a row whose key comes before all others
no_first : {A : Type 0} (order : IterationOrder) (x y : RowEntry) (xs ys : List RowEntry) → comes_before order x.key y.key ≡ true → NoneBefore order y.key ys → of_key x.key (x ∷ xs) ≡ of_key x.key (y ∷ ys) → A
no_first order x y xs ys e none same =
    let clash : x ∷ of_key x.key xs ≡ [] = sym (first_row x xs) ∙ same ∙ not_first x.key y ys (apart_in order x.key y.key e) ∙ none_of order x.key y.key ys e none in
    cc

first_same : (x y : RowEntry) (xs ys : List RowEntry) → x.key ≡ y.key → of_key x.key (x ∷ xs) ≡ of_key x.key (y ∷ ys) → x ≡ y
first_same x y xs ys e same =
    let both : x ∷ of_key x.key xs ≡ y ∷ of_key y.key ys = sym (first_row x xs) ∙ same ∙ ap (λ k. of_key k (y ∷ ys)) e ∙ first_row y ys in
    cc

rest_same : (x y : RowEntry) (us vs : List RowEntry) (s t : Bool) → s ≡ t → cond s (x ∷ us) us ≡ cond t (y ∷ vs) vs → us ≡ vs
rest_same x y us vs true true e h = cc
rest_same x y us vs true false e h = cc
rest_same x y us vs false true e h = cc
rest_same x y us vs false false e h = h

pub known_by_keys : (order : IterationOrder) (xs ys : List RowEntry) → IsInOrder order xs → IsInOrder order ys → ((k : List ℕ) → of_key k xs ≡ of_key k ys) → xs ≡ ys
known_by_keys order [] [] h g same = refl
known_by_keys order [] (y ∷ ys) h g same = let clash : [] ≡ y ∷ of_key y.key ys = same y.key ∙ first_row y ys in cc
known_by_keys order (x ∷ xs) [] h g same = let clash : x ∷ of_key x.key xs ≡ [] = sym (first_row x xs) ∙ same x.key in cc
known_by_keys order (x ∷ xs) (y ∷ ys) h g same =
    one_first order x.key y.key
    (λ e. no_first order x y xs ys e g.0 (same x.key))
    (λ e. λ i. first_same x y xs ys e (same x.key) i ∷ known_by_keys order xs ys h.1 g.1 (rest e) i)
    (λ e. no_first order y x ys xs e h.0 (sym (same y.key)))
  where
    rest : x.key ≡ y.key → (k : List ℕ) → of_key k xs ≡ of_key k ys
    rest e k = rest_same x y (of_key k xs) (of_key k ys) (bytes_eq x.key k) (bytes_eq y.key k) (ap (λ j. bytes_eq j k) e) (same k)

-- ---- a row for some keys each

turned_given : {X Y : Type 0} (f : X → Option Y) (xs : List X) → filter_map f (reverse xs) ≡ reverse (filter_map f xs)
turned_given f [] = refl
turned_given {Y = Y} f (x ∷ xs) =
    ap (filter_map f) (reverse-append (x ∷ []) xs) ∙ filter_map-append f (reverse xs) (x ∷ []) ∙ ap (λ ys. ys ++ cons_option (f x) []) (turned_given f xs) ∙ by (f x)
  where
    by : (o : Option Y) → reverse (filter_map f xs) ++ cons_option o [] ≡ reverse (cons_option o (filter_map f xs))
    by (Some y) = sym (reverse-append (y ∷ []) (filter_map f xs))
    by None = append-nil (reverse (filter_map f xs))

-- the row that is given for a key has it
abbrev pub GivesOwn : (List ℕ → Option RowEntry) → Type 0
GivesOwn f = (k : List ℕ) → AllByRecursion (λ r. r.key ≡ k) (option_to_list (f k))

one_given : (j k : List ℕ) (o : Option RowEntry) (rows : List RowEntry) → AllByRecursion (λ r. r.key ≡ j) (option_to_list o) →
    of_key k (cons_option o rows) ≡ cond (bytes_eq j k) (option_to_list o ++ of_key k rows) (of_key k rows)
one_given j k None rows h = by (bytes_eq j k)
  where
    by : (b : Bool) → of_key k rows ≡ cond b (of_key k rows) (of_key k rows)
    by true = refl
    by false = refl
one_given j k (Some r) rows h = ap (λ x. cond (bytes_eq x k) (r ∷ of_key k rows) (of_key k rows)) h.0

given_of : (f : List ℕ → Option RowEntry) → GivesOwn f → (k : List ℕ) (ks : List (List ℕ)) → IsStrictlySortedBy key_cmp ks → of_key k (filter_map f ks) ≡ cond (among k ks) (option_to_list (f k)) []
unfolding IsStrictlySortedBy
given_of f own k [] h = refl
given_of f own k (j ∷ js) h =
    one_given j k (f j) (filter_map f js) (own j)
    ∙ ap (λ xs. cond (bytes_eq j k) (option_to_list (f j) ++ xs) xs) (given_of f own k js h.1)
    ∙ by (bytes_eq j k) refl
  where
    rest : List RowEntry
    rest = cond (among k js) (option_to_list (f k)) []

    by : (b : Bool) → bytes_eq j k ≡ b → cond b (option_to_list (f j) ++ rest) rest ≡ cond (b || among k js) (option_to_list (f k)) []
    by true e =
        let is : j ≡ k = (bytes_eq-Decides j k).0 e in
        let none : among k js ≡ false = ap (λ a. among a js) (sym is) ∙ among_above j js h.0 in
        ap (λ b. option_to_list (f j) ++ cond b (option_to_list (f k)) []) none ∙ append-nil (option_to_list (f j)) ∙ ap (λ a. option_to_list (f a)) is
    by false e = refl

none_given : (f : List ℕ → Option RowEntry) → GivesOwn f → (j : List ℕ) (js : List (List ℕ)) → AllAbove j js → NoneBefore Ascending j (filter_map f js)
none_given f own j [] h = tt
none_given f own j (i ∷ is) h = by (f i) (own i) (none_given f own j is h.1)
  where
    by : (o : Option RowEntry) → AllByRecursion (λ r. r.key ≡ i) (option_to_list o) → NoneBefore Ascending j (filter_map f is) → NoneBefore Ascending j (cons_option o (filter_map f is))
    by None has later = later
    by (Some r) has later = (ap (λ k. key_lt k j) has.0 ∙ ap is_lt (turned_key i j ∙ ap ordering_reverse h.0), later)

given_ascends : (f : List ℕ → Option RowEntry) → GivesOwn f → (ks : List (List ℕ)) → IsStrictlySortedBy key_cmp ks → IsInOrder Ascending (filter_map f ks)
unfolding IsStrictlySortedBy
given_ascends f own [] h = tt
given_ascends f own (j ∷ js) h = by (f j) (own j) (given_ascends f own js h.1)
  where
    by : (o : Option RowEntry) → AllByRecursion (λ r. r.key ≡ j) (option_to_list o) → IsInOrder Ascending (filter_map f js) → IsInOrder Ascending (cons_option o (filter_map f js))
    by None has later = later
    by (Some r) has later = (subst (λ (k : List ℕ). NoneBefore Ascending k (filter_map f js)) (sym has.0) (none_given f own j js h.0), later)

-- ---- rows in order, turned round

none_above : (k : List ℕ) (rows : List RowEntry) → NoneBefore Ascending k rows → AllByRecursion (λ r. key_lt r.key k ≡ false) rows
none_above k [] h = tt
none_above k (r ∷ rows) h = (h.0, none_above k rows h.1)

none_last : (k : List ℕ) (ys : List RowEntry) (x : RowEntry) → NoneBefore Descending k ys → key_lt k x.key ≡ false → NoneBefore Descending k (ys ++ (x ∷ []))
none_last k [] x h e = (e, tt)
none_last k (y ∷ ys) x h e = (h.0, none_last k ys x h.1 e)

last_in_order : (ys : List RowEntry) (x : RowEntry) → IsInOrder Descending ys → AllByRecursion (λ y. key_lt y.key x.key ≡ false) ys → IsInOrder Descending (ys ++ (x ∷ []))
last_in_order [] x h hs = (tt, tt)
last_in_order (y ∷ ys) x h hs = (none_last y.key ys x h.0 hs.0, last_in_order ys x h.1 hs.1)

descends : (rows : List RowEntry) → IsInOrder Ascending rows → IsInOrder Descending (reverse rows)
descends [] h = tt
descends (x ∷ xs) h =
    subst (IsInOrder Descending) (sym (reverse-append (x ∷ []) xs))
    (last_in_order (reverse xs) x (descends xs h.1) (AllByRecursion_reverse (λ y. key_lt y.key x.key ≡ false) xs (none_above x.key xs h.0)))

-- ---- the rows of a rising list of keys, in an order

pub given_in_order : (order : IterationOrder) (f : List ℕ → Option RowEntry) → GivesOwn f → (ks : List (List ℕ)) → IsStrictlySortedBy key_cmp ks → IsInOrder order (filter_map f (in_order order ks))
given_in_order Ascending f own ks h = given_ascends f own ks h
given_in_order Descending f own ks h = subst (IsInOrder Descending) (sym (turned_given f ks)) (descends (filter_map f ks) (given_ascends f own ks h))

pub given_of_key : (order : IterationOrder) (f : List ℕ → Option RowEntry) → GivesOwn f → (k : List ℕ) (ks : List (List ℕ)) → IsStrictlySortedBy key_cmp ks →
    of_key k (filter_map f (in_order order ks)) ≡ cond (among k ks) (option_to_list (f k)) []
given_of_key Ascending f own k ks h = given_of f own k ks h
given_of_key Descending f own k ks h =
    ap (of_key k) (turned_given f ks) ∙ filter_reverse (λ r. bytes_eq r.key k) (filter_map f ks) ∙ ap reverse (given_of f own k ks h) ∙ by (among k ks) (f k)
  where
    by : (b : Bool) (o : Option RowEntry) → reverse (cond b (option_to_list o) []) ≡ cond b (option_to_list o) []
    by false o = refl
    by true None = refl
    by true (Some r) = refl
