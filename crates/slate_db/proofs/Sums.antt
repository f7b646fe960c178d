-- Sums over lists, and key by key.
use Rattle.std.proofs.Common.{◌≡◌, ℕ, ◌+◌, ◌≤◌, Bool, true, false, cond, ◌||◌, List, [], ◌∷◌, ◌++◌, map, flat_map, filter, reverse, refl, sym, ap, ◌∙◌, arith, bytes_eq}
use Rattle.std.specs.Prelude.{sum_by}
use Rattle.std.specs.List.{AllByRecursion}
use Rattle.std.specs.List.Sorted.{IsStrictlySortedBy}
use Rattle.std.proofs.lemmas.List.{reverse-append}
use Rattle.std.proofs.lemmas.List.Sums.{sum_by-cons}
use Rattle.std.proofs.lemmas.Slice.Eq.{bytes_eq-Decides}
use Rattle.slate_types.specs.declared.types.RowEntry.{RowEntry}
use Rattle.slate_types.specs.Keys.{key_cmp, among, keys_set}
use Rattle.slate_types.specs.Rows.{of_key}
use Rattle.slate_types.proofs.KeySetLaws.{among_above, set_keeps, set_rises}
use Rattle.slate_db.specs.Model.{Rows}
use Rattle.slate_types.proofs.Lists.{AllByRecursion_weaken}

-- ---- sums, from the front

abbrev pub total : {X : Type 0} → (X → ℕ) → List X → ℕ
total f [] = 0
total f (x ∷ xs) = f x + total f xs

pub total_is : {X : Type 0} (f : X → ℕ) (xs : List X) → sum_by f xs ≡ total f xs
total_is f [] = refl
total_is f (x ∷ xs) = sum_by-cons f x xs ∙ ap (λ n. f x + n) (total_is f xs)

pub total_append : {X : Type 0} (f : X → ℕ) (xs ys : List X) → total f (xs ++ ys) ≡ total f xs + total f ys
total_append f [] ys = omega arith
total_append f (x ∷ xs) ys = let h : total f (xs ++ ys) ≡ total f xs + total f ys = total_append f xs ys in omega arith

pub total_reverse : {X : Type 0} (f : X → ℕ) (xs : List X) → total f (reverse xs) ≡ total f xs
total_reverse f [] = refl
total_reverse f (x ∷ xs) =
    let h : total f (reverse xs) ≡ total f xs = total_reverse f xs in
    let e : total f (reverse xs ++ (x ∷ [])) ≡ total f (reverse xs) + total f (x ∷ []) = total_append f (reverse xs) (x ∷ []) in
    ap (total f) (reverse-append (x ∷ []) xs) ∙ e ∙ omega arith

-- the layers' rows in one list
pub total_flat : (f : RowEntry → ℕ) (layers : List Rows) → total (λ rows. total f rows) layers ≡ total f (flat_map (λ rows. rows) layers)
total_flat f [] = refl
total_flat f (rows ∷ layers) =
    let h : total (λ rows. total f rows) layers ≡ total f (flat_map (λ rows. rows) layers) = total_flat f layers in
    let e : total f (rows ++ flat_map (λ rows. rows) layers) ≡ total f rows + total f (flat_map (λ rows. rows) layers) = total_append f rows (flat_map (λ rows. rows) layers) in
    omega arith

-- ---- sums, key by key

abbrev pub by_keys : {X : Type 0} → (X → List ℕ) → (X → ℕ) → List X → List (List ℕ) → ℕ
by_keys key f xs ks = total (λ k. total f (filter (λ x. bytes_eq (key x) k) xs)) ks

-- a number at one key, and 0 at the others
abbrev alone : List ℕ → ℕ → List ℕ → ℕ
alone j n k = cond (bytes_eq j k) n 0

none_alone : (j : List ℕ) (n : ℕ) (ks : List (List ℕ)) → among j ks ≡ false → total (alone j n) ks ≡ 0
none_alone j n [] h = refl
none_alone j n (k ∷ ks) h = by (bytes_eq j k) (bytes_eq k j) refl refl h (none_alone j n ks)
  where
    by : (a b : Bool) → bytes_eq j k ≡ a → bytes_eq k j ≡ b → (b || among j ks) ≡ false → (among j ks ≡ false → total (alone j n) ks ≡ 0) → cond a n 0 + total (alone j n) ks ≡ 0
    by a true e g none rest = cc
    by true false e g none rest = let t : bytes_eq k j ≡ true = (bytes_eq-Decides k j).1 (sym ((bytes_eq-Decides j k).0 e)) in cc
    by false false e g none rest = let z : total (alone j n) ks ≡ 0 = rest none in omega arith

once_alone : (j : List ℕ) (n : ℕ) (ks : List (List ℕ)) → IsStrictlySortedBy key_cmp ks → total (alone j n) ks ≤ n
unfolding IsStrictlySortedBy
once_alone j n [] h = omega arith
once_alone j n (k ∷ ks) h = by (bytes_eq j k) refl (once_alone j n ks h.1)
  where
    by : (a : Bool) → bytes_eq j k ≡ a → total (alone j n) ks ≤ n → cond a n 0 + total (alone j n) ks ≤ n
    by true e rest = let none : total (alone j n) ks ≡ 0 = none_alone j n ks (ap (λ q. among q ks) ((bytes_eq-Decides j k).0 e) ∙ among_above k ks h.0) in omega arith
    by false e rest = omega arith

some_alone : (j : List ℕ) (n : ℕ) (ks : List (List ℕ)) → among j ks ≡ true → n ≤ total (alone j n) ks
some_alone j n [] h = cc
some_alone j n (k ∷ ks) h = by (bytes_eq j k) (bytes_eq k j) refl refl h (some_alone j n ks)
  where
    by : (a b : Bool) → bytes_eq j k ≡ a → bytes_eq k j ≡ b → (b || among j ks) ≡ true → (among j ks ≡ true → n ≤ total (alone j n) ks) → n ≤ cond a n 0 + total (alone j n) ks
    by true b e g some rest = omega arith
    by false true e g some rest = let t : bytes_eq j k ≡ true = (bytes_eq-Decides j k).1 (sym ((bytes_eq-Decides k j).0 g)) in cc
    by false false e g some rest = let z : n ≤ total (alone j n) ks = rest some in omega arith

by_keys_more : {X : Type 0} (key : X → List ℕ) (f : X → ℕ) (x : X) (xs : List X) (ks : List (List ℕ)) → by_keys key f (x ∷ xs) ks ≡ total (alone (key x) (f x)) ks + by_keys key f xs ks
by_keys_more key f x xs [] = refl
by_keys_more key f x xs (k ∷ ks) = by (bytes_eq (key x) k) (by_keys_more key f x xs ks)
  where
    by : (a : Bool) → by_keys key f (x ∷ xs) ks ≡ total (alone (key x) (f x)) ks + by_keys key f xs ks →
        total f (cond a (x ∷ filter (λ y. bytes_eq (key y) k) xs) (filter (λ y. bytes_eq (key y) k) xs)) + by_keys key f (x ∷ xs) ks
        ≡ (cond a (f x) 0 + total (alone (key x) (f x)) ks) + (total f (filter (λ y. bytes_eq (key y) k) xs) + by_keys key f xs ks)
    by true h = omega arith
    by false h = omega arith

by_keys_none : {X : Type 0} (key : X → List ℕ) (f : X → ℕ) (ks : List (List ℕ)) → by_keys key f [] ks ≡ 0
by_keys_none key f [] = refl
by_keys_none key f (k ∷ ks) = let z : by_keys key f [] ks ≡ 0 = by_keys_none key f ks in omega arith

-- keys that rise count each item once at most
pub by_keys_within : {X : Type 0} (key : X → List ℕ) (f : X → ℕ) (xs : List X) (ks : List (List ℕ)) → IsStrictlySortedBy key_cmp ks → by_keys key f xs ks ≤ total f xs
by_keys_within key f [] ks h = let e : by_keys key f [] ks ≡ 0 = by_keys_none key f ks in omega arith
by_keys_within key f (x ∷ xs) ks h =
    let e : by_keys key f (x ∷ xs) ks ≡ total (alone (key x) (f x)) ks + by_keys key f xs ks = by_keys_more key f x xs ks in
    let one : total (alone (key x) (f x)) ks ≤ f x = once_alone (key x) (f x) ks h in
    let rest : by_keys key f xs ks ≤ total f xs = by_keys_within key f xs ks h in
    omega arith

-- all keys count each
pub by_keys_all : {X : Type 0} (key : X → List ℕ) (f : X → ℕ) (xs : List X) (ks : List (List ℕ)) → AllByRecursion (λ x. among (key x) ks ≡ true) xs → total f xs ≤ by_keys key f xs ks
by_keys_all key f [] ks h = omega arith
by_keys_all key f (x ∷ xs) ks h =
    let e : by_keys key f (x ∷ xs) ks ≡ total (alone (key x) (f x)) ks + by_keys key f xs ks = by_keys_more key f x xs ks in
    let one : f x ≤ total (alone (key x) (f x)) ks = some_alone (key x) (f x) ks h.0 in
    let rest : total f xs ≤ by_keys key f xs ks = by_keys_all key f xs ks h.1 in
    omega arith

pub total_each : {X : Type 0} (f g : X → ℕ) (xs : List X) → ((x : X) → f x ≤ g x) → total f xs ≤ total g xs
total_each f g [] h = omega arith
total_each f g (x ∷ xs) h = let a : f x ≤ g x = h x in let b : total f xs ≤ total g xs = total_each f g xs h in omega arith

pub own_keys : {X : Type 0} (key : X → List ℕ) (xs : List X) → AllByRecursion (λ x. among (key x) (map key xs) ≡ true) xs
own_keys key [] = tt
own_keys {X = X} key (x ∷ xs) = (ap (λ b. b || among (key x) (map key xs)) ((bytes_eq-Decides (key x) (key x)).1 refl), AllByRecursion_weaken _ _ behind xs (own_keys key xs))
  where
    or_true : (a b : Bool) → b ≡ true → (a || b) ≡ true
    or_true true b h = refl
    or_true false b h = h

    behind : (y : X) → among (key y) (map key xs) ≡ true → (bytes_eq (key x) (key y) || among (key y) (map key xs)) ≡ true
    behind y h = or_true (bytes_eq (key x) (key y)) (among (key y) (map key xs)) h

-- rows that weigh no more key by key weigh no more
pub total_by_key : (f : RowEntry → ℕ) (xs ys : Rows) → ((k : List ℕ) → total f (of_key k xs) ≤ total f (of_key k ys)) → total f xs ≤ total f ys
total_by_key f xs ys h =
    let all : total f xs ≤ by_keys (λ r. r.key) f xs ks = by_keys_all (λ r. r.key) f xs ks among_all in
    let less : by_keys (λ r. r.key) f xs ks ≤ by_keys (λ r. r.key) f ys ks = total_each (λ k. total f (of_key k xs)) (λ k. total f (of_key k ys)) ks h in
    let within : by_keys (λ r. r.key) f ys ks ≤ total f ys = by_keys_within (λ r. r.key) f ys ks (set_rises (map (λ r. r.key) xs)) in
    omega arith
  where
    ks : List (List ℕ)
    ks = keys_set (map (λ r. r.key) xs)

    among_all : AllByRecursion (λ r. among r.key ks ≡ true) xs
    among_all = AllByRecursion_weaken _ _ (λ r e. set_keeps (map (λ r. r.key) xs) r.key ∙ e) xs (own_keys (λ r. r.key) xs)
