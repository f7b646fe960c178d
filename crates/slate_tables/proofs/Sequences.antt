-- Rows in rising sequence.
use Rattle.std.proofs.Common.{◌≡◌, ℕ, ◌<◌, ◌≤◌, Bool, true, false, cond, List, [], ◌∷◌, filter, nat_lt, refl, sym, ap, subst, ◌∙◌, arith}
use Rattle.std.specs.Prelude.{◌==◌}
use Rattle.std.specs.List.{AllByRecursion}
use Rattle.std.proofs.lemmas.Bool.Decides.{nat_tests}
use Rattle.slate_types.specs.declared.types.RowEntry.{RowEntry}
use Rattle.slate_table.specs.Stored.{insert_row, by_seq}
use Rattle.slate_tables.specs.Sequences.{Climb, KeepsPlaces, SortedOnce, of_seq}

-- ---- one sequence

same_seq : (n : ℕ) → (n == n) ≡ true
same_seq n = grind (arith, nat_tests)

not_seq : (n m : ℕ) → n < m → (m == n) ≡ false
not_seq n m h = grind (arith, nat_tests, h)

none_below : (n : ℕ) (rows : List RowEntry) → AllByRecursion (λ s. n < s.seq) rows → of_seq n rows ≡ []
none_below n [] h = refl
none_below n (r ∷ rows) h = ap (λ b. cond b (r ∷ of_seq n rows) (of_seq n rows)) (not_seq n r.seq h.0) ∙ none_below n rows h.1

above_all : (n m : ℕ) (rows : List RowEntry) → n < m → AllByRecursion (λ s. m ≤ s.seq) rows → AllByRecursion (λ s. n < s.seq) rows
above_all n m [] h k = tt
above_all n m (r ∷ rows) h k = (let a = k.0 in omega (arith, h, a), above_all n m rows h k.1)

first_here : (r : RowEntry) (rows : List RowEntry) → of_seq r.seq (r ∷ rows) ≡ r ∷ of_seq r.seq rows
first_here r rows = ap (λ b. cond b (r ∷ of_seq r.seq rows) (of_seq r.seq rows)) (same_seq r.seq)

no_row : {A : Type 0} (r : RowEntry) (rows : List RowEntry) → r ∷ rows ≡ [] → A
no_row r rows h = cc

lower_missing : {A : Type 0} (x : RowEntry) (xs : List RowEntry) (y : RowEntry) (ys : List RowEntry) → x.seq < y.seq → Climb (y ∷ ys) → of_seq x.seq (x ∷ xs) ≡ of_seq x.seq (y ∷ ys) → A
lower_missing x xs y ys h up same =
    no_row x (of_seq x.seq xs) (sym (first_here x xs) ∙ same ∙ none_below x.seq (y ∷ ys) (h, above_all x.seq y.seq ys h up.0))

same_first : (x : RowEntry) (xs : List RowEntry) (y : RowEntry) (ys : List RowEntry) → x ∷ xs ≡ y ∷ ys → x ≡ y
same_first x xs y ys h = cc

same_rest : (x : RowEntry) (xs : List RowEntry) (y : RowEntry) (ys : List RowEntry) → x ∷ xs ≡ y ∷ ys → xs ≡ ys
same_rest x xs y ys h = cc

-- ---- rows that climb, by the rows of each sequence

data Side (m n : ℕ) : Type 0 where
  less : m < n → Side m n
  more : n < m → Side m n
  same : m ≡ n → Side m n

side : (m n : ℕ) → Side m n
side m n = by (nat_lt m n) (nat_lt n m) refl refl
  where
    by : (a b : Bool) → nat_lt m n ≡ a → nat_lt n m ≡ b → Side m n
    by true b e f = less (grind (arith, nat_tests, e))
    by false true e f = more (grind (arith, nat_tests, f))
    by false false e f = same (grind (arith, nat_tests, e, f))

rest_same : (x : RowEntry) (xs : List RowEntry) (y : RowEntry) (ys : List RowEntry) → x ≡ y → (n : ℕ) → of_seq n (x ∷ xs) ≡ of_seq n (y ∷ ys) → of_seq n xs ≡ of_seq n ys
rest_same x xs y ys is n h = by (x.seq == n) refl
  where
    here : of_seq n (x ∷ xs) ≡ of_seq n (x ∷ ys)
    here = h ∙ ap (λ z. of_seq n (z ∷ ys)) (sym is)

    by : (b : Bool) → (x.seq == n) ≡ b → of_seq n xs ≡ of_seq n ys
    by true e = same_rest x (of_seq n xs) x (of_seq n ys) (sym (ap (λ b. cond b (x ∷ of_seq n xs) (of_seq n xs)) e) ∙ here ∙ ap (λ b. cond b (x ∷ of_seq n ys) (of_seq n ys)) e)
    by false e = sym (ap (λ b. cond b (x ∷ of_seq n xs) (of_seq n xs)) e) ∙ here ∙ ap (λ b. cond b (x ∷ of_seq n ys) (of_seq n ys)) e

pub sorted_once : SortedOnce
sorted_once [] [] up too h = refl
sorted_once [] (y ∷ ys) up too h = no_row y (of_seq y.seq ys) (sym (first_here y ys) ∙ sym (h y.seq))
sorted_once (x ∷ xs) [] up too h = no_row x (of_seq x.seq xs) (sym (first_here x xs) ∙ h x.seq)
sorted_once (x ∷ xs) (y ∷ ys) up too h = by (λ rest. sorted_once xs ys up.1 too.1 rest) (side x.seq y.seq)
  where
    first : x.seq ≡ y.seq → x ≡ y
    first e = same_first x (of_seq x.seq xs) y (of_seq y.seq ys) (sym (first_here x xs) ∙ h x.seq ∙ ap (λ n. of_seq n (y ∷ ys)) e ∙ first_here y ys)

    by : (((n : ℕ) → of_seq n xs ≡ of_seq n ys) → xs ≡ ys) → Side x.seq y.seq → x ∷ xs ≡ y ∷ ys
    by again (less a) = lower_missing x xs y ys a too (h x.seq)
    by again (more a) = lower_missing y ys x xs a up (sym (h y.seq))
    by again (same e) =
        let is = first e in
        ap (λ z. z ∷ xs) is ∙ ap (λ zs. y ∷ zs) (again (λ n. rest_same x xs y ys is n (h n)))

-- ---- rows by sequence

insert_all : (n : ℕ) (r : RowEntry) (rows : List RowEntry) → n ≤ r.seq → AllByRecursion (λ s. n ≤ s.seq) rows → AllByRecursion (λ s. n ≤ s.seq) (insert_row r rows)
insert_all n r [] p h = (p, tt)
insert_all n r (s ∷ rows) p h = by (nat_lt s.seq r.seq) (insert_all n r rows p h.1)
  where
    by : (t : Bool) → AllByRecursion (λ s. n ≤ s.seq) (insert_row r rows) → AllByRecursion (λ s. n ≤ s.seq) (cond t (s ∷ insert_row r rows) (r ∷ s ∷ rows))
    by true rest = (h.0, rest)
    by false rest = (p, h)

from_all : (n m : ℕ) (rows : List RowEntry) → n ≤ m → AllByRecursion (λ s. m ≤ s.seq) rows → AllByRecursion (λ s. n ≤ s.seq) rows
from_all n m [] h k = tt
from_all n m (r ∷ rows) h k = (let a = k.0 in omega (arith, h, a), from_all n m rows h k.1)

insert_climbs : (r : RowEntry) (rows : List RowEntry) → Climb rows → Climb (insert_row r rows)
insert_climbs r [] h = (tt, tt)
insert_climbs r (s ∷ rows) h = by (nat_lt s.seq r.seq) refl (insert_climbs r rows h.1)
  where
    by : (t : Bool) → nat_lt s.seq r.seq ≡ t → Climb (insert_row r rows) → Climb (cond t (s ∷ insert_row r rows) (r ∷ s ∷ rows))
    by true e rest = (insert_all s.seq r rows (grind (arith, nat_tests, e)) h.0, rest)
    by false e rest =
        let up : r.seq ≤ s.seq = grind (arith, nat_tests, e) in
        ((up, from_all r.seq s.seq rows up h.0), h)

-- a row that is passed is of another sequence
passed : (n : ℕ) (r s : RowEntry) (rows : List RowEntry) → s.seq < r.seq → of_seq n (s ∷ r ∷ rows) ≡ of_seq n (r ∷ s ∷ rows)
passed n r s rows h = by (s.seq == n) (r.seq == n) refl refl
  where
    by : (a b : Bool) → (s.seq == n) ≡ a → (r.seq == n) ≡ b → cond a (s ∷ cond b (r ∷ of_seq n rows) (of_seq n rows)) (cond b (r ∷ of_seq n rows) (of_seq n rows)) ≡ cond b (r ∷ cond a (s ∷ of_seq n rows) (of_seq n rows)) (cond a (s ∷ of_seq n rows) (of_seq n rows))
    by true true e f = let no : (s.seq == n) ≡ false = grind (arith, nat_tests, h, f) in cc
    by true false e f = refl
    by false b e f = refl

onto_seq : (n : ℕ) (s : RowEntry) (xs ys : List RowEntry) → of_seq n xs ≡ of_seq n ys → of_seq n (s ∷ xs) ≡ of_seq n (s ∷ ys)
onto_seq n s xs ys h = ap (λ l. cond (s.seq == n) (s ∷ l) l) h

insert_places : (n : ℕ) (r : RowEntry) (rows : List RowEntry) → of_seq n (insert_row r rows) ≡ of_seq n (r ∷ rows)
insert_places n r [] = refl
insert_places n r (s ∷ rows) = by (nat_lt s.seq r.seq) refl (insert_places n r rows)
  where
    by : (t : Bool) → nat_lt s.seq r.seq ≡ t → of_seq n (insert_row r rows) ≡ of_seq n (r ∷ rows) → of_seq n (cond t (s ∷ insert_row r rows) (r ∷ s ∷ rows)) ≡ of_seq n (r ∷ s ∷ rows)
    by true e rest = onto_seq n s (insert_row r rows) (r ∷ rows) rest ∙ passed n r s rows (grind (arith, nat_tests, e))
    by false e rest = refl

climbs : (rows : List RowEntry) → Climb (by_seq rows)
climbs [] = tt
climbs (r ∷ rows) = insert_climbs r (by_seq rows) (climbs rows)

places : (n : ℕ) (rows : List RowEntry) → of_seq n (by_seq rows) ≡ of_seq n rows
places n [] = refl
places n (r ∷ rows) = insert_places n r (by_seq rows) ∙ onto_seq n r (by_seq rows) rows (places n rows)

pub keeps_places : KeepsPlaces
keeps_places rows = (climbs rows, λ n. places n rows)
