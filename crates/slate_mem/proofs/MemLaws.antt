-- Rows of a commit go in front of the older ones of their keys, and the newest rows of a key are those that a fold takes.
use Rattle.std.proofs.Common.{◌≡◌, ℕ, ◌<◌, Bool, true, false, cond, ◌||◌, List, [], ◌∷◌, ◌++◌, map, reverse, bytes_eq, refl, sym, ap, subst, ◌∙◌, arith, Ordering, Less, Equal, Greater}
use Rattle.std.specs.Ordering.{ordering_then, match_ordering, nat_cmp}
use Rattle.std.specs.List.{list_any, AllByRecursion}
use Rattle.std.specs.List.Sorted.{IsStrictlySortedBy}
use Rattle.std.proofs.lemmas.Cmp.{nat_list_cmp_total, tied_itself}
use Rattle.std.proofs.lemmas.Bool.Decides.{nat_tests}
use Rattle.std.proofs.lemmas.Grind.{reverse_onto}
use Rattle.std.proofs.lemmas.Slice.Eq.{bytes_eq-Decides}
use Rattle.slate_types.specs.declared.types.RowEntry.{RowEntry}
use Rattle.slate_types.specs.Keys.{key_cmp}
use Rattle.slate_types.specs.Rows.{sequenced, sequenced_cmp, is_base, of_key}
use Rattle.slate_types.specs.Fold.{Combine, from_last, fold_taken, fold_rows}
use Rattle.slate_types.proofs.KeyOrder.{bytes_eq_above}
use Rattle.slate_types.proofs.RowLaws.{sequenced_same}
use Rattle.slate_types.proofs.KeySetLaws.{AllAbove}
use Rattle.slate_mem.specs.Table.{put_row, put_rows, to_base, up_to, newest}
use Rattle.slate_mem.proofs.BatchLaws.{from_last_again}
use Rattle.slate_mem.proofs.KeptLaws.{from_last_passes}
use Rattle.std.proofs.lemmas.List.Folds.{list_any-append}

-- ---- one row more

kept_first : (k : List ℕ) (row : RowEntry) (rows : List RowEntry) → bytes_eq row.key k ≡ true → of_key k (row ∷ rows) ≡ row ∷ of_key k rows
kept_first k row rows h = ap (λ b. cond b (row ∷ of_key k rows) (of_key k rows)) h

dropped_first : (k : List ℕ) (row : RowEntry) (rows : List RowEntry) → bytes_eq row.key k ≡ false → of_key k (row ∷ rows) ≡ of_key k rows
dropped_first k row rows h = ap (λ b. cond b (row ∷ of_key k rows) (of_key k rows)) h

lower : (m n : ℕ) → m < n → nat_cmp m n ≡ Less
lower m n h = grind (arith, nat_tests)

-- a newer row of a key stands before an older one
stands_before : (row r : RowEntry) → row.key ≡ r.key → r.seq < row.seq → sequenced_cmp (sequenced row) (sequenced r) ≡ Less
stands_before row r same h =
    ap (λ k. ordering_then (key_cmp k r.key) (nat_cmp r.seq row.seq)) same
    ∙ ap (λ o. ordering_then o (nat_cmp r.seq row.seq)) (tied_itself nat_list_cmp_total r.key)
    ∙ lower r.seq row.seq h

Below : List ℕ → ℕ → List RowEntry → Type 0
Below k n rows = AllByRecursion (λ r. r.seq < n) (of_key k rows)

put_newest : (k : List ℕ) (row : RowEntry) (rows : List RowEntry) → bytes_eq row.key k ≡ true → Below k row.seq rows → of_key k (put_row rows row) ≡ row ∷ of_key k rows
unfolding Below
put_newest k row [] is below = kept_first k row [] is
put_newest k row (r ∷ rs) is below = by (sequenced_cmp (sequenced row) (sequenced r)) refl (bytes_eq r.key k) refl below (put_newest k row rs is)
  where
    same : bytes_eq r.key k ≡ true → row.key ≡ r.key
    same h = (bytes_eq-Decides row.key k).0 is ∙ sym ((bytes_eq-Decides r.key k).0 h)

    by : (o : Ordering) → sequenced_cmp (sequenced row) (sequenced r) ≡ o → (b : Bool) → bytes_eq r.key k ≡ b → AllByRecursion (λ s. s.seq < row.seq) (cond b (r ∷ of_key k rs) (of_key k rs)) →
        (AllByRecursion (λ s. s.seq < row.seq) (of_key k rs) → of_key k (put_row rs row) ≡ row ∷ of_key k rs) →
        of_key k (match_ordering o (row ∷ r ∷ rs) (row ∷ rs) (r ∷ put_row rs row)) ≡ row ∷ of_key k (r ∷ rs)
    by Less e b h below later = kept_first k row (r ∷ rs) is
    by Equal e true h below later = let less : sequenced_cmp (sequenced row) (sequenced r) ≡ Less = stands_before row r (same h) below.0 in cc
    by Equal e false h below later =
        let key : row.key ≡ r.key = ap (λ q. q.user_key) (sequenced_same (sequenced row) (sequenced r) e) in
        let other : true ≡ false = sym is ∙ ap (λ x. bytes_eq x k) key ∙ h in
        cc
    by Greater e true h below later = let less : sequenced_cmp (sequenced row) (sequenced r) ≡ Less = stands_before row r (same h) below.0 in cc
    by Greater e false h below later = dropped_first k r (put_row rs row) h ∙ later below ∙ ap (λ xs. row ∷ xs) (sym (dropped_first k r rs h))

put_other : (k : List ℕ) (row : RowEntry) (rows : List RowEntry) → bytes_eq row.key k ≡ false → of_key k (put_row rows row) ≡ of_key k rows
put_other k row [] is = dropped_first k row [] is
put_other k row (r ∷ rs) is = by (sequenced_cmp (sequenced row) (sequenced r)) refl (put_other k row rs is)
  where
    by : (o : Ordering) → sequenced_cmp (sequenced row) (sequenced r) ≡ o → of_key k (put_row rs row) ≡ of_key k rs → of_key k (match_ordering o (row ∷ r ∷ rs) (row ∷ rs) (r ∷ put_row rs row)) ≡ of_key k (r ∷ rs)
    by Less e later = dropped_first k row (r ∷ rs) is
    by Equal e later =
        let key : row.key ≡ r.key = ap (λ q. q.user_key) (sequenced_same (sequenced row) (sequenced r) e) in
        dropped_first k row rs is ∙ sym (dropped_first k r rs (ap (λ x. bytes_eq x k) (sym key) ∙ is))
    by Greater e later = ap (λ xs. cond (bytes_eq r.key k) (r ∷ xs) xs) later

-- ---- the rows of a commit

none_above : (k : List ℕ) (rows : List RowEntry) → AllAbove k (map (λ r. r.key) rows) → of_key k rows ≡ []
none_above k [] h = refl
none_above k (r ∷ rs) h = dropped_first k r rs (bytes_eq_above k r.key h.0) ∙ none_above k rs h.1

puts_above : (k : List ℕ) (rows more : List RowEntry) → AllAbove k (map (λ r. r.key) more) → of_key k (put_rows rows more) ≡ of_key k rows
puts_above k rows [] h = refl
puts_above k rows (m ∷ more) h = puts_above k (put_row rows m) more h.1 ∙ put_other k m rows (bytes_eq_above k m.key h.0)

pub puts_in_front : (k : List ℕ) (n : ℕ) (rows more : List RowEntry) → AllByRecursion (λ r. r.seq < n) (of_key k rows) → AllByRecursion (λ r. r.seq ≡ n) more → IsStrictlySortedBy key_cmp (map (λ r. r.key) more) →
    of_key k (put_rows rows more) ≡ of_key k more ++ of_key k rows
unfolding Below IsStrictlySortedBy
puts_in_front k n rows [] below seqs rising = refl
puts_in_front k n rows (m ∷ more) below seqs rising =
    by (bytes_eq m.key k) refl (λ h. puts_in_front k n (put_row rows m) more h seqs.1 rising.1)
  where
    by : (b : Bool) → bytes_eq m.key k ≡ b → (AllByRecursion (λ r. r.seq < n) (of_key k (put_row rows m)) → of_key k (put_rows (put_row rows m) more) ≡ of_key k more ++ of_key k (put_row rows m)) →
        of_key k (put_rows (put_row rows m) more) ≡ of_key k (m ∷ more) ++ of_key k rows
    by true is later =
        let above : AllAbove k (map (λ r. r.key) more) = subst (λ x. AllAbove x (map (λ r. r.key) more)) ((bytes_eq-Decides m.key k).0 is) rising.0 in
        puts_above k (put_row rows m) more above
        ∙ put_newest k m rows is (subst (λ x. Below k x rows) (sym seqs.0) below)
        ∙ sym (ap (λ xs. xs ++ of_key k rows) (kept_first k m more is ∙ ap (λ xs. m ∷ xs) (none_above k more above)))
    by false is later =
        later (subst (λ xs. AllByRecursion (λ r. r.seq < n) xs) (sym (put_other k m rows is)) below)
        ∙ (λ i. sym (dropped_first k m more is) i ++ put_other k m rows is i)

-- ---- what a fold takes

any_last_not : {A : Type 0} (test : A → Bool) (xs : List A) (x : A) → test x ≡ false → list_any test (xs ++ (x ∷ [])) ≡ list_any test xs
any_last_not test [] x h = ap (λ b. b || false) h
any_last_not test (y ∷ ys) x h = ap (λ b. test y || b) (any_last_not test ys x h)

pub from_last_stays : {A : Type 0} (test : A → Bool) (xs : List A) (x : A) → test x ≡ false → from_last test (xs ++ (x ∷ [])) ≡ from_last test xs ++ (x ∷ [])
from_last_stays test [] x h = refl
from_last_stays test (y ∷ ys) x h = by (list_any test (ys ++ (x ∷ []))) (list_any test ys) (any_last_not test ys x h) (from_last_stays test ys x h)
  where
    by : (b c : Bool) → b ≡ c → from_last test (ys ++ (x ∷ [])) ≡ from_last test ys ++ (x ∷ []) →
        cond b (from_last test (ys ++ (x ∷ []))) (y ∷ (ys ++ (x ∷ []))) ≡ cond c (from_last test ys) (y ∷ ys) ++ (x ∷ [])
    by true true same later = later
    by true false same later = cc
    by false true same later = cc
    by false false same later = refl

pub taken_newest : (rows : List RowEntry) → reverse (to_base rows) ≡ from_last is_base (reverse rows)
taken_newest [] = refl
taken_newest (r ∷ rs) = by (is_base r) refl (taken_newest rs)
  where
    by : (b : Bool) → is_base r ≡ b → reverse (to_base rs) ≡ from_last is_base (reverse rs) → reverse (cond b (r ∷ []) (r ∷ to_base rs)) ≡ from_last is_base (reverse (r ∷ rs))
    by true is later = sym (from_last_passes is_base (reverse rs) r is) ∙ ap (from_last is_base) (sym (reverse_onto rs r []))
    by false is later =
        reverse_onto (to_base rs) r [] ∙ ap (λ xs. xs ++ (r ∷ [])) later ∙ sym (from_last_stays is_base (reverse rs) r is) ∙ ap (from_last is_base) (sym (reverse_onto rs r []))

any_taken : {A : Type 0} (test : A → Bool) (xs : List A) → list_any test (from_last test xs) ≡ list_any test xs
any_taken test [] = refl
any_taken test (x ∷ xs) = by (list_any test xs) refl (any_taken test xs)
  where
    by : (b : Bool) → list_any test xs ≡ b → list_any test (from_last test xs) ≡ list_any test xs → list_any test (cond b (from_last test xs) (x ∷ xs)) ≡ (test x || list_any test xs)
    by true e later = later ∙ e ∙ sym (or_true (test x) (list_any test xs) e)
      where
        or_true : (a b : Bool) → b ≡ true → (a || b) ≡ true
        or_true true b h = refl
        or_true false b h = h
    by false e later = refl

none_taken : {A : Type 0} (test : A → Bool) (xs : List A) → list_any test xs ≡ false → from_last test xs ≡ xs
none_taken test [] h = refl
none_taken test (x ∷ xs) h = by (test x) (list_any test xs) refl h
  where
    by : (a b : Bool) → list_any test xs ≡ b → (a || b) ≡ false → cond (list_any test xs) (from_last test xs) (x ∷ xs) ≡ x ∷ xs
    by true b e h = cc
    by false true e h = cc
    by false false e h = ap (λ c. cond c (from_last test xs) (x ∷ xs)) e

from_last_behind : {A : Type 0} (test : A → Bool) (xs ys : List A) → from_last test (xs ++ from_last test ys) ≡ from_last test (xs ++ ys)
from_last_behind test [] ys = from_last_again test ys
from_last_behind test (x ∷ xs) ys = by (list_any test (xs ++ ys)) refl (from_last_behind test xs ys)
  where
    same : list_any test (xs ++ from_last test ys) ≡ list_any test (xs ++ ys)
    same = list_any-append test xs (from_last test ys) ∙ ap (λ b. list_any test xs || b) (any_taken test ys) ∙ sym (list_any-append test xs ys)

    by : (b : Bool) → list_any test (xs ++ ys) ≡ b → from_last test (xs ++ from_last test ys) ≡ from_last test (xs ++ ys) →
        from_last test (x ∷ (xs ++ from_last test ys)) ≡ cond b (from_last test (xs ++ ys)) (x ∷ (xs ++ ys))
    by true e later = ap (λ b. cond b (from_last test (xs ++ from_last test ys)) (x ∷ (xs ++ from_last test ys))) (same ∙ e) ∙ later
    by false e later =
        ap (λ b. cond b (from_last test (xs ++ from_last test ys)) (x ∷ (xs ++ from_last test ys))) (same ∙ e)
        ∙ ap (λ zs. x ∷ (xs ++ zs)) (none_taken test ys (second (list_any test xs) (list_any test ys) (sym (list_any-append test xs ys) ∙ e)))
      where
        second : (a b : Bool) → (a || b) ≡ false → b ≡ false
        second true b h = cc
        second false b h = h

-- whatever stands behind, a fold of the newest rows is a fold of all
pub newest_folds : (c : Combine) (k : List ℕ) (n : ℕ) (older rows : List RowEntry) → fold_rows c (older ++ reverse (newest k n rows)) ≡ fold_rows c (older ++ reverse (up_to k n rows))
newest_folds c k n older rows =
    ap (λ xs. fold_rows c (older ++ xs)) (taken_newest (up_to k n rows)) ∙ ap (fold_taken c) (from_last_behind is_base older (reverse (up_to k n rows)))
