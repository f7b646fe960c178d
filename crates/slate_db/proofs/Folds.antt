-- Rows of commits, and their folds.
use Rattle.std.proofs.Common.{◌≡◌, ℕ, ◌≤◌, max, Bool, true, false, cond, List, [], ◌∷◌, map, filter, Option, Some, None, option_to_list, ℤ, refl, ap, ◌∙◌, arith, nat_le}
use Rattle.std.specs.List.{AllByRecursion, list_any, cons_option}
use Rattle.std.proofs.lemmas.Bool.Decides.{nat_tests}
use Rattle.slate_types.specs.declared.types.RowEntry.{RowEntry}
use Rattle.slate_types.specs.Rows.{is_base}
use Rattle.slate_types.specs.Fold.{Combine, fold_rows, fold_taken, taken, greatest_seq}
use Rattle.slate_mem.specs.declared.WriteOp.{WriteOp}
use Rattle.slate_mem.specs.Batch.{Ops, kept}
use Rattle.slate_mem.specs.RowOf.{op_row, row_of}
use Rattle.slate_txn.specs.State.{Rules, Commit, combine_at}
use Rattle.slate_txn.specs.Reads.{key_rows}
use Rattle.slate_db.specs.Sound.{at_most}

-- ---- the sequence of a fold

taken_within : (b : ℕ) (rows : List RowEntry) → AllByRecursion (λ r. r.seq ≤ b) rows → AllByRecursion (λ r. r.seq ≤ b) (taken rows)
taken_within b [] h = tt
taken_within b (r ∷ rs) h = by (list_any is_base rs) (taken_within b rs h.1)
  where
    by : (t : Bool) → AllByRecursion (λ r. r.seq ≤ b) (taken rs) → AllByRecursion (λ r. r.seq ≤ b) (cond t (taken rs) (r ∷ rs))
    by true rest = rest
    by false rest = h

greatest_within : (b n : ℕ) (rows : List RowEntry) → n ≤ b → AllByRecursion (λ r. r.seq ≤ b) rows → greatest_seq n rows ≤ b
greatest_within b n [] h hs = h
greatest_within b n (r ∷ rs) h hs = greatest_within b (max n r.seq) rs (let k : r.seq ≤ b = hs.0 in omega arith) hs.1

-- the fold of rows up to a sequence is none or a row up to it
pub fold_within : (c : Combine) (b : ℕ) (rows : List RowEntry) → AllByRecursion (λ r. r.seq ≤ b) rows → AllByRecursion (λ r. r.seq ≤ b) (option_to_list (fold_rows c rows))
fold_within c b rows h = by (taken rows) (taken_within b rows h)
  where
    by : (rs : List RowEntry) → AllByRecursion (λ r. r.seq ≤ b) rs → AllByRecursion (λ r. r.seq ≤ b) (option_to_list (fold_taken c rs))
    by [] h = tt
    by (r ∷ rs) h = (greatest_within b r.seq rs h.0 h.1, tt)

pub none_pass : {X : Type 0} (t : X → Bool) (xs : List X) → AllByRecursion (λ x. t x ≡ false) xs → filter t xs ≡ []
none_pass t [] h = refl
none_pass t (x ∷ xs) h = rw h.0 (none_pass t xs h.1)

pub at_most_all : (n : ℕ) (rows : List RowEntry) → AllByRecursion (λ r. r.seq ≤ n) rows → at_most n rows ≡ rows
at_most_all n [] h = refl
at_most_all n (r ∷ rs) h = let k : r.seq ≤ n = h.0 in let e : nat_le r.seq n ≡ true = grind (arith, nat_tests) in rw e (ap (λ ys. r ∷ ys) (at_most_all n rs h.1))

pub at_most_within : (n : ℕ) (rows : List RowEntry) → AllByRecursion (λ r. r.seq ≤ n) (at_most n rows)
at_most_within n [] = tt
at_most_within n (r ∷ rs) = by (nat_le r.seq n) refl (at_most_within n rs)
  where
    by : (t : Bool) → nat_le r.seq n ≡ t → AllByRecursion (λ r. r.seq ≤ n) (at_most n rs) → AllByRecursion (λ r. r.seq ≤ n) (cond t (r ∷ at_most n rs) (at_most n rs))
    by true e rest = (grind (arith, nat_tests), rest)
    by false e rest = rest

pub wider : (a b : ℕ) → a ≤ b → (rows : List RowEntry) → AllByRecursion (λ r. r.seq ≤ a) rows → AllByRecursion (λ r. r.seq ≤ b) rows
wider a b h [] hs = tt
wider a b h (r ∷ rs) hs = (let k : r.seq ≤ a = hs.0 in omega arith, wider a b h rs hs.1)

-- ---- the row of a commit has the commit's sequence

same_seqs : (k : List ℕ) (n : ℕ) (d : Option ℕ) (now : ℤ) (ops : List WriteOp) → AllByRecursion (λ r. r.seq ≡ n) (map (op_row k n d now) ops)
same_seqs k n d now [] = tt
same_seqs k n d now (o ∷ os) = (refl, same_seqs k n d now os)

taken_all : (P : RowEntry → Type 0) (rows : List RowEntry) → AllByRecursion P rows → AllByRecursion P (taken rows)
taken_all P [] h = tt
taken_all P (r ∷ rs) h = by (list_any is_base rs) (taken_all P rs h.1)
  where
    by : (t : Bool) → AllByRecursion P (taken rs) → AllByRecursion P (cond t (taken rs) (r ∷ rs))
    by true rest = rest
    by false rest = h

greatest_same : (n m : ℕ) (rows : List RowEntry) → m ≡ n → AllByRecursion (λ r. r.seq ≡ n) rows → greatest_seq m rows ≡ n
greatest_same n m [] e h = e
greatest_same n m (r ∷ rs) e h = greatest_same n (max m r.seq) rs (let k : r.seq ≡ n = h.0 in omega arith) h.1

pub row_of_seq : (c : Combine) (d : Option ℕ) (n : ℕ) (now : ℤ) (ops : Ops) (k : List ℕ) → AllByRecursion (λ r. r.seq ≡ n) (option_to_list (row_of c d n now ops k))
row_of_seq c d n now ops k = by (taken (map (op_row k n d now) (kept ops k))) (taken_all (λ r. r.seq ≡ n) _ (same_seqs k n d now (kept ops k)))
  where
    by : (rs : List RowEntry) → AllByRecursion (λ r. r.seq ≡ n) rs → AllByRecursion (λ r. r.seq ≡ n) (option_to_list (fold_taken c rs))
    by [] h = tt
    by (r ∷ rs) h = (greatest_same n r.seq rs h.0 h.1, tt)

-- a test of sequences passes a commit's row where it passes the commit
one_commit : (t : ℕ → Bool) (n : ℕ) (o : Option RowEntry) (rows : List RowEntry) → AllByRecursion (λ r. r.seq ≡ n) (option_to_list o) →
    filter (λ r. t r.seq) (cons_option o rows) ≡ cond (t n) (cons_option o (filter (λ r. t r.seq) rows)) (filter (λ r. t r.seq) rows)
one_commit t n None rows h = by (t n)
  where
    by : (b : Bool) → filter (λ r. t r.seq) rows ≡ cond b (filter (λ r. t r.seq) rows) (filter (λ r. t r.seq) rows)
    by true = refl
    by false = refl
one_commit t n (Some r) rows h = ap (λ s. cond (t s) (r ∷ filter (λ r. t r.seq) rows) (filter (λ r. t r.seq) rows)) h.0

pub rows_of_commits : (t : ℕ → Bool) (r : Rules) (k : List ℕ) (cs : List Commit) → filter (λ x. t x.seq) (key_rows r k cs) ≡ key_rows r k (filter (λ c. t c.seq) cs)
rows_of_commits t r k [] = refl
rows_of_commits t r k (c ∷ cs) =
    one_commit t c.seq (row_of (combine_at r k) r.default_millis c.seq c.now c.ops k) (key_rows r k cs) (row_of_seq (combine_at r k) r.default_millis c.seq c.now c.ops k)
    ∙ ap (λ rows. cond (t c.seq) (cons_option (row_of (combine_at r k) r.default_millis c.seq c.now c.ops k) rows) rows) (rows_of_commits t r k cs)
    ∙ by (t c.seq)
  where
    by : (b : Bool) → cond b (cons_option (row_of (combine_at r k) r.default_millis c.seq c.now c.ops k) (key_rows r k (filter (λ c. t c.seq) cs))) (key_rows r k (filter (λ c. t c.seq) cs))
        ≡ key_rows r k (cond b (c ∷ filter (λ c. t c.seq) cs) (filter (λ c. t c.seq) cs))
    by true = refl
    by false = refl
