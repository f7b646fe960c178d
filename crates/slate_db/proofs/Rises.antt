-- The rows of a key rise from table to table.
use Rattle.std.proofs.Common.{◌≡◌, ℕ, ◌<◌, ◌≤◌, max, Bool, true, false, cond, List, [], ◌∷◌, ◌++◌, filter, Option, Some, None, option_to_list, refl, sym, ap, subst, ◌∙◌, arith, nat_lt, append-nil}
use Rattle.std.specs.List.{AllByRecursion}
use Rattle.std.proofs.lemmas.Bool.Decides.{nat_tests}
use Rattle.std.proofs.lemmas.Grind.{flat_map-append}
use Rattle.slate_types.specs.declared.types.RowEntry.{RowEntry}
use Rattle.slate_types.specs.Fold.{Combine, fold_rows, fold_taken, taken, greatest_seq}
use Rattle.slate_types.specs.Rows.{is_base}
use Rattle.slate_txn.specs.State.{Rules, Commit}
use Rattle.slate_txn.specs.Reads.{key_rows}
use Rattle.slate_db.specs.Flushed.{IsFolded}
use Rattle.slate_db.specs.Meaning.{Meaning, combine_of}
use Rattle.slate_db.specs.Model.{Rows, versions, versions_in}
use Rattle.slate_db.specs.Sound.{above, at_most, later}
use Rattle.slate_db.specs.Layers.{AreRising}
use Rattle.slate_db.proofs.Folds.{at_most_within, fold_within, rows_of_commits}
use Rattle.slate_db.proofs.Short.{all_from_last}
use Rattle.slate_db.proofs.Versions.{all_by_versions, all_versions_in}
use Rattle.slate_types.proofs.Lists.{AllByRecursion_append, AllByRecursion_weaken, AllByRecursion_filter}

pub rising_both : (b : ℕ) (xs ys : Rows) → AreRising xs → AllByRecursion (λ r. r.seq ≤ b) xs → AreRising ys → AllByRecursion (λ r. b < r.seq) ys → AreRising (xs ++ ys)
rising_both b [] ys rise within rises newer = rises
rising_both b (x ∷ xs) ys rise within rises newer = (
  AllByRecursion_append (λ s. x.seq < s.seq) xs ys rise.0 (AllByRecursion_weaken _ _ (λ s h. let k : x.seq ≤ b = within.0 in let l : b < s.seq = h in omega arith) ys newer),
  rising_both b xs ys rise.1 within.1 rises newer,
)

pub rising_filter : (t : RowEntry → Bool) (rows : Rows) → AreRising rows → AreRising (filter t rows)
rising_filter t [] h = tt
rising_filter t (r ∷ rs) h = by (t r) (rising_filter t rs h.1)
  where
    by : (b : Bool) → AreRising (filter t rs) → AreRising (cond b (r ∷ filter t rs) (filter t rs))
    by true rest = (AllByRecursion_filter (λ s. r.seq < s.seq) t rs h.0, rest)
    by false rest = rest

one_rises : (o : Option RowEntry) → AreRising (option_to_list o)
one_rises None = tt
one_rises (Some r) = (tt, tt)

-- ---- rows above a sequence

later_above : (b : ℕ) (rows : Rows) → AllByRecursion (λ r. b < r.seq) (later b rows)
later_above b [] = tt
later_above b (r ∷ rs) = by (nat_lt b r.seq) refl (later_above b rs)
  where
    by : (t : Bool) → nat_lt b r.seq ≡ t → AllByRecursion (λ r. b < r.seq) (later b rs) → AllByRecursion (λ r. b < r.seq) (cond t (r ∷ later b rs) (later b rs))
    by true e rest = (grind (arith, nat_tests), rest)
    by false e rest = rest

pub rows_above : (r : Rules) (k : List ℕ) (n : ℕ) (cs : List Commit) → AllByRecursion (λ x. n < x.seq) (key_rows r k (above n cs))
rows_above r k n cs = subst (AllByRecursion (λ x. n < x.seq)) (rows_of_commits (λ s. nat_lt n s) r k cs) (later_above n (key_rows r k cs))

greatest_above : (b n : ℕ) (rows : Rows) → b < n → b < greatest_seq n rows
greatest_above b n [] h = h
greatest_above b n (r ∷ rs) h = greatest_above b (max n r.seq) rs (omega arith)

fold_above : (c : Combine) (b : ℕ) (rows : Rows) → AllByRecursion (λ r. b < r.seq) rows → AllByRecursion (λ r. b < r.seq) (option_to_list (fold_rows c rows))
fold_above c b rows h = by (taken rows) (all_from_last (λ r. b < r.seq) is_base rows h)
  where
    by : (rs : Rows) → AllByRecursion (λ r. b < r.seq) rs → AllByRecursion (λ r. b < r.seq) (option_to_list (fold_taken c rs))
    by [] h = tt
    by (r ∷ rs) h = (greatest_above b r.seq rs h.0, tt)

-- ---- what a flush makes

pub folded_within : (m : Meaning) (b n : ℕ) (layers : List Rows) (rows : Rows) → AllByRecursion (λ layer. AllByRecursion (λ r. r.seq ≤ n) layer) layers → IsFolded m b layers rows → AllByRecursion (λ r. r.seq ≤ n) rows
folded_within m b n layers rows h folded = all_by_versions (λ r. r.seq ≤ n) rows (λ k.
    let here : AllByRecursion (λ r. r.seq ≤ n) (versions_in k layers) = all_versions_in (λ r. r.seq ≤ n) k layers h in
    subst (AllByRecursion (λ r. r.seq ≤ n)) (sym (folded k)) (AllByRecursion_append _ _ _ (fold_within (combine_of m k) n _ (AllByRecursion_filter _ _ _ here)) (AllByRecursion_filter _ _ _ here)))

folded_above : (m : Meaning) (b n : ℕ) (k : List ℕ) (layers : List Rows) (rows : Rows) → IsFolded m b layers rows → AllByRecursion (λ r. n < r.seq) (versions_in k layers) → AllByRecursion (λ r. n < r.seq) (versions k rows)
folded_above m b n k layers rows folded h =
    subst (AllByRecursion (λ r. n < r.seq)) (sym (folded k)) (AllByRecursion_append _ _ _ (fold_above (combine_of m k) n _ (AllByRecursion_filter _ _ _ h)) (AllByRecursion_filter _ _ _ h))

pub folded_rise : (m : Meaning) (b : ℕ) (k : List ℕ) (layers : List Rows) (rows : Rows) → IsFolded m b layers rows → AreRising (versions_in k layers) → AreRising (versions k rows)
folded_rise m b k layers rows folded rise =
    let xs : Rows = versions_in k layers in
    subst (λ (ys : Rows). AreRising ys) (sym (folded k))
    (rising_both b (option_to_list (fold_rows (combine_of m k) (at_most b xs))) (later b xs) (one_rises (fold_rows (combine_of m k) (at_most b xs))) (fold_within (combine_of m k) b (at_most b xs) (at_most_within b xs))
    (rising_filter (λ r. nat_lt b r.seq) xs rise) (later_above b xs))

-- the table of a flush, behind those that were installed through n
pub tables_rise : (m : Meaning) (b n : ℕ) (k : List ℕ) (layers frozen : List Rows) (rows : Rows) → IsFolded m b frozen rows →
    AreRising (versions_in k layers) → AllByRecursion (λ layer. AllByRecursion (λ r. r.seq ≤ n) layer) layers → AreRising (versions_in k frozen) → AllByRecursion (λ r. n < r.seq) (versions_in k frozen) →
    AreRising (versions_in k (layers ++ (rows ∷ [])))
tables_rise m b n k layers frozen rows folded rise within rises newer =
    subst (λ (xs : Rows). AreRising xs) (sym (flat_map-append (versions k) layers (rows ∷ []) ∙ ap (λ xs. versions_in k layers ++ xs) (append-nil (versions k rows))))
    (rising_both n (versions_in k layers) (versions k rows) rise (all_versions_in (λ r. r.seq ≤ n) k layers within) (folded_rise m b k frozen rows folded rises) (folded_above m b n k frozen rows folded newer))
