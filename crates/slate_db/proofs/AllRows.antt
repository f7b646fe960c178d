-- The fold of all rows, and what a flush does to it.
use Rattle.std.proofs.Common.{◌≡◌, ℕ, ◌≤◌, List, [], ◌++◌, option_to_list, sym, ap, subst, ◌∙◌, nat_le, nat_lt, append_assoc, append-nil}
use Rattle.std.specs.List.{AllByRecursion}
use Rattle.std.proofs.lemmas.List.Elements.{filter-append, filter_map-append}
use Rattle.slate_types.specs.declared.types.RowEntry.{RowEntry}
use Rattle.slate_types.specs.Fold.{Combine, fold_rows, AreShort, IsLawful, KeepsShort}
use Rattle.slate_types.proofs.FoldLaws.{fold_middle}
use Rattle.slate_txn.specs.State.{Rules, Commit, combine_at}
use Rattle.slate_txn.specs.Reads.{up_to, key_rows}
use Rattle.slate_db.specs.Sound.{at_most, later, above}
use Rattle.slate_db.specs.Log.{Rising}
use Rattle.slate_db.proofs.Folds.{fold_within, rows_of_commits, at_most_all, at_most_within, wider}
use Rattle.slate_db.proofs.Split.{split_at, rising_above}
use Rattle.slate_db.proofs.Short.{commits_short, AreShortOps}
use Rattle.slate_types.proofs.Lists.{AllByRecursion_append, AllByRecursion_filter}

-- Rows of a key before a sequence of which the installed ones fold as their commits do, and then the rows of the commits above.
-- `older` are those of the tables, `rows` those in memory, and `own` a reader's own.
pub all_fold : (r : Rules) (k : List ℕ) → IsLawful (combine_at r k) → KeepsShort (combine_at r k) → (start i n : ℕ) (cs : List Commit) (older rows own : List RowEntry) →
    Rising start cs → AllByRecursion (λ x. AreShortOps x.ops) cs → AreShort older → AreShort own →
    rows ≡ key_rows r k (above i cs) → fold_rows (combine_at r k) (at_most n older) ≡ fold_rows (combine_at r k) (key_rows r k (up_to n (up_to i cs))) →
    fold_rows (combine_at r k) (at_most n older ++ (at_most n rows ++ own)) ≡ fold_rows (combine_at r k) (key_rows r k (up_to n cs) ++ own)
all_fold r k law keeps start i n cs older rows own rising short short_older short_own tied folds =
    ap (λ xs. fold_rows c (at_most n older ++ (xs ++ own))) newer
    ∙ fold_middle c law keeps [] (at_most n older) rest tt (AllByRecursion_filter _ _ older short_older) short_rest
    ∙ ap (λ o. fold_rows c (option_to_list o ++ rest)) folds
    ∙ sym (fold_middle c law keeps [] (key_rows r k (up_to n (up_to i cs))) rest tt (commits_short r k keeps _ (AllByRecursion_filter _ _ _ (AllByRecursion_filter _ _ cs short))) short_rest)
    ∙ ap (fold_rows c) (sym (append_assoc (key_rows r k (up_to n (up_to i cs))) (key_rows r k (up_to n (above i cs))) own))
    ∙ ap (λ xs. fold_rows c (xs ++ own)) (sym (filter_map-append _ (up_to n (up_to i cs)) (up_to n (above i cs))))
    ∙ ap (λ ds. fold_rows c (key_rows r k ds ++ own)) (sym (filter-append (λ c. nat_le c.seq n) (up_to i cs) (above i cs)) ∙ ap (up_to n) (split_at start i cs rising))
  where
    c : Combine
    c = combine_at r k

    newer : at_most n rows ≡ key_rows r k (up_to n (above i cs))
    newer = ap (at_most n) tied ∙ rows_of_commits (λ s. nat_le s n) r k (above i cs)

    rest : List RowEntry
    rest = key_rows r k (up_to n (above i cs)) ++ own

    short_rest : AreShort (key_rows r k (up_to n (above i cs)) ++ own)
    short_rest = AllByRecursion_append _ _ _ (commits_short r k keeps _ (AllByRecursion_filter _ _ _ (AllByRecursion_filter _ _ cs short))) short_own

-- Rows of commits, cut at a barrier, are as before from there on.
cut_rows : (r : Rules) (k : List ℕ) (start b n : ℕ) (cs : List Commit) → b ≤ n → Rising start cs →
    at_most b (key_rows r k cs) ++ at_most n (later b (key_rows r k cs)) ≡ at_most n (key_rows r k cs)
cut_rows r k start b n cs h rising =
    ap (λ xs. xs ++ at_most n (later b rows)) (sym (at_most_all n (at_most b rows) (wider b n h _ (at_most_within b rows))))
    ∙ sym (filter-append (λ r. nat_le r.seq n) (at_most b rows) (later b rows))
    ∙ ap (at_most n) ((λ j. rows_of_commits (λ s. nat_le s b) r k cs j ++ rows_of_commits (λ s. nat_lt b s) r k cs j)
    ∙ sym (filter_map-append _ (up_to b cs) (above b cs))
    ∙ ap (key_rows r k) (split_at start b cs rising))
  where
    rows : List RowEntry
    rows = key_rows r k cs

-- A flush: the rows of a key up to the barrier are replaced by their fold.
pub flush_fold : (r : Rules) (k : List ℕ) → IsLawful (combine_at r k) → KeepsShort (combine_at r k) → (start i b n : ℕ) (cs : List Commit) (older rows : List RowEntry) →
    b ≤ n → Rising start cs → AllByRecursion (λ x. AreShortOps x.ops) cs → AreShort older →
    rows ≡ key_rows r k (above i cs) → fold_rows (combine_at r k) (at_most n older) ≡ fold_rows (combine_at r k) (key_rows r k (up_to n (up_to i cs))) →
    fold_rows (combine_at r k) (at_most n older ++ at_most n (option_to_list (fold_rows (combine_at r k) (at_most b rows)) ++ later b rows)) ≡ fold_rows (combine_at r k) (key_rows r k (up_to n cs))
flush_fold r k law keeps start i b n cs older rows h rising short short_older tied folds =
    ap (λ xs. fold_rows c (at_most n older ++ xs)) (filter-append (λ r. nat_le r.seq n) folded (later b rows) ∙ ap (λ xs. xs ++ at_most n (later b rows)) kept)
    ∙ sym (fold_middle c law keeps (at_most n older) (at_most b rows) (at_most n (later b rows)) (AllByRecursion_filter _ _ older short_older) (AllByRecursion_filter _ _ rows short_rows) (AllByRecursion_filter _ _ _ (AllByRecursion_filter _ _ rows short_rows)))
    ∙ ap (λ xs. fold_rows c (at_most n older ++ xs)) (cut ∙ sym (append-nil (at_most n rows)))
    ∙ all_fold r k law keeps start i n cs older rows [] rising short short_older tt tied folds
    ∙ ap (fold_rows c) (append-nil (key_rows r k (up_to n cs)))
  where
    c : Combine
    c = combine_at r k

    folded : List RowEntry
    folded = option_to_list (fold_rows (combine_at r k) (at_most b rows))

    kept : at_most n (option_to_list (fold_rows (combine_at r k) (at_most b rows))) ≡ option_to_list (fold_rows (combine_at r k) (at_most b rows))
    kept = at_most_all n _ (wider b n h _ (fold_within (combine_at r k) b (at_most b rows) (at_most_within b rows)))

    short_rows : AreShort rows
    short_rows = subst (λ (xs : List RowEntry). AreShort xs) (sym tied) (commits_short r k keeps _ (AllByRecursion_filter _ _ cs short))

    cut : at_most b rows ++ at_most n (later b rows) ≡ at_most n rows
    cut = ap (λ xs. at_most b xs ++ at_most n (later b xs)) tied ∙ cut_rows r k start b n (above i cs) h (rising_above start i cs rising) ∙ ap (at_most n) (sym tied)
