-- How many rows a flush stores: no more than are in memory.
use Rattle.std.proofs.Common.{◌≡◌, ℕ, ◌+◌, ◌-◌, ◌^◌, ◌<◌, ◌≤◌, Bool, true, false, cond, List, [], ◌∷◌, ◌++◌, flat_map, length, Option, Some, None, option_to_list, refl, sym, ap, subst, ◌∙◌, arith, ◌⊎◌, inl, inr, bytes_eq, nat_le, nat_lt, append-nil}
use Rattle.std.specs.Prelude.{sum_by}
use Rattle.std.proofs.lemmas.Bool.Decides.{nat_tests}
use Rattle.std.proofs.lemmas.Grind.{flat_map-append}
use Rattle.std.proofs.lemmas.List.Elements.{filter-append}
use Rattle.std.proofs.lemmas.List.Sums.{sum_by_push}
use Rattle.slate_types.specs.declared.error.SlateDBError.{SlateDBError}
use Rattle.slate_types.specs.declared.types.RowEntry.{RowEntry}
use Rattle.slate_types.specs.Fold.{Combine, fold_rows}
use Rattle.slate_types.specs.Rows.{of_key}
use Rattle.slate_block.specs.Fitting.{fits_in}
use Rattle.slate_table.specs.Table.{AreInOrder, cut, cut_from}
use Rattle.slate_txn.specs.State.{last_of}
use Rattle.slate_txn.specs.Open.{least_start}
use Rattle.slate_db.specs.Flushed.{Layout, IsFolded, HasTooLarge, TooLarge}
use Rattle.slate_db.specs.Load.{load}
use Rattle.slate_db.specs.Meaning.{Meaning, combine_of}
use Rattle.slate_db.specs.Model.{CoreModel, Rows, memory, versions, versions_in}
use Rattle.slate_db.specs.Sound.{at_most, later}
use Rattle.slate_db.proofs.Sums.{total, total_is, total_append, total_reverse, total_flat, total_by_key}

-- each row counts one
abbrev single : RowEntry → ℕ
single r = 1

count_is : (rows : Rows) → length rows ≡ total single rows
count_is [] = refl
count_is (r ∷ rs) = let h : length rs ≡ total single rs = count_is rs in omega arith

fold_load : (c : Combine) (rows : Rows) → total single (option_to_list (fold_rows c rows)) ≤ total single rows
fold_load c [] = omega arith
fold_load c (r ∷ rs) = by (fold_rows c (r ∷ rs))
  where
    by : (o : Option RowEntry) → total single (option_to_list o) ≤ total single (r ∷ rs)
    by None = omega arith
    by (Some s) = omega arith

split_load : (b : ℕ) (rows : Rows) → total single (at_most b rows) + total single (later b rows) ≡ total single rows
split_load b [] = refl
split_load b (r ∷ rs) = by (nat_le r.seq b) (nat_lt b r.seq) refl refl (split_load b rs)
  where
    by : (t u : Bool) → nat_le r.seq b ≡ t → nat_lt b r.seq ≡ u → total single (at_most b rs) + total single (later b rs) ≡ total single rs →
        total single (cond t (r ∷ at_most b rs) (at_most b rs)) + total single (cond u (r ∷ later b rs) (later b rs)) ≡ single r + total single rs
    by true false e g rest = omega arith
    by false true e g rest = omega arith
    by true true e g rest = let within : r.seq ≤ b = grind (arith, nat_tests) in let past : b < r.seq = grind (arith, nat_tests) in absurd (omega arith)
    by false false e g rest = let past : b < r.seq = grind (arith, nat_tests) in let within : r.seq ≤ b = grind (arith, nat_tests) in absurd (omega arith)

versions_load : (k : List ℕ) (layers : List Rows) → total single (versions_in k layers) ≡ total single (of_key k (flat_map (λ rows. rows) layers))
versions_load k [] = refl
versions_load k (rows ∷ layers) =
    total_append single (versions k rows) (versions_in k layers)
    ∙ (λ i. total_reverse single (of_key k rows) i + versions_load k layers i)
    ∙ sym (total_append single (of_key k rows) (of_key k (flat_map (λ rows. rows) layers)))
    ∙ ap (total single) (sym (filter-append (λ r. bytes_eq r.key k) rows (flat_map (λ rows. rows) layers)))

-- the fold of the rows up to the barrier, and the later rows
kept_rows_load : (c : Combine) (b : ℕ) (rows : Rows) → total single (option_to_list (fold_rows c (at_most b rows)) ++ later b rows) ≤ total single rows
kept_rows_load c b rows =
    let both : total single (option_to_list (fold_rows c (at_most b rows)) ++ later b rows) ≡ total single (option_to_list (fold_rows c (at_most b rows))) + total single (later b rows) = total_append single (option_to_list (fold_rows c (at_most b rows))) (later b rows) in
    let one : total single (option_to_list (fold_rows c (at_most b rows))) ≤ total single (at_most b rows) = fold_load c (at_most b rows) in
    let split : total single (at_most b rows) + total single (later b rows) ≡ total single rows = split_load b rows in
    omega arith

key_load : (m : Meaning) (b : ℕ) (layers : List Rows) (rows : Rows) → IsFolded m b layers rows → (k : List ℕ) →
    total single (of_key k rows) ≤ total single (of_key k (flat_map (λ xs. xs) layers))
key_load m b layers rows folded k =
    let less : total single (versions k rows) ≤ total single (versions_in k layers) = subst (λ xs. total single xs ≤ total single (versions_in k layers)) (sym (folded k)) (kept_rows_load (combine_of m k) b (versions_in k layers)) in
    let turned : total single (versions k rows) ≡ total single (of_key k rows) = total_reverse single (of_key k rows) in
    let is : total single (versions_in k layers) ≡ total single (of_key k (flat_map (λ xs. xs) layers)) = versions_load k layers in
    omega arith

layers_load : (layers : List Rows) → sum_by (λ (rows : Rows). length rows) layers ≡ total single (flat_map (λ rows. rows) layers)
layers_load layers = total_is (λ (rows : Rows). length rows) layers ∙ each layers ∙ total_flat single layers
  where
    each : (xs : List Rows) → total (λ (rows : Rows). length rows) xs ≡ total (λ rows. total single rows) xs
    each [] = refl
    each (rows ∷ xs) = (λ i. count_is rows i + each xs i)

folded_load : (m : Meaning) (b : ℕ) (layers : List Rows) (rows : Rows) → IsFolded m b layers rows → total single rows ≤ sum_by (λ (rows : Rows). length rows) layers
folded_load m b layers rows folded = subst (λ n. total single rows ≤ n) (sym (layers_load layers)) (total_by_key single rows (flat_map (λ xs. xs) layers) (key_load m b layers rows folded))

-- ---- what makes a table too large

few_cut_from : (size version : ℕ) (block rows : Rows) → length (cut_from size version block rows) ≤ 1 + length rows
few_cut_from size version block [] = omega arith
few_cut_from size version block (r ∷ rs) = by (fits_in size version block r) (few_cut_from size version (block ++ (r ∷ [])) rs) (few_cut_from size version (r ∷ []) rs)
  where
    by : (t : Bool) → length (cut_from size version (block ++ (r ∷ [])) rs) ≤ 1 + length rs → length (cut_from size version (r ∷ []) rs) ≤ 1 + length rs →
        length (cond t (cut_from size version (block ++ (r ∷ [])) rs) (block ∷ cut_from size version (r ∷ []) rs)) ≤ 1 + length (r ∷ rs)
    by true more next = omega arith
    by false more next = omega arith

few_cut : (size version : ℕ) (rows : Rows) → length (cut size version rows) ≤ length rows
few_cut size version [] = omega arith
few_cut size version (r ∷ rs) = let few : length (cut_from size version (r ∷ []) rs) ≤ 1 + length rs = few_cut_from size version (r ∷ []) rs in omega arith

part_load : (before : List Rows) (table : Rows) (behind : List Rows) → total single table ≤ total single (flat_map (λ rows. rows) (before ++ (table ∷ behind)))
part_load [] table behind = let all : total single (table ++ flat_map (λ rows. rows) behind) ≡ total single table + total single (flat_map (λ rows. rows) behind) = total_append single table (flat_map (λ rows. rows) behind) in omega arith
part_load (x ∷ before) table behind =
    let all : total single (x ++ flat_map (λ rows. rows) (before ++ (table ∷ behind))) ≡ total single x + total single (flat_map (λ rows. rows) (before ++ (table ∷ behind))) = total_append single x (flat_map (λ rows. rows) (before ++ (table ∷ behind))) in
    let rest : total single table ≤ total single (flat_map (λ rows. rows) (before ++ (table ∷ behind))) = part_load before table behind in
    omega arith

too_large_load : (m : Meaning) (b : ℕ) (layers : List Rows) (layout : Layout) (rows : Rows) (e : SlateDBError) → IsFolded m b layers rows → HasTooLarge layout rows e →
    2 ^ 32 - 1 < sum_by (λ (rows : Rows). length rows) layers
too_large_load m b layers layout rows e folded has =
    let large = has.large in
    let all : total single rows ≤ sum_by (λ (rows : Rows). length rows) layers = folded_load m b layers rows folded in
    let part : total single has.table ≤ total single rows = subst (λ (xs : Rows). total single has.table ≤ total single xs) has.cut.all (part_load has.before has.table has.behind) in
    let two : total single has.table ≡ total single large.first + total single large.rest = ap (total single) large.cut_off ∙ total_append single large.first large.rest in
    let blocks : 2 ^ 32 - 1 < length (cut layout.block_size layout.version large.first) = large.passes in
    let few : length (cut layout.block_size layout.version large.first) ≤ length large.first = few_cut layout.block_size layout.version large.first in
    let some : length large.first ≡ total single large.first = count_is large.first in
    omega arith

-- an empty memtable weighs nothing
pub load_before : (c : CoreModel) → 2 ^ 32 - 1 < sum_by (λ (rows : Rows). length rows) ((c.frozen ++ (c.active ∷ [])) ++ ([] ∷ [])) → 2 ^ 32 - 1 < load c
load_before c h = let e : sum_by (λ (rows : Rows). length rows) ((c.frozen ++ (c.active ∷ [])) ++ ([] ∷ [])) ≡ load c + 0 = sum_by_push (λ (rows : Rows). length rows) (c.frozen ++ (c.active ∷ [])) [] in omega arith

no_layer : (k : List ℕ) (layers : List Rows) (rows : Rows) → rows ≡ [] → versions_in k layers ≡ versions_in k (layers ++ (rows ∷ []))
no_layer k layers rows none =
    sym (append-nil (versions_in k layers)) ∙ ap (λ (xs : Rows). versions_in k layers ++ (versions k xs ++ [])) (sym none) ∙ sym (flat_map-append (versions k) layers (rows ∷ []))

-- b, layers: those of the call that stores them
pub too_large_is : (m : Meaning) (layout : Layout) (c : CoreModel) (b : ℕ) (layers : List Rows) (rows : Rows) (e : SlateDBError) → c.active ≡ [] → b ≡ least_start (last_of c.settings.start_seq c.state.commits) c.state → layers ≡ c.frozen →
    IsFolded m b layers rows → AreInOrder rows → HasTooLarge layout rows e → TooLarge m layout c e
too_large_is m layout c b layers rows e idle barrier frozen folded order large =
    (rows, moved, order, large, too_large_load m (least_start (last_of c.settings.start_seq c.state.commits) c.state) (memory c) layout rows e moved large)
  where
    moved : IsFolded m (least_start (last_of c.settings.start_seq c.state.commits) c.state) (memory c) rows
    moved k =
        let here : IsFolded m (least_start (last_of c.settings.start_seq c.state.commits) c.state) c.frozen rows = subst (λ n. IsFolded m n c.frozen rows) barrier (subst (λ ls. IsFolded m b ls rows) frozen folded) in
        here k
        ∙ ap (λ xs. option_to_list (fold_rows (combine_of m k) (at_most (least_start (last_of c.settings.start_seq c.state.commits) c.state) xs)) ++ later (least_start (last_of c.settings.start_seq c.state.commits) c.state) xs) (no_layer k c.frozen c.active idle)
