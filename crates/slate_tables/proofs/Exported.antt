-- What the tables of a store export.
use Rattle.std.proofs.Common.{◌≡◌, ℕ, Bool, true, false, not, cond, ◌&&◌, ◌||◌, List, [], ◌∷◌, ◌++◌, filter, map, reverse, Option, Some, None, option_to_list, option_and_then, bytes_eq, refl, sym, ap, subst, ◌∙◌}
use Rattle.std.specs.List.{AllByRecursion, list_any}
use Rattle.std.proofs.lemmas.List.{reverse-append}
use Rattle.std.proofs.lemmas.Slice.Eq.{bytes_eq-Decides}
use Rattle.slate_types.specs.declared.bytes_range.BytesRange.{BytesRange}
use Rattle.slate_types.specs.declared.iter.IterationOrder.{IterationOrder}
use Rattle.slate_types.specs.declared.types.RowEntry.{RowEntry}
use Rattle.slate_types.specs.declared.types.ValueDeletable.{ValueDeletable}
use Rattle.slate_types.specs.declared.types.ValueDeletable.TheVariants.{Value, Merge, Tombstone}
use Rattle.slate_types.specs.Fold.{Combine, fold_rows, fold_taken, from_last, shown, taken}
use Rattle.slate_types.specs.Iteration.{IsInOrder, NoneBefore, comes_before}
use Rattle.slate_types.specs.Keys.{in_range}
use Rattle.slate_types.specs.Rows.{hide_tombstone, is_base, is_deletion, is_operand, is_tombstone, of_key}
use Rattle.slate_merge.specs.DecidedKeys.{decided_key, upto_base}
use Rattle.slate_merge.specs.FoldedLaws.{folded_in_order}
use Rattle.slate_merge.specs.Folding.{fold_group, folded}
use Rattle.slate_merge.specs.Merge.{merged}
use Rattle.slate_merge.specs.MergeLaws.{merged_in_order}
use Rattle.slate_table.specs.Stored.{by_seq}
use Rattle.slate_table.specs.Table.{AreInOrder}
use Rattle.slate_types.proofs.IterationLaws.{in_order_filtered}
use Rattle.slate_tables.specs.Exported.{ExportIsStored, KeysCome, exported, is_live, row_with_key, table_rows}
use Rattle.slate_tables.proofs.Merged.{AtMostOne, filter_both, merged_by_seq, none_merged}
use Rattle.slate_tables.proofs.Folds.{folded_of_key}
use Rattle.slate_tables.proofs.Together.{one_before}

-- ---- the rows up to the first base are those that are taken

any_open : (xs : List RowEntry) (x : RowEntry) → is_base x ≡ false → list_any is_base (xs ++ (x ∷ [])) ≡ list_any is_base xs
any_open [] x e = ap (λ b. b || false) e
any_open (y ∷ ys) x e = ap (λ b. is_base y || b) (any_open ys x e)

any_base : (xs : List RowEntry) (x : RowEntry) → is_base x ≡ true → list_any is_base (xs ++ (x ∷ [])) ≡ true
any_base [] x e = ap (λ b. b || false) e
any_base (y ∷ ys) x e = ap (λ b. is_base y || b) (any_base ys x e) ∙ or_true (is_base y)
  where
    or_true : (b : Bool) → (b || true) ≡ true
    or_true true = refl
    or_true false = refl

open_last : (xs : List RowEntry) (x : RowEntry) → is_base x ≡ false → taken (xs ++ (x ∷ [])) ≡ taken xs ++ (x ∷ [])
open_last [] x e = refl
open_last (y ∷ ys) x e = ap (λ b. cond b (taken (ys ++ (x ∷ []))) (y ∷ (ys ++ (x ∷ [])))) (any_open ys x e) ∙ by (list_any is_base ys) (open_last ys x e)
  where
    by : (b : Bool) → taken (ys ++ (x ∷ [])) ≡ taken ys ++ (x ∷ []) → cond b (taken (ys ++ (x ∷ []))) (y ∷ (ys ++ (x ∷ []))) ≡ cond b (taken ys) (y ∷ ys) ++ (x ∷ [])
    by true later = later
    by false later = refl

base_last : (xs : List RowEntry) (x : RowEntry) → is_base x ≡ true → taken (xs ++ (x ∷ [])) ≡ x ∷ []
base_last [] x e = refl
base_last (y ∷ ys) x e = ap (λ b. cond b (taken (ys ++ (x ∷ []))) (y ∷ (ys ++ (x ∷ [])))) (any_base ys x e) ∙ base_last ys x e

taken_upto : (rows : List RowEntry) → taken (reverse (upto_base rows)) ≡ taken (reverse rows)
taken_upto [] = refl
taken_upto (r ∷ rows) = by (is_operand r) refl (taken_upto rows)
  where
    by : (b : Bool) → is_operand r ≡ b → taken (reverse (upto_base rows)) ≡ taken (reverse rows) → taken (reverse (cond b (r ∷ upto_base rows) (r ∷ []))) ≡ taken (reverse (r ∷ rows))
    by true o later =
        let merge_row : is_base r ≡ false = ap not o in
        ap taken (reverse-append (r ∷ []) (upto_base rows)) ∙ open_last (reverse (upto_base rows)) r merge_row ∙ ap (λ l. l ++ (r ∷ [])) later
        ∙ sym (ap taken (reverse-append (r ∷ []) rows) ∙ open_last (reverse rows) r merge_row)
    by false o later = sym (ap taken (reverse-append (r ∷ []) rows) ∙ base_last (reverse rows) r (ap not o))

-- ---- the fold of a key's group

group_of : (c : List ℕ → Combine) (r : RowEntry) (rows : List RowEntry) → fold_group c (upto_base (r ∷ rows)) ≡ fold_rows (c r.key) (reverse (upto_base (r ∷ rows)))
group_of c r rows = by (is_operand r)
  where
    by : (b : Bool) → fold_group c (cond b (r ∷ upto_base rows) (r ∷ [])) ≡ fold_rows (c r.key) (reverse (cond b (r ∷ upto_base rows) (r ∷ [])))
    by true = refl
    by false = refl

group_fold : (c : List ℕ → Combine) (k : List ℕ) (rows : List RowEntry) → AllByRecursion (λ r. r.key ≡ k) rows → fold_group c (upto_base rows) ≡ fold_rows (c k) (reverse rows)
group_fold c k [] h = refl
group_fold c k (r ∷ rows) h = group_of c r rows ∙ ap (λ j. fold_rows (c j) (reverse (upto_base (r ∷ rows)))) h.0 ∙ ap (fold_taken (c k)) (taken_upto (r ∷ rows))

are_of : (k : List ℕ) (rows : List RowEntry) → AllByRecursion (λ r. r.key ≡ k) (of_key k rows)
are_of k [] = tt
are_of k (r ∷ rows) = by (bytes_eq r.key k) refl (are_of k rows)
  where
    by : (b : Bool) → bytes_eq r.key k ≡ b → AllByRecursion (λ r. r.key ≡ k) (of_key k rows) → AllByRecursion (λ r. r.key ≡ k) (cond b (r ∷ of_key k rows) (of_key k rows))
    by true e later = ((bytes_eq-Decides r.key k).0 e, later)
    by false e later = later

-- ---- tombstones

hidden_row : (r : RowEntry) (v : ValueDeletable) → cond (not (is_deletion v)) (r ∷ []) [] ≡ option_to_list (hide_tombstone v r)
hidden_row r (Value v) = refl
hidden_row r (Merge v) = refl
hidden_row r Tombstone = refl

hidden : (o : Option RowEntry) → filter (λ r. not (is_tombstone r)) (option_to_list o) ≡ option_to_list (option_and_then (λ r. hide_tombstone r.value r) o)
hidden None = refl
hidden (Some r) = hidden_row r r.value

and_turned : (a b : Bool) → (a && b) ≡ (b && a)
and_turned true true = refl
and_turned true false = refl
and_turned false true = refl
and_turned false false = refl

filter_turned : {X : Type 0} (u v : X → Bool) (xs : List X) → filter u (filter v xs) ≡ filter v (filter u xs)
filter_turned u v xs = filter_both u v xs ∙ (λ i. filter (λ x. and_turned (v x) (u x) i) xs) ∙ sym (filter_both v u xs)

pub one_row : (c : List ℕ → Combine) (order : IterationOrder) (lists : List (List RowEntry)) (k : List ℕ) → of_key k (exported c order lists) ≡ option_to_list (option_and_then (λ r. hide_tombstone r.value r) (fold_rows (c k) (reverse (of_key k (merged order false lists)))))
one_row c order lists k =
    filter_turned (λ r. bytes_eq r.key k) is_live (folded c true None (merged order true lists))
    ∙ ap (filter is_live) (folded_of_key c order lists k)
    ∙ ap (λ g. filter is_live (option_to_list (fold_group c g))) (decided_key order k (merged order false lists) (merged_in_order order false lists))
    ∙ ap (λ o. filter is_live (option_to_list o)) (group_fold c k (of_key k (merged order false lists)) (are_of k (merged order false lists)))
    ∙ hidden (fold_rows (c k) (reverse (of_key k (merged order false lists))))

-- ---- a key's row

-- the first of some rows
abbrev pub first_row : List RowEntry → Option RowEntry
first_row [] = None
first_row (r ∷ rows) = Some r

pub first_at : (rows : List RowEntry) (k : List ℕ) → row_with_key rows k ≡ first_row (of_key k rows)
first_at [] k = refl
first_at (r ∷ rows) k = by (bytes_eq r.key k) (first_at rows k)
  where
    by : (b : Bool) → row_with_key rows k ≡ first_row (of_key k rows) → cond b (Some r) (row_with_key rows k) ≡ first_row (cond b (r ∷ of_key k rows) (of_key k rows))
    by true later = refl
    by false later = later

pub first_of : (o : Option RowEntry) → first_row (option_to_list o) ≡ o
first_of None = refl
first_of (Some r) = refl

-- ---- keys come in the order

same_key : (k : List ℕ) → bytes_eq k k ≡ true
same_key k = (bytes_eq-Decides k k).1 refl

none_behind : (r : RowEntry) (rows : List RowEntry) (o : Option RowEntry) → r ∷ rows ≡ option_to_list o → rows ≡ []
none_behind r rows None h = cc
none_behind r rows (Some f) h = cc

none_more : (r : RowEntry) (rows : List RowEntry) (k : List ℕ) → bytes_eq r.key k ≡ true → AtMostOne (of_key k (r ∷ rows)) → of_key k rows ≡ []
none_more r rows k e h = none_behind r (of_key k rows) h.row (sym (ap (λ b. cond b (r ∷ of_key k rows) (of_key k rows)) e) ∙ h.is)

one_later : (r : RowEntry) (rows : List RowEntry) (k : List ℕ) → AtMostOne (of_key k (r ∷ rows)) → AtMostOne (of_key k rows)
one_later r rows k h = by (bytes_eq r.key k) refl
  where
    by : (b : Bool) → bytes_eq r.key k ≡ b → AtMostOne (of_key k rows)
    by true e = record { row = None; is = none_more r rows k e h }
    by false e = record { row = h.row; is = sym (ap (λ b. cond b (r ∷ of_key k rows) (of_key k rows)) e) ∙ h.is }

all_after : (order : IterationOrder) (k : List ℕ) (rows : List RowEntry) → NoneBefore order k rows → of_key k rows ≡ [] → AllByRecursion (λ s. comes_before order k s.key ≡ true) rows
all_after order k [] h none = tt
all_after order k (s ∷ rows) h none = by (bytes_eq s.key k) refl none (λ later. all_after order k rows h.1 later)
  where
    by : (b : Bool) → bytes_eq s.key k ≡ b → cond b (s ∷ of_key k rows) (of_key k rows) ≡ [] → (of_key k rows ≡ [] → AllByRecursion (λ s. comes_before order k s.key ≡ true) rows) → AllByRecursion (λ s. comes_before order k s.key ≡ true) (s ∷ rows)
    by true e none rest = cc
    by false e none rest = (one_before order s.key k e h.0, rest none)

come : (order : IterationOrder) (rows : List RowEntry) → IsInOrder order rows → ((k : List ℕ) → AtMostOne (of_key k rows)) → KeysCome order rows
come order [] h one = tt
come order (r ∷ rows) h one = (all_after order r.key rows h.0 (none_more r rows r.key (same_key r.key) (one r.key)), come order rows h.1 (λ k. one_later r rows k (one k)))

-- ---- no key is out of the range

inside : (range : BytesRange) (rows : List RowEntry) → ((k : List ℕ) → in_range range k ≡ false → of_key k rows ≡ []) → AllByRecursion (λ r. in_range range r.key ≡ true) rows
inside range [] h = tt
inside range (r ∷ rows) h = (first (in_range range r.key) refl, inside range rows (λ k out. rest k (bytes_eq r.key k) (h k out)))
  where
    rest : (k : List ℕ) (b : Bool) → cond b (r ∷ of_key k rows) (of_key k rows) ≡ [] → of_key k rows ≡ []
    rest k true e = cc
    rest k false e = e

    first : (b : Bool) → in_range range r.key ≡ b → b ≡ true
    first true e = refl
    first false e = let none : r ∷ of_key r.key rows ≡ [] = sym (ap (λ b. cond b (r ∷ of_key r.key rows) (of_key r.key rows)) (same_key r.key)) ∙ h r.key e in cc

-- ---- no row is a tombstone

live_rows : (rows : List RowEntry) → AllByRecursion (λ r. is_tombstone r ≡ false) (filter is_live rows)
live_rows [] = tt
live_rows (r ∷ rows) = by (is_tombstone r) refl (live_rows rows)
  where
    by : (b : Bool) → is_tombstone r ≡ b → AllByRecursion (λ r. is_tombstone r ≡ false) (filter is_live rows) → AllByRecursion (λ r. is_tombstone r ≡ false) (cond (not b) (r ∷ filter is_live rows) (filter is_live rows))
    by true is later = later
    by false is later = (is, later)

-- ---- what tables export

pub export_is_stored : ExportIsStored
export_is_stored c order range tables h = record {
  come = come order out
      (in_order_filtered order is_live (folded c true None (merged order true lists)) (folded_in_order order c true None (merged order true lists) (merged_in_order order true lists)))
      (λ k. record { row = option_and_then (λ r. hide_tombstone r.value r) (fold_rows (c k) (reverse (of_key k (merged order false lists)))); is = one_row c order lists k });
  within = inside range out (λ k outside. one_row c order lists k ∙ ap (λ (rows : List RowEntry). option_to_list (option_and_then (λ r. hide_tombstone r.value r) (fold_rows (c k) (reverse rows)))) (none_merged order range (reverse tables) k outside));
  live = live_rows (folded c true None (merged order true lists));
  each = λ k within. first_at out k ∙ ap first_row (one_row c order lists k) ∙ first_of (option_and_then (λ r. hide_tombstone r.value r) (fold_rows (c k) (reverse (of_key k (merged order false lists))))) ∙ ap (shown (c k)) (merged_by_seq order range tables h k within);
}
  where
    lists : List (List RowEntry)
    lists = map (table_rows order range) (reverse tables)

    out : List RowEntry
    out = exported c order lists
