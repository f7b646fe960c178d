-- The rows of one key in sources: what a merge leaves of them, and what a reader sees.
use Rattle.std.proofs.Common.{◌≡◌, ℕ, ◌<◌, ◌≤◌, Bool, true, false, not, cond, List, [], ◌∷◌, ◌++◌, map, filter, flat_map, reverse, Option, Some, None, option_to_list, bytes_eq, refl, sym, ap, ◌∙◌, arith, append_assoc, append-nil}
use Rattle.std.specs.List.{AllByRecursion}
use Rattle.std.specs.Ordering.{is_lt, nat_cmp, ordering_then}
use Rattle.std.specs.Prelude.{option_and_then, ◌==◌}
use Rattle.std.proofs.Common.{Less, Equal, Greater, ltb}
use Rattle.std.proofs.lemmas.Bool.Decides.{nat_tests}
use Rattle.std.proofs.lemmas.Cmp.{nat_list_cmp_total, tied_itself}
use Rattle.std.proofs.lemmas.List.{reverse-append, reverse-reverse}
use Rattle.std.proofs.lemmas.List.Elements.{filter-append}
use Rattle.std.proofs.lemmas.Slice.Eq.{bytes_eq-Decides}
use Rattle.slate_types.specs.declared.types.RowEntry.{RowEntry}
use Rattle.slate_types.specs.declared.types.ValueDeletable.{ValueDeletable}
use Rattle.slate_types.specs.declared.types.ValueDeletable.TheVariants.{Value, Merge, Tombstone}
use Rattle.slate_types.specs.declared.iter.IterationOrder.{IterationOrder}
use Rattle.slate_types.specs.declared.iter.IterationOrder.TheVariants.{Ascending, Descending}
use Rattle.slate_types.specs.Fold.{Combine, fold_rows, shown}
use Rattle.slate_types.specs.Keys.{key_cmp}
use Rattle.slate_types.specs.RowTurns.{row_before, key_order, NoneEarlier, AreInTurn}
use Rattle.slate_types.specs.Rows.{of_key, is_operand, is_deletion, is_tombstone, hide_tombstone}
use Rattle.slate_types.proofs.FoldLaws.{hides_older}
use Rattle.slate_merge.specs.Folding.{fold_group}
use Rattle.slate_merge.specs.DecidedKeys.{upto_base}
use Rattle.slate_merge.specs.Merge.{all_rows}
use Rattle.slate_merge.proofs.Turns.{turn_back}
use Rattle.slate_db.specs.Layers.{AreRising}
use Rattle.slate_db.specs.Model.{Rows}
use Rattle.slate_types.proofs.Lists.{AllByRecursion_append, AllByRecursion_weaken, AllByRecursion_reverse}
use Rattle.slate_txn.proofs.PartLaws.{filter_swap}

-- ---- filters

-- the rows of a key in lists of which a test keeps some
pub of_lists : (k : List ℕ) (t : RowEntry → Bool) (lists : List Rows) → all_rows (map (of_key k) (map (filter t) lists)) ≡ filter t (flat_map (of_key k) lists)
of_lists k t [] = refl
of_lists k t (rows ∷ lists) =
    (λ i. filter_swap (λ r. bytes_eq r.key k) t rows i ++ of_lists k t lists i)
    ∙ sym (filter-append t (of_key k rows) (flat_map (of_key k) lists))

pub has_key : (k : List ℕ) (rows : Rows) → AllByRecursion (λ r. r.key ≡ k) (of_key k rows)
has_key k [] = tt
has_key k (r ∷ rs) = by (bytes_eq r.key k) refl (has_key k rs)
  where
    by : (t : Bool) → bytes_eq r.key k ≡ t → AllByRecursion (λ x. x.key ≡ k) (of_key k rs) → AllByRecursion (λ x. x.key ≡ k) (cond t (r ∷ of_key k rs) (of_key k rs))
    by true e later = ((bytes_eq-Decides r.key k).0 e, later)
    by false e later = later

-- ---- rows of a key of which the sequences don't fall, turned round

-- of the rows of a key, oldest first
abbrev pub AreClimbing : Rows → Type 0
AreClimbing [] = Unit {0}
AreClimbing (r ∷ rs) = AllByRecursion (λ s. r.seq ≤ s.seq) rs × AreClimbing rs

pub rising_climbs : (rows : Rows) → AreRising rows → AreClimbing rows
rising_climbs [] h = tt
rising_climbs (r ∷ rs) h = (AllByRecursion_weaken (λ s. r.seq < s.seq) (λ s. r.seq ≤ s.seq) (λ s k. omega (arith, k)) rs h.0, rising_climbs rs h.1)

pub climbing_both : (b : ℕ) (xs ys : Rows) → AreClimbing xs → AllByRecursion (λ r. r.seq ≤ b) xs → AreClimbing ys → AllByRecursion (λ r. b ≤ r.seq) ys → AreClimbing (xs ++ ys)
climbing_both b [] ys climb within climbs newer = climbs
climbing_both b (x ∷ xs) ys climb within climbs newer = (
  AllByRecursion_append (λ s. x.seq ≤ s.seq) xs ys climb.0 (AllByRecursion_weaken _ _ (λ s h. let k : x.seq ≤ b = within.0 in let l : b ≤ s.seq = h in omega arith) ys newer),
  climbing_both b xs ys climb.1 within.1 climbs newer,
)

same_turn : (order : IterationOrder) (a b : List ℕ) → a ≡ b → key_order order a b ≡ Equal
same_turn Ascending a b e = ap (λ x. key_cmp x b) e ∙ tied_itself nat_list_cmp_total b
same_turn Descending a b e = ap (λ x. key_cmp b x) e ∙ tied_itself nat_list_cmp_total b

not_less : (m n : ℕ) → m ≤ n → is_lt (nat_cmp n m) ≡ false
not_less m n h = let no : ltb n m ≡ false = grind (arith, nat_tests) in by (n == m) no
  where
    by : (t : Bool) → ltb n m ≡ false → is_lt (cond (ltb n m) Less (cond t Equal Greater)) ≡ false
    by true e = rw e refl
    by false e = rw e refl

older_later : (order : IterationOrder) (k : List ℕ) (x z : RowEntry) → x.key ≡ k → z.key ≡ k → x.seq ≤ z.seq → row_before order x z ≡ false
older_later order k x z e f h = ap (λ o. is_lt (ordering_then o (nat_cmp z.seq x.seq))) (same_turn order x.key z.key (e ∙ sym f)) ∙ not_less x.seq z.seq h

none_newer : (order : IterationOrder) (k : List ℕ) (x : RowEntry) (zs : Rows) → x.key ≡ k → AllByRecursion (λ r. r.key ≡ k) zs → AllByRecursion (λ z. x.seq ≤ z.seq) zs → NoneEarlier (λ a b. row_before order b a) x zs
none_newer order k x [] e keys h = tt
none_newer order k x (z ∷ zs) e keys h = (older_later order k x z e keys.0 h.0, none_newer order k x zs e keys.1 h.1)

climbing_turn : (order : IterationOrder) (k : List ℕ) (rows : Rows) → AllByRecursion (λ r. r.key ≡ k) rows → AreClimbing rows → AreInTurn (λ a b. row_before order b a) rows
climbing_turn order k [] keys h = tt
climbing_turn order k (r ∷ rs) keys h = (none_newer order k r rs keys.0 keys.1 h.0, climbing_turn order k rs keys.1 h.1)

pub falling_turn : (order : IterationOrder) (k : List ℕ) (rows : Rows) → AllByRecursion (λ r. r.key ≡ k) rows → AreClimbing rows → AreInTurn (row_before order) (reverse rows)
falling_turn order k rows keys h = turn_back (λ a b. row_before order b a) rows (climbing_turn order k rows keys h)

-- ---- they are folded down to the newest that is no operand, and what they fold to is shown where it is no tombstone

one_shown : (v : ValueDeletable) (r : RowEntry) → cond (not (is_deletion v)) (r ∷ []) [] ≡ option_to_list (hide_tombstone v r)
one_shown (Value v) r = refl
one_shown (Merge v) r = refl
one_shown Tombstone r = refl

fold_shown : (o : Option RowEntry) → filter (λ r. not (is_tombstone r)) (option_to_list o) ≡ option_to_list (option_and_then (λ r. hide_tombstone r.value r) o)
fold_shown None = refl
fold_shown (Some r) = one_shown r.value r

-- rows: the newest first
upto_folds : (c : Combine) (rows newer : Rows) → fold_rows c (reverse (upto_base rows) ++ newer) ≡ fold_rows c (reverse rows ++ newer)
upto_folds c [] newer = refl
upto_folds c (r ∷ rs) newer = by (is_operand r) refl (upto_folds c rs (r ∷ newer))
  where
    behind : (xs : Rows) → fold_rows c (reverse (r ∷ xs) ++ newer) ≡ fold_rows c (reverse xs ++ (r ∷ newer))
    behind xs = ap (λ (ys : Rows). fold_rows c (ys ++ newer)) (reverse-append (r ∷ []) xs) ∙ ap (fold_rows c) (append_assoc (reverse xs) (r ∷ []) newer)

    by : (b : Bool) → is_operand r ≡ b → fold_rows c (reverse (upto_base rs) ++ (r ∷ newer)) ≡ fold_rows c (reverse rs ++ (r ∷ newer)) →
        fold_rows c (reverse (cond b (r ∷ upto_base rs) (r ∷ [])) ++ newer) ≡ fold_rows c (reverse (r ∷ rs) ++ newer)
    by true e later = behind (upto_base rs) ∙ later ∙ sym (behind rs)
    by false e later = sym (behind rs ∙ hides_older c (reverse rs) newer r (ap not e))

all_upto : (P : RowEntry → Type 0) (rows : Rows) → AllByRecursion P rows → AllByRecursion P (upto_base rows)
all_upto P [] h = tt
all_upto P (r ∷ rs) h = by (is_operand r) (all_upto P rs h.1)
  where
    by : (b : Bool) → AllByRecursion P (upto_base rs) → AllByRecursion P (cond b (r ∷ upto_base rs) (r ∷ []))
    by true later = (h.0, later)
    by false later = (h.0, tt)

group_is : (c : List ℕ → Combine) (k : List ℕ) (rows : Rows) → AllByRecursion (λ r. r.key ≡ k) rows → fold_group c rows ≡ fold_rows (c k) (reverse rows)
group_is c k [] h = refl
group_is c k (r ∷ rs) h = ap (λ (j : List ℕ). fold_rows (c j) (reverse (r ∷ rs))) h.0

pub group_shown : (c : List ℕ → Combine) (k : List ℕ) (rows : Rows) → AllByRecursion (λ r. r.key ≡ k) rows → filter (λ r. not (is_tombstone r)) (option_to_list (fold_group c (upto_base (reverse rows)))) ≡ option_to_list (shown (c k) rows)
group_shown c k rows keys =
    fold_shown (fold_group c (upto_base (reverse rows)))
    ∙ ap (λ (o : Option RowEntry). option_to_list (option_and_then (λ r. hide_tombstone r.value r) o)) (
    group_is c k (upto_base (reverse rows)) (all_upto (λ r. r.key ≡ k) (reverse rows) (AllByRecursion_reverse (λ r. r.key ≡ k) rows keys))
    ∙ ap (fold_rows (c k)) (sym (append-nil (reverse (upto_base (reverse rows)))))
    ∙ upto_folds (c k) (reverse rows) []
    ∙ ap (fold_rows (c k)) (append-nil (reverse (reverse rows)) ∙ reverse-reverse rows)
    )
