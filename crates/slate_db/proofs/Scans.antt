-- A scan shows what a reader sees.
use Rattle.std.proofs.Common.{◌≡◌, ℕ, ◌-◌, ◌<◌, ◌≤◌, ◌^◌, Bool, true, false, not, cond, ◌&&◌, ◌||◌, List, [], ◌∷◌, ◌++◌, length, map, filter, flat_map, reverse, Option, Some, None, option_to_list, bytes_eq, refl, sym, ap, subst, ◌∙◌, arith, nat_le, append-nil}
use Rattle.std.specs.List.{AllByRecursion, cons_option}
use Rattle.std.specs.Prelude.{option_and_then, is_some}
use Rattle.std.specs.List.Sorted.{IsStrictlySortedBy}
use Rattle.std.proofs.lemmas.List.{reverse-append}
use Rattle.std.proofs.lemmas.Slice.Eq.{bytes_eq-Decides}
use Rattle.std.proofs.lemmas.List.Kept.{IsStrictlySortedBy-filter}
use Rattle.slate_types.specs.declared.bytes_range.BytesRange.{BytesRange}
use Rattle.slate_types.specs.declared.iter.IterationOrder.{IterationOrder}
use Rattle.slate_types.specs.declared.types.RowEntry.{RowEntry}
use Rattle.slate_types.specs.declared.types.ValueDeletable.{ValueDeletable}
use Rattle.slate_types.specs.declared.types.ValueDeletable.TheVariants.{Value, Merge, Tombstone}
use Rattle.slate_types.specs.Fold.{AreShort, Combine, IsLawful, IsShort, KeepsShort, fold_rows, fold_taken, taken, shown}
use Rattle.slate_types.specs.Keys.{key_cmp, in_range, among}
use Rattle.slate_types.specs.RowTurns.{row_before}
use Rattle.slate_types.specs.Rows.{of_key, operand, is_base, is_tombstone, hide_tombstone}
use Rattle.slate_types.proofs.FoldLaws.{fold_middle}
use Rattle.slate_types.proofs.IterationLaws.{in_order_filtered}
use Rattle.slate_types.proofs.KeySetLaws.{set_rises, set_keeps}
use Rattle.slate_mem.specs.declared.WriteOp.{WriteOp}
use Rattle.slate_mem.specs.Batch.{Ops, kept, batch_keys}
use Rattle.slate_mem.specs.RowOf.{own_row, row_of}
use Rattle.slate_mem.proofs.BatchLaws.{has_one_row, none_left, some_kept}
use Rattle.slate_mem.proofs.RowOfLaws.{row_has}
use Rattle.slate_merge.specs.DecidedKeys.{decided_key, upto_base}
use Rattle.slate_merge.specs.Filtering.{upto_seq}
use Rattle.slate_merge.specs.FoldedLaws.{folded_in_order}
use Rattle.slate_merge.specs.Folding.{fold_group, folded}
use Rattle.slate_merge.specs.Merge.{merged, decided, in_turn, all_rows}
use Rattle.slate_merge.specs.MergeLaws.{merged_in_order, merged_kept}
use Rattle.slate_merge.specs.Turns.{in_turn_already}
use Rattle.slate_txn.specs.Reads.{up_to, key_rows, seen, keys_seen, rows_seen}
use Rattle.slate_txn.specs.State.{Rules, Commit, combine_at}
use Rattle.slate_db.specs.Model.{Rows}
use Rattle.slate_db.specs.Scanned.{AreSources, left_of, own_rows, scanned}
use Rattle.slate_db.specs.Sound.{at_most}
use Rattle.slate_db.proofs.ByKeys.{GivesOwn, known_by_keys, given_in_order, given_of_key}
use Rattle.slate_db.proofs.KeyRows.{AreClimbing, climbing_both, falling_turn, group_shown, has_key, of_lists, rising_climbs}
use Rattle.slate_db.proofs.Rises.{rising_filter}
use Rattle.slate_db.proofs.ScanFolds.{folded_of_key}
use Rattle.slate_db.proofs.Short.{all_from_last}
use Rattle.slate_db.proofs.Versions.{twice}
use Rattle.slate_types.proofs.Plain.{neither}
use Rattle.slate_types.proofs.Lists.{AllByRecursion_append, map_reverse, AllByRecursion_weaken, AllByRecursion_filter}
use Rattle.slate_txn.proofs.PartLaws.{filter_swap, filter_reverse}

-- ---- the rows of a key, as commits and own operations make them

commits_own : (r : Rules) (k : List ℕ) (cs : List Commit) → AllByRecursion (λ x. x.key ≡ k) (key_rows r k cs)
commits_own r k [] = tt
commits_own r k (c ∷ cs) = by (row_of (combine_at r k) r.default_millis c.seq c.now c.ops k) (row_has (combine_at r k) r.default_millis c.seq c.now c.ops k) (commits_own r k cs)
  where
    by : (o : Option RowEntry) → ((x : RowEntry) → o ≡ Some x → (x.key ≡ k) × ((x.seq ≡ c.seq) × (x.create_ts ≡ Some c.now))) → AllByRecursion (λ x. x.key ≡ k) (key_rows r k cs) →
        AllByRecursion (λ x. x.key ≡ k) (cons_option o (key_rows r k cs))
    by None has later = later
    by (Some x) has later = ((has x refl).0, later)

own_keys : (k : List ℕ) (xs : List WriteOp) → AllByRecursion (λ x. x.key ≡ k) (map (own_row k) xs)
own_keys k [] = tt
own_keys k (x ∷ xs) = (refl, own_keys k xs)

shown_key : (c : Combine) (k : List ℕ) (rows : Rows) → AllByRecursion (λ x. x.key ≡ k) rows → AllByRecursion (λ x. x.key ≡ k) (option_to_list (shown c rows))
shown_key c k rows h = by (taken rows) (all_from_last (λ x. x.key ≡ k) is_base rows h)
  where
    hidden : (v : ValueDeletable) (x : RowEntry) → x.key ≡ k → AllByRecursion (λ y. y.key ≡ k) (option_to_list (hide_tombstone v x))
    hidden (Value v) x e = (e, tt)
    hidden (Merge v) x e = (e, tt)
    hidden Tombstone x e = tt

    folded : (o : Option RowEntry) → AllByRecursion (λ x. x.key ≡ k) (option_to_list o) → AllByRecursion (λ x. x.key ≡ k) (option_to_list (option_and_then (λ x. hide_tombstone x.value x) o))
    folded None h = tt
    folded (Some x) h = hidden x.value x h.0

    by : (rs : Rows) → AllByRecursion (λ x. x.key ≡ k) rs → AllByRecursion (λ x. x.key ≡ k) (option_to_list (option_and_then (λ x. hide_tombstone x.value x) (fold_taken c rs)))
    by [] h = tt
    by (x ∷ xs) h = folded (fold_taken c (x ∷ xs)) (h.0, tt)

seen_own : (r : Rules) (cs : List Commit) (n : ℕ) (ops : Ops) → GivesOwn (seen r cs n ops)
seen_own r cs n ops k = shown_key (combine_at r k) k _ (AllByRecursion_append (λ x. x.key ≡ k) (key_rows r k (up_to n cs)) (map (own_row k) (kept ops k)) (commits_own r k (up_to n cs)) (own_keys k (kept ops k)))

-- ---- a key that neither a commit nor an own operation has is seen as none

among_both : (k : List ℕ) (xs ys : List (List ℕ)) → among k (xs ++ ys) ≡ (among k xs || among k ys)
among_both k [] ys = refl
among_both k (x ∷ xs) ys = ap (λ b. bytes_eq x k || b) (among_both k xs ys) ∙ by (bytes_eq x k)
  where
    by : (b : Bool) → (b || (among k xs || among k ys)) ≡ ((b || among k xs) || among k ys)
    by true = refl
    by false = refl

no_rows : (r : Rules) (k : List ℕ) (cs : List Commit) → among k (flat_map (λ c. batch_keys c.ops) cs) ≡ false → key_rows r k cs ≡ []
no_rows r k [] h = refl
no_rows r k (c ∷ cs) h = by (row_of (combine_at r k) r.default_millis c.seq c.now c.ops k) (has_one_row (combine_at r k) r.default_millis c.seq c.now c.ops k ∙ both.0) (no_rows r k cs both.1)
  where
    both : (among k (batch_keys c.ops) ≡ false) × (among k (flat_map (λ c. batch_keys c.ops) cs) ≡ false)
    both = neither _ _ (sym (among_both k (batch_keys c.ops) (flat_map (λ c. batch_keys c.ops) cs)) ∙ h)

    by : (o : Option RowEntry) → is_some o ≡ false → key_rows r k cs ≡ [] → cons_option o (key_rows r k cs) ≡ []
    by None e later = later
    by (Some x) e later = cc

unseen : (r : Rules) (cs : List Commit) (n : ℕ) (ops : Ops) (k : List ℕ) → among k (keys_seen cs n ops) ≡ false → seen r cs n ops k ≡ None
unseen r cs n ops k h = λ i. shown (combine_at r k) (no_rows r k (up_to n cs) both.0 i ++ map (own_row k) (none_left (kept ops k) (some_kept ops k ∙ both.1) i))
  where
    both : (among k (flat_map (λ c. batch_keys c.ops) (up_to n cs)) ≡ false) × (among k (batch_keys ops) ≡ false)
    both = neither _ _ (sym (among_both k (flat_map (λ c. batch_keys c.ops) (up_to n cs)) (batch_keys ops)) ∙ sym (set_keeps (flat_map (λ c. batch_keys c.ops) (up_to n cs) ++ batch_keys ops) k) ∙ h)

-- ---- what is seen, by keys

among_filter : (k : List ℕ) (t : List ℕ → Bool) (ks : List (List ℕ)) → among k (filter t ks) ≡ (t k && among k ks)
among_filter k t [] = by (t k)
  where
    by : (b : Bool) → false ≡ (b && false)
    by true = refl
    by false = refl
among_filter k t (j ∷ js) = by (t j) refl (bytes_eq j k) refl (among_filter k t js)
  where
    by : (b : Bool) → t j ≡ b → (e : Bool) → bytes_eq j k ≡ e → among k (filter t js) ≡ (t k && among k js) → among k (cond b (j ∷ filter t js) (filter t js)) ≡ (t k && (e || among k js))
    by true p true q later = ap (λ x. x || among k (filter t js)) q ∙ sym (ap (λ x. x && true) (ap t (sym ((bytes_eq-Decides j k).0 q)) ∙ p))
    by true p false q later = ap (λ x. x || among k (filter t js)) q ∙ later
    by false p true q later = let none : t k ≡ false = ap t (sym ((bytes_eq-Decides j k).0 q)) ∙ p in later ∙ ap (λ x. x && among k js) none ∙ sym (ap (λ x. x && true) none)
    by false p false q later = later

in_range_rise : (cs : List Commit) (n : ℕ) (ops : Ops) (range : BytesRange) → IsStrictlySortedBy key_cmp (filter (in_range range) (keys_seen cs n ops))
in_range_rise cs n ops range = IsStrictlySortedBy-filter key_cmp (in_range range) (keys_seen cs n ops) (set_rises (flat_map (λ c. batch_keys c.ops) (up_to n cs) ++ batch_keys ops))

seen_of_key : (r : Rules) (cs : List Commit) (n : ℕ) (ops : Ops) (order : IterationOrder) (range : BytesRange) (k : List ℕ) →
    of_key k (rows_seen r cs n ops order range) ≡ cond (in_range range k) (option_to_list (seen r cs n ops k)) []
seen_of_key r cs n ops order range k =
    given_of_key order (seen r cs n ops) (seen_own r cs n ops) k (filter (in_range range) keys) (in_range_rise cs n ops range)
    ∙ ap (λ b. cond b (option_to_list (seen r cs n ops k)) []) (among_filter k (in_range range) keys)
    ∙ by (in_range range k) (among k keys) refl
  where
    keys : List (List ℕ)
    keys = keys_seen cs n ops

    by : (a b : Bool) → among k keys ≡ b → cond (a && b) (option_to_list (seen r cs n ops k)) [] ≡ cond a (option_to_list (seen r cs n ops k)) []
    by true true e = refl
    by true false e = sym (ap option_to_list (unseen r cs n ops k e))
    by false b e = refl

-- ---- the own rows of a key

own_climbing : (k : List ℕ) (xs : List WriteOp) → AreClimbing (map (own_row k) xs)
own_climbing k [] = tt
own_climbing k (x ∷ xs) = (all_own xs, own_climbing k xs)
  where
    all_own : (ys : List WriteOp) → AllByRecursion (λ s. 2 ^ 64 - 1 ≤ s.seq) (map (own_row k) ys)
    all_own [] = tt
    all_own (y ∷ ys) = (omega arith, all_own ys)

own_above : (k : List ℕ) (xs : List WriteOp) → AllByRecursion (λ r. 2 ^ 64 - 2 ≤ r.seq) (map (own_row k) xs)
own_above k [] = tt
own_above k (x ∷ xs) = (omega arith, own_above k xs)

-- own rows stand above rows that fold alike
same_fold : (c : Combine) → IsLawful c → KeepsShort c → (xs ys own : Rows) → AreShort xs → AreShort ys → AreShort own → fold_rows c xs ≡ fold_rows c ys → fold_rows c (xs ++ own) ≡ fold_rows c (ys ++ own)
same_fold c law keeps xs ys own hx hy ho e =
    fold_middle c law keeps [] xs own tt hx ho ∙ ap (λ (o : Option RowEntry). fold_rows c (option_to_list o ++ own)) e ∙ sym (fold_middle c law keeps [] ys own tt hy ho)

-- ---- the law

module _ (r : Rules) (cs : List Commit) (n : ℕ) (ops : Ops) (range : BytesRange) (versions : List ℕ → Rows) (own : Rows) (lists : List Rows) (order : IterationOrder) (s : AreSources r cs n ops range versions own lists) where
  -- all rows of a key that a reader folds, the oldest first
  all_of : List ℕ → Rows
  all_of k = at_most n (versions k) ++ map (own_row k) (kept ops k)

  brought : List ℕ → Rows
  brought k = cond (in_range range k) (reverse (all_of k)) []

  all_keys : (k : List ℕ) → in_range range k ≡ true → AllByRecursion (λ x. x.key ≡ k) (all_of k)
  unfolding all_of
  all_keys k e = AllByRecursion_append (λ x. x.key ≡ k) (at_most n (versions k)) (map (own_row k) (kept ops k)) (AllByRecursion_filter (λ x. x.key ≡ k) (λ x. nat_le x.seq n) (versions k) (twice (λ x. x.key ≡ k) (versions k) turned)) (own_keys k (kept ops k))
    where
      many : (ls : List Rows) → AllByRecursion (λ x. x.key ≡ k) (flat_map (of_key k) ls)
      many [] = tt
      many (l ∷ ls) = AllByRecursion_append (λ x. x.key ≡ k) (of_key k l) (flat_map (of_key k) ls) (has_key k l) (many ls)

      turned : AllByRecursion (λ x. x.key ≡ k) (reverse (versions k))
      turned = subst (AllByRecursion (λ (x : RowEntry). x.key ≡ k)) (s.have_rows k ∙ ap (λ b. cond b (reverse (versions k)) []) e) (many lists)

  all_climbing : (k : List ℕ) → AreClimbing (all_of k)
  unfolding all_of
  all_climbing k =
      climbing_both (2 ^ 64 - 2) (at_most n (versions k)) (map (own_row k) (kept ops k)) (rising_climbs (at_most n (versions k)) (rising_filter (λ x. nat_le x.seq n) (versions k) (s.rise k)))
      (AllByRecursion_filter (λ x. x.seq ≤ 2 ^ 64 - 2) (λ x. nat_le x.seq n) (versions k) (AllByRecursion_weaken _ _ (λ x h. let b : x.seq < 2 ^ 64 - 1 = h in omega arith) (versions k) (s.below k)))
      (own_climbing k (kept ops k)) (own_above k (kept ops k))

  own_short : (k : List ℕ) → AreShort (map (own_row k) (kept ops k))
  own_short k = twice (λ x. IsShort (operand x)) (map (own_row k) (kept ops k)) (subst AreShort (map_reverse (own_row k) (kept ops k)) (s.own_short k))

  all_seen : (k : List ℕ) → shown (combine_at r k) (all_of k) ≡ seen r cs n ops k
  unfolding all_of
  all_seen k = ap (option_and_then (λ x. hide_tombstone x.value x))
      (same_fold (combine_at r k) (s.lawful k) (s.keeps_short k) (at_most n (versions k)) (key_rows r k (up_to n cs)) (map (own_row k) (kept ops k))
      (AllByRecursion_filter (λ x. IsShort (operand x)) (λ x. nat_le x.seq n) (versions k) (s.short k)) (s.commits_short k) (own_short k) (s.folds k))

  -- the rows of a key in all lists
  listed : (k : List ℕ) → all_rows (map (of_key k) (left_of n own lists)) ≡ brought k
  unfolding brought all_of
  listed k =
      (λ i. s.has_own k i ++ (of_lists k (upto_seq (Some n)) lists ∙ ap (filter (upto_seq (Some n))) (s.have_rows k)) i)
      ∙ by (in_range range k)
    where
      by : (b : Bool) → cond b (own_rows ops k) [] ++ at_most n (cond b (reverse (versions k)) []) ≡ cond b (reverse (at_most n (versions k) ++ map (own_row k) (kept ops k))) []
      by true =
          (λ i. map_reverse (own_row k) (kept ops k) i ++ filter_reverse (λ x. nat_le x.seq n) (versions k) i)
          ∙ sym (reverse-append (at_most n (versions k)) (map (own_row k) (kept ops k)))
      by false = refl

  merged_of_key : (k : List ℕ) → of_key k (merged order false (left_of n own lists)) ≡ brought k
  unfolding brought
  merged_of_key k =
      merged_kept order (λ x. bytes_eq x.key k) (left_of n own lists)
      ∙ ap (in_turn (row_before order)) (listed k)
      ∙ by (in_range range k) refl
    where
      by : (b : Bool) → in_range range k ≡ b → in_turn (row_before order) (cond b (reverse (all_of k)) []) ≡ cond b (reverse (all_of k)) []
      by true e = in_turn_already (row_before order) (reverse (all_of k)) (falling_turn order k (all_of k) (all_keys k e) (all_climbing k))
      by false e = refl

  scanned_of_key : (k : List ℕ) → of_key k (scanned r order n own lists) ≡ cond (in_range range k) (option_to_list (seen r cs n ops k)) []
  unfolding brought
  scanned_of_key k =
      filter_swap (λ x. bytes_eq x.key k) (λ x. not (is_tombstone x)) (folded (combine_at r) true None (decided all))
      ∙ ap (filter (λ x. not (is_tombstone x))) (
      folded_of_key (combine_at r) order (left_of n own lists) k
      ∙ ap (λ (l : Rows). option_to_list (fold_group (combine_at r) l)) (decided_key order k all (merged_in_order order false (left_of n own lists)) ∙ ap upto_base (merged_of_key k))
      )
      ∙ by (in_range range k) refl
    where
      all : Rows
      all = merged order false (left_of n own lists)

      by : (b : Bool) → in_range range k ≡ b → filter (λ x. not (is_tombstone x)) (option_to_list (fold_group (combine_at r) (upto_base (cond b (reverse (all_of k)) [])))) ≡ cond b (option_to_list (seen r cs n ops k)) []
      by true e = group_shown (combine_at r) k (all_of k) (all_keys k e) ∙ ap option_to_list (all_seen k)
      by false e = refl

  shows : scanned r order n own lists ≡ rows_seen r cs n ops order range
  shows =
      known_by_keys order (scanned r order n own lists) (rows_seen r cs n ops order range)
      (in_order_filtered order (λ x. not (is_tombstone x)) (folded (combine_at r) true None (merged order true (left_of n own lists)))
      (folded_in_order order (combine_at r) true None (merged order true (left_of n own lists)) (merged_in_order order true (left_of n own lists))))
      (given_in_order order (seen r cs n ops) (seen_own r cs n ops) (filter (in_range range) (keys_seen cs n ops)) (in_range_rise cs n ops range))
      (λ k. scanned_of_key k ∙ sym (seen_of_key r cs n ops order range k))

pub scan_shows : (r : Rules) (cs : List Commit) (n : ℕ) (ops : Ops) (range : BytesRange) (versions : List ℕ → Rows) (own : Rows) (lists : List Rows) (order : IterationOrder) →
    AreSources r cs n ops range versions own lists → scanned r order n own lists ≡ rows_seen r cs n ops order range
scan_shows r cs n ops range versions own lists order s = shows r cs n ops range versions own lists order s
