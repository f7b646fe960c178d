-- The laws of merged lists.
--     merged_same      without dedup a merge has exactly the rows of its lists
--     in_turn_same      all elements in turn are the same elements
--     merged_in_turn, merged_in_order      it comes by key in the order and falling sequence, and with dedup by key
--     merged_kept      what a test keeps of a merge is the merge of what it keeps of each list, as the rows of one key
--     merged_one, merged_none      a merge of one list in turn is that list, and an empty list changes nothing
--     merged_by_place      rows that stand alike come by their lists' places
--     (DecidedKeys.antt has the law of dedup)
--     fresh_merge, fresh_rows      a merge of which no source has begun
use Rattle.std.specs.Prelude.{ℕ, ◌≡◌, ◌+◌, ◌≤◌, ◌==◌, Bool, true, false, cond, List, [], ◌∷◌, ◌++◌, length, map, filter, IsPermutation, refl}
use Rattle.std.proofs.Common.{sym, ap, ◌∙◌, subst, inl, inr, arith, append-nil}
use Rattle.std.specs.List.{AllByRecursion}
use Rattle.std.specs.BinaryHeap.{IsHeap}
use Rattle.std.specs.declared.cmp.Ordering.{Ordering}
use Rattle.std.specs.declared.cmp.Ordering.TheVariants.{Less, Equal, Greater}
use Rattle.std.specs.Ordering.{is_lt, nat_cmp, ordering_then}
use Rattle.std.proofs.Common.{ltb}
use Rattle.std.proofs.lemmas.List.Sorted.{IsPermutation-refl, IsPermutation-trans, IsPermutation-cons, IsPermutation-sym, IsPermutation-middle}
use Rattle.std.proofs.lemmas.List.Elements.{filter-append}
use Rattle.std.proofs.lemmas.List.Concat.{flat_map-append}
use Rattle.std.proofs.lemmas.Bool.Decides.{nat_tests}
use Rattle.slate_types.specs.declared.types.RowEntry.{RowEntry}
use Rattle.slate_types.specs.declared.iter.IterationOrder.{IterationOrder}
use Rattle.slate_types.specs.Iteration.{IsInOrder}
use Rattle.slate_merge.specs.declared.head.Head.{Head}
use Rattle.slate_merge.specs.Heads.{head_cmp}
use Rattle.slate_types.specs.RowTurns.{row_cmp, row_before, AreInTurn}
use Rattle.slate_merge.specs.Merge.{put_in, put_all, in_turn, all_rows, merged, shown_rows}
use Rattle.slate_merge.specs.Merging.{Placed, placed, placed_all, placed_before, rows_in, left_rows, CanMerge, IsMerging}
use Rattle.slate_merge.specs.Turns.{both, put_all_append, in_turn_is, in_turn_already, filter_in_turn}
use Rattle.slate_merge.specs.RowOrder.{rows_ranked, in_order_turn}
use Rattle.slate_merge.specs.Rising.{shown_in_order}

module _ {X : Type 0} (before : X → X → Bool) where
  put_same : (x : X) (zs : List X) → IsPermutation (x ∷ zs) (put_in before x zs)
  put_same x [] = IsPermutation-refl (x ∷ [])
  put_same x (z ∷ zs) = elim (both (before z x)) as (λ _. IsPermutation (x ∷ z ∷ zs) (put_in before x (z ∷ zs))) [
    | inl e ↦
        let turned : IsPermutation (x ∷ z ∷ zs) (z ∷ x ∷ zs) = IsPermutation-sym (z ∷ x ∷ zs) (x ∷ z ∷ zs) (IsPermutation-middle (z ∷ []) x zs) in
        rw e (IsPermutation-trans _ _ _ turned (IsPermutation-cons z _ _ (put_same x zs)))
    | inr e ↦ rw e (IsPermutation-refl (x ∷ z ∷ zs))
  ]

  pub in_turn_same : (xs : List X) → IsPermutation xs (in_turn before xs)
  in_turn_same [] = IsPermutation-refl []
  in_turn_same (x ∷ xs) = IsPermutation-trans _ _ _ (IsPermutation-cons x _ _ (in_turn_same xs)) (put_same x (in_turn before xs))

pub merged_same : (order : IterationOrder) (lists : List (List RowEntry)) → IsPermutation (all_rows lists) (merged order false lists)
merged_same order lists = in_turn_same (row_before order) (all_rows lists)

pub merged_in_turn : (order : IterationOrder) (lists : List (List RowEntry)) → AreInTurn (row_before order) (merged order false lists)
merged_in_turn order lists = in_turn_is (row_before order) (rows_ranked order) (all_rows lists)

pub merged_in_order : (order : IterationOrder) (dedup : Bool) (lists : List (List RowEntry)) → IsInOrder order (merged order dedup lists)
merged_in_order order dedup lists = shown_in_order order dedup _ (in_order_turn order _ (merged_in_turn order lists))

filter_all : (test : RowEntry → Bool) (lists : List (List RowEntry)) → filter test (all_rows lists) ≡ all_rows (map (filter test) lists)
filter_all test [] = refl
filter_all test (rows ∷ lists) = filter-append test rows (all_rows lists) ∙ ap (λ l. filter test rows ++ l) (filter_all test lists)

pub merged_kept : (order : IterationOrder) (test : RowEntry → Bool) (lists : List (List RowEntry)) → filter test (merged order false lists) ≡ merged order false (map (filter test) lists)
merged_kept order test lists = filter_in_turn (row_before order) (rows_ranked order) test (all_rows lists) ∙ ap (in_turn (row_before order)) (filter_all test lists)

pub merged_one : (order : IterationOrder) (rows : List RowEntry) → AreInTurn (row_before order) rows → merged order false (rows ∷ []) ≡ rows
merged_one order rows h = ap (in_turn (row_before order)) (append-nil rows) ∙ in_turn_already (row_before order) rows h

pub merged_none : (order : IterationOrder) (dedup : Bool) (lists others : List (List RowEntry)) → merged order dedup (lists ++ ([] ∷ others)) ≡ merged order dedup (lists ++ others)
merged_none order dedup lists others = ap (λ rows. shown_rows dedup (in_turn (row_before order) rows)) (flat_map-append (λ rows. rows) lists ([] ∷ others) ∙ sym (flat_map-append (λ rows. rows) lists others))

-- no row's list has more than n lists behind it
abbrev AreBehind : ℕ → List Placed → Type 0
AreBehind n ps = AllByRecursion (λ p. p.behind ≤ n) ps

no_more : (n m : ℕ) → m ≤ n → is_lt (nat_cmp n m) ≡ false
no_more n m h = let no : ltb n m ≡ false = grind (arith, nat_tests) in by (n == m) no
  where
    by : (t : Bool) → ltb n m ≡ false → is_lt (cond (ltb n m) Less (cond t Equal Greater)) ≡ false
    by true e = rw e refl
    by false e = rw e refl

first_decides : (o q : Ordering) → is_lt q ≡ false → is_lt (ordering_then o q) ≡ is_lt o
first_decides Less q e = refl
first_decides Equal q e = e
first_decides Greater q e = refl

module _ (order : IterationOrder) where
  behind_put : (n m : ℕ) (r : RowEntry) (zs : List Placed) → m ≤ n → AreBehind n zs → AreBehind n (put_in (placed_before order) (record { row = r; behind = m }) zs)
  behind_put n m r [] h k = (h, tt)
  behind_put n m r (z ∷ zs) h k = elim (both (placed_before order z (record { row = r; behind = m }))) as (λ _. AreBehind n (put_in (placed_before order) (record { row = r; behind = m }) (z ∷ zs))) [
    | inl e ↦ rw e (k.0, behind_put n m r zs h k.1)
    | inr e ↦ rw e (h, k)
  ]

  behind_all : (n : ℕ) (rows : List RowEntry) (zs : List Placed) → AreBehind n zs → AreBehind n (put_all (placed_before order) (placed n rows) zs)
  behind_all n [] zs k = k
  behind_all n (r ∷ rows) zs k = behind_put n n r (put_all (placed_before order) (placed n rows) zs) (omega arith) (behind_all n rows zs k)

  same_place : (n : ℕ) (r : RowEntry) (zs : List Placed) → AreBehind n zs → rows_in (put_in (placed_before order) (record { row = r; behind = n }) zs) ≡ put_in (row_before order) r (rows_in zs)
  same_place n r [] k = refl
  same_place n r (z ∷ zs) k =
      let same : placed_before order z (record { row = r; behind = n }) ≡ row_before order z.row r = first_decides (row_cmp order z.row r) (nat_cmp n z.behind) (no_more n z.behind k.0) in
      elim (both (row_before order z.row r)) as (λ _. rows_in (put_in (placed_before order) (record { row = r; behind = n }) (z ∷ zs)) ≡ put_in (row_before order) r (rows_in (z ∷ zs))) [
        | inl e ↦ rw (same, e) (ap (λ l. z.row ∷ l) (same_place n r zs k.1))
        | inr e ↦ rw (same, e) refl
      ]

  same_places : (n : ℕ) (rows : List RowEntry) (zs : List Placed) → AreBehind n zs → rows_in (put_all (placed_before order) (placed n rows) zs) ≡ put_all (row_before order) rows (rows_in zs)
  same_places n [] zs k = refl
  same_places n (r ∷ rows) zs k = same_place n r (put_all (placed_before order) (placed n rows) zs) (behind_all n rows zs k) ∙ ap (put_in (row_before order) r) (same_places n rows zs k)

  fewer_behind : (n : ℕ) (zs : List Placed) → AreBehind n zs → AreBehind (n + 1) zs
  fewer_behind n [] k = tt
  fewer_behind n (z ∷ zs) k = (omega (arith, k.0), fewer_behind n zs k.1)

  all_behind : (lists : List (List RowEntry)) → AreBehind (length lists) (in_turn (placed_before order) (placed_all lists))
  all_behind [] = tt
  all_behind (rows ∷ lists) =
      let inner = behind_all (length lists) rows (in_turn (placed_before order) (placed_all lists)) (all_behind lists) in
      let whole = put_all_append (placed_before order) (placed (length lists) rows) (placed_all lists) [] in
      let one : length lists + 1 ≡ length (rows ∷ lists) = omega arith in
      subst (λ n. AreBehind n (in_turn (placed_before order) (placed_all (rows ∷ lists)))) one (subst (AreBehind (length lists + 1)) (sym whole) (fewer_behind (length lists) _ inner))

  pub merged_by_place : (lists : List (List RowEntry)) → rows_in (in_turn (placed_before order) (placed_all lists)) ≡ in_turn (row_before order) (all_rows lists)
  merged_by_place [] = refl
  merged_by_place (rows ∷ lists) =
      ap rows_in (put_all_append (placed_before order) (placed (length lists) rows) (placed_all lists) [])
      ∙ same_places (length lists) rows (in_turn (placed_before order) (placed_all lists)) (all_behind lists)
      ∙ ap (put_all (row_before order) rows) (merged_by_place lists)
      ∙ sym (put_all_append (row_before order) rows (all_rows lists) [])

module _ {S : Type 0} (rest : S → List RowEntry) where
  -- the rows of a merge of which no source has begun
  pub fresh_rows : (order : IterationOrder) (dedup : Bool) (sources : List S) → shown_rows dedup (left_rows rest order sources []) ≡ merged order dedup (map rest sources)
  fresh_rows order dedup sources = ap (shown_rows dedup) (merged_by_place order (map rest sources))

  pub fresh_merge : (sound : S → Type 0) (order : IterationOrder) (sources : List S) → AllByRecursion (CanMerge rest sound order) sources → IsHeap {X = Head S} head_cmp [] → IsMerging rest sound order sources []
  fresh_merge sound order sources h heap = record { ready = h; begun = tt; heap = heap; placed = λ n. omega arith; ahead = tt }
