-- The orders of rows and of placed rows.
--     row_total, placed_total      by their comparisons rows and placed rows are ordered
--     rows_ranked, placed_ranked      and so by which stands before which
--     placed_apart      of rows of two lists one stands before the other
--     put_either, put_past_all, all_past_all      rows of two lists can be put in either way round
--     placed_behind      the rows of a list that stand behind its first do so where they are placed
--     not_before_key, none_before_turn, in_order_turn      what doesn't stand before a row has no key before its key; so rows in turn come in the
--                                                          order
--     rows_in_turn      placed rows in turn are rows in turn
--     dropped_in_turn, dropped_again      what is left behind a seek is in turn, and the same seek leaves all of it
use Rattle.std.proofs.Common.{◌≡◌, ℕ, Bool, true, false, cond, List, [], ◌∷◌, refl, sym, ap, ◌∙◌, inl, inr, ◌⊎◌, arith, rules, ltb, ◌==◌, Ordering, Less, Equal, Greater}
use Rattle.std.specs.Cmp.{IsStrictWeakOrder, IsTotalOrder}
use Rattle.std.specs.Cmp.Rules.{comparing}
use Rattle.std.specs.Ordering.{is_lt, nat_cmp, ordering_then, ordering_reverse}
use Rattle.std.proofs.lemmas.List.Sorted.{ranks_by}
use Rattle.std.proofs.lemmas.Bool.Decides.{nat_tests}
use Rattle.slate_types.specs.declared.types.RowEntry.{RowEntry}
use Rattle.slate_types.specs.declared.iter.IterationOrder.{IterationOrder}
use Rattle.slate_types.specs.declared.iter.IterationOrder.TheVariants.{Ascending, Descending}
use Rattle.slate_types.specs.Keys.{key_cmp}
use Rattle.slate_types.specs.Iteration.{comes_before, drop_before, NoneBefore, IsInOrder}
use Rattle.slate_types.specs.RowTurns.{row_cmp, row_before, NoneEarlier, AreInTurn}
use Rattle.slate_merge.specs.Merge.{put_in, put_all}
use Rattle.slate_merge.specs.Merging.{Placed, placed_cmp, placed_before, placed, rows_in}
use Rattle.slate_merge.specs.Turns.{both, put_swap}

pub row_total : (order : IterationOrder) → IsTotalOrder (row_cmp order)
row_total Ascending = search (comparing, rules) depth 9
row_total Descending = search (comparing, rules) depth 9

pub placed_total : (order : IterationOrder) → IsTotalOrder (placed_cmp order)
placed_total Ascending = search (comparing, rules) depth 9
placed_total Descending = search (comparing, rules) depth 9

pub rows_ranked : (order : IterationOrder) → IsStrictWeakOrder (row_before order)
rows_ranked order = ranks_by (row_total order) (λ r. r)

pub placed_ranked : (order : IterationOrder) → IsStrictWeakOrder (placed_before order)
placed_ranked order = ranks_by (placed_total order) (λ p. p)

numbers_apart : (m n : ℕ) → (m == n) ≡ false → (nat_cmp m n ≡ Less) ⊎ (nat_cmp n m ≡ Less)
numbers_apart m n e = by (ltb m n) refl
  where
    by : (l : Bool) → ltb m n ≡ l → (nat_cmp m n ≡ Less) ⊎ (nat_cmp n m ≡ Less)
    by true f = inl (rw f refl)
    by false f = let back : ltb n m ≡ true = grind (arith, nat_tests, f, e) in inr (rw back refl)

-- of rows at different places one stands before the other
pub placed_apart : (order : IterationOrder) (p q : Placed) → (q.behind == p.behind) ≡ false → (placed_before order p q ≡ true) ⊎ (placed_before order q p ≡ true)
placed_apart order p q e = by (row_cmp order p.row q.row) refl
  where
    back : row_cmp order q.row p.row ≡ ordering_reverse (row_cmp order p.row q.row)
    back = (row_total order).antisymm q.row p.row

    by : (o : Ordering) → row_cmp order p.row q.row ≡ o → (placed_before order p q ≡ true) ⊎ (placed_before order q p ≡ true)
    by Less f = inl (ap (λ o. is_lt (ordering_then o (nat_cmp q.behind p.behind))) f)
    by Greater f = inr (ap (λ o. is_lt (ordering_then o (nat_cmp p.behind q.behind))) (back ∙ ap ordering_reverse f))
    by Equal f = elim (numbers_apart q.behind p.behind e) as (λ _. (placed_before order p q ≡ true) ⊎ (placed_before order q p ≡ true)) [
      | inl less ↦ inl (ap (λ o. is_lt (ordering_then o (nat_cmp q.behind p.behind))) f ∙ ap is_lt less)
      | inr less ↦ inr (ap (λ o. is_lt (ordering_then o (nat_cmp p.behind q.behind))) (back ∙ ap ordering_reverse f) ∙ ap is_lt less)
    ]

pub put_either : (order : IterationOrder) (p q : Placed) (zs : List Placed) → (q.behind == p.behind) ≡ false → put_in (placed_before order) p (put_in (placed_before order) q zs) ≡ put_in (placed_before order) q (put_in (placed_before order) p zs)
put_either order p q zs e = elim (placed_apart order p q e) as (λ _. put_in (placed_before order) p (put_in (placed_before order) q zs) ≡ put_in (placed_before order) q (put_in (placed_before order) p zs)) [
  | inl h ↦ put_swap (placed_before order) (placed_ranked order) p q zs h
  | inr h ↦ sym (put_swap (placed_before order) (placed_ranked order) q p zs h)
]

pub put_past_all : (order : IterationOrder) (p : Placed) (m : ℕ) (rows : List RowEntry) (zs : List Placed) → (m == p.behind) ≡ false
    → put_in (placed_before order) p (put_all (placed_before order) (placed m rows) zs) ≡ put_all (placed_before order) (placed m rows) (put_in (placed_before order) p zs)
put_past_all order p m [] zs e = refl
put_past_all order p m (r ∷ rows) zs e =
    let q : Placed = record { row = r; behind = m } in
    put_either order p q (put_all (placed_before order) (placed m rows) zs) e ∙ ap (put_in (placed_before order) q) (put_past_all order p m rows zs e)

pub all_past_all : (order : IterationOrder) (n m : ℕ) (rows others : List RowEntry) (zs : List Placed) → (m == n) ≡ false
    → put_all (placed_before order) (placed n rows) (put_all (placed_before order) (placed m others) zs) ≡ put_all (placed_before order) (placed m others) (put_all (placed_before order) (placed n rows) zs)
all_past_all order n m [] others zs e = refl
all_past_all order n m (r ∷ rows) others zs e =
    let p : Placed = record { row = r; behind = n } in
    ap (put_in (placed_before order) p) (all_past_all order n m rows others zs e) ∙ put_past_all order p m others (put_all (placed_before order) (placed n rows) zs) e

same_number : (n : ℕ) → nat_cmp n n ≡ Equal
same_number n =
    let below : ltb n n ≡ false = grind (arith, nat_tests) in
    let same : (n == n) ≡ true = grind (arith, nat_tests) in
    λ i. cond (below i) Less (cond (same i) Equal Greater)

no_less : (o : Ordering) → is_lt o ≡ false → is_lt (ordering_then o Equal) ≡ false
no_less Less h = h
no_less Equal h = refl
no_less Greater h = refl

-- rows of one list, which stand behind its first
pub placed_behind : (order : IterationOrder) (n : ℕ) (r : RowEntry) (rows : List RowEntry) → NoneEarlier (row_before order) r rows → NoneEarlier (placed_before order) (record { row = r; behind = n }) (placed n rows)
placed_behind order n r [] h = tt
placed_behind order n r (s ∷ rows) h =
    (ap (λ o. is_lt (ordering_then (row_cmp order s r) o)) (same_number n) ∙ no_less (row_cmp order s r) h.0, placed_behind order n r rows h.1)

-- what doesn't stand before a row has no key that comes before its
key_first : (o p : Ordering) → is_lt (ordering_then o p) ≡ false → is_lt o ≡ false
key_first Less p h = h
key_first Equal p h = refl
key_first Greater p h = refl

pub not_before_key : (order : IterationOrder) (r s : RowEntry) → row_before order s r ≡ false → comes_before order s.key r.key ≡ false
not_before_key Ascending r s h = key_first (key_cmp s.key r.key) (nat_cmp r.seq s.seq) h
not_before_key Descending r s h = key_first (key_cmp r.key s.key) (nat_cmp r.seq s.seq) h

pub none_before_turn : (order : IterationOrder) (r : RowEntry) (rows : List RowEntry) → NoneEarlier (row_before order) r rows → NoneBefore order r.key rows
none_before_turn order r [] h = tt
none_before_turn order r (s ∷ rows) h = (not_before_key order r s h.0, none_before_turn order r rows h.1)

-- rows in turn come in the order
pub in_order_turn : (order : IterationOrder) (rows : List RowEntry) → AreInTurn (row_before order) rows → IsInOrder order rows
in_order_turn order [] h = tt
in_order_turn order (r ∷ rows) h = (none_before_turn order r rows h.0, in_order_turn order rows h.1)

none_placed : (order : IterationOrder) (p : Placed) (ps : List Placed) → NoneEarlier (placed_before order) p ps → NoneEarlier (row_before order) p.row (rows_in ps)
none_placed order p [] h = tt
none_placed order p (q ∷ ps) h = (key_first (row_cmp order q.row p.row) (nat_cmp p.behind q.behind) h.0, none_placed order p ps h.1)

pub rows_in_turn : (order : IterationOrder) (ps : List Placed) → AreInTurn (placed_before order) ps → AreInTurn (row_before order) (rows_in ps)
rows_in_turn order [] h = tt
rows_in_turn order (p ∷ ps) h = (none_placed order p ps h.0, rows_in_turn order ps h.1)

-- what is left behind a seek is in turn
pub dropped_in_turn : (order : IterationOrder) (key : List ℕ) (rows : List RowEntry) → AreInTurn (row_before order) rows → AreInTurn (row_before order) (drop_before order key rows)
dropped_in_turn order key [] h = tt
dropped_in_turn order key (r ∷ rows) h =
    elim (both (comes_before order r.key key)) as (λ _. AreInTurn (row_before order) (drop_before order key (r ∷ rows))) [
      | inl before ↦ rw before (dropped_in_turn order key rows h.1)
      | inr after ↦ rw after h
    ]

pub dropped_again : (order : IterationOrder) (key : List ℕ) (rows : List RowEntry) → drop_before order key (drop_before order key rows) ≡ drop_before order key rows
dropped_again order key [] = refl
dropped_again order key (r ∷ rows) =
    elim (both (comes_before order r.key key)) as (λ _. drop_before order key (drop_before order key (r ∷ rows)) ≡ drop_before order key (r ∷ rows)) [
      | inl before ↦ rw before (dropped_again order key rows)
      | inr after ↦ rw (after, after) refl
    ]
