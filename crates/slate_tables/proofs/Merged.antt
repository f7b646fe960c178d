-- The rows of a key in a merge of tables, the newest table first, are its rows in all tables by
-- falling sequence.
use Rattle.std.proofs.Common.{◌≡◌, ℕ, ◌≤◌, ltb, Bool, true, false, cond, ◌&&◌, List, [], ◌∷◌, ◌++◌, map, filter, flat_map, reverse, Option, Some, None, option_to_list, bytes_eq, nat_lt, refl, sym, ap, subst, ◌∙◌, arith, append-nil}
use Rattle.std.specs.Prelude.{◌==◌, nat_le, ◌||◌, IsTrue}
use Rattle.std.specs.List.{AllByRecursion}
use Rattle.std.specs.Ordering.{is_lt, nat_cmp, ordering_then}
use Rattle.std.specs.declared.cmp.Ordering.{Ordering}
use Rattle.std.specs.declared.cmp.Ordering.TheVariants.{Less, Equal, Greater}
use Rattle.std.proofs.lemmas.Bool.Decides.{nat_tests}
use Rattle.std.proofs.lemmas.List.{reverse-append, reverse-reverse}
use Rattle.std.proofs.lemmas.List.Concat.{flat_map-append}
use Rattle.std.proofs.lemmas.List.Elements.{filter-append}
use Rattle.std.proofs.lemmas.Slice.Eq.{bytes_eq-Decides}
use Rattle.slate_types.specs.declared.bytes_range.BytesRange.{BytesRange}
use Rattle.slate_types.specs.declared.iter.IterationOrder.{IterationOrder}
use Rattle.slate_types.specs.declared.iter.IterationOrder.TheVariants.{Ascending, Descending}
use Rattle.slate_types.specs.declared.types.RowEntry.{RowEntry}
use Rattle.slate_types.specs.Iteration.{in_order}
use Rattle.slate_types.specs.Keys.{in_range, key_cmp, key_lt}
use Rattle.slate_types.specs.Rows.{of_key, row_lt}
use Rattle.slate_types.specs.RowTurns.{AreInTurn, NoneEarlier, key_order, row_before}
use Rattle.slate_types.proofs.KeyOrder.{lt_irreflexive}
use Rattle.slate_types.proofs.Lists.{AllByRecursion_append, AllByRecursion_push, AllByRecursion_reverse, map_reverse}
use Rattle.slate_merge.specs.Groups.{newest_first, put_behind}
use Rattle.slate_merge.specs.Merge.{all_rows, in_turn, merged}
use Rattle.slate_merge.specs.MergeLaws.{merged_in_turn, merged_kept}
use Rattle.slate_merge.specs.Turns.{in_turn_already}
use Rattle.slate_merge.proofs.FoldedTurns.{not_greater}
use Rattle.slate_table.specs.Stored.{by_seq}
use Rattle.slate_tables.specs.Sequences.{Climb, of_seq}
use Rattle.slate_table.specs.Table.{AreInOrder}
use Rattle.slate_read.specs.TableWalk.{is_in}
use Rattle.slate_tables.specs.Exported.{table_rows}
use Rattle.slate_tables.proofs.Sequences.{keeps_places, sorted_once}

-- ---- filters

filter_reverse : {X : Type 0} (u : X → Bool) (xs : List X) → filter u (reverse xs) ≡ reverse (filter u xs)
filter_reverse u [] = refl
filter_reverse {X = X} u (x ∷ xs) =
    ap (filter u) (reverse-append (x ∷ []) xs) ∙ filter-append u (reverse xs) (x ∷ []) ∙ ap (λ ys. ys ++ filter u (x ∷ [])) (filter_reverse u xs) ∙ by (u x)
  where
    us : List X
    us = filter u xs

    by : (t : Bool) → reverse us ++ cond t (x ∷ []) [] ≡ reverse (cond t (x ∷ us) us)
    by true = sym (reverse-append (x ∷ []) us)
    by false = append-nil (reverse us)

pub filter_both : {X : Type 0} (u v : X → Bool) (xs : List X) → filter u (filter v xs) ≡ filter (λ x. v x && u x) xs
filter_both u v [] = refl
filter_both {X = X} u v (x ∷ xs) = by (v x) (filter_both u v xs)
  where
    by : (b : Bool) → filter u (filter v xs) ≡ filter (λ x. v x && u x) xs → filter u (cond b (x ∷ filter v xs) (filter v xs)) ≡ cond (b && u x) (x ∷ filter (λ x. v x && u x) xs) (filter (λ x. v x && u x) xs)
    by true e = ap (λ (l : List X). cond (u x) (x ∷ l) l) e
    by false e = e

filter_lists : (test : RowEntry → Bool) (lists : List (List RowEntry)) → filter test (all_rows lists) ≡ all_rows (map (filter test) lists)
filter_lists test [] = refl
filter_lists test (rows ∷ lists) = filter-append test rows (all_rows lists) ∙ ap (λ l. filter test rows ++ l) (filter_lists test lists)

-- ---- rows of one key and one sequence

abbrev is_at : List ℕ → ℕ → RowEntry → Bool
is_at k n r = bytes_eq r.key k && (r.seq == n)

abbrev IsAt : List ℕ → ℕ → RowEntry → Type 0
IsAt k n r = (r.key ≡ k) × (r.seq ≡ n)

is_seq : (m n : ℕ) → (m == n) ≡ true → m ≡ n
is_seq m n h = grind (arith, nat_tests, h)

at_both : (k : List ℕ) (n : ℕ) (r : RowEntry) → is_at k n r ≡ true → IsAt k n r
at_both k n r h = by (bytes_eq r.key k) (r.seq == n) refl refl h
  where
    by : (a b : Bool) → bytes_eq r.key k ≡ a → (r.seq == n) ≡ b → (a && b) ≡ true → IsAt k n r
    by true true e f h = ((bytes_eq-Decides r.key k).0 e, is_seq r.seq n f)
    by true false e f h = cc
    by false b e f h = cc

all_at : (k : List ℕ) (n : ℕ) (rows : List RowEntry) → AllByRecursion (IsAt k n) (filter (is_at k n) rows)
all_at k n [] = tt
all_at k n (r ∷ rows) = by (is_at k n r) refl (all_at k n rows)
  where
    by : (b : Bool) → is_at k n r ≡ b → AllByRecursion (IsAt k n) (filter (is_at k n) rows) → AllByRecursion (IsAt k n) (cond b (r ∷ filter (is_at k n) rows) (filter (is_at k n) rows))
    by true e later = (at_both k n r e, later)
    by false e later = later

all_lists_at : (k : List ℕ) (n : ℕ) (lists : List (List RowEntry)) → AllByRecursion (IsAt k n) (all_rows (map (filter (is_at k n)) lists))
all_lists_at k n [] = tt
all_lists_at k n (rows ∷ lists) = AllByRecursion_append (IsAt k n) (filter (is_at k n) rows) (all_rows (map (filter (is_at k n)) lists)) (all_at k n rows) (all_lists_at k n lists)

no_more : (n : ℕ) → is_lt (nat_cmp n n) ≡ false
no_more n = let no : ltb n n ≡ false = grind (arith, nat_tests) in by (n == n) no
  where
    by : (t : Bool) → ltb n n ≡ false → is_lt (cond (ltb n n) Less (cond t Equal Greater)) ≡ false
    by true e = rw e refl
    by false e = rw e refl

alike : (k : List ℕ) (n : ℕ) → is_lt (ordering_then (key_cmp k k) (nat_cmp n n)) ≡ false
alike k n = by (key_cmp k k) refl
  where
    by : (o : Ordering) → key_cmp k k ≡ o → is_lt (ordering_then o (nat_cmp n n)) ≡ false
    by Less e = lt_irreflexive k (ap is_lt e)
    by Equal e = no_more n
    by Greater e = refl

alike_in : (order : IterationOrder) (k : List ℕ) (n : ℕ) → is_lt (ordering_then (key_order order k k) (nat_cmp n n)) ≡ false
alike_in Ascending k n = alike k n
alike_in Descending k n = alike k n

alike_rows : (order : IterationOrder) (k : List ℕ) (n : ℕ) (s r : RowEntry) → IsAt k n s → IsAt k n r → row_before order s r ≡ false
alike_rows order k n s r h j = (λ i. is_lt (ordering_then (key_order order (h.0 i) (j.0 i)) (nat_cmp (j.1 i) (h.1 i)))) ∙ alike_in order k n

none_alike : (order : IterationOrder) (k : List ℕ) (n : ℕ) (r : RowEntry) (rows : List RowEntry) → IsAt k n r → AllByRecursion (IsAt k n) rows → NoneEarlier (row_before order) r rows
none_alike order k n r [] h a = tt
none_alike order k n r (s ∷ rows) h a = (alike_rows order k n s r a.0 h, none_alike order k n r rows h a.1)

turn_alike : (order : IterationOrder) (k : List ℕ) (n : ℕ) (rows : List RowEntry) → AllByRecursion (IsAt k n) rows → AreInTurn (row_before order) rows
turn_alike order k n [] a = tt
turn_alike order k n (r ∷ rows) a = (none_alike order k n r rows a.0 a.1, turn_alike order k n rows a.1)

-- ---- a table has at most one such row

never_less : (k : List ℕ) (n : ℕ) → (key_lt k k || (bytes_eq k k && nat_lt n n)) ≡ false
never_less k n = by (key_lt k k) (nat_lt n n) refl (grind (arith, nat_tests))
  where
    by : (a b : Bool) → key_lt k k ≡ a → b ≡ false → (a || (bytes_eq k k && b)) ≡ false
    by true b e f = lt_irreflexive k e
    by false b e f = ap (λ t. bytes_eq k k && t) f ∙ and_none (bytes_eq k k)
      where
        and_none : (t : Bool) → (t && false) ≡ false
        and_none true = refl
        and_none false = refl

not_both : {A : Type 0} (k : List ℕ) (n : ℕ) (r s : RowEntry) → IsAt k n r → IsAt k n s → IsTrue (row_lt r s) → A
not_both k n r s h j below =
    let same : row_lt r s ≡ (key_lt k k || (bytes_eq k k && nat_lt n n)) = λ i. key_lt (h.0 i) (j.0 i) || (bytes_eq (h.0 i) (j.0 i) && nat_lt (j.1 i) (h.1 i)) in
    let no : row_lt r s ≡ false = same ∙ never_less k n in
    let yes : row_lt r s ≡ true = below in
    cc

none_more : (k : List ℕ) (n : ℕ) (r : RowEntry) (rows : List RowEntry) → IsAt k n r → AllByRecursion (λ s. IsTrue (row_lt r s)) rows → filter (is_at k n) rows ≡ []
none_more k n r [] h a = refl
none_more k n r (s ∷ rows) h a = by (is_at k n s) refl (none_more k n r rows h a.1)
  where
    by : (b : Bool) → is_at k n s ≡ b → filter (is_at k n) rows ≡ [] → cond b (s ∷ filter (is_at k n) rows) (filter (is_at k n) rows) ≡ []
    by true e later = not_both k n r s h (at_both k n s e) a.0
    by false e later = later

pub record AtMostOne (rows : List RowEntry) : Type 0 where
  pub row : Option RowEntry
  pub is : rows ≡ option_to_list row

one_at : (k : List ℕ) (n : ℕ) (rows : List RowEntry) → AreInOrder rows → AtMostOne (filter (is_at k n) rows)
one_at k n [] h = record { row = None; is = refl }
one_at k n (r ∷ rows) h = by (is_at k n r) refl (one_at k n rows h.1)
  where
    by : (b : Bool) → is_at k n r ≡ b → AtMostOne (filter (is_at k n) rows) → AtMostOne (cond b (r ∷ filter (is_at k n) rows) (filter (is_at k n) rows))
    by true e later = record { row = Some r; is = ap (λ l. r ∷ l) (none_more k n r rows (at_both k n r e) h.0) }
    by false e later = later

option_reversed : (o : Option RowEntry) → reverse (option_to_list o) ≡ option_to_list o
option_reversed None = refl
option_reversed (Some r) = refl

one_reversed : (rows : List RowEntry) → AtMostOne rows → reverse rows ≡ rows
one_reversed rows h = ap reverse h.is ∙ option_reversed h.row ∙ sym h.is

each_one : (k : List ℕ) (n : ℕ) (tables : List (List RowEntry)) → AllByRecursion AreInOrder tables → AllByRecursion (λ (g : List RowEntry). reverse g ≡ g) (map (filter (is_at k n)) tables)
each_one k n [] h = tt
each_one k n (rows ∷ tables) h = (one_reversed (filter (is_at k n) rows) (one_at k n rows h.0), each_one k n tables h.1)

reversed_lists : (gs : List (List RowEntry)) → AllByRecursion (λ (g : List RowEntry). reverse g ≡ g) gs → reverse (all_rows (reverse gs)) ≡ all_rows gs
reversed_lists [] h = refl
reversed_lists (g ∷ gs) h =
    ap (λ (l : List (List RowEntry)). reverse (all_rows l)) (reverse-append (g ∷ []) gs)
    ∙ ap reverse (flat_map-append (λ (rows : List RowEntry). rows) (reverse gs) (g ∷ []))
    ∙ reverse-append (all_rows (reverse gs)) (g ++ [])
    ∙ ap (λ l. reverse l ++ reverse (all_rows (reverse gs))) (append-nil g)
    ∙ ap (λ l. l ++ reverse (all_rows (reverse gs))) h.0
    ∙ ap (λ l. g ++ l) (reversed_lists gs h.1)

-- ---- rows of a key in turn fall

abbrev Fall : List RowEntry → Type 0
Fall [] = Unit {0}
Fall (r ∷ rows) = AllByRecursion (λ s. s.seq ≤ r.seq) rows × Fall rows

is_upto : (m n : ℕ) → nat_le m n ≡ true → m ≤ n
is_upto m n h = grind (arith, nat_tests, h)

none_above : (order : IterationOrder) (k : List ℕ) (r : RowEntry) (rows : List RowEntry) → r.key ≡ k → NoneEarlier (row_before order) r rows → AllByRecursion (λ s. s.seq ≤ r.seq) (of_key k rows)
none_above order k r [] e h = tt
none_above order k r (s ∷ rows) e h = by (bytes_eq s.key k) refl (none_above order k r rows e h.1)
  where
    by : (b : Bool) → bytes_eq s.key k ≡ b → AllByRecursion (λ s. s.seq ≤ r.seq) (of_key k rows) → AllByRecursion (λ s. s.seq ≤ r.seq) (cond b (s ∷ of_key k rows) (of_key k rows))
    by true is later = (is_upto s.seq r.seq (not_greater order r s ((bytes_eq-Decides s.key k).0 is ∙ sym e) h.0), later)
    by false is later = later

fall_of_key : (order : IterationOrder) (k : List ℕ) (rows : List RowEntry) → AreInTurn (row_before order) rows → Fall (of_key k rows)
fall_of_key order k [] h = tt
fall_of_key order k (r ∷ rows) h = by (bytes_eq r.key k) refl (fall_of_key order k rows h.1)
  where
    by : (b : Bool) → bytes_eq r.key k ≡ b → Fall (of_key k rows) → Fall (cond b (r ∷ of_key k rows) (of_key k rows))
    by true is later = (none_above order k r rows ((bytes_eq-Decides r.key k).0 is) h.0, later)
    by false is later = later

climb_last : (xs : List RowEntry) (r : RowEntry) → Climb xs → AllByRecursion (λ s. s.seq ≤ r.seq) xs → Climb (xs ++ (r ∷ []))
climb_last [] r h a = (tt, tt)
climb_last (x ∷ xs) r h a = (AllByRecursion_push (λ (s : RowEntry). x.seq ≤ s.seq) xs r h.0 a.0, climb_last xs r h.1 a.1)

climb_reversed : (rows : List RowEntry) → Fall rows → Climb (reverse rows)
climb_reversed [] h = tt
climb_reversed (r ∷ rows) h =
    subst Climb (sym (reverse-append (r ∷ []) rows)) (climb_last (reverse rows) r (climb_reversed rows h.1) (AllByRecursion_reverse (λ (s : RowEntry). s.seq ≤ r.seq) rows h.0))

-- ---- the rows of a table in a range, in an order

lone_put : (u : RowEntry → Bool) (r : RowEntry) (rows : List RowEntry) → AtMostOne (filter u (r ∷ rows)) → filter u (put_behind r rows) ≡ filter u (r ∷ rows)
lone_put u r [] h = refl
lone_put u r (s ∷ rows) h = by (bytes_eq s.key r.key) (lone_put u r rows (fewer (u r) (u s) h))
  where
    pair : (a b : Bool) → AtMostOne (cond a (r ∷ cond b (s ∷ filter u rows) (filter u rows)) (cond b (s ∷ filter u rows) (filter u rows))) →
        cond b (s ∷ cond a (r ∷ filter u rows) (filter u rows)) (cond a (r ∷ filter u rows) (filter u rows)) ≡ cond a (r ∷ cond b (s ∷ filter u rows) (filter u rows)) (cond b (s ∷ filter u rows) (filter u rows))
    pair true true k = two k.row k.is
      where
        two : {A : Type 0} (o : Option RowEntry) → r ∷ s ∷ filter u rows ≡ option_to_list o → A
        two None e = cc
        two (Some x) e = cc
    pair true false k = refl
    pair false b k = refl

    fewer : (a b : Bool) → AtMostOne (cond a (r ∷ cond b (s ∷ filter u rows) (filter u rows)) (cond b (s ∷ filter u rows) (filter u rows))) → AtMostOne (cond a (r ∷ filter u rows) (filter u rows))
    fewer true true k = two k.row k.is
      where
        two : {A : Type 0} (o : Option RowEntry) → r ∷ s ∷ filter u rows ≡ option_to_list o → A
        two None e = cc
        two (Some x) e = cc
    fewer true false k = k
    fewer false true k = record { row = None; is = gone k.row k.is }
      where
        gone : (o : Option RowEntry) → s ∷ filter u rows ≡ option_to_list o → filter u rows ≡ []
        gone None e = cc
        gone (Some x) e = cc
    fewer false false k = k

    by : (t : Bool) → filter u (put_behind r rows) ≡ filter u (r ∷ rows) → filter u (cond t (s ∷ put_behind r rows) (r ∷ s ∷ rows)) ≡ filter u (r ∷ s ∷ rows)
    by true later = ap (λ l. cond (u s) (s ∷ l) l) later ∙ pair (u r) (u s) h
    by false later = refl

lone_newest : (u : RowEntry → Bool) (rows : List RowEntry) → AtMostOne (filter u rows) → filter u (newest_first rows) ≡ filter u rows
lone_newest u [] h = refl
lone_newest u (r ∷ rows) h =
    let later = lone_newest u rows (rest (u r) h) in
    lone_put u r (newest_first rows) (subst AtMostOne (ap (λ l. cond (u r) (r ∷ l) l) (sym later)) h) ∙ ap (λ l. cond (u r) (r ∷ l) l) later
  where
    rest : (a : Bool) → AtMostOne (cond a (r ∷ filter u rows) (filter u rows)) → AtMostOne (filter u rows)
    rest true k = record { row = None; is = gone k.row k.is }
      where
        gone : (o : Option RowEntry) → r ∷ filter u rows ≡ option_to_list o → filter u rows ≡ []
        gone None e = cc
        gone (Some x) e = cc
    rest false k = k

-- what a test keeps that keeps at most one row
pub lone_rows : (u : RowEntry → Bool) (order : IterationOrder) (range : BytesRange) (rows : List RowEntry) (kept : List RowEntry) → filter u (filter (is_in range) rows) ≡ kept → AtMostOne kept → filter u (table_rows order range rows) ≡ kept
lone_rows u Ascending range rows kept is one = is
lone_rows u Descending range rows kept is one =
    let turned : filter u (reverse (filter (is_in range) rows)) ≡ kept = filter_reverse u (filter (is_in range) rows) ∙ ap reverse is ∙ one_reversed kept one in
    lone_newest u (reverse (filter (is_in range) rows)) (subst AtMostOne (sym turned) one) ∙ turned

in_both : (range : BytesRange) (k : List ℕ) (n : ℕ) → in_range range k ≡ true → (rows : List RowEntry) → filter (is_at k n) (filter (is_in range) rows) ≡ filter (is_at k n) rows
in_both range k n inside rows = filter_both (is_at k n) (is_in range) rows ∙ each rows
  where
    one : (r : RowEntry) → (is_in range r && is_at k n r) ≡ is_at k n r
    one r = by (is_at k n r) refl
      where
        and_none : (t : Bool) → (t && false) ≡ false
        and_none true = refl
        and_none false = refl

        by : (b : Bool) → is_at k n r ≡ b → (is_in range r && b) ≡ b
        by true e = ap (λ t. t && true) (ap (in_range range) (at_both k n r e).0 ∙ inside)
        by false e = and_none (is_in range r)

    each : (rows : List RowEntry) → filter (λ r. is_in range r && is_at k n r) rows ≡ filter (is_at k n) rows
    each [] = refl
    each (r ∷ rows) = ap (λ b. cond b (r ∷ filter (λ r. is_in range r && is_at k n r) rows) (filter (λ r. is_in range r && is_at k n r) rows)) (one r) ∙ ap (λ l. cond (is_at k n r) (r ∷ l) l) (each rows)

same_groups : (order : IterationOrder) (range : BytesRange) (k : List ℕ) (n : ℕ) → in_range range k ≡ true → (tables : List (List RowEntry)) → AllByRecursion AreInOrder tables →
    map (filter (is_at k n)) (map (table_rows order range) tables) ≡ map (filter (is_at k n)) tables
same_groups order range k n inside [] h = refl
same_groups order range k n inside (rows ∷ tables) h = λ i.
    lone_rows (is_at k n) order range rows (filter (is_at k n) rows) (in_both range k n inside rows) (one_at k n rows h.0) i
    ∷ same_groups order range k n inside tables h.1 i

-- ---- the merge

pub merged_by_seq : (order : IterationOrder) (range : BytesRange) (tables : List (List RowEntry)) → AllByRecursion AreInOrder tables → (k : List ℕ) → in_range range k ≡ true →
    reverse (of_key k (merged order false (map (table_rows order range) (reverse tables)))) ≡ by_seq (of_key k (all_rows tables))
merged_by_seq order range tables h k inside =
    sorted_once (reverse (of_key k merge)) (by_seq (of_key k rows))
    (climb_reversed (of_key k merge) (fall_of_key order k merge (merged_in_turn order lists)))
    (keeps_places (of_key k rows)).0
    (λ n. each n)
  where
    lists : List (List RowEntry)
    lists = map (table_rows order range) (reverse tables)

    merge : List RowEntry
    merge = merged order false lists

    rows : List RowEntry
    rows = all_rows tables

    groups : ℕ → List (List RowEntry)
    groups n = map (filter (is_at k n)) tables

    here : (n : ℕ) → of_seq n (of_key k merge) ≡ all_rows (reverse (groups n))
    here n =
        filter_both (λ r. r.seq == n) (λ r. bytes_eq r.key k) merge
        ∙ merged_kept order (is_at k n) lists
        ∙ in_turn_already (row_before order) (all_rows (map (filter (is_at k n)) lists)) (turn_alike order k n _ (all_lists_at k n lists))
        ∙ ap all_rows (same_groups order range k n inside (reverse tables) (AllByRecursion_reverse AreInOrder tables h) ∙ map_reverse (filter (is_at k n)) tables)

    each : (n : ℕ) → of_seq n (reverse (of_key k merge)) ≡ of_seq n (by_seq (of_key k rows))
    each n =
        filter_reverse (λ r. r.seq == n) (of_key k merge)
        ∙ ap reverse (here n)
        ∙ reversed_lists (groups n) (each_one k n tables h)
        ∙ sym (filter_lists (is_at k n) tables)
        ∙ sym (filter_both (λ r. r.seq == n) (λ r. bytes_eq r.key k) rows)
        ∙ sym ((keeps_places (of_key k rows)).1 n)

-- ---- keys out of the range

none_in : (range : BytesRange) (k : List ℕ) → in_range range k ≡ false → (rows : List RowEntry) → of_key k (filter (is_in range) rows) ≡ []
none_in range k outside [] = refl
none_in range k outside (r ∷ rows) = by (is_in range r) (bytes_eq r.key k) refl refl (none_in range k outside rows)
  where
    by : (a b : Bool) → is_in range r ≡ a → bytes_eq r.key k ≡ b → of_key k (filter (is_in range) rows) ≡ [] → of_key k (cond a (r ∷ filter (is_in range) rows) (filter (is_in range) rows)) ≡ []
    by true true e f later = let is : r.key ≡ k = (bytes_eq-Decides r.key k).0 f in let no : true ≡ false = sym e ∙ ap (in_range range) is ∙ outside in cc
    by true false e f later = ap (λ b. cond b (r ∷ of_key k (filter (is_in range) rows)) (of_key k (filter (is_in range) rows))) f ∙ later
    by false b e f later = later

none_listed : (order : IterationOrder) (range : BytesRange) (k : List ℕ) → in_range range k ≡ false → (tables : List (List RowEntry)) → all_rows (map (of_key k) (map (table_rows order range) tables)) ≡ []
none_listed order range k outside [] = refl
none_listed order range k outside (rows ∷ tables) = λ i.
    lone_rows (λ r. bytes_eq r.key k) order range rows [] (none_in range k outside rows) (record { row = None; is = refl }) i
    ++ none_listed order range k outside tables i

pub none_merged : (order : IterationOrder) (range : BytesRange) (tables : List (List RowEntry)) (k : List ℕ) → in_range range k ≡ false → of_key k (merged order false (map (table_rows order range) tables)) ≡ []
none_merged order range tables k outside =
    merged_kept order (λ r. bytes_eq r.key k) (map (table_rows order range) tables)
    ∙ ap (in_turn (row_before order)) (none_listed order range k outside tables)
