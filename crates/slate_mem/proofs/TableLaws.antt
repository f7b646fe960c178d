-- What puts do to the entries of a table, and to its rows.
use Rattle.std.proofs.Common.{◌≡◌, ℕ, ◌<◌, ◌^◌, ◌&&◌, ◌||◌, Bool, true, false, cond, not, List, [], ◌∷◌, ◌++◌, filter, nat_le, bytes_eq, Option, Some, None, refl, sym, ap, ◌∙◌, arith, Ordering, Less, Equal, Greater}
use Rattle.std.specs.Ordering.{is_eq, is_lt, is_le, is_gt, match_ordering, ordering_then, ordering_reverse, nat_cmp}
use Rattle.std.specs.List.{list_any, AllByRecursion}
use Rattle.std.specs.List.Sorted.{IsStrictlySortedBy}
use Rattle.std.specs.Map.{keys_of, values_of, lookup, set_value, remove_entry}
use Rattle.std.specs.BTreeMap.{insert_entry, is_at}
use Rattle.std.specs.BTreeSet.{insert_key}
use Rattle.std.proofs.lemmas.Map.{lookup-none}
use Rattle.std.proofs.lemmas.Map.Keys.{sorted_tail}
use Rattle.std.proofs.lemmas.Map.Entries.{none_below_head}
use Rattle.std.proofs.lemmas.Cmp.{tied_itself, nat_list_cmp_total}
use Rattle.std.proofs.lemmas.Map.Text.{is_eq-slice_cmp}
use Rattle.std.proofs.lemmas.Bool.Decides.{nat_tests}
use Rattle.slate_types.specs.declared.types.RowEntry.{RowEntry}
use Rattle.slate_types.specs.declared.sequenced_key.SequencedKey.{SequencedKey}
use Rattle.slate_types.specs.Keys.{key_cmp, keys_set, among}
use Rattle.slate_types.specs.Rows.{sequenced, sequenced_cmp}
use Rattle.slate_types.proofs.KeyOrder.{turned_key}
use Rattle.slate_types.proofs.RowLaws.{sequenced_total, sequenced_same}
use Rattle.slate_types.proofs.KeySetLaws.{set_rises, set_keeps, same_set}
use Rattle.slate_mem.specs.Table.{put_row, put_rows, to_base, newest}
use Rattle.slate_mem.specs.Tied.{TableEntries, AreTied, insert_row, insert_rows}
use Rattle.std.specs.BTreeMap.Range.{entries_between}
use Rattle.std.specs.declared.ops.Bound.TheVariants.{Included}
use Rattle.slate_types.proofs.Plain.{or_swap}

abbrev pub newest_entries : List ℕ → ℕ → TableEntries → List RowEntry
newest_entries k n es =
    to_base (values_of (entries_between sequenced_cmp (Included (record { user_key = k; seq = n })) (Included (record { user_key = k; seq = 0 })) es))

-- ---- the rows of entries

-- each row stands under its own key
abbrev pub AreKeyed : TableEntries → Type 0
AreKeyed es = AllByRecursion (λ e. e.0 ≡ sequenced e.1) es

pub tied_keyed : (es : TableEntries) → AreTied es → AreKeyed es
tied_keyed [] t = tt
tied_keyed (e ∷ es) t = (t.0.0, tied_keyed es t.1)

put_step : (row : RowEntry) (e : SequencedKey × RowEntry) (es fs : TableEntries) (rs : List RowEntry) (o : Ordering) → values_of fs ≡ rs →
    values_of (match_ordering o ((sequenced row, row) ∷ e ∷ es) ((e.0, row) ∷ es) (e ∷ fs)) ≡ match_ordering o (row ∷ e.1 ∷ values_of es) (row ∷ values_of es) (e.1 ∷ rs)
put_step row e es fs rs Less q = refl
put_step row e es fs rs Equal q = refl
put_step row e es fs rs Greater q = ap (λ ys. e.1 ∷ ys) q

pub rows_put : (row : RowEntry) (es : TableEntries) → AreKeyed es → values_of (insert_row es row) ≡ put_row (values_of es) row
rows_put row [] t = refl
rows_put row (e ∷ es) t =
    ap (λ k. values_of (match_ordering (sequenced_cmp (sequenced row) k) ((sequenced row, row) ∷ e ∷ es) ((e.0, row) ∷ es) (e ∷ insert_row es row))) t.0
    ∙ put_step row e es (insert_row es row) (put_row (values_of es) row) (sequenced_cmp (sequenced row) (sequenced e.1)) (rows_put row es t.1)

tied_step : (row : RowEntry) (e : SequencedKey × RowEntry) (es fs : TableEntries) (o : Ordering) → sequenced_cmp (sequenced row) e.0 ≡ o → row.seq < 2 ^ 64 → AreTied (e ∷ es) → AreTied fs →
    AreTied (match_ordering o ((sequenced row, row) ∷ e ∷ es) ((e.0, row) ∷ es) (e ∷ fs))
tied_step row e es fs Less h s t f = ((refl, s), t)
tied_step row e es fs Equal h s t f = ((sym (sequenced_same (sequenced row) e.0 h), s), t.1)
tied_step row e es fs Greater h s t f = (t.0, f)

pub tied_put : (row : RowEntry) (es : TableEntries) → row.seq < 2 ^ 64 → AreTied es → AreTied (insert_row es row)
tied_put row [] s t = ((refl, s), tt)
tied_put row (e ∷ es) s t = tied_step row e es (insert_row es row) (sequenced_cmp (sequenced row) e.0) refl s t (tied_put row es s t.1)

-- ---- several rows

keyed_step : (row : RowEntry) (e : SequencedKey × RowEntry) (es fs : TableEntries) (o : Ordering) → sequenced_cmp (sequenced row) e.0 ≡ o → AreKeyed (e ∷ es) → AreKeyed fs →
    AreKeyed (match_ordering o ((sequenced row, row) ∷ e ∷ es) ((e.0, row) ∷ es) (e ∷ fs))
keyed_step row e es fs Less h t f = (refl, t)
keyed_step row e es fs Equal h t f = (sym (sequenced_same (sequenced row) e.0 h), t.1)
keyed_step row e es fs Greater h t f = (t.0, f)

keyed_put : (row : RowEntry) (es : TableEntries) → AreKeyed es → AreKeyed (insert_row es row)
keyed_put row [] t = (refl, tt)
keyed_put row (e ∷ es) t = keyed_step row e es (insert_row es row) (sequenced_cmp (sequenced row) e.0) refl t (keyed_put row es t.1)

pub rows_put_all : (rows : List RowEntry) (es : TableEntries) → AreKeyed es → values_of (insert_rows es rows) ≡ put_rows (values_of es) rows
rows_put_all [] es t = refl
rows_put_all (row ∷ rows) es t = rows_put_all rows (insert_row es row) (keyed_put row es t) ∙ ap (λ rs. put_rows rs rows) (rows_put row es t)

-- ---- recorded prefixes

pub set_of_set : (ks : List (List ℕ)) → IsStrictlySortedBy key_cmp ks → keys_set ks ≡ ks
set_of_set ks h = same_set (keys_set ks) ks (set_rises ks) h (set_keeps ks)

pub any_append : (k : List ℕ) (xs ys : List (List ℕ)) → among k (xs ++ ys) ≡ (among k xs || among k ys)
any_append k [] ys = refl
any_append k (x ∷ xs) ys = by (bytes_eq x k) (any_append k xs ys)
  where
    by : (b : Bool) → among k (xs ++ ys) ≡ (among k xs || among k ys) → (b || among k (xs ++ ys)) ≡ ((b || among k xs) || among k ys)
    by true later = refl
    by false later = later

-- a prefix that is inserted into the rising rest counts as one before it
pub set_moved : (p : List ℕ) (left ks : List (List ℕ)) → IsStrictlySortedBy key_cmp ks → keys_set (left ++ insert_key key_cmp ks p) ≡ keys_set (p ∷ (left ++ ks))
set_moved p left ks h =
    same_set (keys_set (left ++ insert_key key_cmp ks p)) (keys_set (p ∷ (left ++ ks))) (set_rises (left ++ insert_key key_cmp ks p)) (set_rises (p ∷ (left ++ ks))) each
  where
    each : (k : List ℕ) → among k (keys_set (left ++ insert_key key_cmp ks p)) ≡ among k (keys_set (p ∷ (left ++ ks)))
    each k =
        set_keeps (left ++ insert_key key_cmp ks p) k ∙ any_append k left (insert_key key_cmp ks p)
        ∙ ap (λ xs. among k left || among k (insert_key key_cmp xs p)) (sym (set_of_set ks h))
        ∙ ap (λ b. among k left || b) (set_keeps (p ∷ ks) k)
        ∙ or_swap (among k left) (bytes_eq p k) (among k ks)
        ∙ ap (λ b. bytes_eq p k || b) (sym (any_append k left ks))
        ∙ sym (set_keeps (p ∷ (left ++ ks)) k)

-- ---- the rows of a key

first_not_past : (n : ℕ) → is_gt (nat_cmp 0 n) ≡ false
first_not_past n = grind (arith, nat_tests)

-- the greatest sequence of a key stands before the least
pub newest_first : (k : List ℕ) (n : ℕ) → is_gt (sequenced_cmp (record { user_key = k; seq = n }) (record { user_key = k; seq = 0 })) ≡ false
newest_first k n = ap (λ o. is_gt (ordering_then o (nat_cmp 0 n))) (tied_itself nat_list_cmp_total k) ∙ first_not_past n

-- whether a row is of the key, with at most the sequence
is_up_to : List ℕ → ℕ → RowEntry → Bool
is_up_to k n r = bytes_eq r.key k && nat_le r.seq n

between : (k : List ℕ) (n : ℕ) (r : RowEntry) →
    (is_le (sequenced_cmp (record { user_key = k; seq = n }) (sequenced r)) && not (is_lt (sequenced_cmp (record { user_key = k; seq = 0 }) (sequenced r)))) ≡ is_up_to k n r
unfolding is_up_to
between k n r = by (key_cmp k r.key) refl
  where
    by : (o : Ordering) → key_cmp k r.key ≡ o →
        (is_le (ordering_then o (nat_cmp r.seq n)) && not (is_lt (ordering_then o (nat_cmp r.seq 0)))) ≡ (bytes_eq r.key k && nat_le r.seq n)
    by Less e = sym (ap (λ b. b && nat_le r.seq n) (sym (is_eq-slice_cmp r.key k) ∙ ap is_eq (turned_key r.key k ∙ ap ordering_reverse e)))
    by Equal e =
        let same : bytes_eq r.key k ≡ true = sym (is_eq-slice_cmp r.key k) ∙ ap is_eq (turned_key r.key k ∙ ap ordering_reverse e) in
        ap (λ b. is_le (nat_cmp r.seq n) && b) (never r.seq) ∙ and_true (is_le (nat_cmp r.seq n)) ∙ le_is r.seq n ∙ sym (ap (λ b. b && nat_le r.seq n) same)
      where
        never : (m : ℕ) → not (is_lt (nat_cmp m 0)) ≡ true
        never m = grind (arith, nat_tests)

        and_true : (b : Bool) → (b && true) ≡ b
        and_true true = refl
        and_true false = refl

        le_is : (m i : ℕ) → is_le (nat_cmp m i) ≡ nat_le m i
        le_is m i = grind (arith, nat_tests)
    by Greater e = sym (ap (λ b. b && nat_le r.seq n) (sym (is_eq-slice_cmp r.key k) ∙ ap is_eq (turned_key r.key k ∙ ap ordering_reverse e)))

filter_step : {X : Type 0} (b c : Bool) (x : X) (xs ys : List X) → b ≡ c → xs ≡ ys → cond b (x ∷ xs) xs ≡ cond c (x ∷ ys) ys
filter_step b c x xs ys h q = λ i. cond (h i) (x ∷ q i) (q i)

-- rows of entries that a test of the keys keeps
pub values_filtered : (test : SequencedKey → Bool) (p : RowEntry → Bool) (es : TableEntries) → AllByRecursion (λ e. test e.0 ≡ p e.1) es → values_of (filter (λ e. test e.0) es) ≡ filter p (values_of es)
values_filtered test p [] h = refl
values_filtered test p (e ∷ es) h = by (test e.0) (p e.1) h.0 (values_filtered test p es h.1)
  where
    by : (b c : Bool) → b ≡ c → values_of (filter (λ f. test f.0) es) ≡ filter p (values_of es) →
        values_of (cond b (e ∷ filter (λ f. test f.0) es) (filter (λ f. test f.0) es)) ≡ cond c (e.1 ∷ filter p (values_of es)) (filter p (values_of es))
    by true true same later = ap (λ rs. e.1 ∷ rs) later
    by true false same later = cc
    by false true same later = cc
    by false false same later = later

pub newest_listed : (k : List ℕ) (n : ℕ) (es : TableEntries) → AreKeyed es → newest_entries k n es ≡ newest k n (values_of es)
unfolding is_up_to
newest_listed k n es keyed = ap to_base (values_filtered test (is_up_to k n) es (each es keyed))
  where
    test : SequencedKey → Bool
    test q = is_le (sequenced_cmp (record { user_key = k; seq = n }) q) && not (is_lt (sequenced_cmp (record { user_key = k; seq = 0 }) q))

    each : (fs : TableEntries) → AreKeyed fs → AllByRecursion (λ e. test e.0 ≡ is_up_to k n e.1) fs
    each [] h = tt
    each (f ∷ fs) h = (ap test h.0 ∙ between k n f.1, each fs h.1)

-- ---- what is dropped

pub tied_filtered : (p : SequencedKey × RowEntry → Bool) (es : TableEntries) → AreTied es → AreTied (filter p es)
tied_filtered p [] t = tt
tied_filtered p (e ∷ es) t = by (p e) (tied_filtered p es t.1)
  where
    by : (b : Bool) → AreTied (filter p es) → AreTied (cond b (e ∷ filter p es) (filter p es))
    by true later = (t.0, later)
    by false later = later

pub values_kept : (p : RowEntry → Bool) (es : TableEntries) → values_of (filter (λ e. p e.1) es) ≡ filter p (values_of es)
values_kept p [] = refl
values_kept p (e ∷ es) = by (p e.1) (values_kept p es)
  where
    by : (b : Bool) → values_of (filter (λ f. p f.1) es) ≡ filter p (values_of es) →
        values_of (cond b (e ∷ filter (λ f. p f.1) es) (filter (λ f. p f.1) es)) ≡ cond b (e.1 ∷ filter p (values_of es)) (filter p (values_of es))
    by true later = ap (λ rs. e.1 ∷ rs) later
    by false later = later

turned_is : (o : Ordering) → is_eq (ordering_reverse o) ≡ is_eq o
turned_is Less = refl
turned_is Equal = refl
turned_is Greater = refl

pub among_is : (k : List ℕ) (ks : List (List ℕ)) → list_any (is_at (key_cmp k)) ks ≡ among k ks
among_is k ks = λ i. list_any (λ x. (ap is_eq (turned_key k x) ∙ turned_is (key_cmp x k) ∙ is_eq-slice_cmp x k) i) ks
