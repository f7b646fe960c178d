-- What is true of all rows that are merged, and the rows of a key in a list that was turned.
use Rattle.std.proofs.Common.{◌≡◌, ◌≢◌, ℕ, Bool, true, false, cond, List, [], ◌∷◌, ◌++◌, map, filter, reverse, Option, Some, None, bytes_eq, refl, sym, ap, subst, ◌∙◌, append-nil}
use Rattle.std.specs.List.{AllByRecursion}
use Rattle.std.specs.Ordering.{is_le, is_lt}
use Rattle.std.specs.declared.cmp.Ordering.{Ordering}
use Rattle.std.specs.declared.cmp.Ordering.TheVariants.{Less, Equal, Greater}
use Rattle.std.proofs.lemmas.List.{reverse-append, reverse-reverse}
use Rattle.std.proofs.lemmas.List.Elements.{filter-append}
use Rattle.std.proofs.lemmas.Slice.Eq.{bytes_eq-Decides}
use Rattle.slate_types.specs.declared.bytes_range.BytesRange.{BytesRange}
use Rattle.slate_types.specs.declared.iter.IterationOrder.{IterationOrder}
use Rattle.slate_types.specs.declared.iter.IterationOrder.TheVariants.{Ascending, Descending}
use Rattle.slate_types.specs.declared.types.RowEntry.{RowEntry}
use Rattle.slate_types.specs.Iteration.{IsInOrder, NoneBefore, comes_before, in_order}
use Rattle.slate_types.specs.Keys.{in_range, key_cmp, key_le, key_lt}
use Rattle.slate_types.specs.Rows.{is_base, of_key}
use Rattle.slate_types.proofs.KeyOrder.{not_lt, equal_keys}
use Rattle.slate_types.proofs.IterationLaws.{in_order_filtered}
use Rattle.slate_mem.specs.Table.{ranged}
use Rattle.slate_merge.specs.Groups.{in_turn, newest_first, put_behind}
use Rattle.slate_merge.specs.Merge.{all_rows, decided_after, decides, is_hidden, merged}
use Rattle.slate_merge.specs.Merge as merge
use Rattle.slate_db.specs.Model.{Rows}
use Rattle.slate_types.proofs.Lists.{AllByRecursion_append, AllByRecursion_filter}
use Rattle.slate_txn.proofs.PartLaws.{filter_reverse}

-- ---- all rows that are merged

all_put_in : (P : RowEntry → Type 0) (before : RowEntry → RowEntry → Bool) (x : RowEntry) (zs : Rows) → P x → AllByRecursion P zs → AllByRecursion P (merge.put_in before x zs)
all_put_in P before x [] h k = (h, tt)
all_put_in P before x (z ∷ zs) h k = by (before z x) (all_put_in P before x zs h k.1)
  where
    by : (b : Bool) → AllByRecursion P (merge.put_in before x zs) → AllByRecursion P (cond b (z ∷ merge.put_in before x zs) (x ∷ z ∷ zs))
    by true later = (k.0, later)
    by false later = (h, k)

all_put : (P : RowEntry → Type 0) (before : RowEntry → RowEntry → Bool) (xs zs : Rows) → AllByRecursion P xs → AllByRecursion P zs → AllByRecursion P (merge.put_all before xs zs)
all_put P before [] zs h k = k
all_put P before (x ∷ xs) zs h k = all_put_in P before x (merge.put_all before xs zs) h.0 (all_put P before xs zs h.1 k)

all_decided : (P : RowEntry → Type 0) (hidden : Option (List ℕ)) (rows : Rows) → AllByRecursion P rows → AllByRecursion P (decided_after hidden rows)
all_decided P hidden [] h = tt
all_decided P hidden (r ∷ rows) h = by (is_hidden hidden r.key) (all_decided P hidden rows h.1) (all_decided P (decides r) rows h.1)
  where
    by : (b : Bool) → AllByRecursion P (decided_after hidden rows) → AllByRecursion P (decided_after (decides r) rows) → AllByRecursion P (cond b (decided_after hidden rows) (r ∷ decided_after (decides r) rows))
    by true k l = k
    by false k l = (h.0, l)

all_lists : (P : RowEntry → Type 0) (lists : List Rows) → AllByRecursion (AllByRecursion P) lists → AllByRecursion P (all_rows lists)
all_lists P [] h = tt
all_lists P (rows ∷ lists) h = AllByRecursion_append P rows (all_rows lists) h.0 (all_lists P lists h.1)

pub all_merged : (P : RowEntry → Type 0) (order : IterationOrder) (lists : List Rows) → AllByRecursion (AllByRecursion P) lists → AllByRecursion P (merged order true lists)
all_merged P order lists h = all_decided P None _ (all_put P _ (all_rows lists) [] (all_lists P lists h) tt)

-- ---- rows by their keys

same_key : (k : List ℕ) → bytes_eq k k ≡ true
same_key k = (bytes_eq-Decides k k).1 refl

-- what is true of the rows of each key
pub all_of_keys : (P : RowEntry → Type 0) (rows : Rows) → ((k : List ℕ) → AllByRecursion P (of_key k rows)) → AllByRecursion P rows
all_of_keys P [] h = tt
all_of_keys P (r ∷ rs) h = (first (bytes_eq r.key r.key) (same_key r.key) (h r.key), all_of_keys P rs (λ k. rest k (bytes_eq r.key k) (h k)))
  where
    first : (b : Bool) → b ≡ true → AllByRecursion P (cond b (r ∷ of_key r.key rs) (of_key r.key rs)) → P r
    first true e k = k.0
    first false e k = cc

    rest : (k : List ℕ) (b : Bool) → AllByRecursion P (cond b (r ∷ of_key k rs) (of_key k rs)) → AllByRecursion P (of_key k rs)
    rest k true h = h.1
    rest k false h = h

-- a list that has of each key the rows of another one
pub all_brought : (P : RowEntry → Type 0) (rows list : Rows) → ((k : List ℕ) → of_key k list ≡ of_key k rows) → AllByRecursion P rows → AllByRecursion P list
all_brought P rows list same h = all_of_keys P list (λ k. subst (AllByRecursion P) (sym (same k)) (AllByRecursion_filter P (λ r. bytes_eq r.key k) rows h))

pub all_ranged : (range : BytesRange) (rows : Rows) → AllByRecursion (λ r. in_range range r.key ≡ true) (ranged range rows)
all_ranged range [] = tt
all_ranged range (r ∷ rs) = by (in_range range r.key) refl (all_ranged range rs)
  where
    by : (b : Bool) → in_range range r.key ≡ b → AllByRecursion (λ r. in_range range r.key ≡ true) (ranged range rs) → AllByRecursion (λ r. in_range range r.key ≡ true) (cond b (r ∷ ranged range rs) (ranged range rs))
    by true e later = (e, later)
    by false e later = later

-- ---- rows of one key that stand together

-- the rows of a key lead
abbrev pub Leads : List ℕ → Rows → Type 0
Leads k [] = Unit {0}
Leads k (r ∷ rows) = cond (bytes_eq r.key k) (Leads k rows) (of_key k rows ≡ [])

abbrev pub AreTogether : Rows → Type 0
AreTogether [] = Unit {0}
AreTogether (r ∷ rows) = Leads r.key rows × AreTogether rows

none_leads : (k : List ℕ) (rows : Rows) → of_key k rows ≡ [] → Leads k rows
none_leads k [] h = tt
none_leads k (r ∷ rows) h = by (bytes_eq r.key k) h
  where
    by : (b : Bool) → cond b (r ∷ of_key k rows) (of_key k rows) ≡ [] → cond b (Leads k rows) (of_key k rows ≡ [])
    by true h = cc
    by false h = h

-- a row of another key
put_other : (k : List ℕ) (r : RowEntry) (rows : Rows) → bytes_eq r.key k ≡ false → of_key k (put_behind r rows) ≡ of_key k rows
put_other k r [] e = ap (λ b. cond b (r ∷ []) []) e
put_other k r (f ∷ rows) e = by (bytes_eq f.key r.key) (put_other k r rows e)
  where
    behind : (b : Bool) → of_key k (put_behind r rows) ≡ of_key k rows → cond b (f ∷ of_key k (put_behind r rows)) (of_key k (put_behind r rows)) ≡ cond b (f ∷ of_key k rows) (of_key k rows)
    behind true later = ap (λ xs. f ∷ xs) later
    behind false later = later

    by : (b : Bool) → of_key k (put_behind r rows) ≡ of_key k rows → of_key k (cond b (f ∷ put_behind r rows) (r ∷ f ∷ rows)) ≡ of_key k (f ∷ rows)
    by true later = behind (bytes_eq f.key k) later
    by false later = ap (λ b. cond b (r ∷ of_key k (f ∷ rows)) (of_key k (f ∷ rows))) e

swapped : (a k r : List ℕ) → r ≡ k → bytes_eq a r ≡ bytes_eq a k
swapped a k r e = ap (bytes_eq a) e

-- a row of the key that leads
put_own : (k : List ℕ) (r : RowEntry) (rows : Rows) → r.key ≡ k → Leads k rows → of_key k (put_behind r rows) ≡ of_key k rows ++ (r ∷ [])
put_own k r [] e h = ap (λ b. cond b (r ∷ []) []) (ap (λ x. bytes_eq x k) e ∙ same_key k)
put_own k r (f ∷ rows) e h = ap (λ b. of_key k (cond b (f ∷ put_behind r rows) (r ∷ f ∷ rows))) (swapped f.key k r.key e) ∙ by (bytes_eq f.key k) refl h (put_own k r rows e)
  where
    by : (b : Bool) → bytes_eq f.key k ≡ b → cond b (Leads k rows) (of_key k rows ≡ []) → (Leads k rows → of_key k (put_behind r rows) ≡ of_key k rows ++ (r ∷ [])) →
        of_key k (cond b (f ∷ put_behind r rows) (r ∷ f ∷ rows)) ≡ cond b (f ∷ of_key k rows) (of_key k rows) ++ (r ∷ [])
    by true is h later = ap (λ b. cond b (f ∷ of_key k (put_behind r rows)) (of_key k (put_behind r rows))) is ∙ ap (λ xs. f ∷ xs) (later h)
    by false is h later =
        ap (λ b. cond b (r ∷ of_key k (f ∷ rows)) (of_key k (f ∷ rows))) (ap (λ x. bytes_eq x k) e ∙ same_key k)
        ∙ ap (λ b. r ∷ cond b (f ∷ of_key k rows) (of_key k rows)) is
        ∙ ap (λ xs. r ∷ xs) h
        ∙ ap (λ xs. xs ++ (r ∷ [])) (sym h)

put_leads : (k : List ℕ) (r : RowEntry) (rows : Rows) → r.key ≡ k → Leads k rows → Leads k (put_behind r rows)
put_leads k r [] e h = subst (λ b. cond b (Leads k []) (of_key k [] ≡ [])) (sym (ap (λ x. bytes_eq x k) e ∙ same_key k)) tt
put_leads k r (f ∷ rows) e h = subst (λ b. Leads k (cond b (f ∷ put_behind r rows) (r ∷ f ∷ rows))) (sym (swapped f.key k r.key e)) (by (bytes_eq f.key k) refl h (put_leads k r rows e))
  where
    by : (b : Bool) → bytes_eq f.key k ≡ b → cond b (Leads k rows) (of_key k rows ≡ []) → (Leads k rows → Leads k (put_behind r rows)) → Leads k (cond b (f ∷ put_behind r rows) (r ∷ f ∷ rows))
    by true is h later = subst (λ b. cond b (Leads k (put_behind r rows)) (of_key k (put_behind r rows) ≡ [])) (sym is) (later h)
    by false is h later =
        subst (λ b. cond b (Leads k (f ∷ rows)) (of_key k (f ∷ rows) ≡ [])) (sym (ap (λ x. bytes_eq x k) e ∙ same_key k))
        (subst (λ b. cond b (Leads k rows) (of_key k rows ≡ [])) (sym is) h)

back_one : (r : RowEntry) (rows : Rows) → reverse (r ∷ rows) ≡ reverse rows ++ (r ∷ [])
back_one r rows = reverse-append (r ∷ []) rows

record Turned (k : List ℕ) (rows : Rows) : Type 0 where
  rows_are : of_key k (newest_first rows) ≡ reverse (of_key k rows)
  leads : Leads k rows → Leads k (newest_first rows)

turned_key : (k : List ℕ) (rows : Rows) → AreTogether rows → Turned k rows
turned_key k [] h = record { rows_are = refl; leads = λ l. tt }
turned_key k (r ∷ rows) h = let t = turned_key k rows h.1 in record { rows_are = by (bytes_eq r.key k) refl t.rows_are t.leads; leads = leads (bytes_eq r.key k) refl t.rows_are t.leads }
  where
    by : (b : Bool) → bytes_eq r.key k ≡ b → of_key k (newest_first rows) ≡ reverse (of_key k rows) → (Leads k rows → Leads k (newest_first rows)) →
        of_key k (put_behind r (newest_first rows)) ≡ reverse (cond b (r ∷ of_key k rows) (of_key k rows))
    by true is later still =
        let e : r.key ≡ k = (bytes_eq-Decides r.key k).0 is in
        put_own k r (newest_first rows) e (still (subst (λ j. Leads j rows) e h.0)) ∙ ap (λ xs. xs ++ (r ∷ [])) later ∙ sym (back_one r (of_key k rows))
    by false is later still = put_other k r (newest_first rows) is ∙ later

    leads : (b : Bool) → bytes_eq r.key k ≡ b → of_key k (newest_first rows) ≡ reverse (of_key k rows) → (Leads k rows → Leads k (newest_first rows)) →
        cond b (Leads k rows) (of_key k rows ≡ []) → Leads k (put_behind r (newest_first rows))
    leads true is later still l = put_leads k r (newest_first rows) ((bytes_eq-Decides r.key k).0 is) (still l)
    leads false is later still l = none_leads k (put_behind r (newest_first rows)) (put_other k r (newest_first rows) is ∙ later ∙ ap reverse l)

-- ---- rows that come in an order

le_lt : (a b : List ℕ) → bytes_eq b a ≡ false → key_le a b ≡ true → key_lt a b ≡ true
le_lt a b apart h = by (key_cmp a b) refl h
  where
    by : (o : Ordering) → key_cmp a b ≡ o → is_le o ≡ true → is_lt o ≡ true
    by Less e h = refl
    by Equal e h = let same : a ≡ b = equal_keys a b e in let yes : bytes_eq b a ≡ true = ap (bytes_eq b) same ∙ same_key b in cc
    by Greater e h = cc

apart_back : (a b : List ℕ) → bytes_eq a b ≡ false → bytes_eq b a ≡ false
apart_back a b h = by (bytes_eq b a) refl
  where
    by : (t : Bool) → bytes_eq b a ≡ t → t ≡ false
    by true e = let yes : bytes_eq a b ≡ true = ap (bytes_eq a) ((bytes_eq-Decides b a).0 e) ∙ same_key a in cc
    by false e = refl

-- of two keys one comes before the other
one_before : (order : IterationOrder) (a k : List ℕ) → bytes_eq a k ≡ false → comes_before order a k ≡ false → comes_before order k a ≡ true
one_before Ascending a k apart h = le_lt k a apart (not_lt a k h)
one_before Descending a k apart h = le_lt a k (apart_back a k apart) (not_lt k a h)

none_behind : (order : IterationOrder) (k : List ℕ) (x : RowEntry) (rows : Rows) → comes_before order k x.key ≡ true → NoneBefore order x.key rows → of_key k rows ≡ []
none_behind order k x [] before h = refl
none_behind order k x (r ∷ rows) before h = by (bytes_eq r.key k) refl (none_behind order k x rows before h.1)
  where
    by : (b : Bool) → bytes_eq r.key k ≡ b → of_key k rows ≡ [] → cond b (r ∷ of_key k rows) (of_key k rows) ≡ []
    by true is later = let e : r.key ≡ k = (bytes_eq-Decides r.key k).0 is in let no : comes_before order k x.key ≡ false = sym (ap (λ j. comes_before order j x.key) e) ∙ h.0 in cc
    by false is later = later

order_leads : (order : IterationOrder) (k : List ℕ) (rows : Rows) → NoneBefore order k rows → IsInOrder order rows → Leads k rows
order_leads order k [] before h = tt
order_leads order k (r ∷ rows) before h = by (bytes_eq r.key k) refl (order_leads order k rows before.1 h.1)
  where
    by : (b : Bool) → bytes_eq r.key k ≡ b → Leads k rows → cond b (Leads k rows) (of_key k rows ≡ [])
    by true is later = later
    by false is later = none_behind order k r rows (one_before order r.key k is before.0) h.0

pub order_together : (order : IterationOrder) (rows : Rows) → IsInOrder order rows → AreTogether rows
order_together order [] h = tt
order_together order (r ∷ rows) h = (order_leads order r.key rows h.0 h.1, order_together order rows h.1)

-- ---- turned round

none_last : (order : IterationOrder) (k : List ℕ) (rows : Rows) (x : RowEntry) → NoneBefore order k rows → comes_before order x.key k ≡ false → NoneBefore order k (rows ++ (x ∷ []))
none_last order k [] x h e = (e, tt)
none_last order k (r ∷ rows) x h e = (h.0, none_last order k rows x h.1 e)

order_last : (order : IterationOrder) (rows : Rows) (x : RowEntry) → IsInOrder order rows → AllByRecursion (λ r. comes_before order x.key r.key ≡ false) rows → IsInOrder order (rows ++ (x ∷ []))
order_last order [] x h e = (tt, tt)
order_last order (r ∷ rows) x h e = (none_last order r.key rows x h.0 e.0, order_last order rows x h.1 e.1)

all_none : (k : List ℕ) (rows : Rows) → NoneBefore Ascending k rows → AllByRecursion (λ r. comes_before Descending k r.key ≡ false) rows
all_none k [] h = tt
all_none k (r ∷ rows) h = (h.0, all_none k rows h.1)

all_reversed : (P : RowEntry → Type 0) (rows : Rows) → AllByRecursion P rows → AllByRecursion P (reverse rows)
all_reversed P [] h = tt
all_reversed P (r ∷ rows) h = subst (AllByRecursion P) (sym (back_one r rows)) (AllByRecursion_append P (reverse rows) (r ∷ []) (all_reversed P rows h.1) (h.0, tt))

order_reversed : (rows : Rows) → IsInOrder Ascending rows → IsInOrder Descending (reverse rows)
order_reversed [] h = tt
order_reversed (r ∷ rows) h =
    subst (IsInOrder Descending) (sym (back_one r rows))
    (order_last Descending (reverse rows) r (order_reversed rows h.1) (all_reversed (λ s. comes_before Descending r.key s.key ≡ false) rows (all_none r.key rows h.0)))

-- in either order rows of a table have of each key the rows that it has, as they stand in it
pub turned_same : (order : IterationOrder) (rows : Rows) → IsInOrder Ascending rows → (k : List ℕ) → of_key k (in_turn order (in_order order rows)) ≡ of_key k rows
turned_same Ascending rows h k = refl
turned_same Descending rows h k = (turned_key k (reverse rows) (order_together Descending (reverse rows) (order_reversed rows h))).rows_are ∙ ap reverse (filter_reverse (λ r. bytes_eq r.key k) rows) ∙ reverse-reverse (of_key k rows)
