-- The rows that a flush stores: in a table's order, and each key's rows up to the barrier folded.
use Rattle.std.proofs.Common.{◌≡◌, ℕ, ◌<◌, ◌≤◌, Bool, true, false, not, cond, ◌&&◌, ◌||◌, List, [], ◌∷◌, ◌++◌, reverse, filter, length, Option, Some, None, option_to_list, refl, sym, ap, subst, ◌∙◌, arith, Ordering, Less, Equal, Greater, append-nil, bytes_eq, nat_le, nat_lt}
use Rattle.std.specs.Prelude.{IsTrue}
use Rattle.std.specs.Ordering.{is_lt, ordering_reverse}
use Rattle.std.specs.List.{AllByRecursion, list_any}
use Rattle.std.proofs.lemmas.Bool.Decides.{nat_tests}
use Rattle.std.proofs.lemmas.List.{reverse-append}
use Rattle.std.proofs.lemmas.List.Elements.{filter-append}
use Rattle.std.proofs.lemmas.Slice.Eq.{bytes_eq-Decides}
use Rattle.slate_types.specs.declared.types.RowEntry.{RowEntry}
use Rattle.slate_types.specs.declared.iter.IterationOrder.TheVariants.{Ascending}
use Rattle.slate_types.specs.Fold.{Combine, KeepsShort, fold_rows, fold_taken, taken}
use Rattle.slate_types.specs.Iteration.{NoneBefore, IsInOrder}
use Rattle.slate_types.specs.Keys.{key_cmp, key_lt}
use Rattle.slate_types.specs.Rows.{row_lt, is_base, is_operand, of_key}
use Rattle.slate_types.proofs.KeyOrder.{equal_keys, turned_key}
use Rattle.slate_mem.specs.FlushRows.{high_rows, low_rows, kept_and_folded}
use Rattle.slate_mem.specs.Lookup.{is_merge_among, newest_first}
use Rattle.slate_table.specs.Table.{AreInOrder}
use Rattle.slate_db.specs.Flushed.{IsFolded}
use Rattle.slate_db.specs.Meaning.{Meaning, combine_of}
use Rattle.slate_db.specs.Model.{Rows, versions, versions_in}
use Rattle.slate_db.specs.Sound.{AreBases, at_most, later}
use Rattle.slate_db.specs.Layers.{FitsMemory, AreRising}
use Rattle.slate_db.proofs.Bases.{no_merge_among}
use Rattle.slate_db.proofs.FoldFits.{fold_fits}
use Rattle.slate_db.proofs.Newest.{all_versions_are}
use Rattle.slate_db.proofs.Rises.{folded_rise}
use Rattle.slate_db.proofs.Versions.{twice, all_versions, all_versions_in, all_by_versions}
use Rattle.slate_types.proofs.Lists.{AllByRecursion_append, AllByRecursion_front, AllByRecursion_behind, AllByRecursion_filter}

pub some_rows : (rows : Rows) → (rows ≡ [] → ⊥) → 0 < length rows
some_rows [] h = absurd (h refl)
some_rows (r ∷ rs) h = omega arith

-- ---- newest first

abbrev pub AreFalling : Rows → Type 0
AreFalling [] = Unit {0}
AreFalling (r ∷ rs) = AllByRecursion (λ s. s.seq < r.seq) rs × AreFalling rs

pub rising_front : (xs ys : Rows) → AreRising (xs ++ ys) → AreRising xs
rising_front [] ys h = tt
rising_front (x ∷ xs) ys h = (AllByRecursion_front _ xs ys h.0, rising_front xs ys h.1)

before_last : (xs : Rows) (r : RowEntry) → AreRising (xs ++ (r ∷ [])) → AllByRecursion (λ s. s.seq < r.seq) xs
before_last [] r h = tt
before_last (x ∷ xs) r h = ((AllByRecursion_behind _ xs (r ∷ []) h.0).0, before_last xs r h.1)

pub falling : (rs : Rows) → AreRising (reverse rs) → AreFalling rs
falling [] h = tt
falling (r ∷ rs) h =
    let g : AreRising (reverse rs ++ (r ∷ [])) = subst (λ (xs : Rows). AreRising xs) (reverse-append (r ∷ []) rs) h in
    (twice _ rs (before_last (reverse rs) r g), falling rs (rising_front (reverse rs) (r ∷ []) g))

-- ---- the order of a table

last_true : (a b c : Bool) → b ≡ true → c ≡ true → (a || (b && c)) ≡ true
last_true true b c h g = refl
last_true false true true h g = refl
last_true false true false h g = cc
last_true false false c h g = cc

same_stands : (r s : RowEntry) → bytes_eq s.key r.key ≡ true → s.seq < r.seq → row_lt r s ≡ true
same_stands r s e h =
    let l : nat_lt s.seq r.seq ≡ true = grind (arith, nat_tests) in
    last_true (key_lt r.key s.key) (bytes_eq r.key s.key) (nat_lt s.seq r.seq) ((bytes_eq-Decides r.key s.key).1 (sym ((bytes_eq-Decides s.key r.key).0 e))) l

key_below : (a b : List ℕ) → bytes_eq b a ≡ false → key_lt b a ≡ false → key_lt a b ≡ true
key_below a b e n = by (key_cmp a b) refl
  where
    by : (o : Ordering) → key_cmp a b ≡ o → is_lt o ≡ true
    by Less is = refl
    by Equal is = let t : bytes_eq b a ≡ true = (bytes_eq-Decides b a).1 (sym (equal_keys a b is)) in cc
    by Greater is = let t : key_lt b a ≡ true = ap is_lt (turned_key b a ∙ ap ordering_reverse is) in cc

other_stands : (r s : RowEntry) → bytes_eq s.key r.key ≡ false → key_lt s.key r.key ≡ false → row_lt r s ≡ true
other_stands r s e n = ap (λ t. t || (bytes_eq r.key s.key && nat_lt s.seq r.seq)) (key_below r.key s.key e n)

stands : (r : RowEntry) (rs : Rows) → NoneBefore Ascending r.key rs → AllByRecursion (λ s. s.seq < r.seq) (of_key r.key rs) → AllByRecursion (λ s. IsTrue (row_lt r s)) rs
stands r [] n o = tt
stands r (s ∷ rs) n o = by (bytes_eq s.key r.key) refl o (λ h. stands r rs n.1 h)
  where
    by : (b : Bool) → bytes_eq s.key r.key ≡ b → AllByRecursion (λ x. x.seq < r.seq) (cond b (s ∷ of_key r.key rs) (of_key r.key rs)) →
        (AllByRecursion (λ x. x.seq < r.seq) (of_key r.key rs) → AllByRecursion (λ x. IsTrue (row_lt r x)) rs) → AllByRecursion (λ x. IsTrue (row_lt r x)) (s ∷ rs)
    by true e o rest = (same_stands r s e o.0, rest o.1)
    by false e o rest = (other_stands r s e n.0, rest o)

pub in_order : (rows : Rows) → IsInOrder Ascending rows → ((k : List ℕ) → AreFalling (of_key k rows)) → AreInOrder rows
in_order [] h f = tt
in_order (r ∷ rs) h f = (stands r rs h.0 (own (bytes_eq r.key r.key) ((bytes_eq-Decides r.key r.key).1 refl) (f r.key)), in_order rs h.1 (λ k. tail k (bytes_eq r.key k) (f k)))
  where
    own : (b : Bool) → b ≡ true → AreFalling (cond b (r ∷ of_key r.key rs) (of_key r.key rs)) → AllByRecursion (λ s. s.seq < r.seq) (of_key r.key rs)
    own true e h = h.0
    own false e h = cc

    tail : (k : List ℕ) (b : Bool) → AreFalling (cond b (r ∷ of_key k rs) (of_key k rs)) → AreFalling (of_key k rs)
    tail k true h = h.1
    tail k false h = h

-- ---- the rows of a key, turned round

filter_reverse : (t : RowEntry → Bool) (rs : Rows) → reverse (filter t rs) ≡ filter t (reverse rs)
filter_reverse t [] = refl
filter_reverse t (r ∷ rs) =
    by (t r) (filter_reverse t rs) ∙ sym (filter-append t (reverse rs) (r ∷ [])) ∙ ap (filter t) (sym (reverse-append (r ∷ []) rs))
  where
    by : (u : Bool) → reverse (filter t rs) ≡ filter t (reverse rs) → reverse (cond u (r ∷ filter t rs) (filter t rs)) ≡ filter t (reverse rs) ++ cond u (r ∷ []) []
    by true h = reverse-append (r ∷ []) (filter t rs) ∙ ap (λ xs. xs ++ (r ∷ [])) h
    by false h = h ∙ sym (append-nil (filter t (reverse rs)))

one_turned : (o : Option RowEntry) → reverse (option_to_list o) ≡ option_to_list o
one_turned None = refl
one_turned (Some r) = refl

turned : (c : Combine) (b : ℕ) (rows : Rows) → reverse (kept_and_folded c b rows) ≡ option_to_list (fold_rows c (at_most b (reverse rows))) ++ later b (reverse rows)
turned c b rows =
    reverse-append (high_rows b rows) (option_to_list (fold_rows c (reverse (low_rows b rows))))
    ∙ ap (λ xs. xs ++ reverse (high_rows b rows)) (one_turned (fold_rows c (reverse (low_rows b rows))))
    ∙ (λ i. option_to_list (fold_rows c (filter_reverse (λ r. nat_le r.seq b) rows i)) ++ filter_reverse (λ r. nat_lt b r.seq) rows i)

-- ---- some rows are kept where there are some

some_behind : (xs ys : Rows) → 0 < length ys → 0 < length (xs ++ ys)
some_behind [] ys h = h
some_behind (x ∷ xs) ys h = omega arith

some_base : (rows : Rows) → list_any is_base rows ≡ true → 0 < length rows
some_base [] h = cc
some_base (r ∷ rs) h = omega arith

fold_some : (c : Combine) (rows : Rows) → 0 < length rows → 0 < length (option_to_list (fold_rows c rows))
fold_some c [] h = absurd (omega arith)
fold_some c (r ∷ rs) h = by (list_any is_base rs) refl (λ e. fold_some c rs (some_base rs e))
  where
    by : (t : Bool) → list_any is_base rs ≡ t → (list_any is_base rs ≡ true → 0 < length (option_to_list (fold_rows c rs))) → 0 < length (option_to_list (fold_taken c (cond t (taken rs) (r ∷ rs))))
    by true e rest = rest e
    by false e rest = omega arith

kept_some : (c : Combine) (b : ℕ) (rows : Rows) → 0 < length rows → 0 < length (kept_and_folded c b rows)
kept_some c b [] h = absurd (omega arith)
kept_some c b (r ∷ rs) h = by (nat_lt b r.seq) (nat_le r.seq b) refl refl
  where
    by : (t u : Bool) → nat_lt b r.seq ≡ t → nat_le r.seq b ≡ u →
        0 < length (cond t (r ∷ high_rows b rs) (high_rows b rs) ++ option_to_list (fold_rows c (reverse (cond u (r ∷ low_rows b rs) (low_rows b rs)))))
    by true u e g = omega arith
    by false true e g = some_behind (high_rows b rs) _ (subst (λ (xs : Rows). 0 < length (option_to_list (fold_rows c xs))) (sym (reverse-append (r ∷ []) (low_rows b rs))) (fold_some c _ (some_behind (reverse (low_rows b rs)) (r ∷ []) (omega arith))))
    by false false e g = let past : b < r.seq = grind (arith, nat_tests) in let within : r.seq ≤ b = grind (arith, nat_tests) in absurd (omega arith)

own_some : (r : RowEntry) (rs : Rows) → 0 < length (of_key r.key (r ∷ rs))
own_some r rs = by (bytes_eq r.key r.key) ((bytes_eq-Decides r.key r.key).1 refl)
  where
    by : (t : Bool) → t ≡ true → 0 < length (cond t (r ∷ of_key r.key rs) (of_key r.key rs))
    by true e = omega arith
    by false e = cc

out_some : (c : List ℕ → Combine) (b : ℕ) (rows out : Rows) → ((k : List ℕ) → of_key k out ≡ kept_and_folded (c k) b (of_key k rows)) → 0 < length rows → 0 < length out
out_some c b [] out made h = absurd (omega arith)
out_some c b (r ∷ rs) [] made h = absurd (let none : 0 < length (of_key r.key []) = subst (λ (xs : Rows). 0 < length xs) (sym (made r.key)) (kept_some (c r.key) b (of_key r.key (r ∷ rs)) (own_some r rs)) in omega (arith, none))
out_some c b (r ∷ rs) (x ∷ xs) made h = omega arith

-- ---- all rows of a flush

-- there are rows where there is a memtable
gathered_some : (layers : List Rows) (rows : Rows) → ((k : List ℕ) → versions k rows ≡ versions_in k layers) → 0 < length layers → AllByRecursion (λ xs. 0 < length xs) layers → 0 < length rows
gathered_some [] rows same some each = absurd (omega arith)
gathered_some (layer ∷ layers) [] same some each = absurd (none layer each.0 (all_by_versions (λ r. ⊥) layer (λ k. AllByRecursion_front _ (versions k layer) (versions_in k layers) (subst (AllByRecursion (λ r. ⊥)) (same k) tt))))
  where
    none : (xs : Rows) → 0 < length xs → AllByRecursion (λ r. ⊥) xs → ⊥
    none [] h all = absurd (omega arith)
    none (x ∷ xs) h all = all.0
gathered_some (layer ∷ layers) (r ∷ rs) same some each = omega arith

pub flush_folds : (m : Meaning) (b : ℕ) (layers : List Rows) (rows out : Rows) → ((k : List ℕ) → versions k rows ≡ versions_in k layers) → ((k : List ℕ) → of_key k out ≡ kept_and_folded (combine_of m k) b (of_key k rows)) →
    IsFolded m b layers out
flush_folds m b layers rows out same made k =
    ap reverse (made k) ∙ turned (combine_of m k) b (of_key k rows) ∙ ap (λ xs. option_to_list (fold_rows (combine_of m k) (at_most b xs)) ++ later b xs) (same k)

pub flush_order : (m : Meaning) (b : ℕ) (layers : List Rows) (out : Rows) → IsFolded m b layers out → IsInOrder Ascending out → ((k : List ℕ) → AreRising (versions_in k layers)) → AreInOrder out
flush_order m b layers out folded order rise = in_order out order (λ k. falling (of_key k out) (folded_rise m b k layers out folded (rise k)))

pub flush_fits : (m : Meaning) (b : ℕ) (layers : List Rows) (out : Rows) → ((k : List ℕ) → KeepsShort (combine_of m k)) → IsFolded m b layers out → AllByRecursion (λ xs. AllByRecursion FitsMemory xs) layers → AllByRecursion FitsMemory out
flush_fits m b layers out keeps folded fit = all_by_versions FitsMemory out (λ k.
    let here : AllByRecursion FitsMemory (versions_in k layers) = all_versions_in FitsMemory k layers fit in
    subst (AllByRecursion FitsMemory) (sym (folded k)) (AllByRecursion_append _ _ _ (fold_fits (combine_of m k) (keeps k) _ (AllByRecursion_filter _ _ _ here)) (AllByRecursion_filter _ _ _ here)))

pub flush_some : (c : List ℕ → Combine) (b : ℕ) (layers : List Rows) (rows out : Rows) → ((k : List ℕ) → versions k rows ≡ versions_in k layers) → ((k : List ℕ) → of_key k out ≡ kept_and_folded (c k) b (of_key k rows)) →
    0 < length layers → AllByRecursion (λ xs. 0 < length xs) layers → 0 < length out
flush_some c b layers rows out same made some each = out_some c b rows out made (gathered_some layers rows same some each)

-- ---- operands among them

bases_of : (rows : Rows) → list_any is_operand rows ≡ false → AreBases rows
bases_of [] h = tt
bases_of (r ∷ rs) h = by (is_operand r) refl h (bases_of rs)
  where
    by : (t : Bool) → is_operand r ≡ t → (t || list_any is_operand rs) ≡ false → (list_any is_operand rs ≡ false → AreBases rs) → (not (is_operand r) ≡ true) × AreBases rs
    by true e h rest = cc
    by false e h rest = (ap not e, rest h)

pub none_among : (layers : List Rows) → AllByRecursion AreBases layers → is_merge_among (newest_first layers) ≡ false
none_among layers h = no_merge_among (newest_first layers) (all_by_versions (λ r. is_base r ≡ true) (newest_first layers) (λ k. subst AreBases (sym (all_versions_are k layers)) (all_versions_in (λ r. is_base r ≡ true) k layers h)))

pub merge_gathered : (layers : List Rows) (rows : Rows) → ((k : List ℕ) → versions k rows ≡ versions_in k layers) → is_merge_among rows ≡ true → is_merge_among (newest_first layers) ≡ true
merge_gathered layers rows same h = by (is_merge_among (newest_first layers)) refl
  where
    by : (t : Bool) → is_merge_among (newest_first layers) ≡ t → t ≡ true
    by true e = refl
    by false e =
        let bases : AreBases rows = all_by_versions (λ r. is_base r ≡ true) rows (λ k. subst AreBases (all_versions_are k layers ∙ sym (same k)) (all_versions (λ r. is_base r ≡ true) k (newest_first layers) (bases_of (newest_first layers) e))) in
        let clash : true ≡ false = sym h ∙ no_merge_among rows bases in
        cc

pub merge_still : (layers : List Rows) (rows : Rows) → ((k : List ℕ) → versions k rows ≡ versions_in k layers) → is_merge_among (newest_first layers) ≡ true → is_merge_among rows ≡ true
merge_still layers rows same h = by (is_merge_among rows) refl
  where
    by : (t : Bool) → is_merge_among rows ≡ t → t ≡ true
    by true e = refl
    by false e =
        let bases : AreBases (newest_first layers) = all_by_versions (λ r. is_base r ≡ true) (newest_first layers) (λ k. subst AreBases (same k ∙ sym (all_versions_are k layers)) (all_versions (λ r. is_base r ≡ true) k rows (bases_of rows e))) in
        let clash : true ≡ false = sym h ∙ no_merge_among (newest_first layers) bases in
        cc

-- ---- one row more in a builder

pub order_front : (xs ys : Rows) → AreInOrder (xs ++ ys) → AreInOrder xs
order_front [] ys h = tt
order_front (x ∷ xs) ys h = (AllByRecursion_front _ xs ys h.0, order_front xs ys h.1)
