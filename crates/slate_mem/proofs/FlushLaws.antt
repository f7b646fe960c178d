-- The rows of a flush, key by key.
use Rattle.std.proofs.Common.{◌≡◌, ℕ, Bool, true, false, not, cond, List, [], ◌∷◌, ◌++◌, reverse, option_to_list, bytes_eq, nat_le, nat_lt, refl, sym, ap, subst, ◌∙◌, arith, append-nil, append_assoc, Ordering, Less, Equal, Greater}
use Rattle.std.specs.List.{AllByRecursion}
use Rattle.std.specs.Ordering.{is_lt, ordering_reverse}
use Rattle.std.proofs.lemmas.Bool.Decides.{nat_tests}
use Rattle.std.proofs.lemmas.List.{reverse-append}
use Rattle.std.proofs.lemmas.List.Elements.{filter-append}
use Rattle.std.proofs.lemmas.Slice.Eq.{bytes_eq-Decides}
use Rattle.slate_types.specs.declared.types.RowEntry.{RowEntry}
use Rattle.slate_types.specs.declared.iter.IterationOrder.TheVariants.{Ascending}
use Rattle.slate_types.specs.Iteration.{NoneBefore, IsInOrder}
use Rattle.slate_types.specs.Keys.{key_cmp, key_lt}
use Rattle.slate_types.specs.Rows.{is_base, of_key}
use Rattle.slate_types.specs.Fold.{Combine, from_last, fold_taken, fold_rows}
use Rattle.slate_types.proofs.KeyOrder.{equal_keys, turned_key, lt_irreflexive}
use Rattle.slate_mem.specs.Table.{to_base}
use Rattle.slate_mem.specs.Lookup.{is_decided}
use Rattle.slate_mem.specs.FlushRows.{high_rows, low_rows, kept_and_folded, fold_of, is_ended, ended, left, above, waits, IsGroup}
use Rattle.slate_mem.proofs.LayerLaws.{base_rest}
use Rattle.slate_mem.proofs.MemLaws.{taken_newest}
use Rattle.slate_mem.proofs.RowOfLaws.{from_last_all}

abbrev pub flush_rows : (List ℕ → Combine) → ℕ → List RowEntry → List RowEntry → List RowEntry
flush_rows c b low [] = fold_of c low
flush_rows c b low (r ∷ rs) = ended c low r ++ (above b r ++ flush_rows c b (waits b (left low r) r) rs)

pub no_group : IsGroup []
no_group = record { key = []; keys = tt; based = refl }

-- ---- rows of one key

of_same : (j k : List ℕ) (rows : List RowEntry) → bytes_eq j k ≡ true → AllByRecursion (λ (r : RowEntry). r.key ≡ j) rows → of_key k rows ≡ rows
of_same j k [] e h = refl
of_same j k (r ∷ rs) e h = ap (λ b. cond b (r ∷ of_key k rs) (of_key k rs)) (ap (λ x. bytes_eq x k) h.0 ∙ e) ∙ ap (λ xs. r ∷ xs) (of_same j k rs e h.1)

of_other : (j k : List ℕ) (rows : List RowEntry) → bytes_eq j k ≡ false → AllByRecursion (λ (r : RowEntry). r.key ≡ j) rows → of_key k rows ≡ []
of_other j k [] e h = refl
of_other j k (r ∷ rs) e h = ap (λ b. cond b (r ∷ of_key k rs) (of_key k rs)) (ap (λ x. bytes_eq x k) h.0 ∙ e) ∙ of_other j k rs e h.1

of_both : (k : List ℕ) (xs ys : List RowEntry) → of_key k (xs ++ ys) ≡ of_key k xs ++ of_key k ys
of_both k xs ys = filter-append (λ r. bytes_eq r.key k) xs ys

keys_turned : (j : List ℕ) (rows more : List RowEntry) → AllByRecursion (λ (r : RowEntry). r.key ≡ j) rows → AllByRecursion (λ (r : RowEntry). r.key ≡ j) more → AllByRecursion (λ (r : RowEntry). r.key ≡ j) (rows ++ more)
keys_turned j [] more h g = g
keys_turned j (r ∷ rs) more h g = (h.0, keys_turned j rs more h.1 g)

pub all_turned : (P : RowEntry → Type 0) (rows : List RowEntry) → AllByRecursion P rows → AllByRecursion P (reverse rows)
all_turned P [] h = tt
all_turned P (r ∷ rs) h = subst (AllByRecursion P) (sym (reverse-append (r ∷ []) rs)) (both_all P (reverse rs) (r ∷ []) (all_turned P rs h.1) (h.0, tt))
  where
    both_all : (P : RowEntry → Type 0) (xs ys : List RowEntry) → AllByRecursion P xs → AllByRecursion P ys → AllByRecursion P (xs ++ ys)
    both_all P [] ys h g = g
    both_all P (x ∷ xs) ys h g = (h.0, both_all P xs ys h.1 g)

-- the fold of rows of a key has the key
fold_keys : (c : Combine) (j : List ℕ) (rows : List RowEntry) → AllByRecursion (λ (r : RowEntry). r.key ≡ j) rows → AllByRecursion (λ (r : RowEntry). r.key ≡ j) (option_to_list (fold_rows c rows))
fold_keys c j rows h = by (from_last is_base rows) (from_last_all (λ (r : RowEntry). r.key ≡ j) is_base rows h)
  where
    by : (xs : List RowEntry) → AllByRecursion (λ (r : RowEntry). r.key ≡ j) xs → AllByRecursion (λ (r : RowEntry). r.key ≡ j) (option_to_list (fold_taken c xs))
    by [] h = tt
    by (x ∷ xs) h = (h.0, tt)

fold_of_keys : (c : List ℕ → Combine) (j : List ℕ) (low : List RowEntry) → AllByRecursion (λ (r : RowEntry). r.key ≡ j) low → AllByRecursion (λ (r : RowEntry). r.key ≡ j) (fold_of c low)
fold_of_keys c j [] h = tt
fold_of_keys c j (p ∷ ps) h = fold_keys (c p.key) j (reverse (p ∷ ps)) (all_turned (λ (r : RowEntry). r.key ≡ j) (p ∷ ps) h)

abbrev folded : (List ℕ → Combine) → List ℕ → List RowEntry → List RowEntry
folded c k rows = option_to_list (fold_rows (c k) (reverse rows))

of_fold : (c : List ℕ → Combine) (j k : List ℕ) (low : List RowEntry) → AllByRecursion (λ (r : RowEntry). r.key ≡ j) low → of_key k (fold_of c low) ≡ folded c k (of_key k low)
of_fold c j k [] h = refl
of_fold c j k (p ∷ ps) h = by (bytes_eq j k) refl
  where
    by : (b : Bool) → bytes_eq j k ≡ b → of_key k (fold_of c (p ∷ ps)) ≡ folded c k (of_key k (p ∷ ps))
    by true e =
        of_same j k (fold_of c (p ∷ ps)) e (fold_of_keys c j (p ∷ ps) h)
        ∙ ap (λ x. folded c x (p ∷ ps)) (h.0 ∙ (bytes_eq-Decides j k).0 e)
        ∙ sym (ap (folded c k) (of_same j k (p ∷ ps) e h))
    by false e = of_other j k (fold_of c (p ∷ ps)) e (fold_of_keys c j (p ∷ ps) h) ∙ sym (ap (folded c k) (of_other j k (p ∷ ps) e h))

-- a fold takes the rows to the first that is no operand
by_base : (c : Combine) (xs ys : List RowEntry) → to_base xs ≡ to_base ys → option_to_list (fold_rows c (reverse xs)) ≡ option_to_list (fold_rows c (reverse ys))
by_base c xs ys h = ap (λ zs. option_to_list (fold_taken c zs)) (sym (taken_newest xs) ∙ ap reverse h ∙ taken_newest ys)

-- behind one no row counts
decided_ends : (low ys : List RowEntry) → to_base low ≡ low → is_decided low ≡ true → to_base (low ++ ys) ≡ low
decided_ends low ys based d =
    sym (base_rest low ys) ∙ ap (λ t. cond t (to_base low) (to_base low ++ to_base ys)) (ap is_decided based ∙ d) ∙ based

whole_more : (low : List RowEntry) (r : RowEntry) → to_base low ≡ low → is_decided low ≡ false → to_base (low ++ (r ∷ [])) ≡ low ++ (r ∷ [])
whole_more low r based d =
    sym (base_rest low (r ∷ [])) ∙ ap (λ t. cond t (to_base low) (to_base low ++ to_base (r ∷ []))) (ap is_decided based ∙ d) ∙ (λ i. based i ++ one (is_base r) i)
  where
    one : (b : Bool) → cond b (r ∷ []) (r ∷ []) ≡ r ∷ []
    one true = refl
    one false = refl

-- ---- what waits

waits_keys : (b : ℕ) (j : List ℕ) (low : List RowEntry) (r : RowEntry) → AllByRecursion (λ (x : RowEntry). x.key ≡ j) low → r.key ≡ j → AllByRecursion (λ (x : RowEntry). x.key ≡ j) (waits b low r)
waits_keys b j low r h is = by (nat_lt b r.seq) (is_decided low)
  where
    by : (u d : Bool) → AllByRecursion (λ (x : RowEntry). x.key ≡ j) (cond u low (cond d low (low ++ (r ∷ []))))
    by true d = h
    by false true = h
    by false false = keys_turned j low (r ∷ []) h (is, tt)

waits_whole : (b : ℕ) (low : List RowEntry) (r : RowEntry) → to_base low ≡ low → to_base (waits b low r) ≡ waits b low r
waits_whole b low r based = by (nat_lt b r.seq) (is_decided low) refl
  where
    by : (u d : Bool) → is_decided low ≡ d → to_base (cond u low (cond d low (low ++ (r ∷ [])))) ≡ cond u low (cond d low (low ++ (r ∷ [])))
    by true d e = based
    by false true e = based
    by false false e = whole_more low r based e

-- rows that no other key ended have the row's key
goes_on : (j : List ℕ) (low : List RowEntry) (r : RowEntry) → AllByRecursion (λ (x : RowEntry). x.key ≡ j) low → is_ended low r ≡ false → AllByRecursion (λ (x : RowEntry). x.key ≡ r.key) low
goes_on j [] r h e = tt
goes_on j (p ∷ ps) r h e =
    let same : p.key ≡ r.key = (bytes_eq-Decides p.key r.key).0 (turned (bytes_eq p.key r.key) e) in
    subst (λ k. AllByRecursion (λ (x : RowEntry). x.key ≡ k) (p ∷ ps)) (sym h.0 ∙ same) h
  where
    turned : (t : Bool) → not t ≡ false → t ≡ true
    turned true h = refl
    turned false h = sym h

left_keys : (j : List ℕ) (low : List RowEntry) (r : RowEntry) → AllByRecursion (λ (x : RowEntry). x.key ≡ j) low → AllByRecursion (λ (x : RowEntry). x.key ≡ r.key) (left low r)
left_keys j low r h = by (is_ended low r) refl
  where
    by : (t : Bool) → is_ended low r ≡ t → AllByRecursion (λ (x : RowEntry). x.key ≡ r.key) (cond t [] low)
    by true e = tt
    by false e = goes_on j low r h e

left_whole : (low : List RowEntry) (r : RowEntry) → to_base low ≡ low → to_base (left low r) ≡ left low r
left_whole low r based = by (is_ended low r)
  where
    by : (t : Bool) → to_base (cond t [] low) ≡ cond t [] low
    by true = refl
    by false = based

pub group_waits : (b : ℕ) (low : List RowEntry) (r : RowEntry) → IsGroup low → IsGroup (waits b (left low r) r)
group_waits b low r g = record {
  key = r.key;
  keys = waits_keys b r.key (left low r) r (left_keys g.key low r g.keys) refl;
  based = waits_whole b (left low r) r (left_whole low r g.based);
}

-- ---- one row

apart : (b n : ℕ) → nat_le n b ≡ not (nat_lt b n)
apart b n = by (nat_lt b n) refl
  where
    by : (t : Bool) → nat_lt b n ≡ t → nat_le n b ≡ not t
    by true e = grind (arith, nat_tests)
    by false e = grind (arith, nat_tests)

-- behind rows of its own key
one_row : (c : List ℕ → Combine) (b : ℕ) (low : List RowEntry) (r : RowEntry) (rs X : List RowEntry) (k : List ℕ) → AllByRecursion (λ (x : RowEntry). x.key ≡ r.key) low → to_base low ≡ low →
    of_key k X ≡ high_rows b (of_key k rs) ++ folded c k (of_key k (waits b low r) ++ low_rows b (of_key k rs)) →
    of_key k (above b r ++ X) ≡ high_rows b (of_key k (r ∷ rs)) ++ folded c k (of_key k low ++ low_rows b (of_key k (r ∷ rs)))
one_row c b low r rs X k keys based rest = by (bytes_eq r.key k) refl
  where
    K : List RowEntry
    K = of_key k rs

    H : List RowEntry
    H = high_rows b (of_key k rs)

    L : List RowEntry
    L = low_rows b (of_key k rs)

    own : bytes_eq r.key k ≡ true → (u n : Bool) → n ≡ not u → (d : Bool) → is_decided low ≡ d →
        of_key k X ≡ high_rows b (of_key k rs) ++ folded c k (of_key k (cond u low (cond d low (low ++ (r ∷ [])))) ++ low_rows b (of_key k rs)) →
        of_key k (cond u (r ∷ []) [] ++ X) ≡ cond u (r ∷ high_rows b (of_key k rs)) (high_rows b (of_key k rs)) ++ folded c k (of_key k low ++ cond n (r ∷ low_rows b (of_key k rs)) (low_rows b (of_key k rs)))
    own e true true m d dd ih = cc
    own e false false m d dd ih = cc
    own e true false m d dd ih = ap (λ z. cond z (r ∷ of_key k X) (of_key k X)) e ∙ ap (λ xs. r ∷ xs) ih
    own e false true m true dd ih =
        let is : of_key k low ≡ low = of_same r.key k low e keys in
        ih ∙ ap (λ xs. high_rows b (of_key k rs) ++ xs) (by_base (c k) (of_key k low ++ low_rows b (of_key k rs)) (of_key k low ++ (r ∷ low_rows b (of_key k rs)))
        (ap (λ xs. to_base (xs ++ low_rows b (of_key k rs))) is ∙ decided_ends low (low_rows b (of_key k rs)) based dd
        ∙ sym (ap (λ xs. to_base (xs ++ (r ∷ low_rows b (of_key k rs)))) is ∙ decided_ends low (r ∷ low_rows b (of_key k rs)) based dd)))
    own e false true m false dd ih =
        ih ∙ ap (λ xs. high_rows b (of_key k rs) ++ folded c k xs)
        (ap (λ xs. xs ++ low_rows b (of_key k rs)) (of_both k low (r ∷ []) ∙ ap (λ z. of_key k low ++ cond z (r ∷ []) []) e)
        ∙ append_assoc (of_key k low) (r ∷ []) (low_rows b (of_key k rs)))

    other : bytes_eq r.key k ≡ false → (u d : Bool) →
        of_key k X ≡ high_rows b (of_key k rs) ++ folded c k (of_key k (cond u low (cond d low (low ++ (r ∷ [])))) ++ low_rows b (of_key k rs)) →
        of_key k (cond u (r ∷ []) [] ++ X) ≡ high_rows b (of_key k rs) ++ folded c k (of_key k low ++ low_rows b (of_key k rs))
    other e true d ih = ap (λ z. cond z (r ∷ of_key k X) (of_key k X)) e ∙ ih
    other e false true ih = ih
    other e false false ih =
        ih ∙ ap (λ xs. high_rows b (of_key k rs) ++ folded c k (xs ++ low_rows b (of_key k rs)))
        (of_both k low (r ∷ []) ∙ ap (λ z. of_key k low ++ cond z (r ∷ []) []) e ∙ append-nil (of_key k low))

    by : (t : Bool) → bytes_eq r.key k ≡ t →
        of_key k (above b r ++ X) ≡ high_rows b (cond t (r ∷ of_key k rs) (of_key k rs)) ++ folded c k (of_key k low ++ low_rows b (cond t (r ∷ of_key k rs) (of_key k rs)))
    by true e = own e (nat_lt b r.seq) (nat_le r.seq b) (apart b r.seq) (is_decided low) refl rest
    by false e = other e (nat_lt b r.seq) (is_decided low) rest

-- ---- all rows

key_below : (a b : List ℕ) → bytes_eq a b ≡ false → key_lt b a ≡ false → key_lt a b ≡ true
key_below a b e n = by (key_cmp a b) refl
  where
    by : (o : Ordering) → key_cmp a b ≡ o → is_lt o ≡ true
    by Less is = refl
    by Equal is = let t : bytes_eq a b ≡ true = (bytes_eq-Decides a b).1 (equal_keys a b is) in cc
    by Greater is = let t : key_lt b a ≡ true = ap is_lt (turned_key b a ∙ ap ordering_reverse is) in cc

none_of : (k j : List ℕ) (rs : List RowEntry) → key_lt k j ≡ true → NoneBefore Ascending j rs → of_key k rs ≡ []
none_of k j [] l n = refl
none_of k j (s ∷ rs) l n = by (bytes_eq s.key k) refl (none_of k j rs l n.1)
  where
    by : (b : Bool) → bytes_eq s.key k ≡ b → of_key k rs ≡ [] → cond b (s ∷ of_key k rs) (of_key k rs) ≡ []
    by true e rest = let t : key_lt s.key j ≡ true = ap (λ q. key_lt q j) ((bytes_eq-Decides s.key k).0 e) ∙ l in let f : key_lt s.key j ≡ false = n.0 in cc
    by false e rest = rest

-- behind rows of another key
next_key : (c : List ℕ → Combine) (b : ℕ) (j : List ℕ) (low : List RowEntry) (r : RowEntry) (rs X : List RowEntry) (k : List ℕ) → AllByRecursion (λ (x : RowEntry). x.key ≡ j) low → is_ended low r ≡ true →
    key_lt r.key j ≡ false → NoneBefore Ascending r.key rs →
    of_key k X ≡ high_rows b (of_key k (r ∷ rs)) ++ folded c k (low_rows b (of_key k (r ∷ rs))) →
    of_key k (fold_of c low ++ X) ≡ high_rows b (of_key k (r ∷ rs)) ++ folded c k (of_key k low ++ low_rows b (of_key k (r ∷ rs)))
next_key c b j [] r rs X k keys end after order rest = cc
next_key c b j (p ∷ ps) r rs X k keys end after order rest =
    of_both k (fold_of c (p ∷ ps)) X ∙ (λ i. of_fold c j k (p ∷ ps) keys i ++ rest i) ∙ by (bytes_eq j k) refl
  where
    apart_keys : bytes_eq j r.key ≡ false
    apart_keys = sym (ap (λ x. bytes_eq x r.key) keys.0) ∙ turned (bytes_eq p.key r.key) end
      where
        turned : (t : Bool) → not t ≡ true → t ≡ false
        turned true h = sym h
        turned false h = refl

    none : bytes_eq j k ≡ true → of_key k (r ∷ rs) ≡ []
    none e =
        let same : k ≡ j = sym ((bytes_eq-Decides j k).0 e) in
        let below : key_lt k r.key ≡ true = ap (λ x. key_lt x r.key) same ∙ key_below j r.key apart_keys after in
        none_of k r.key (r ∷ rs) below (itself r.key, order)
      where
        itself : (x : List ℕ) → key_lt x x ≡ false
        itself x = at (key_lt x x) refl
          where
            at : (t : Bool) → key_lt x x ≡ t → t ≡ false
            at true e = lt_irreflexive x e
            at false e = refl

    by : (t : Bool) → bytes_eq j k ≡ t →
        folded c k (of_key k (p ∷ ps)) ++ (high_rows b (of_key k (r ∷ rs)) ++ folded c k (low_rows b (of_key k (r ∷ rs)))) ≡ high_rows b (of_key k (r ∷ rs)) ++ folded c k (of_key k (p ∷ ps) ++ low_rows b (of_key k (r ∷ rs)))
    by true e =
        ap (λ xs. folded c k (of_key k (p ∷ ps)) ++ (high_rows b xs ++ folded c k (low_rows b xs))) (none e)
        ∙ append-nil (folded c k (of_key k (p ∷ ps)))
        ∙ ap (folded c k) (sym (append-nil (of_key k (p ∷ ps))))
        ∙ sym (ap (λ xs. high_rows b xs ++ folded c k (of_key k (p ∷ ps) ++ low_rows b xs)) (none e))
    by false e =
        let gone : of_key k (p ∷ ps) ≡ [] = of_other j k (p ∷ ps) e keys in
        ap (λ xs. folded c k xs ++ (high_rows b (of_key k (r ∷ rs)) ++ folded c k (low_rows b (of_key k (r ∷ rs))))) gone
        ∙ sym (ap (λ xs. high_rows b (of_key k (r ∷ rs)) ++ folded c k (xs ++ low_rows b (of_key k (r ∷ rs)))) gone)

flush_keys : (c : List ℕ → Combine) (b : ℕ) (j : List ℕ) (low rows : List RowEntry) (k : List ℕ) → AllByRecursion (λ (x : RowEntry). x.key ≡ j) low → to_base low ≡ low → NoneBefore Ascending j rows → IsInOrder Ascending rows →
    of_key k (flush_rows c b low rows) ≡ high_rows b (of_key k rows) ++ folded c k (of_key k low ++ low_rows b (of_key k rows))
flush_keys c b j low [] k keys based none order = of_fold c j k low keys ∙ ap (folded c k) (sym (append-nil (of_key k low)))
flush_keys c b j low (r ∷ rs) k keys based none order =
    by (is_ended low r) refl (flush_keys c b r.key (waits b (left low r) r) rs k (waits_keys b r.key (left low r) r (left_keys j low r keys) refl) (waits_whole b (left low r) r (left_whole low r based)) order.0 order.1)
  where
    by : (t : Bool) → is_ended low r ≡ t →
        of_key k (flush_rows c b (waits b (cond t [] low) r) rs) ≡ high_rows b (of_key k rs) ++ folded c k (of_key k (waits b (cond t [] low) r) ++ low_rows b (of_key k rs)) →
        of_key k (cond t (fold_of c low) [] ++ (above b r ++ flush_rows c b (waits b (cond t [] low) r) rs)) ≡ high_rows b (of_key k (r ∷ rs)) ++ folded c k (of_key k low ++ low_rows b (of_key k (r ∷ rs)))
    by true e rest = next_key c b j low r rs (above b r ++ flush_rows c b (waits b [] r) rs) k keys e none.0 order.0 (one_row c b [] r rs (flush_rows c b (waits b [] r) rs) k tt refl rest)
    by false e rest = one_row c b low r rs (flush_rows c b (waits b low r) rs) k (goes_on j low r keys e) based rest

-- ---- their order

none_more : (i : List ℕ) (xs ys : List RowEntry) → NoneBefore Ascending i xs → NoneBefore Ascending i ys → NoneBefore Ascending i (xs ++ ys)
none_more i [] ys h g = g
none_more i (x ∷ xs) ys h g = (h.0, none_more i xs ys h.1 g)

none_by_key : (i j : List ℕ) (rows : List RowEntry) → key_lt j i ≡ false → AllByRecursion (λ (x : RowEntry). x.key ≡ j) rows → NoneBefore Ascending i rows
none_by_key i j [] e h = tt
none_by_key i j (r ∷ rs) e h = (ap (λ x. key_lt x i) h.0 ∙ e, none_by_key i j rs e h.1)

none_above_row : (i : List ℕ) (b : ℕ) (r : RowEntry) → key_lt r.key i ≡ false → NoneBefore Ascending i (above b r)
none_above_row i b r e = by (nat_lt b r.seq)
  where
    by : (u : Bool) → NoneBefore Ascending i (cond u (r ∷ []) [])
    by true = (e, tt)
    by false = tt

none_ended : (c : List ℕ → Combine) (i j : List ℕ) (low : List RowEntry) (r : RowEntry) → key_lt j i ≡ false → AllByRecursion (λ (x : RowEntry). x.key ≡ j) low → NoneBefore Ascending i (ended c low r)
none_ended c i j low r e h = by (is_ended low r)
  where
    by : (t : Bool) → NoneBefore Ascending i (cond t (fold_of c low) [])
    by true = none_by_key i j (fold_of c low) e (fold_of_keys c j low h)
    by false = tt

flush_none : (c : List ℕ → Combine) (b : ℕ) (i j : List ℕ) (low rows : List RowEntry) → AllByRecursion (λ (x : RowEntry). x.key ≡ j) low → key_lt j i ≡ false → NoneBefore Ascending i rows → NoneBefore Ascending i (flush_rows c b low rows)
flush_none c b i j low [] keys e none = none_by_key i j (fold_of c low) e (fold_of_keys c j low keys)
flush_none c b i j low (r ∷ rs) keys e none =
    none_more i (ended c low r) (above b r ++ flush_rows c b (waits b (left low r) r) rs) (none_ended c i j low r e keys)
    (none_more i (above b r) (flush_rows c b (waits b (left low r) r) rs) (none_above_row i b r none.0)
    (flush_none c b i r.key (waits b (left low r) r) rs (waits_keys b r.key (left low r) r (left_keys j low r keys) refl) none.0 none.1))

itself : (x : List ℕ) → key_lt x x ≡ false
itself x = by (key_lt x x) refl
  where
    by : (t : Bool) → key_lt x x ≡ t → t ≡ false
    by true e = lt_irreflexive x e
    by false e = refl

one_in_order : (j : List ℕ) (xs ys : List RowEntry) → AllByRecursion (λ (x : RowEntry). x.key ≡ j) xs → NoneBefore Ascending j ys → IsInOrder Ascending ys → IsInOrder Ascending (xs ++ ys)
one_in_order j [] ys h n o = o
one_in_order j (x ∷ xs) ys h n o =
    (none_more x.key xs ys (none_by_key x.key j xs (ap (key_lt j) h.0 ∙ itself j) h.1) (subst (λ y. NoneBefore Ascending y ys) (sym h.0) n), one_in_order j xs ys h.1 n o)

above_keys : (b : ℕ) (r : RowEntry) → AllByRecursion (λ (x : RowEntry). x.key ≡ r.key) (above b r)
above_keys b r = by (nat_lt b r.seq)
  where
    by : (u : Bool) → AllByRecursion (λ (x : RowEntry). x.key ≡ r.key) (cond u (r ∷ []) [])
    by true = (refl, tt)
    by false = tt

ended_keys : (c : List ℕ → Combine) (j : List ℕ) (low : List RowEntry) (r : RowEntry) → AllByRecursion (λ (x : RowEntry). x.key ≡ j) low → AllByRecursion (λ (x : RowEntry). x.key ≡ j) (ended c low r)
ended_keys c j low r h = by (is_ended low r)
  where
    by : (t : Bool) → AllByRecursion (λ (x : RowEntry). x.key ≡ j) (cond t (fold_of c low) [])
    by true = fold_of_keys c j low h
    by false = tt

flush_order : (c : List ℕ → Combine) (b : ℕ) (j : List ℕ) (low rows : List RowEntry) → AllByRecursion (λ (x : RowEntry). x.key ≡ j) low → NoneBefore Ascending j rows → IsInOrder Ascending rows → IsInOrder Ascending (flush_rows c b low rows)
flush_order c b j low [] keys none order =
    subst (IsInOrder Ascending) (append-nil (fold_of c low)) (one_in_order j (fold_of c low) [] (fold_of_keys c j low keys) tt tt)
flush_order c b j low (r ∷ rs) keys none order =
    one_in_order j (ended c low r) (above b r ++ rest) (ended_keys c j low r keys)
    (none_more j (above b r) rest (none_above_row j b r none.0) (flush_none c b j r.key (waits b (left low r) r) rs waiting none.0 none.1))
    (one_in_order r.key (above b r) rest (above_keys b r) (flush_none c b r.key r.key (waits b (left low r) r) rs waiting (itself r.key) order.0)
    (flush_order c b r.key (waits b (left low r) r) rs waiting order.0 order.1))
  where
    rest : List RowEntry
    rest = flush_rows c b (waits b (left low r) r) rs

    waiting : AllByRecursion (λ (x : RowEntry). x.key ≡ r.key) (waits b (left low r) r)
    waiting = waits_keys b r.key (left low r) r (left_keys j low r keys) refl

-- ---- from the first row on

pub flush_key_by_key : (c : List ℕ → Combine) (b : ℕ) (rows : List RowEntry) → IsInOrder Ascending rows → (k : List ℕ) → of_key k (flush_rows c b [] rows) ≡ kept_and_folded (c k) b (of_key k rows)
flush_key_by_key c b [] order k = refl
flush_key_by_key c b (r ∷ rs) order k = flush_keys c b r.key [] (r ∷ rs) k tt refl (itself r.key, order.0) order

pub flush_in_order : (c : List ℕ → Combine) (b : ℕ) (rows : List RowEntry) → IsInOrder Ascending rows → IsInOrder Ascending (flush_rows c b [] rows)
flush_in_order c b [] order = tt
flush_in_order c b (r ∷ rs) order = flush_order c b r.key [] (r ∷ rs) tt (itself r.key, order.0) order

-- ---- steps of the loop

pub flush_step : (c : List ℕ → Combine) (b : ℕ) (low : List RowEntry) (r : RowEntry) (rs out ended_out placed : List RowEntry) → ended_out ≡ out ++ ended c low r → placed ≡ ended_out ++ above b r →
    placed ++ flush_rows c b (waits b (left low r) r) rs ≡ out ++ flush_rows c b low (r ∷ rs)
flush_step c b low r rs out ended_out placed one two =
    ap (λ xs. xs ++ flush_rows c b (waits b (left low r) r) rs) (two ∙ ap (λ xs. xs ++ above b r) one ∙ append_assoc out (ended c low r) (above b r))
    ∙ append_assoc out (ended c low r ++ above b r) (flush_rows c b (waits b (left low r) r) rs)
    ∙ ap (λ xs. out ++ xs) (append_assoc (ended c low r) (above b r) (flush_rows c b (waits b (left low r) r) rs))

-- the fold of a group, by any key that its rows have
pub fold_of_is : (c : List ℕ → Combine) (k : List ℕ) (low : List RowEntry) → AllByRecursion (λ (r : RowEntry). r.key ≡ k) low → option_to_list (fold_rows (c k) (reverse low)) ≡ fold_of c low
fold_of_is c k [] h = refl
fold_of_is c k (p ∷ ps) h = ap (λ j. option_to_list (fold_rows (c j) (reverse (p ∷ ps)))) (sym h.0)
