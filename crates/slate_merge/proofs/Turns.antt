-- Rows in turn: parts of them, and what turning the groups of a key does.
use Rattle.std.proofs.Common.{◌≡◌, ℕ, Bool, true, false, cond, List, [], ◌∷◌, ◌++◌, filter, inl, inr, Option, Some, None, refl, sym, ap, subst, ◌∙◌, append_assoc}
use Rattle.std.specs.Prelude.{reverse, bytes_eq}
use Rattle.std.specs.List.{AllByRecursion}
use Rattle.std.specs.Ordering.{is_le, is_lt, nat_cmp, ordering_then, ordering_reverse}
use Rattle.std.specs.declared.cmp.Ordering.{Ordering}
use Rattle.std.specs.declared.cmp.Ordering.TheVariants.{Less, Equal, Greater}
use Rattle.std.proofs.lemmas.Bool.{cases_Bool}
use Rattle.std.proofs.lemmas.List.{reverse-append}
use Rattle.std.proofs.lemmas.Slice.Eq.{bytes_eq-Decides}
use Rattle.slate_types.specs.declared.types.RowEntry.{RowEntry}
use Rattle.slate_types.specs.declared.iter.IterationOrder.{IterationOrder}
use Rattle.slate_types.specs.declared.iter.IterationOrder.TheVariants.{Ascending, Descending}
use Rattle.slate_types.specs.Iteration.{TakesRow, comes_before, drop_before, in_order}
use Rattle.slate_types.specs.Keys.{key_cmp, key_lt}
use Rattle.slate_types.specs.RowTurns.{AreInTurn, NoneEarlier, row_before}
use Rattle.slate_types.proofs.KeyOrder.{bytes_eq_same, is_less, le_lt_trans, not_lt, equal_keys, turned_key}
use Rattle.slate_merge.specs.Groups.{IsOneKey, StandsApart, in_turn, newest_first, put_behind}
use Rattle.slate_merge.specs.NewestLaws.{key_not_before}

-- ---- parts of rows in turn

none_filtered : {X : Type 0} (before : X → X → Bool) (p : X → Bool) (x : X) (xs : List X) → NoneEarlier before x xs → NoneEarlier before x (filter p xs)
none_filtered before p x [] h = tt
none_filtered before p x (z ∷ xs) h =
    elim (cases_Bool (p z)) as (λ _. NoneEarlier before x (filter p (z ∷ xs))) [
      | inl e ↦ rw e (h.0, none_filtered before p x xs h.1)
      | inr e ↦ rw e (none_filtered before p x xs h.1)
    ]

pub turn_filtered : {X : Type 0} (before : X → X → Bool) (p : X → Bool) (xs : List X) → AreInTurn before xs → AreInTurn before (filter p xs)
turn_filtered before p [] h = tt
turn_filtered before p (x ∷ xs) h =
    elim (cases_Bool (p x)) as (λ _. AreInTurn before (filter p (x ∷ xs))) [
      | inl e ↦ rw e (none_filtered before p x xs h.0, turn_filtered before p xs h.1)
      | inr e ↦ rw e (turn_filtered before p xs h.1)
    ]

pub turn_taken : (before : RowEntry → RowEntry → Bool) (rows after : List RowEntry) (answer : Option RowEntry) → TakesRow rows answer after → AreInTurn before rows → AreInTurn before after
turn_taken before rows after None t h = subst (AreInTurn before) (sym t.1) tt
turn_taken before rows after (Some row) t h = (subst (AreInTurn before) t h).1

pub turn_dropped : (before : RowEntry → RowEntry → Bool) (order : IterationOrder) (key : List ℕ) (rows : List RowEntry) → AreInTurn before rows → AreInTurn before (drop_before order key rows)
turn_dropped before order key [] h = tt
turn_dropped before order key (row ∷ rows) h =
    elim (cases_Bool (comes_before order row.key key)) as (λ _. AreInTurn before (drop_before order key (row ∷ rows))) [
      | inl e ↦ rw e (turn_dropped before order key rows h.1)
      | inr e ↦ rw e h
    ]

-- ---- a list turned round

turned : (RowEntry → RowEntry → Bool) → RowEntry → RowEntry → Bool
turned before a b = before b a

none_last : (before : RowEntry → RowEntry → Bool) (x : RowEntry) (ys : List RowEntry) (r : RowEntry) → NoneEarlier before x ys → before r x ≡ false → NoneEarlier before x (ys ++ (r ∷ []))
none_last before x [] r h e = (e, tt)
none_last before x (y ∷ ys) r h e = (h.0, none_last before x ys r h.1 e)

none_back : (before : RowEntry → RowEntry → Bool) (x : RowEntry) (ys : List RowEntry) → NoneEarlier before x ys → NoneEarlier before x (reverse ys)
none_back before x [] h = tt
none_back before x (y ∷ ys) h = subst (NoneEarlier before x) (sym (reverse-append (y ∷ []) ys)) (none_last before x (reverse ys) y (none_back before x ys h.1) h.0)

turn_last : (before : RowEntry → RowEntry → Bool) (ys : List RowEntry) (r : RowEntry) → AreInTurn (λ a b. before b a) ys → NoneEarlier before r ys → AreInTurn (λ a b. before b a) (ys ++ (r ∷ []))
turn_last before [] r h k = (tt, tt)
turn_last before (y ∷ ys) r h k = (none_last (λ a b. before b a) y ys r h.0 k.0, turn_last before ys r h.1 k.1)

pub turn_back : (before : RowEntry → RowEntry → Bool) (xs : List RowEntry) → AreInTurn before xs → AreInTurn (λ a b. before b a) (reverse xs)
turn_back before [] h = tt
turn_back before (x ∷ xs) h = subst (AreInTurn (λ a b. before b a)) (sym (reverse-append (x ∷ []) xs)) (turn_last before (reverse xs) x (turn_back before xs h.1) (none_back before x xs h.0))

-- ---- two rows

below_first : (z y : RowEntry) → key_lt z.key y.key ≡ true → row_before Descending z y ≡ false
below_first z y h = by (key_cmp y.key z.key) (turned_key y.key z.key ∙ ap ordering_reverse (is_less (key_cmp z.key y.key) h))
  where
    by : (o : Ordering) → o ≡ Greater → is_lt (ordering_then o (nat_cmp y.seq z.seq)) ≡ false
    by o e = rw e refl

apart_below : (y s : RowEntry) → row_before Ascending y s ≡ false → bytes_eq s.key y.key ≡ false → key_lt s.key y.key ≡ true
apart_below y s h apart = by (key_cmp s.key y.key) refl (not_lt y.key s.key (key_not_before Ascending y s h))
  where
    by : (o : Ordering) → key_cmp s.key y.key ≡ o → is_le o ≡ true → is_lt o ≡ true
    by Less e k = refl
    by Equal e k = let clash : true ≡ false = sym (ap (bytes_eq s.key) (sym (equal_keys s.key y.key e)) ∙ bytes_eq_same s.key) ∙ apart in cc
    by Greater e k = absurd cc

newer_later : (y s : RowEntry) → row_before Ascending y s ≡ false → s.key ≡ y.key → row_before Descending y s ≡ false
newer_later y s h same = ap (λ (o : Ordering). is_lt (ordering_then o (nat_cmp s.seq y.seq))) swap ∙ h
  where
    swap : key_cmp s.key y.key ≡ key_cmp y.key s.key
    swap = ap (λ (k : List ℕ). key_cmp k y.key) same ∙ ap (λ (k : List ℕ). key_cmp y.key k) (sym same)

-- ---- groups turned round

none_put : (before : RowEntry → RowEntry → Bool) (x y : RowEntry) (rows : List RowEntry) → before y x ≡ false → NoneEarlier before x rows → NoneEarlier before x (put_behind y rows)
none_put before x y [] e h = (e, tt)
none_put before x y (s ∷ rows) e h = by (bytes_eq s.key y.key) (none_put before x y rows e h.1)
  where
    by : (t : Bool) → NoneEarlier before x (put_behind y rows) → NoneEarlier before x (cond t (s ∷ put_behind y rows) (y ∷ s ∷ rows))
    by true later = (h.0, later)
    by false later = (e, h)

none_newest : (before : RowEntry → RowEntry → Bool) (x : RowEntry) (rows : List RowEntry) → NoneEarlier before x rows → NoneEarlier before x (newest_first rows)
none_newest before x [] h = tt
none_newest before x (y ∷ rows) h = none_put before x y (newest_first rows) h.0 (none_newest before x rows h.1)

none_below : (y s : RowEntry) (rows : List RowEntry) → key_lt s.key y.key ≡ true → NoneEarlier (row_before Descending) s rows → NoneEarlier (row_before Descending) y rows
none_below y s [] lt h = tt
none_below y s (z ∷ rows) lt h =
    (below_first z y (le_lt_trans z.key s.key y.key (not_lt s.key z.key (key_not_before Descending z s h.0)) lt), none_below y s rows lt h.1)

put_turn : (y : RowEntry) (rows : List RowEntry) → NoneEarlier (λ a b. row_before Ascending b a) y rows → AreInTurn (row_before Descending) rows → AreInTurn (row_before Descending) (put_behind y rows)
put_turn y [] h t = (tt, tt)
put_turn y (s ∷ rows) h t = by (bytes_eq s.key y.key) refl (put_turn y rows h.1 t.1)
  where
    by : (b : Bool) → bytes_eq s.key y.key ≡ b → AreInTurn (row_before Descending) (put_behind y rows) → AreInTurn (row_before Descending) (cond b (s ∷ put_behind y rows) (y ∷ s ∷ rows))
    by true e later = (none_put (row_before Descending) s y rows (newer_later y s h.0 ((bytes_eq-Decides s.key y.key).0 e)) t.0, later)
    by false e later = let lt = apart_below y s h.0 e in ((below_first s y lt, none_below y s rows lt t.0), t)

newest_turn : (rows : List RowEntry) → AreInTurn (λ a b. row_before Ascending b a) rows → AreInTurn (row_before Descending) (newest_first rows)
newest_turn [] h = tt
newest_turn (y ∷ rows) h = put_turn y (newest_first rows) (none_newest (λ a b. row_before Ascending b a) y rows h.0) (newest_turn rows h.1)

pub either_turn : (order : IterationOrder) (rows : List RowEntry) → AreInTurn (row_before Ascending) rows → AreInTurn (row_before order) (in_turn order (in_order order rows))
either_turn Ascending rows h = h
either_turn Descending rows h = newest_turn (reverse rows) (turn_back (row_before Ascending) rows h)

-- ---- a seek

pub record First (r : RowEntry) (rows : List RowEntry) : Type 0 where
  pub row : RowEntry
  pub more : List RowEntry
  pub is : rows ≡ row ∷ more
  pub key : row.key ≡ r.key

first_put : (r : RowEntry) (rows : List RowEntry) → First r (put_behind r rows)
first_put r [] = record { row = r; more = []; is = refl; key = refl }
first_put r (s ∷ rows) = by (bytes_eq s.key r.key) refl
  where
    by : (t : Bool) → bytes_eq s.key r.key ≡ t → First r (cond t (s ∷ put_behind r rows) (r ∷ s ∷ rows))
    by true e = record { row = s; more = put_behind r rows; is = refl; key = (bytes_eq-Decides s.key r.key).0 e }
    by false e = record { row = r; more = s ∷ rows; is = refl; key = refl }

dropped_behind : (order : IterationOrder) (key : List ℕ) (r : RowEntry) (rows : List RowEntry) → comes_before order r.key key ≡ true → drop_before order key (put_behind r rows) ≡ drop_before order key rows
dropped_behind order key r [] h = rw h refl
dropped_behind order key r (s ∷ rows) h = by (bytes_eq s.key r.key) refl (dropped_behind order key r rows h)
  where
    by : (t : Bool) → bytes_eq s.key r.key ≡ t → drop_before order key (put_behind r rows) ≡ drop_before order key rows → drop_before order key (cond t (s ∷ put_behind r rows) (r ∷ s ∷ rows)) ≡ drop_before order key (s ∷ rows)
    by true e later =
        let k : comes_before order s.key key ≡ true = ap (λ (x : List ℕ). comes_before order x key) ((bytes_eq-Decides s.key r.key).0 e) ∙ h in
        rw k later
    by false e later = rw h refl

kept_first : (order : IterationOrder) (key : List ℕ) (row : RowEntry) (rows : List RowEntry) → comes_before order row.key key ≡ false → drop_before order key (row ∷ rows) ≡ row ∷ rows
kept_first order key row rows h = rw h refl

-- rows that begin with a row of a key at which a seek stops
pub stops_at : (order : IterationOrder) (key : List ℕ) (r : RowEntry) (rows : List RowEntry) → First r rows → comes_before order r.key key ≡ false → drop_before order key rows ≡ rows
stops_at order key r rows f h =
    ap (drop_before order key) f.is ∙ kept_first order key f.row f.more (ap (λ (x : List ℕ). comes_before order x key) f.key ∙ h) ∙ sym f.is

pub first_newest : (r : RowEntry) (rows : List RowEntry) → First r (newest_first (r ∷ rows))
first_newest r rows = first_put r (newest_first rows)

pub sought_newest : (order : IterationOrder) (key : List ℕ) (rows : List RowEntry) → drop_before order key (newest_first rows) ≡ newest_first (drop_before order key rows)
sought_newest order key [] = refl
sought_newest order key (r ∷ rows) = by (comes_before order r.key key) refl (sought_newest order key rows)
  where
    by : (t : Bool) → comes_before order r.key key ≡ t → drop_before order key (newest_first rows) ≡ newest_first (drop_before order key rows) → drop_before order key (put_behind r (newest_first rows)) ≡ newest_first (cond t (drop_before order key rows) (r ∷ rows))
    by true e later = dropped_behind order key r (newest_first rows) e ∙ later
    by false e later = stops_at order key r (put_behind r (newest_first rows)) (first_put r (newest_first rows)) e

-- rows that a seek drops
pub dropped_front : (order : IterationOrder) (key : List ℕ) (front rows : List RowEntry) → AllByRecursion (λ r. comes_before order r.key key ≡ true) front → drop_before order key (front ++ rows) ≡ drop_before order key rows
dropped_front order key [] rows h = refl
dropped_front order key (r ∷ front) rows h = rw h.0 (dropped_front order key front rows h.1)

-- ---- one group

behind_all : (r : RowEntry) (xs more : List RowEntry) → AllByRecursion (λ s. s.key ≡ r.key) xs → put_behind r (xs ++ more) ≡ xs ++ put_behind r more
behind_all r [] more h = refl
behind_all r (x ∷ xs) more h =
    let e : bytes_eq x.key r.key ≡ true = ap (λ (k : List ℕ). bytes_eq k r.key) h.0 ∙ bytes_eq_same r.key in
    rw e (ap (λ (l : List RowEntry). x ∷ l) (behind_all r xs more h.1))

pub Apart : List ℕ → List RowEntry → Type 0
Apart key [] = Unit {0}
Apart key (next ∷ more) = bytes_eq next.key key ≡ false

apart_put : (r : RowEntry) (more : List RowEntry) → Apart r.key more → put_behind r (newest_first more) ≡ r ∷ newest_first more
unfolding Apart
apart_put r [] h = refl
apart_put r (s ∷ more) h =
    let f = first_put s (newest_first more) in
    let e : bytes_eq f.row.key r.key ≡ false = ap (λ (k : List ℕ). bytes_eq k r.key) f.key ∙ h in
    ap (put_behind r) f.is ∙ rw e refl ∙ ap (λ (l : List RowEntry). r ∷ l) (sym f.is)

all_back : (k : List ℕ) (xs : List RowEntry) → AllByRecursion (λ s. s.key ≡ k) xs → AllByRecursion (λ s. s.key ≡ k) (reverse xs)
all_back k [] h = tt
all_back k (x ∷ xs) h = subst (AllByRecursion (λ s. s.key ≡ k)) (sym (reverse-append (x ∷ []) xs)) (last (reverse xs) (all_back k xs h.1))
  where
    last : (ys : List RowEntry) → AllByRecursion (λ s. s.key ≡ k) ys → AllByRecursion (λ s. s.key ≡ k) (ys ++ (x ∷ []))
    last [] a = (h.0, tt)
    last (y ∷ ys) a = (a.0, last ys a.1)

group_turned : (k : List ℕ) (rows more : List RowEntry) → AllByRecursion (λ s. s.key ≡ k) rows → Apart k more → newest_first (rows ++ more) ≡ reverse rows ++ newest_first more
unfolding Apart
group_turned k [] more h a = refl
group_turned k (r ∷ rows) more h a =
    let here : Apart r.key more = subst (λ (x : List ℕ). Apart x more) (sym h.0) a in
    let same : AllByRecursion (λ s. s.key ≡ r.key) (reverse rows) = subst (λ (x : List ℕ). AllByRecursion (λ s. s.key ≡ x) (reverse rows)) (sym h.0) (all_back k rows h.1) in
    ap (put_behind r) (group_turned k rows more h.1 a)
    ∙ behind_all r (reverse rows) (newest_first more) same
    ∙ ap (λ (l : List RowEntry). reverse rows ++ l) (apart_put r more here)
    ∙ sym (append_assoc (reverse rows) (r ∷ []) (newest_first more))
    ∙ ap (λ (l : List RowEntry). l ++ newest_first more) (sym (reverse-append (r ∷ []) rows))

pub one_turned : (rows more : List RowEntry) → IsOneKey rows → StandsApart rows more → newest_first (rows ++ more) ≡ reverse rows ++ newest_first more
unfolding Apart
one_turned [] more one apart = refl
one_turned (r ∷ rows) more one apart = group_turned r.key (r ∷ rows) more (refl, one) (by more apart)
  where
    by : (l : List RowEntry) → StandsApart (r ∷ rows) l → Apart r.key l
    by [] h = tt
    by (next ∷ l) h = h
