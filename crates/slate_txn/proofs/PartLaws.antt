-- Rows in an order of which some keys are quiet: two lists that have the same rows at the quiet keys are read alike, as far as all keys that are read are quiet.
use Rattle.std.proofs.Common.{◌≡◌, ℕ, Bool, true, false, cond, not, ◌&&◌, ◌||◌, List, [], ◌∷◌, ◌++◌, filter, filter_map, reverse, drop, bytes_eq, Option, Some, None, refl, sym, ap, subst, ◌∙◌, Less}
use Rattle.std.specs.Ordering.{is_lt}
use Rattle.std.specs.List.{AllByRecursion, cons_option}
use Rattle.std.specs.List.Sorted.{IsStrictlySortedBy}
use Rattle.std.proofs.lemmas.List.{reverse-append}
use Rattle.std.proofs.lemmas.List.Elements.{filter-append}
use Rattle.std.proofs.lemmas.List.Kept.{IsStrictlySortedBy-filter}
use Rattle.std.proofs.lemmas.Slice.Eq.{bytes_eq-Decides}
use Rattle.slate_types.specs.declared.types.RowEntry.{RowEntry}
use Rattle.slate_types.specs.declared.types.KeyValue.{KeyValue}
use Rattle.slate_types.specs.declared.bytes_range.BytesRange.{BytesRange}
use Rattle.slate_types.specs.declared.iter.IterationOrder.{IterationOrder}
use Rattle.slate_types.specs.declared.iter.IterationOrder.TheVariants.{Ascending, Descending}
use Rattle.slate_types.specs.Keys.{key_cmp, key_lt, in_range, among}
use Rattle.slate_types.proofs.KeyOrder.{lt_trans, not_lt_trans, lt_irreflexive}
use Rattle.slate_types.proofs.KeySetLaws.{same_set}
use Rattle.slate_types.specs.Iteration.{comes_before, drop_before, in_order}
use Rattle.slate_txn.specs.Alone.{Left, first_left, advanced, sought}
use Rattle.slate_types.proofs.Lists.{AllByRecursion_append, AllByRecursion_weaken, AllByRecursion_reverse, AllByRecursion_filter, filter_all}

-- ---- the order

pub before_trans : (o : IterationOrder) (a b c : List ℕ) → comes_before o a b ≡ true → comes_before o b c ≡ true → comes_before o a c ≡ true
before_trans Ascending a b c h k = lt_trans a b c h k
before_trans Descending a b c h k = lt_trans c b a k h

pub not_before_trans : (o : IterationOrder) (a b c : List ℕ) → comes_before o a b ≡ false → comes_before o b c ≡ false → comes_before o a c ≡ false
not_before_trans Ascending a b c h k = not_lt_trans a b c h k
not_before_trans Descending a b c h k = not_lt_trans c b a k h

pub before_itself : {A : Type 0} (o : IterationOrder) (a : List ℕ) → comes_before o a a ≡ true → A
before_itself Ascending a h = lt_irreflexive a h
before_itself Descending a h = lt_irreflexive a h

pub not_before_itself : (o : IterationOrder) (a : List ℕ) → comes_before o a a ≡ false
not_before_itself o a = by (comes_before o a a) refl
  where
    by : (t : Bool) → comes_before o a a ≡ t → t ≡ false
    by true e = before_itself o a e
    by false e = refl

-- ---- lists

pub filter_passes : {X : Type 0} (t : X → Bool) (xs : List X) → AllByRecursion (λ x. t x ≡ true) (filter t xs)
filter_passes t [] = tt
filter_passes t (x ∷ xs) = by (t x) refl (filter_passes t xs)
  where
    by : (b : Bool) → t x ≡ b → AllByRecursion (λ x. t x ≡ true) (filter t xs) → AllByRecursion (λ x. t x ≡ true) (cond b (x ∷ filter t xs) (filter t xs))
    by true e later = (e, later)
    by false e later = later

pub filter_swap : {X : Type 0} (p q : X → Bool) (xs : List X) → filter p (filter q xs) ≡ filter q (filter p xs)
filter_swap p q [] = refl
filter_swap {X = X} p q (x ∷ xs) = by (p x) (q x) refl refl (filter_swap p q xs)
  where
    ps : List X
    ps = filter p xs

    qs : List X
    qs = filter q xs

    by : (a b : Bool) → p x ≡ a → q x ≡ b → filter p qs ≡ filter q ps → filter p (cond b (x ∷ qs) qs) ≡ filter q (cond a (x ∷ ps) ps)
    by true true ea eb later = ap (λ t. cond t (x ∷ filter p qs) (filter p qs)) ea ∙ ap (λ ys. x ∷ ys) later ∙ sym (ap (λ t. cond t (x ∷ filter q ps) (filter q ps)) eb)
    by true false ea eb later = later ∙ sym (ap (λ t. cond t (x ∷ filter q ps) (filter q ps)) eb)
    by false true ea eb later = ap (λ t. cond t (x ∷ filter p qs) (filter p qs)) ea ∙ later
    by false false ea eb later = later

pub filter_reverse : {X : Type 0} (u : X → Bool) (xs : List X) → filter u (reverse xs) ≡ reverse (filter u xs)
filter_reverse u [] = refl
filter_reverse {X = X} u (x ∷ xs) =
    ap (filter u) (reverse-append (x ∷ []) xs) ∙ filter-append u (reverse xs) (x ∷ []) ∙ ap (λ ys. ys ++ filter u (x ∷ [])) (filter_reverse u xs) ∙ by (u x)
  where
    us : List X
    us = filter u xs

    by : (t : Bool) → reverse us ++ cond t (x ∷ []) [] ≡ reverse (cond t (x ∷ us) us)
    by true = sym (reverse-append (x ∷ []) us)
    by false = nil (reverse us)
      where
        nil : (ys : List X) → ys ++ [] ≡ ys
        nil [] = refl
        nil (y ∷ ys) = ap (λ zs. y ∷ zs) (nil ys)

filter_order : {X : Type 0} (o : IterationOrder) (u : X → Bool) (xs : List X) → filter u (in_order o xs) ≡ in_order o (filter u xs)
filter_order Ascending u xs = refl
filter_order Descending u xs = filter_reverse u xs

all_order : {X : Type 0} (P : X → Type 0) (o : IterationOrder) (xs : List X) → AllByRecursion P xs → AllByRecursion P (in_order o xs)
all_order P Ascending xs h = h
all_order P Descending xs h = AllByRecursion_reverse P xs h

-- ---- rising keys and rows

abbrev KeysRise : IterationOrder → List (List ℕ) → Type 0
KeysRise o [] = Unit {0}
KeysRise o (k ∷ ks) = AllByRecursion (λ j. comes_before o k j ≡ true) ks × KeysRise o ks

abbrev pub Rises : IterationOrder → List RowEntry → Type 0
Rises o [] = Unit {0}
Rises o (x ∷ xs) = AllByRecursion (λ y. comes_before o x.key y.key ≡ true) xs × Rises o xs

rise_last : (o : IterationOrder) (ks : List (List ℕ)) (k : List ℕ) → KeysRise o ks → AllByRecursion (λ j. comes_before o j k ≡ true) ks → KeysRise o (ks ++ (k ∷ []))
rise_last o [] k h a = (tt, tt)
rise_last o (j ∷ js) k h a = (AllByRecursion_append (λ i. comes_before o j i ≡ true) js (k ∷ []) h.0 (a.0, tt), rise_last o js k h.1 a.1)

rise_up : (ks : List (List ℕ)) → IsStrictlySortedBy key_cmp ks → KeysRise Ascending ks
unfolding IsStrictlySortedBy
rise_up [] h = tt
rise_up (k ∷ ks) h = (AllByRecursion_weaken (λ j. key_cmp k j ≡ Less) (λ j. key_lt k j ≡ true) (λ j e. ap is_lt e) ks h.0, rise_up ks h.1)

rise_down : (ks : List (List ℕ)) → KeysRise Ascending ks → KeysRise Descending (reverse ks)
rise_down [] h = tt
rise_down (k ∷ ks) h =
    subst (KeysRise Descending) (sym (reverse-append (k ∷ []) ks)) (rise_last Descending (reverse ks) k (rise_down ks h.1) (AllByRecursion_reverse (λ j. key_lt k j ≡ true) ks h.0))

rise_order : (o : IterationOrder) (ks : List (List ℕ)) → IsStrictlySortedBy key_cmp ks → KeysRise o (in_order o ks)
rise_order Ascending ks h = rise_up ks h
rise_order Descending ks h = rise_down ks (rise_up ks h)

-- what a reader finds under a key is a row of this key
abbrev pub IsOfKeys : (List ℕ → Option RowEntry) → Type 0
IsOfKeys f = (k : List ℕ) (x : RowEntry) → f k ≡ Some x → x.key ≡ k

all_found : (f : List ℕ → Option RowEntry) → IsOfKeys f → (P : List ℕ → Type 0) (ks : List (List ℕ)) → AllByRecursion P ks → AllByRecursion (λ x. P x.key) (filter_map f ks)
all_found f own P [] h = tt
all_found f own P (k ∷ ks) h = by (f k) refl (all_found f own P ks h.1)
  where
    by : (o : Option RowEntry) → f k ≡ o → AllByRecursion (λ x. P x.key) (filter_map f ks) → AllByRecursion (λ x. P x.key) (cons_option o (filter_map f ks))
    by None e later = later
    by (Some x) e later = (subst P (sym (own k x e)) h.0, later)

rows_rise : (f : List ℕ → Option RowEntry) → IsOfKeys f → (o : IterationOrder) (ks : List (List ℕ)) → KeysRise o ks → Rises o (filter_map f ks)
rows_rise f own o [] h = tt
rows_rise f own o (k ∷ ks) h = by (f k) refl (rows_rise f own o ks h.1)
  where
    by : (z : Option RowEntry) → f k ≡ z → Rises o (filter_map f ks) → Rises o (cons_option z (filter_map f ks))
    by None e later = later
    by (Some x) e later =
        (all_found f own (λ j. comes_before o x.key j ≡ true) ks (subst (λ (i : List ℕ). AllByRecursion (λ j. comes_before o i j ≡ true) ks) (sym (own k x e)) h.0), later)

rises_filter : (o : IterationOrder) (t : RowEntry → Bool) (xs : List RowEntry) → Rises o xs → Rises o (filter t xs)
rises_filter o t [] h = tt
rises_filter o t (x ∷ xs) h = by (t x) (rises_filter o t xs h.1)
  where
    by : (b : Bool) → Rises o (filter t xs) → Rises o (cond b (x ∷ filter t xs) (filter t xs))
    by true later = (AllByRecursion_filter (λ y. comes_before o x.key y.key ≡ true) t xs h.0, later)
    by false later = later

-- ---- a seek

abbrev is_left : IterationOrder → List ℕ → RowEntry → Bool
is_left o k x = not (comes_before o x.key k)

drop_filters : (o : IterationOrder) (k : List ℕ) (xs : List RowEntry) → Rises o xs → drop_before o k xs ≡ filter (is_left o k) xs
drop_filters o k [] h = refl
drop_filters o k (x ∷ xs) h = by (comes_before o x.key k) refl (drop_filters o k xs h.1)
  where
    behind : comes_before o x.key k ≡ false → (y : RowEntry) → comes_before o x.key y.key ≡ true → is_left o k y ≡ true
    behind e y later = by (comes_before o y.key k) refl
      where
        by : (t : Bool) → comes_before o y.key k ≡ t → not t ≡ true
        by true f = let is : true ≡ false = sym (before_trans o x.key y.key k later f) ∙ e in cc
        by false f = refl

    by : (t : Bool) → comes_before o x.key k ≡ t → drop_before o k xs ≡ filter (is_left o k) xs → cond t (drop_before o k xs) (x ∷ xs) ≡ cond (not t) (x ∷ filter (is_left o k) xs) (filter (is_left o k) xs)
    by true e later = later
    by false e later = ap (λ ys. x ∷ ys) (sym (filter_all (is_left o k) xs (AllByRecursion_weaken (λ y. comes_before o x.key y.key ≡ true) (λ y. is_left o k y ≡ true) (behind e) xs h.0)))

-- ---- two lists that are alike at quiet keys

abbrev pub quiet : (List ℕ → Bool) → List RowEntry → List RowEntry
quiet u xs = filter (λ x. u x.key) xs

abbrev pub AreIn : BytesRange → List RowEntry → Type 0
AreIn range xs = AllByRecursion (λ x. in_range range x.key ≡ true) xs

-- what is left of a scan for two readers
pub record Agree (u : List ℕ → Bool) (o : IterationOrder) (range : BytesRange) (l m : Left) : Type 0 where
  pub order : l.0 ≡ o
  pub other_order : m.0 ≡ o
  pub rises : Rises o l.1
  pub other_rises : Rises o m.1
  pub within : AreIn range l.1
  pub other_within : AreIn range m.1
  pub alike : quiet u l.1 ≡ quiet u m.1

sought_filters : (o : IterationOrder) (k : List ℕ) (l : Left) → l.0 ≡ o → Rises o l.1 → (sought k l).1 ≡ filter (is_left o k) l.1
sought_filters o k l e h = ap (λ z. drop_before z k l.1) e ∙ drop_filters o k l.1 h

pub agree_sought : (u : List ℕ → Bool) (o : IterationOrder) (range : BytesRange) (k : List ℕ) (l m : Left) → Agree u o range l m → Agree u o range (sought k l) (sought k m)
agree_sought u o range k l m h = record {
  order = h.order;
  other_order = h.other_order;
  rises = subst (Rises o) (sym p) (rises_filter o (is_left o k) l.1 h.rises);
  other_rises = subst (Rises o) (sym q) (rises_filter o (is_left o k) m.1 h.other_rises);
  within = subst (AreIn range) (sym p) (AllByRecursion_filter (λ x. in_range range x.key ≡ true) (is_left o k) l.1 h.within);
  other_within = subst (AreIn range) (sym q) (AllByRecursion_filter (λ x. in_range range x.key ≡ true) (is_left o k) m.1 h.other_within);
  alike = ap (quiet u) p ∙ filter_swap (λ x. u x.key) (is_left o k) l.1 ∙ ap (filter (is_left o k)) h.alike ∙ sym (filter_swap (λ x. u x.key) (is_left o k) m.1) ∙ sym (ap (quiet u) q);
}
  where
    p : (sought k l).1 ≡ filter (is_left o k) l.1
    p = sought_filters o k l h.order h.rises

    q : (sought k m).1 ≡ filter (is_left o k) m.1
    q = sought_filters o k m h.other_order h.other_rises

-- ---- the next row

head_or : RowEntry → List RowEntry → RowEntry
head_or d [] = d
head_or d (x ∷ xs) = x

abbrev AreNext : (List ℕ → Bool) → List RowEntry → List RowEntry → Type 0
AreNext u xs ys = (first_left xs ≡ first_left ys) × (quiet u (drop 1 xs) ≡ quiet u (drop 1 ys))

-- all keys of the range that the order doesn't put after the first row are quiet
next_row : (u : List ℕ → Bool) (o : IterationOrder) (range : BytesRange) (x : RowEntry) (xs ys : List RowEntry) → in_range range x.key ≡ true → Rises o ys → AreIn range ys →
    ((k : List ℕ) → in_range range k ≡ true → comes_before o x.key k ≡ false → u k ≡ true) → quiet u (x ∷ xs) ≡ quiet u ys → AreNext u (x ∷ xs) ys
next_row u o range x xs [] here rises within clear same =
    let one : x ∷ quiet u xs ≡ [] = sym (ap (λ b. cond b (x ∷ quiet u xs) (quiet u xs)) (clear x.key here (not_before_itself o x.key))) ∙ same in cc
next_row u o range x xs (y ∷ ys) here rises within clear same = by (comes_before o x.key y.key) refl
  where
    one : x ∷ quiet u xs ≡ quiet u (y ∷ ys)
    one = sym (ap (λ b. cond b (x ∷ quiet u xs) (quiet u xs)) (clear x.key here (not_before_itself o x.key))) ∙ same

    by : (t : Bool) → comes_before o x.key y.key ≡ t → AreNext u (x ∷ xs) (y ∷ ys)
    by true e =
        let after : AllByRecursion (λ z. comes_before o x.key z.key ≡ true) (y ∷ ys) =
        (e, AllByRecursion_weaken (λ z. comes_before o y.key z.key ≡ true) (λ z. comes_before o x.key z.key ≡ true) (λ z f. before_trans o x.key y.key z.key e f) ys rises.0) in
        let all : AllByRecursion (λ z. comes_before o x.key z.key ≡ true) (x ∷ quiet u xs) =
        subst (AllByRecursion (λ z. comes_before o x.key z.key ≡ true)) (sym one) (AllByRecursion_filter (λ z. comes_before o x.key z.key ≡ true) (λ z. u z.key) (y ∷ ys) after) in
        before_itself o x.key all.0
    by false e =
        let both : x ∷ quiet u xs ≡ y ∷ quiet u ys = one ∙ ap (λ b. cond b (y ∷ quiet u ys) (quiet u ys)) (clear y.key within.0 e) in
        (ap first_left both, ap (drop 1) both)

-- all keys of the range are quiet
next_none : (u : List ℕ → Bool) (range : BytesRange) (ys : List RowEntry) → AreIn range ys → ((k : List ℕ) → in_range range k ≡ true → u k ≡ true) → [] ≡ quiet u ys → AreNext u [] ys
next_none u range [] within clear same = (refl, refl)
next_none u range (y ∷ ys) within clear same = let one : [] ≡ y ∷ quiet u ys = same ∙ ap (λ b. cond b (y ∷ quiet u ys) (quiet u ys)) (clear y.key within.0) in cc

rises_drop : (o : IterationOrder) (xs : List RowEntry) → Rises o xs → Rises o (drop 1 xs)
rises_drop o [] h = tt
rises_drop o (x ∷ xs) h = h.1

all_drop : {X : Type 0} (P : X → Type 0) (xs : List X) → AllByRecursion P xs → AllByRecursion P (drop 1 xs)
all_drop P [] h = tt
all_drop P (x ∷ xs) h = h.1

-- the keys that an answer of a scan rests on
abbrev pub ReadsKeys : (List ℕ → Bool) → IterationOrder → BytesRange → Option KeyValue → Type 0
ReadsKeys u o range None = (k : List ℕ) → in_range range k ≡ true → u k ≡ true
ReadsKeys u o range (Some kv) = (k : List ℕ) → in_range range k ≡ true → comes_before o kv.key k ≡ false → u k ≡ true

next_of : (u : List ℕ → Bool) (o : IterationOrder) (range : BytesRange) (xs ys : List RowEntry) → AreIn range xs → Rises o ys → AreIn range ys → ReadsKeys u o range (first_left xs) → quiet u xs ≡ quiet u ys → AreNext u xs ys
next_of u o range [] ys within rises other clear same = next_none u range ys other clear same
next_of u o range (x ∷ xs) ys within rises other clear same = next_row u o range x xs ys within.0 rises other clear same

pub agree_next : (u : List ℕ → Bool) (o : IterationOrder) (range : BytesRange) (a : Option KeyValue) (l m : Left) → Agree u o range l m → ReadsKeys u o range a → a ≡ first_left l.1 →
    (a ≡ first_left m.1) × Agree u o range (advanced l) (advanced m)
agree_next u o range a l m h clear is = (
  is ∙ both.0,
  record {
    order = h.order;
    other_order = h.other_order;
    rises = rises_drop o l.1 h.rises;
    other_rises = rises_drop o m.1 h.other_rises;
    within = all_drop (λ x. in_range range x.key ≡ true) l.1 h.within;
    other_within = all_drop (λ x. in_range range x.key ≡ true) m.1 h.other_within;
    alike = both.1;
  },
)
  where
    both : AreNext u l.1 m.1
    both = next_of u o range l.1 m.1 h.within h.other_rises h.other_within (subst (ReadsKeys u o range) is clear) h.alike

-- ---- a list that is fixed at its opening

quiet_found : (u : List ℕ → Bool) (f : List ℕ → Option RowEntry) → IsOfKeys f → (ks : List (List ℕ)) → quiet u (filter_map f ks) ≡ filter_map f (filter u ks)
quiet_found u f own [] = refl
quiet_found u f own (k ∷ ks) = by (f k) (u k) refl refl (quiet_found u f own ks)
  where
    rest : List RowEntry
    rest = filter_map f ks

    some : List RowEntry
    some = filter_map f (filter u ks)

    by : (z : Option RowEntry) (t : Bool) → f k ≡ z → u k ≡ t → quiet u rest ≡ some → quiet u (cons_option z rest) ≡ filter_map f (cond t (k ∷ filter u ks) (filter u ks))
    by None true e g later = later ∙ ap (λ z. cons_option z some) (sym e)
    by None false e g later = later
    by (Some x) true e g later = ap (λ b. cond b (x ∷ quiet u rest) (quiet u rest)) (ap u (own k x e) ∙ g) ∙ ap (λ ys. x ∷ ys) later ∙ ap (λ z. cons_option z some) (sym e)
    by (Some x) false e g later = ap (λ b. cond b (x ∷ quiet u rest) (quiet u rest)) (ap u (own k x e) ∙ g) ∙ later

same_found : (u : List ℕ → Bool) (f g : List ℕ → Option RowEntry) → ((k : List ℕ) → u k ≡ true → f k ≡ g k) → (ks : List (List ℕ)) → filter_map f (filter u ks) ≡ filter_map g (filter u ks)
same_found u f g same [] = refl
same_found u f g same (k ∷ ks) = by (u k) refl (same_found u f g same ks)
  where
    by : (t : Bool) → u k ≡ t → filter_map f (filter u ks) ≡ filter_map g (filter u ks) → filter_map f (cond t (k ∷ filter u ks) (filter u ks)) ≡ filter_map g (cond t (k ∷ filter u ks) (filter u ks))
    by true e later = λ i. cons_option (same k e i) (later i)
    by false e later = later

and_nothing : (a : Bool) → false ≡ (a && false)
and_nothing true = refl
and_nothing false = refl

among_filter : (u : List ℕ → Bool) (k : List ℕ) (ks : List (List ℕ)) → among k (filter u ks) ≡ (u k && among k ks)
among_filter u k [] = and_nothing (u k)
among_filter u k (j ∷ js) = by (u j) (bytes_eq j k) refl refl (among_filter u k js)
  where
    us : List (List ℕ)
    us = filter u js

    is : bytes_eq j k ≡ true → u k ≡ u j
    is e = ap u (sym ((bytes_eq-Decides j k).0 e))

    by : (a b : Bool) → u j ≡ a → bytes_eq j k ≡ b → among k us ≡ (u k && among k js) → among k (cond a (j ∷ us) us) ≡ (u k && (b || among k js))
    by true true ea eb later = ap (λ t. t || among k us) eb ∙ sym (ap (λ t. t && true) (is eb ∙ ea))
    by true false ea eb later = ap (λ t. t || among k us) eb ∙ later
    by false true ea eb later = later ∙ ap (λ t. t && among k js) (is eb ∙ ea) ∙ sym (ap (λ t. t && true) (is eb ∙ ea))
    by false false ea eb later = later

same_quiet_keys : (u : List ℕ → Bool) (js ks : List (List ℕ)) → IsStrictlySortedBy key_cmp js → IsStrictlySortedBy key_cmp ks → ((k : List ℕ) → u k ≡ true → among k js ≡ among k ks) → filter u js ≡ filter u ks
same_quiet_keys u js ks rises other same =
    same_set (filter u js) (filter u ks) (IsStrictlySortedBy-filter key_cmp u js rises) (IsStrictlySortedBy-filter key_cmp u ks other) each
  where
    each : (k : List ℕ) → among k (filter u js) ≡ among k (filter u ks)
    each k = among_filter u k js ∙ by (u k) refl ∙ sym (among_filter u k ks)
      where
        by : (t : Bool) → u k ≡ t → (t && among k js) ≡ (t && among k ks)
        by true e = same k e
        by false e = refl

abbrev rows_of : (List ℕ → Option RowEntry) → List (List ℕ) → IterationOrder → BytesRange → List RowEntry
rows_of f ks o range = filter_map f (in_order o (filter (in_range range) ks))

quiet_rows : (u : List ℕ → Bool) (f : List ℕ → Option RowEntry) → IsOfKeys f → (ks : List (List ℕ)) (o : IterationOrder) (range : BytesRange) →
    quiet u (rows_of f ks o range) ≡ filter_map f (filter u (in_order o (filter (in_range range) ks)))
quiet_rows u f own ks o range = quiet_found u f own (in_order o (filter (in_range range) ks))

quiet_keys : (u : List ℕ → Bool) (js ks : List (List ℕ)) (o : IterationOrder) (range : BytesRange) → filter u js ≡ filter u ks →
    filter u (in_order o (filter (in_range range) js)) ≡ filter u (in_order o (filter (in_range range) ks))
quiet_keys u js ks o range same =
    filter_order o u (filter (in_range range) js)
    ∙ ap (in_order o) (filter_swap u (in_range range) js ∙ ap (filter (in_range range)) same ∙ sym (filter_swap u (in_range range) ks))
    ∙ sym (filter_order o u (filter (in_range range) ks))

-- two readers who see the same at quiet keys
pub agree_opened : (u : List ℕ → Bool) (f g : List ℕ → Option RowEntry) (js ks : List (List ℕ)) (o : IterationOrder) (range : BytesRange) → IsOfKeys f → IsOfKeys g →
    IsStrictlySortedBy key_cmp js → IsStrictlySortedBy key_cmp ks → ((k : List ℕ) → u k ≡ true → f k ≡ g k) → ((k : List ℕ) → u k ≡ true → among k js ≡ among k ks) →
    Agree u o range (o, rows_of f js o range) (o, rows_of g ks o range)
agree_opened u f g js ks o range own other js_rise ks_rise same keys = record {
  order = refl;
  other_order = refl;
  rises = rows_rise f own o (in_order o (filter (in_range range) js)) (rise_order o _ (IsStrictlySortedBy-filter key_cmp (in_range range) js js_rise));
  other_rises = rows_rise g other o (in_order o (filter (in_range range) ks)) (rise_order o _ (IsStrictlySortedBy-filter key_cmp (in_range range) ks ks_rise));
  within = all_found f own (λ k. in_range range k ≡ true) (in_order o (filter (in_range range) js)) (all_order (λ k. in_range range k ≡ true) o _ (filter_passes (in_range range) js));
  other_within = all_found g other (λ k. in_range range k ≡ true) (in_order o (filter (in_range range) ks)) (all_order (λ k. in_range range k ≡ true) o _ (filter_passes (in_range range) ks));
  alike =
      quiet_rows u f own js o range
      ∙ same_found u f g same (in_order o (filter (in_range range) js))
      ∙ ap (filter_map g) (quiet_keys u js ks o range (same_quiet_keys u js ks js_rise ks_rise keys))
      ∙ sym (quiet_rows u g other ks o range);
}
