-- The blocks that can hold a key, by the separators, hold all rows of it.
use Rattle.std.proofs.Common.{◌≡◌, ℕ, zero, suc, ◌+◌, ◌-◌, ◌<◌, ◌≤◌, Bool, true, false, cond, ◌||◌, ◌&&◌, List, [], ◌∷◌, ◌++◌, length, take, drop, flat_map, Some, refl, sym, ap, subst, ◌∙◌, arith, bytes_eq, Ordering, Less, Equal, Greater}
use Rattle.std.specs.Prelude.{IsTrue, IfSome, nat_eq, nat_lt, slice_get}
use Rattle.std.specs.Ordering.{is_le, is_lt, nat_cmp, ordering_then}
use Rattle.std.specs.List.{AllByRecursion}
use Rattle.std.proofs.lemmas.Bool.Decides.{nat_tests}
use Rattle.std.proofs.lemmas.Cmp.{nat_list_cmp_total, tied_itself}
use Rattle.std.proofs.lemmas.List.Elements.{filter-append}
use Rattle.std.proofs.lemmas.Option.{same_Some}
use Rattle.std.proofs.lemmas.Slice.Eq.{bytes_eq-Decides}
use Rattle.slate_types.specs.declared.types.RowEntry.{RowEntry}
use Rattle.slate_types.specs.Keys.{key_cmp, key_lt, key_le}
use Rattle.slate_types.specs.Partitions.{CanHold}
use Rattle.slate_types.specs.Rows.{row_lt, of_key}
use Rattle.slate_types.proofs.KeyOrder.{lt_le, le_lt_trans}
use Rattle.slate_types.proofs.PartitionLaws.{le_trans}
use Rattle.slate_block.specs.BlockSpelling.{longest}
use Rattle.slate_table.specs.Parts.{first_key, last_key, separator, later_separators, separators}
use Rattle.slate_table.specs.Table.{AreInOrder}
use Rattle.slate_types.proofs.Lists.{AllByRecursion_front}

-- ---- fronts of keys

same_byte : (x : ℕ) → nat_cmp x x ≡ Equal
same_byte x = grind (arith, nat_tests)

pub le_itself : (k : List ℕ) → key_le k k ≡ true
le_itself k = ap is_le (tied_itself nat_list_cmp_total k)

front_le : (n : ℕ) (k : List ℕ) → key_le (take n k) k ≡ true
front_le zero [] = refl
front_le zero (x ∷ k) = refl
front_le (suc n) [] = refl
front_le (suc n) (x ∷ k) = ap (λ o. is_le (ordering_then o (key_cmp (take n k) k))) (same_byte x) ∙ front_le n k

-- a key is no greater than the front of a later one that tells them apart
front_above : (p k : List ℕ) → key_le p k ≡ true → key_le p (take (longest p k + 1) k) ≡ true
front_above [] [] h = refl
front_above [] (y ∷ k) h = refl
front_above (x ∷ p) [] h = cc
front_above (x ∷ p) (y ∷ k) h = by (nat_eq x y) refl (nat_cmp x y) refl h (front_above p k)
  where
    by : (t : Bool) → nat_eq x y ≡ t → (o : Ordering) → nat_cmp x y ≡ o → is_le (ordering_then o (key_cmp p k)) ≡ true → (key_le p k ≡ true → key_le p (take (longest p k + 1) k) ≡ true) →
        key_le (x ∷ p) (take (cond t (1 + longest p k) 0 + 1) (y ∷ k)) ≡ true
    by true e Less c h rest = let more : 1 + longest p k + 1 ≡ suc (longest p k + 1) = omega arith in
        ap (λ n. key_le (x ∷ p) (take n (y ∷ k))) more ∙ ap (λ o. is_le (ordering_then o (key_cmp p (take (longest p k + 1) k)))) c
    by true e Equal c h rest = let more : 1 + longest p k + 1 ≡ suc (longest p k + 1) = omega arith in
        ap (λ n. key_le (x ∷ p) (take n (y ∷ k))) more ∙ ap (λ o. is_le (ordering_then o (key_cmp p (take (longest p k + 1) k)))) c ∙ rest h
    by true e Greater c h rest = cc
    by false e Less c h rest = ap (λ o. is_le (ordering_then o (key_cmp p []))) c
    by false e Equal c h rest = absurd (let same : x ≡ y = grind (arith, nat_tests) in grind (arith, nat_tests))
    by false e Greater c h rest = cc

separator_le : (p k : List ℕ) → key_le (separator p k) k ≡ true
separator_le p k = by (bytes_eq p k)
  where
    by : (t : Bool) → key_le (cond t k (take (longest p k + 1) k)) k ≡ true
    by true = le_itself k
    by false = front_le (longest p k + 1) k

separator_above : (p k : List ℕ) → key_le p k ≡ true → key_le p (separator p k) ≡ true
separator_above p k h = by (bytes_eq p k)
  where
    by : (t : Bool) → key_le p (cond t k (take (longest p k + 1) k)) ≡ true
    by true = h
    by false = front_above p k h

-- ---- keys in the order of rows

row_le : (r s : RowEntry) → IsTrue (row_lt r s) → key_le r.key s.key ≡ true
row_le r s h = by (key_lt r.key s.key) refl (bytes_eq r.key s.key) refl h
  where
    by : (a : Bool) → key_lt r.key s.key ≡ a → (b : Bool) → bytes_eq r.key s.key ≡ b → (a || (b && nat_lt s.seq r.seq)) ≡ true → key_le r.key s.key ≡ true
    by true less b same h = lt_le r.key s.key less
    by false less true same h = ap (λ k. key_le r.key k) (sym ((bytes_eq-Decides r.key s.key).0 same)) ∙ le_itself r.key
    by false less false same h = cc

unfoldable pub AllFrom : List ℕ → List RowEntry → Type 0
AllFrom k rows = AllByRecursion (λ r. key_le k r.key ≡ true) rows

unfoldable pub AllUpto : List ℕ → List RowEntry → Type 0
AllUpto k rows = AllByRecursion (λ r. key_le r.key k ≡ true) rows

all_le : (r : RowEntry) (rs : List RowEntry) → AllByRecursion (λ s. IsTrue (row_lt r s)) rs → AllFrom r.key rs
unfolding AllFrom
all_le r [] h = tt
all_le r (s ∷ rs) h = (row_le r s h.0, all_le r rs h.1)

pub from_first : (r : RowEntry) (rs : List RowEntry) → AreInOrder (r ∷ rs) → AllFrom r.key (r ∷ rs)
unfolding AllFrom
from_first r rs h = (le_itself r.key, all_le r rs h.0)

first_upto : (p : List ℕ) (rs : List RowEntry) → AllFrom p rs → AreInOrder rs → key_le p (last_key p rs) ≡ true
unfolding AllFrom
first_upto p [] h order = le_itself p
first_upto p (s ∷ rs) h order = le_trans p s.key (last_key s.key rs) h.0 (first_upto s.key rs (all_le s rs order.0) order.1)

pub upto_last : (p : List ℕ) (rs : List RowEntry) → AreInOrder rs → AllUpto (last_key p rs) rs
unfolding AllUpto
upto_last p [] order = tt
upto_last p (r ∷ rs) order = (first_upto r.key rs (all_le r rs order.0) order.1, upto_last r.key rs order.1)

-- ---- rows in one list

pub order_front : (xs ys : List RowEntry) → AreInOrder (xs ++ ys) → AreInOrder xs
order_front [] ys h = tt
order_front (x ∷ xs) ys h = (AllByRecursion_front (λ s. IsTrue (row_lt x s)) xs ys h.0, order_front xs ys h.1)

pub order_back : (xs ys : List RowEntry) → AreInOrder (xs ++ ys) → AreInOrder ys
order_back [] ys h = h
order_back (x ∷ xs) ys h = order_back xs ys h.1

order_across : (x : RowEntry) (xs : List RowEntry) (y : RowEntry) (ys : List RowEntry) → AreInOrder ((x ∷ xs) ++ (y ∷ ys)) → key_le (last_key x.key xs) y.key ≡ true
order_across x [] y ys h = row_le x y h.0.0
order_across x (z ∷ xs) y ys h = order_across z xs y ys h.1

-- ---- which block can hold a key

unfoldable pub AreSome : List (List RowEntry) → Type 0
AreSome bs = AllByRecursion (λ b. 0 < length b) bs

unfoldable pub Holds : List (List ℕ) → List (List RowEntry) → Type 0
Holds keys blocks = (i : ℕ) (b : List RowEntry) → slice_get blocks i ≡ Some b → AllByRecursion (λ r. CanHold keys i r.key) b

-- the keys of a block, between its separator and the next
all_hold : (s : List ℕ) (ks : List (List ℕ)) (b : List RowEntry) → AllFrom s b → ((r : RowEntry) → key_le r.key r.key ≡ true → Unit {0}) → AllByRecursion (λ r. IfSome (slice_get ks 0) (λ next. key_le r.key next ≡ true)) b →
    AllByRecursion (λ r. CanHold (s ∷ ks) 0 r.key) b
unfolding AllFrom
all_hold s ks [] from none upto = tt
all_hold s ks (r ∷ rs) from none upto = (record { begins = from.0; ends = upto.0 }, all_hold s ks rs from.1 none upto.1)

from_lower : (s k : List ℕ) (b : List RowEntry) → key_le s k ≡ true → AllFrom k b → AllFrom s b
unfolding AllFrom
from_lower s k [] h from = tt
from_lower s k (r ∷ rs) h from = (le_trans s k r.key h from.0, from_lower s k rs h from.1)

upto_higher : (k s : List ℕ) (b : List RowEntry) → key_le k s ≡ true → AllUpto k b → AllUpto s b
unfolding AllUpto
upto_higher k s [] h upto = tt
upto_higher k s (r ∷ rs) h upto = (le_trans r.key k s upto.0 h, upto_higher k s rs h upto.1)

from_separator : (s : List ℕ) (b : List RowEntry) → key_le s (first_key b) ≡ true → AreInOrder b → AllFrom s b
unfolding AllFrom
from_separator s [] h order = tt
from_separator s (r ∷ rs) h order = from_lower s r.key (r ∷ rs) h (from_first r rs order)

abbrev no_keys : List (List ℕ)
no_keys = []

no_next : (b : List RowEntry) → AllByRecursion (λ r. IfSome (slice_get no_keys 0) (λ next. key_le r.key next ≡ true)) b
no_next [] = tt
no_next (r ∷ rs) = (tt, no_next rs)

-- the next separator is past the block
next_above : (previous : List ℕ) (b c : List RowEntry) (rest : List RowEntry) → 0 < length b → 0 < length c → AreInOrder (b ++ (c ++ rest)) → AllUpto (separator (last_key previous b) (first_key c)) b
unfolding AllUpto
next_above previous [] c rest some more order = tt
next_above previous (r ∷ rs) [] rest some more order = absurd (omega (arith, more))
next_above previous (r ∷ rs) (s ∷ ss) rest some more order =
    upto_higher (last_key r.key rs) (separator (last_key r.key rs) s.key) (r ∷ rs)
    (separator_above (last_key r.key rs) s.key (order_across r rs s (ss ++ rest) order))
    (upto_last previous (r ∷ rs) (order_front (r ∷ rs) ((s ∷ ss) ++ rest) order))

shifted : (s : List ℕ) (ks : List (List ℕ)) (i : ℕ) (b : List RowEntry) → AllByRecursion (λ r. CanHold ks i r.key) b → AllByRecursion (λ r. CanHold (s ∷ ks) (suc i) r.key) b
shifted s ks i [] h = tt
shifted s ks i (r ∷ rs) h =
    let place : suc (i + 1) ≡ suc i + 1 = omega arith in
    (record { begins = h.0.begins; ends = subst (λ n. IfSome (slice_get (s ∷ ks) n) (λ next. key_le r.key next ≡ true)) place h.0.ends }, shifted s ks i rs h.1)

holds_from : (s previous : List ℕ) (b : List RowEntry) (bs : List (List RowEntry)) → key_le s (first_key b) ≡ true → AreSome (b ∷ bs) → AreInOrder (b ++ flat_map (λ x. x) bs) →
    Holds (s ∷ later_separators (last_key previous b) bs) (b ∷ bs)
unfolding Holds AreSome AllUpto
holds_from s previous b [] h some order zero found is =
    subst (λ x. AllByRecursion (λ r. CanHold (s ∷ []) 0 r.key) x) (same_Some b found is) (all_hold s [] b (from_separator s b h (order_front b [] order)) (λ r e. tt) (no_next b))
holds_from s previous b [] h some order (suc i) found is = cc
holds_from s previous b (c ∷ cs) h some order zero found is =
    subst (λ x. AllByRecursion (λ r. CanHold (s ∷ later_separators (last_key previous b) (c ∷ cs)) 0 r.key) x) (same_Some b found is)
    (all_hold s (later_separators (last_key previous b) (c ∷ cs)) b (from_separator s b h (order_front b (c ++ flat_map (λ x. x) cs) order)) (λ r e. tt)
    (next_above previous b c (flat_map (λ x. x) cs) some.0 some.1.0 order))
holds_from s previous b (c ∷ cs) h some order (suc i) found is =
    shifted s (later_separators (last_key previous b) (c ∷ cs)) i found
    (holds_from (separator (last_key previous b) (first_key c)) (last_key previous b) c cs (separator_le (last_key previous b) (first_key c)) some.1 (order_back b (c ++ flat_map (λ x. x) cs) order) i found is)

pub separators_hold : (bs : List (List RowEntry)) → AreSome bs → AreInOrder (flat_map (λ x. x) bs) → Holds (separators bs) bs
unfolding Holds AreSome
separators_hold [] some order i found is = cc
separators_hold (b ∷ bs) some order i found is = holds_from (first_key b) [] b bs (le_itself (first_key b)) some order i found is

-- ---- the rows of a key stand in these blocks

none_of : (k : List ℕ) (b : List RowEntry) → AllByRecursion (λ r. r.key ≡ k → ⊥) b → of_key k b ≡ []
none_of k [] h = refl
none_of k (r ∷ rs) h = by (bytes_eq r.key k) refl (none_of k rs h.1)
  where
    by : (t : Bool) → bytes_eq r.key k ≡ t → of_key k rs ≡ [] → cond t (r ∷ of_key k rs) (of_key k rs) ≡ []
    by true e rest = absurd (h.0 ((bytes_eq-Decides r.key k).0 e))
    by false e rest = rest

pub none_beyond : {A : RowEntry → Type 0} (k : List ℕ) (b : List RowEntry) → AllByRecursion A b → ((r : RowEntry) → A r → r.key ≡ k → ⊥) → of_key k b ≡ []
none_beyond {A = A} k b h out = none_of k b (each b h)
  where
    each : (xs : List RowEntry) → AllByRecursion A xs → AllByRecursion (λ r. r.key ≡ k → ⊥) xs
    each [] h = tt
    each (x ∷ xs) h = (out x h.0, each xs h.1)

unfoldable pub Outside : List ℕ → List (List RowEntry) → ℕ → ℕ → Type 0
Outside k blocks first stop = (i : ℕ) (b : List RowEntry) → slice_get blocks i ≡ Some b → (first ≤ i → i < stop → ⊥) → of_key k b ≡ []

pub outside : (keys : List (List ℕ)) (k : List ℕ) (blocks : List (List RowEntry)) (first stop : ℕ) → Holds keys blocks → ((i : ℕ) → CanHold keys i k → (first ≤ i) × (i < stop)) → Outside k blocks first stop
unfolding Holds Outside
outside keys k blocks first stop holds within i b is out =
    none_beyond k b (holds i b is) (λ r can e. let w = within i (subst (λ x. CanHold keys i x) e can) in out w.0 w.1)

front_holds : (k : List ℕ) (blocks : List (List RowEntry)) (stop : ℕ) → ((i : ℕ) (b : List RowEntry) → slice_get blocks i ≡ Some b → stop ≤ i → of_key k b ≡ []) →
    of_key k (flat_map (λ x. x) (take stop blocks)) ≡ of_key k (flat_map (λ x. x) blocks)
front_holds k [] zero h = refl
front_holds k [] (suc n) h = refl
front_holds k (b ∷ bs) zero h =
    front_holds k bs zero (λ i c is le. h (suc i) c is (omega arith))
    ∙ sym (filter-append (λ r. bytes_eq r.key k) b (flat_map (λ x. x) bs) ∙ ap (λ xs. xs ++ of_key k (flat_map (λ x. x) bs)) (h 0 b refl (omega arith)))
front_holds k (b ∷ bs) (suc n) h =
    filter-append (λ r. bytes_eq r.key k) b (flat_map (λ x. x) (take n bs))
    ∙ ap (λ xs. of_key k b ++ xs) (front_holds k bs n (λ i c is le. h (suc i) c is (omega (arith, le))))
    ∙ sym (filter-append (λ r. bytes_eq r.key k) b (flat_map (λ x. x) bs))

abbrev no_blocks : List (List RowEntry)
no_blocks = []

take_none : (n : ℕ) → flat_map (λ x. x) (take n no_blocks) ≡ []
take_none zero = refl
take_none (suc n) = refl

pub covers : (k : List ℕ) (blocks : List (List RowEntry)) (first stop : ℕ) → Outside k blocks first stop →
    of_key k (flat_map (λ x. x) (take (stop - first) (drop first blocks))) ≡ of_key k (flat_map (λ x. x) blocks)
unfolding Outside
covers k blocks zero stop h =
    let whole : stop - 0 ≡ stop = omega arith in
    ap (λ n. of_key k (flat_map (λ x. x) (take n blocks))) whole ∙ front_holds k blocks stop (λ i b is le. h i b is (λ a below. omega (arith, le, below)))
covers k [] (suc f) stop h = ap (of_key k) (take_none (stop - suc f))
covers k (b ∷ bs) (suc f) stop h =
    let size : stop - suc f ≡ (stop - 1) - f = omega arith in
    ap (λ n. of_key k (flat_map (λ x. x) (take n (drop f bs)))) size
    ∙ covers k bs f (stop - 1) (λ i c is out. h (suc i) c is (λ a below. out (omega (arith, a)) (omega (arith, below))))
    ∙ sym (filter-append (λ r. bytes_eq r.key k) b (flat_map (λ x. x) bs) ∙ ap (λ xs. xs ++ of_key k (flat_map (λ x. x) bs)) (h 0 b refl (λ a below. omega (arith, a))))

-- a later row's key is no lesser one
pub not_above : (r s : RowEntry) → IsTrue (row_lt r s) → key_lt s.key r.key ≡ false
not_above r s h = by (key_lt s.key r.key) refl
  where
    by : (t : Bool) → key_lt s.key r.key ≡ t → t ≡ false
    by true e = sym (le_lt_trans r.key s.key r.key (row_le r s h) e) ∙ self
      where
        self : key_lt r.key r.key ≡ false
        self = ap is_lt (tied_itself nat_list_cmp_total r.key)
    by false e = refl

-- ---- separators don't fall

unfoldable pub Follow : List ℕ → List (List ℕ) → Type 0
Follow k [] = Unit {0}
Follow k (j ∷ ks) = (key_le k j ≡ true) × Follow j ks

above_first : (s n : List ℕ) (b : List RowEntry) → 0 < length b → AllFrom s b → AllUpto n b → key_le s n ≡ true
unfolding AllFrom AllUpto
above_first s n [] some from upto = absurd (omega (arith, some))
above_first s n (r ∷ rs) some from upto = le_trans s r.key n from.0 upto.0

follow_from : (s previous : List ℕ) (b : List RowEntry) (bs : List (List RowEntry)) → key_le s (first_key b) ≡ true → AreSome (b ∷ bs) → AreInOrder (b ++ flat_map (λ x. x) bs) →
    Follow s (later_separators (last_key previous b) bs)
unfolding Follow AreSome
follow_from s previous b [] h some order = tt
follow_from s previous b (c ∷ cs) h some order = (
  above_first s (separator (last_key previous b) (first_key c)) b some.0 (from_separator s b h (order_front b (c ++ flat_map (λ x. x) cs) order)) (next_above previous b c (flat_map (λ x. x) cs) some.0 some.1.0 order),
  follow_from (separator (last_key previous b) (first_key c)) (last_key previous b) c cs (separator_le (last_key previous b) (first_key c)) some.1 (order_back b (c ++ flat_map (λ x. x) cs) order),
)

pub separators_follow : (b : List RowEntry) (bs : List (List RowEntry)) → AreSome (b ∷ bs) → AreInOrder (b ++ flat_map (λ x. x) bs) → Follow (first_key b) (later_separators (last_key [] b) bs)
separators_follow b bs some order = follow_from (first_key b) [] b bs (le_itself (first_key b)) some order
