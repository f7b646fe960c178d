-- Objects whose paths rise, searched by halves.
--     below_on, above_on      what a look at one object says of those before it, and behind it
--     at_place, nowhere      what stands at a path
--     put_over, put_between      the objects with one more
--     still_rising, none_rise      their paths rise then, and those of none
--     found_at, found_none, over, between, rises_with      the same of the calls that look for a path
use Rattle.std.proofs.Common.{◌≡◌, ℕ, zero, suc, ◌+◌, ◌<◌, ◌≤◌, Bool, true, false, ltb, List, [], ◌∷◌, length, set, get_or, slice_get, Some, None, Ok, Err, refl, sym, ap, subst, ◌∙◌, Ordering, Less, Equal, Greater, arith, ltb-true, ltb-false}
use Rattle.std.specs.Prelude.{bytes_eq}
use Rattle.std.specs.BTreeMap.{insert_entry}
use Rattle.std.specs.List.{AllByRecursion, insert}
use Rattle.std.specs.List.Sorted.{IsStrictlySortedBy}
use Rattle.std.specs.Ordering.{match_ordering, ordering_reverse}
use Rattle.std.proofs.lemmas.Cmp.{nat_list_cmp_total}
use Rattle.std.proofs.lemmas.Option.{get_or_from_slice_get}
use Rattle.slate_types.specs.Keys.{key_cmp}
use Rattle.slate_types.specs.Outside.{Objects, object_at}
use Rattle.slate_types.proofs.KeyOrder.{equal_keys, turned_key, bytes_eq_same, bytes_eq_below, bytes_eq_above}
use Rattle.slate_store.specs.Placed.{paths_in, LowerBefore, HigherFrom, IsPathPlace}
use Rattle.slate_store.specs.Store.{IsRising, with_object}

-- ---- order

below_all : (a b c : List ℕ) → key_cmp a b ≡ Less → key_cmp b c ≡ Less → key_cmp a c ≡ Less
below_all a b c h k = nat_list_cmp_total.trans a b c h k

turned : (a b : List ℕ) → key_cmp a b ≡ Less → key_cmp b a ≡ Greater
turned a b h = turned_key b a ∙ ap ordering_reverse h

turned_back : (a b : List ℕ) → key_cmp a b ≡ Greater → key_cmp b a ≡ Less
turned_back a b h = turned_key b a ∙ ap ordering_reverse h

all_get : (P : List ℕ → Type 0) (os : Objects) → AllByRecursion P (paths_in os) → (i : ℕ) (o : List ℕ × List ℕ) → slice_get os i ≡ Some o → P o.0
all_get P [] h i o is = absurd cc
all_get P (x ∷ os) h zero o is = let same : x ≡ o = cc in subst (λ (y : List ℕ × List ℕ). P y.0) same h.0
all_get P (x ∷ os) h (suc i) o is = all_get P os h.1 i o is

rising_get : (os : Objects) → IsRising (paths_in os) → (i j : ℕ) (a b : List ℕ × List ℕ) → i < j → slice_get os i ≡ Some a → slice_get os j ≡ Some b → key_cmp a.0 b.0 ≡ Less
unfolding IsStrictlySortedBy
rising_get [] rises i j a b lt x y = absurd cc
rising_get (o ∷ os) rises i zero a b lt x y = absurd (omega (arith, lt))
rising_get (o ∷ os) rises zero (suc j) a b lt x y = let same : o ≡ a = cc in subst (λ (z : List ℕ × List ℕ). key_cmp z.0 b.0 ≡ Less) same (all_get (λ k. key_cmp o.0 k ≡ Less) os rises.0 j b y)
rising_get (o ∷ os) rises (suc i) (suc j) a b lt x y = rising_get os rises.1 i j a b (omega (arith, lt)) x y

pub below_on : (os : Objects) (path : List ℕ) (middle : ℕ) (m : List ℕ × List ℕ) → IsRising (paths_in os) → slice_get os middle ≡ Some m → key_cmp m.0 path ≡ Less → LowerBefore os path (middle + 1)
below_on os path middle m rises is less = λ i o lt here. by i o lt here (ltb i middle) refl
  where
    by : (i : ℕ) (o : List ℕ × List ℕ) → i < middle + 1 → slice_get os i ≡ Some o → (t : Bool) → ltb i middle ≡ t → key_cmp o.0 path ≡ Less
    by i o lt here true e = below_all o.0 m.0 path (rising_get os rises i middle o m (ltb-true i middle e) here is) less
    by i o lt here false e =
        let last : middle ≤ i = ltb-false i middle e in
        let at : i ≡ middle = omega (arith, lt, last) in
        let same : m ≡ o = (let twice : Some m ≡ Some o = sym is ∙ ap (slice_get os) (sym at) ∙ here in cc) in
        subst (λ (z : List ℕ × List ℕ). key_cmp z.0 path ≡ Less) same less

pub above_on : (os : Objects) (path : List ℕ) (middle : ℕ) (m : List ℕ × List ℕ) → IsRising (paths_in os) → slice_get os middle ≡ Some m → key_cmp m.0 path ≡ Greater → HigherFrom os path middle
above_on os path middle m rises is greater = λ i o le here. by i o le here (ltb middle i) refl
  where
    by : (i : ℕ) (o : List ℕ × List ℕ) → middle ≤ i → slice_get os i ≡ Some o → (t : Bool) → ltb middle i ≡ t → key_cmp o.0 path ≡ Greater
    by i o le here true e = turned path o.0 (below_all path m.0 o.0 (turned_back m.0 path greater) (rising_get os rises middle i m o (ltb-true middle i e) is here))
    by i o le here false e =
        let last : i ≤ middle = ltb-false middle i e in
        let at : i ≡ middle = omega (arith, le, last) in
        let same : m ≡ o = (let twice : Some m ≡ Some o = sym is ∙ ap (slice_get os) (sym at) ∙ here in cc) in
        subst (λ (z : List ℕ × List ℕ). key_cmp z.0 path ≡ Greater) same greater

-- ---- what stands at a path

-- an object before another of a path has another path
first_below : (o : List ℕ × List ℕ) (os : Objects) (i : ℕ) (x : List ℕ × List ℕ) (path : List ℕ) → IsRising (paths_in (o ∷ os)) → slice_get os i ≡ Some x → key_cmp x.0 path ≡ Equal → key_cmp o.0 path ≡ Less
unfolding IsStrictlySortedBy
first_below o os i x path rises is same = ap (key_cmp o.0) (sym (equal_keys x.0 path same)) ∙ all_get (λ k. key_cmp o.0 k ≡ Less) os rises.0 i x is

tail_rises : (o : List ℕ × List ℕ) (os : Objects) → IsRising (paths_in (o ∷ os)) → IsRising (paths_in os)
unfolding IsStrictlySortedBy
tail_rises o os rises = rises.1

pub at_place : (os : Objects) (path : List ℕ) (at : ℕ) (x : List ℕ × List ℕ) → IsRising (paths_in os) → slice_get os at ≡ Some x → key_cmp x.0 path ≡ Equal → object_at os path ≡ Some x.1
at_place [] path at x rises is same = absurd cc
at_place (o ∷ os) path zero x rises is same =
    let one : o ≡ x = cc in
    let own : bytes_eq o.0 path ≡ true = subst (λ (k : List ℕ). bytes_eq o.0 k ≡ true) (ap (λ (z : List ℕ × List ℕ). z.0) one ∙ equal_keys x.0 path same) (bytes_eq_same o.0) in
    rw own (ap (λ (z : List ℕ × List ℕ). Some z.1) one)
at_place (o ∷ os) path (suc at) x rises is same =
    let other : bytes_eq o.0 path ≡ false = bytes_eq_below o.0 path (first_below o os at x path rises is same) in
    rw other (at_place os path at x (tail_rises o os rises) is same)

pub nowhere : (os : Objects) (path : List ℕ) (at : ℕ) → LowerBefore os path at → HigherFrom os path at → object_at os path ≡ None
nowhere [] path at below above = refl
nowhere (o ∷ os) path zero below above =
    let other : bytes_eq o.0 path ≡ false = bytes_eq_above path o.0 (turned_back o.0 path (above 0 o (omega arith) refl)) in
    rw other (nowhere os path 0 (λ i x lt is. absurd (omega (arith, lt))) (λ i x le is. above (suc i) x (omega arith) is))
nowhere (o ∷ os) path (suc at) below above =
    let other : bytes_eq o.0 path ≡ false = bytes_eq_below o.0 path (below 0 o (omega arith) refl) in
    rw other (nowhere os path at (λ i x lt is. below (suc i) x (omega (arith, lt)) is) (λ i x le is. above (suc i) x (omega (arith, le)) is))

-- ---- one more

pub put_over : (os : Objects) (path bytes : List ℕ) (at : ℕ) (x : List ℕ × List ℕ) → IsRising (paths_in os) → slice_get os at ≡ Some x → key_cmp x.0 path ≡ Equal → set os at (path, bytes) ≡ with_object os path bytes
put_over [] path bytes at x rises is same = absurd cc
put_over (o ∷ os) path bytes zero x rises is same =
    let one : o ≡ x = cc in
    let key : o.0 ≡ path = ap (λ (z : List ℕ × List ℕ). z.0) one ∙ equal_keys x.0 path same in
    let order : key_cmp path o.0 ≡ Equal = turned_key path o.0 ∙ ap ordering_reverse (subst (λ (z : List ℕ × List ℕ). key_cmp z.0 path ≡ Equal) (sym one) same) in
    rw order (ap (λ (k : List ℕ). (k, bytes) ∷ os) (sym key))
put_over (o ∷ os) path bytes (suc at) x rises is same =
    let order : key_cmp path o.0 ≡ Greater = turned o.0 path (first_below o os at x path rises is same) in
    rw order (ap (λ (l : Objects). o ∷ l) (put_over os path bytes at x (tail_rises o os rises) is same))

pub put_between : (os : Objects) (path bytes : List ℕ) (at : ℕ) → at ≤ length os → LowerBefore os path at → HigherFrom os path at → insert os at (path, bytes) ≡ with_object os path bytes
put_between [] path bytes zero within below above = refl
put_between [] path bytes (suc at) within below above = absurd (omega (arith, within))
put_between (o ∷ os) path bytes zero within below above =
    let order : key_cmp path o.0 ≡ Less = turned_back o.0 path (above 0 o (omega arith) refl) in
    rw order refl
put_between (o ∷ os) path bytes (suc at) within below above =
    let order : key_cmp path o.0 ≡ Greater = turned o.0 path (below 0 o (omega arith) refl) in
    rw order (ap (λ (l : Objects). o ∷ l) (put_between os path bytes at (omega (arith, within)) (λ i x lt is. below (suc i) x (omega (arith, lt)) is) (λ i x le is. above (suc i) x (omega (arith, le)) is)))

all_with : (P : List ℕ → Type 0) (os : Objects) (path bytes : List ℕ) → P path → AllByRecursion P (paths_in os) → AllByRecursion P (paths_in (with_object os path bytes))
all_with P [] path bytes p h = (p, tt)
all_with P (o ∷ os) path bytes p h = by (key_cmp path o.0) (all_with P os path bytes p h.1)
  where
    by : (r : Ordering) → AllByRecursion P (paths_in (with_object os path bytes)) → AllByRecursion P (paths_in (match_ordering r ((path, bytes) ∷ o ∷ os) ((o.0, bytes) ∷ os) (o ∷ insert_entry key_cmp os path bytes)))
    by Less later = (p, h)
    by Equal later = h
    by Greater later = (h.0, later)

all_further : (a b : List ℕ) → key_cmp a b ≡ Less → (os : Objects) → AllByRecursion (λ k. key_cmp b k ≡ Less) (paths_in os) → AllByRecursion (λ k. key_cmp a k ≡ Less) (paths_in os)
all_further a b less [] h = tt
all_further a b less (o ∷ os) h = (below_all a b o.0 less h.0, all_further a b less os h.1)

pub still_rising : (os : Objects) (path bytes : List ℕ) → IsRising (paths_in os) → IsRising (paths_in (with_object os path bytes))
unfolding IsStrictlySortedBy
still_rising [] path bytes rises = (tt, tt)
still_rising (o ∷ os) path bytes rises = by (key_cmp path o.0) refl (still_rising os path bytes rises.1)
  where
    by : (r : Ordering) → key_cmp path o.0 ≡ r → IsRising (paths_in (with_object os path bytes)) → IsRising (paths_in (match_ordering r ((path, bytes) ∷ o ∷ os) ((o.0, bytes) ∷ os) (o ∷ insert_entry key_cmp os path bytes)))
    by Less e later = ((e, all_further path o.0 e os rises.0), rises)
    by Equal e later = rises
    by Greater e later = (all_with (λ k. key_cmp o.0 k ≡ Less) os path bytes (turned_back path o.0 e) rises.0, later)

pub none_rise : (os : Objects) → os ≡ [] → IsRising (paths_in os)
unfolding IsStrictlySortedBy
none_rise os none = subst (λ (l : Objects). IsRising (paths_in l)) (sym none) tt

-- ---- the calls

pub found_at : (os now listed : Objects) (path : List ℕ) (at : ℕ) (x : List ℕ × List ℕ) → IsRising (paths_in os) → os ≡ now → listed ≡ os → IsPathPlace listed path (Ok at) → x ≡ get_or os at x → Some x.1 ≡ object_at now path
found_at os now listed path at x rises view is p one =
    let q = subst (λ (l : Objects). IsPathPlace l path (Ok at)) is p in
    let same : x ≡ q.0 = one ∙ get_or_from_slice_get os at q.0 x q.1 in
    ap (λ (o : List ℕ × List ℕ). Some o.1) same ∙ sym (at_place os path at q.0 rises q.1 q.2) ∙ ap (λ (l : Objects). object_at l path) view

pub found_none : (os now listed : Objects) (path : List ℕ) (at : ℕ) → os ≡ now → listed ≡ os → IsPathPlace listed path (Err at) → None ≡ object_at now path
found_none os now listed path at view is p =
    let q = subst (λ (l : Objects). IsPathPlace l path (Err at)) is p in
    sym (nowhere os path at q.1 q.2) ∙ ap (λ (l : Objects). object_at l path) view

pub over : (os listed : Objects) (path text bytes : List ℕ) (at : ℕ) (dest : List ℕ × List ℕ) → IsRising (paths_in os) → listed ≡ os → text ≡ path → IsPathPlace listed text (Ok at) → dest ≡ (path, bytes) → set os at dest ≡ with_object os path bytes
over os listed path text bytes at dest rises is same p after =
    let q = subst (λ (k : List ℕ). IsPathPlace os k (Ok at)) same (subst (λ (l : Objects). IsPathPlace l text (Ok at)) is p) in
    ap (set os at) after ∙ put_over os path bytes at q.0 rises q.1 q.2

pub between : (os listed : Objects) (path text bytes : List ℕ) (at : ℕ) → listed ≡ os → text ≡ path → IsPathPlace listed text (Err at) → insert os at (path, bytes) ≡ with_object os path bytes
between os listed path text bytes at is same p =
    let q = subst (λ (k : List ℕ). IsPathPlace os k (Err at)) same (subst (λ (l : Objects). IsPathPlace l text (Err at)) is p) in
    put_between os path bytes at q.0 q.1 q.2

pub rises_with : (os new : Objects) (path bytes : List ℕ) → IsRising (paths_in os) → new ≡ with_object os path bytes → IsRising (paths_in new)
rises_with os new path bytes rises is = subst (λ (l : Objects). IsRising (paths_in l)) (sym is) (still_rising os path bytes rises)
