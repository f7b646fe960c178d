-- What halves find among rows that rise, and what puts do to rows in slots.
use Rattle.std.proofs.Common.{◌≡◌, ℕ, zero, suc, ◌+◌, ◌-◌, ◌^◌, ◌<◌, ◌≤◌, max, Bool, true, false, cond, not, ◌==◌, List, [], ◌∷◌, ◌++◌, append_assoc, append-nil, filter, length, take, drop, set, get_or, slice_get, Option, Some, None, refl, sym, ap, subst, ◌∙◌, arith, Ordering, Less, Equal, Greater}
use Rattle.std.specs.List.{AllByRecursion, insert, list_all}
use Rattle.std.proofs.lemmas.List.Elements.{filter-append}
use Rattle.std.proofs.lemmas.List.{drop_all}
use Rattle.std.specs.Ordering.{is_eq, is_lt, is_gt, match_ordering, ordering_reverse}
use Rattle.std.proofs.lemmas.Bool.Decides.{nat_tests}
use Rattle.slate_types.specs.declared.types.RowEntry.{RowEntry}
use Rattle.slate_types.specs.declared.sequenced_key.SequencedKey.{SequencedKey}
use Rattle.slate_types.specs.Fold.{greatest_seq}
use Rattle.slate_types.specs.Rows.{sequenced, sequenced_cmp}
use Rattle.slate_types.proofs.Plain.{both_true}
use Rattle.slate_types.proofs.RowLaws.{sequenced_total, sequenced_same}
use Rattle.slate_mem.specs.declared.slots.Slot.{Slot}
use Rattle.slate_mem.specs.Slots.{AreBefore, AreBehind, NoneAbove, RowsRise, HasTaken, IsFilled, IsFirst, IsGapFor, IsPlaceIn, IsPutUpTo, IsSameSlot, IsSlotFor, IsSlots, IsWhole, NoneLater, WithPut, WithSomePut, all_slot_rows, is_gone, is_standing, joined, kept_from, rows_in, standing, slot_rows}
use Rattle.slate_mem.specs.Table.{put_row, put_rows}

-- ---- the order of places

turned : (a b : SequencedKey) → sequenced_cmp a b ≡ Less → sequenced_cmp b a ≡ Greater
turned a b h = sequenced_total.antisymm b a ∙ ap ordering_reverse h

turned_back : (a b : SequencedKey) → sequenced_cmp a b ≡ Greater → sequenced_cmp b a ≡ Less
turned_back a b h = sequenced_total.antisymm b a ∙ ap ordering_reverse h

pub is_greater : (o : Ordering) → is_gt o ≡ true → o ≡ Greater
is_greater Less h = cc
is_greater Equal h = cc
is_greater Greater h = refl

pub is_less : (o : Ordering) → is_lt o ≡ true → o ≡ Less
is_less Less h = refl
is_less Equal h = cc
is_less Greater h = cc

-- a place above a row that stands behind another is above that one
above_both : (k r x : SequencedKey) → sequenced_cmp r x ≡ Less → sequenced_cmp k x ≡ Greater → sequenced_cmp k r ≡ Greater
above_both k r x less greater = turned r k (sequenced_total.trans r x k less (turned_back k x greater))

-- and one that isn't above a row isn't above those behind it
not_above : (k r x : SequencedKey) → sequenced_cmp r x ≡ Less → is_gt (sequenced_cmp k r) ≡ false → is_gt (sequenced_cmp k x) ≡ false
not_above k r x less isnt = by (sequenced_cmp k x) refl
  where
    by : (o : Ordering) → sequenced_cmp k x ≡ o → is_gt o ≡ false
    by Less e = refl
    by Equal e = refl
    by Greater e = sym (ap is_gt (above_both k r x less e)) ∙ isnt

-- a place that isn't before a row is above those in front of it
above_front : (k x f : SequencedKey) → sequenced_cmp x f ≡ Less → is_lt (sequenced_cmp k f) ≡ false → sequenced_cmp k x ≡ Greater
above_front k x f less isnt = by (sequenced_cmp k f) refl
  where
    by : (o : Ordering) → sequenced_cmp k f ≡ o → sequenced_cmp k x ≡ Greater
    by Less e = let clash : true ≡ false = sym (ap is_lt e) ∙ isnt in cc
    by Equal e = turned x k (subst (λ j. sequenced_cmp x j ≡ Less) (sym (sequenced_same k f e)) less)
    by Greater e = above_both k x f less e

-- ---- one more in front

pub drop_past : {X : Type 0} (x : X) (xs : List X) (n : ℕ) → drop (suc n + 1) (x ∷ xs) ≡ drop (n + 1) xs
drop_past x xs n = let next : suc n + 1 ≡ suc (n + 1) = omega arith in ap (λ m. drop m (x ∷ xs)) next

pub take_past : {X : Type 0} (x : X) (xs : List X) (n : ℕ) → take (suc n + 1) (x ∷ xs) ≡ x ∷ take (n + 1) xs
take_past x xs n = let next : suc n + 1 ≡ suc (n + 1) = omega arith in ap (λ m. take m (x ∷ xs)) next

-- ---- rows by their index

pub all_at : {X : Type 0} (P : X → Type 0) (xs : List X) → AllByRecursion P xs → (i : ℕ) (d : X) → i < length xs → P (get_or xs i d)
all_at P [] h i d lt = absurd (omega (arith, lt))
all_at P (x ∷ xs) h zero d lt = h.0
all_at P (x ∷ xs) h (suc i) d lt = all_at P xs h.1 i d (omega (arith, lt))

pub is_there : {X : Type 0} (xs : List X) (i : ℕ) (d : X) → i < length xs → get_or xs i d ≡ get_or xs i (get_or xs i d)
is_there [] i d lt = absurd (omega (arith, lt))
is_there (x ∷ xs) zero d lt = refl
is_there (x ∷ xs) (suc i) d lt = is_there xs i d (omega (arith, lt))

pub all_each : {X : Type 0} (P Q : X → Type 0) → ((x : X) → P x → Q x) → (xs : List X) → AllByRecursion P xs → AllByRecursion Q xs
all_each P Q f [] h = tt
all_each P Q f (x ∷ xs) h = (f x h.0, all_each P Q f xs h.1)

pub before_to : (k : SequencedKey) (rows : List RowEntry) (m : ℕ) (d : RowEntry) → RowsRise rows → m < length rows → is_gt (sequenced_cmp k (sequenced (get_or rows m d))) ≡ true → AreBefore k (take (m + 1) rows)
before_to k [] m d rises lt above = absurd (omega (arith, lt))
before_to k (r ∷ rs) zero d rises lt above = (is_greater (sequenced_cmp k (sequenced r)) above, tt)
before_to k (r ∷ rs) (suc m) d rises lt above =
    let within : m < length rs = omega (arith, lt) in
    let less = all_at (λ x. sequenced_cmp (sequenced r) (sequenced x) ≡ Less) rs rises.0 m d within in
    rw (take_past r rs m) (above_both k (sequenced r) (sequenced (get_or rs m d)) less (is_greater (sequenced_cmp k (sequenced (get_or rs m d))) above), before_to k rs m d rises.1 within above)

pub behind_from : (k : SequencedKey) (rows : List RowEntry) (m : ℕ) (d : RowEntry) → RowsRise rows → m < length rows → is_gt (sequenced_cmp k (sequenced (get_or rows m d))) ≡ false → NoneAbove k (drop m rows)
behind_from k [] m d rises lt isnt = absurd (omega (arith, lt))
behind_from k (r ∷ rs) zero d rises lt isnt = (isnt, all_each (λ x. sequenced_cmp (sequenced r) (sequenced x) ≡ Less) (λ x. is_gt (sequenced_cmp k (sequenced x)) ≡ false) (λ x less. not_above k (sequenced r) (sequenced x) less isnt) rs rises.0)
behind_from k (r ∷ rs) (suc m) d rises lt isnt = behind_from k rs m d rises.1 (omega (arith, lt)) isnt

pub before_upto : (k : SequencedKey) (rows : List RowEntry) (m : ℕ) (row : RowEntry) → RowsRise rows → m < length rows → row ≡ get_or rows m row → is_gt (sequenced_cmp k (sequenced row)) ≡ true → AreBefore k (take (m + 1) rows)
before_upto k rows m row rises lt is above = before_to k rows m row rises lt (ap (λ r. is_gt (sequenced_cmp k (sequenced r))) (sym is) ∙ above)

pub behind_on : (k : SequencedKey) (rows : List RowEntry) (m : ℕ) (row : RowEntry) → RowsRise rows → m < length rows → row ≡ get_or rows m row → is_gt (sequenced_cmp k (sequenced row)) ≡ false → NoneAbove k (drop m rows)
behind_on k rows m row rises lt is isnt = behind_from k rows m row rises lt (ap (λ r. is_gt (sequenced_cmp k (sequenced r))) (sym is) ∙ isnt)

pub none_left : (k : SequencedKey) (rows : List RowEntry) (n : ℕ) → n ≡ length rows → NoneAbove k (drop n rows)
none_left k rows n is = subst (NoneAbove k) (sym (drop_all n rows (omega (arith, is)))) tt

-- ---- a put at its place

same_place : (o : Ordering) → is_eq o ≡ true → o ≡ Equal
same_place Less h = cc
same_place Equal h = refl
same_place Greater h = cc

not_more : (o : Ordering) → is_gt o ≡ false → is_eq o ≡ false → o ≡ Less
not_more Less isnt other = refl
not_more Equal isnt other = cc
not_more Greater isnt other = cc

-- a row stands there, so that the place is one of a row
pub stands_within : (k : SequencedKey) (rows : List RowEntry) (at : ℕ) → is_standing k (slice_get rows at) ≡ true → at < length rows
stands_within k [] at is = absurd cc
stands_within k (r ∷ rs) zero is = omega arith
stands_within k (r ∷ rs) (suc at) is = omega (arith, stands_within k rs at is)

pub put_over : (rows : List RowEntry) (row : RowEntry) (at : ℕ) → AreBefore (sequenced row) (take at rows) → is_standing (sequenced row) (slice_get rows at) ≡ true → set rows at row ≡ put_row rows row
put_over [] row at before same = cc
put_over (r ∷ rs) row zero before same = rw (same_place (sequenced_cmp (sequenced row) (sequenced r)) same) refl
put_over (r ∷ rs) row (suc at) before same = rw before.0 (ap (λ ys. r ∷ ys) (put_over rs row at before.1 same))

pub put_between : (rows : List RowEntry) (row : RowEntry) (at : ℕ) → IsPlaceIn (sequenced row) rows at → is_standing (sequenced row) (slice_get rows at) ≡ false → insert rows at row ≡ put_row rows row
put_between rows row at place other = by rows at place.within place.before place.behind other
  where
    by : (rows : List RowEntry) (at : ℕ) → at ≤ length rows → AreBefore (sequenced row) (take at rows) → NoneAbove (sequenced row) (drop at rows) → is_standing (sequenced row) (slice_get rows at) ≡ false → insert rows at row ≡ put_row rows row
    by [] zero le before behind other = refl
    by [] (suc at) le before behind other = absurd (omega (arith, le))
    by (r ∷ rs) zero le before behind other = rw (not_more (sequenced_cmp (sequenced row) (sequenced r)) behind.0 other) refl
    by (r ∷ rs) (suc at) le before behind other = rw before.0 (ap (λ ys. r ∷ ys) (by rs at (omega (arith, le)) before.1 behind other))

pub length_set : {X : Type 0} (xs : List X) (i : ℕ) (x : X) → length (set xs i x) ≡ length xs
length_set [] i x = refl
length_set (y ∷ ys) zero x = refl
length_set (y ∷ ys) (suc i) x = ap suc (length_set ys i x)

put_few_step : (row r : RowEntry) (rs : List RowEntry) (o : Ordering) → length (put_row rs row) ≤ length rs + 1 → length (match_ordering o (row ∷ r ∷ rs) (row ∷ rs) (r ∷ put_row rs row)) ≤ length (r ∷ rs) + 1
put_few_step row r rs Less h = omega arith
put_few_step row r rs Equal h = omega arith
put_few_step row r rs Greater h = omega (arith, h)

pub put_few : (rows : List RowEntry) (row : RowEntry) → length (put_row rows row) ≤ length rows + 1
put_few [] row = omega arith
put_few (r ∷ rs) row = put_few_step row r rs (sequenced_cmp (sequenced row) (sequenced r)) (put_few rs row)

-- ---- rows that rise still do

pub all_append : {X : Type 0} (P : X → Type 0) (xs ys : List X) → AllByRecursion P xs → AllByRecursion P ys → AllByRecursion P (xs ++ ys)
all_append P [] ys h g = g
all_append P (x ∷ xs) ys h g = (h.0, all_append P xs ys h.1 g)

pub all_front : {X : Type 0} (P : X → Type 0) (xs ys : List X) → AllByRecursion P (xs ++ ys) → AllByRecursion P xs
all_front P [] ys h = tt
all_front P (x ∷ xs) ys h = (h.0, all_front P xs ys h.1)

pub all_rest : {X : Type 0} (P : X → Type 0) (xs ys : List X) → AllByRecursion P (xs ++ ys) → AllByRecursion P ys
all_rest P [] ys h = h
all_rest P (x ∷ xs) ys h = all_rest P xs ys h.1

pub rest_rises : (xs ys : List RowEntry) → RowsRise (xs ++ ys) → RowsRise ys
rest_rises [] ys h = h
rest_rises (x ∷ xs) ys h = rest_rises xs ys h.1

pub front_rises : (xs ys : List RowEntry) → RowsRise (xs ++ ys) → RowsRise xs
front_rises [] ys h = tt
front_rises (x ∷ xs) ys h = (all_front (λ r. sequenced_cmp (sequenced x) (sequenced r) ≡ Less) xs ys h.0, front_rises xs ys h.1)

pub all_put : (P : RowEntry → Type 0) (row : RowEntry) (rows : List RowEntry) → P row → AllByRecursion P rows → AllByRecursion P (put_row rows row)
all_put P row [] p h = (p, tt)
all_put P row (r ∷ rs) p h = by (sequenced_cmp (sequenced row) (sequenced r)) (all_put P row rs p h.1)
  where
    by : (o : Ordering) → AllByRecursion P (put_row rs row) → AllByRecursion P (match_ordering o (row ∷ r ∷ rs) (row ∷ rs) (r ∷ put_row rs row))
    by Less later = (p, h)
    by Equal later = (p, h.1)
    by Greater later = (h.0, later)

pub put_rises : (row : RowEntry) (rows : List RowEntry) → RowsRise rows → RowsRise (put_row rows row)
put_rises row [] h = (tt, tt)
put_rises row (r ∷ rs) h = by (sequenced_cmp (sequenced row) (sequenced r)) refl (put_rises row rs h.1)
  where
    by : (o : Ordering) → sequenced_cmp (sequenced row) (sequenced r) ≡ o → RowsRise (put_row rs row) → RowsRise (match_ordering o (row ∷ r ∷ rs) (row ∷ rs) (r ∷ put_row rs row))
    by Less e later =
        ((e, all_each (λ x. sequenced_cmp (sequenced r) (sequenced x) ≡ Less) (λ x. sequenced_cmp (sequenced row) (sequenced x) ≡ Less) (λ x less. sequenced_total.trans (sequenced row) (sequenced r) (sequenced x) e less) rs h.0), h)
    by Equal e later =
        (all_each (λ x. sequenced_cmp (sequenced r) (sequenced x) ≡ Less) (λ x. sequenced_cmp (sequenced row) (sequenced x) ≡ Less) (λ x less. sequenced_total.congr (sequenced row) (sequenced r) (sequenced x) e ∙ less) rs h.0, h.1)
    by Greater e later =
        (all_put (λ x. sequenced_cmp (sequenced r) (sequenced x) ≡ Less) row rs (turned_back (sequenced row) (sequenced r) e) h.0, later)

-- ---- a put among rows in three parts

pub put_after : (before rows : List RowEntry) (row : RowEntry) → AreBefore (sequenced row) before → put_row (before ++ rows) row ≡ before ++ put_row rows row
put_after [] rows row h = refl
put_after (b ∷ bs) rows row h = rw h.0 (ap (λ ys. b ∷ ys) (put_after bs rows row h.1))

put_first : (row : RowEntry) (behind : List RowEntry) → AreBehind (sequenced row) behind → put_row behind row ≡ row ∷ behind
put_first row [] h = refl
put_first row (r ∷ rs) h = rw h.0 refl

pub put_before : (here behind : List RowEntry) (row : RowEntry) → AreBehind (sequenced row) behind → put_row (here ++ behind) row ≡ put_row here row ++ behind
put_before [] behind row h = put_first row behind h
put_before (r ∷ rs) behind row h = by (sequenced_cmp (sequenced row) (sequenced r)) (put_before rs behind row h)
  where
    by : (o : Ordering) → put_row (rs ++ behind) row ≡ put_row rs row ++ behind →
        match_ordering o (row ∷ r ∷ (rs ++ behind)) (row ∷ (rs ++ behind)) (r ∷ put_row (rs ++ behind) row) ≡ match_ordering o (row ∷ r ∷ rs) (row ∷ rs) (r ∷ put_row rs row) ++ behind
    by Less later = refl
    by Equal later = refl
    by Greater later = ap (λ ys. r ∷ ys) later

-- ---- slots by halves

pub in_slot : (P : RowEntry → Type 0) (ss : List Slot) (m : ℕ) (d : Slot) → AllByRecursion P (all_slot_rows ss) → m < length ss → AllByRecursion P (slot_rows (get_or ss m d))
in_slot P [] m d h lt = absurd (omega (arith, lt))
in_slot P (s ∷ ss) zero d h lt = all_front P (slot_rows s) (all_slot_rows ss) h
in_slot P (s ∷ ss) (suc m) d h lt = in_slot P ss m d (all_rest P (slot_rows s) (all_slot_rows ss) h) (omega (arith, lt))

tail_slots : (s : Slot) (ss : List Slot) → IsSlots (s ∷ ss) → IsSlots ss
tail_slots s ss w = record { filled = w.filled.1; rises = rest_rises (slot_rows s) (all_slot_rows ss) w.rises }

behind_first : (k : SequencedKey) (rows more : List RowEntry) → 0 < length rows → RowsRise (rows ++ more) → IsFirst rows (λ r. is_lt (sequenced_cmp k (sequenced r)) ≡ true) → AreBehind k (rows ++ more)
behind_first k [] more some rises first = absurd (omega (arith, some))
behind_first k (r ∷ rs) more some rises first =
    let less = is_less (sequenced_cmp k (sequenced r)) first in
    (less, all_each (λ x. sequenced_cmp (sequenced r) (sequenced x) ≡ Less) (λ x. sequenced_cmp k (sequenced x) ≡ Less) (λ x later. sequenced_total.trans k (sequenced r) (sequenced x) less later) (rs ++ more) rises.0)

pub behind_slots : (k : SequencedKey) (ss : List Slot) (m : ℕ) (d : Slot) → IsSlots ss → m < length ss → IsFirst (slot_rows (get_or ss m d)) (λ r. is_lt (sequenced_cmp k (sequenced r)) ≡ true) → AreBehind k (all_slot_rows (drop m ss))
behind_slots k [] m d w lt first = absurd (omega (arith, lt))
behind_slots k (s ∷ ss) zero d w lt first = behind_first k (slot_rows s) (all_slot_rows ss) w.filled.0.some w.rises first
behind_slots k (s ∷ ss) (suc m) d w lt first = behind_slots k ss m d (tail_slots s ss w) (omega (arith, lt)) first

-- rows in front of one that a place isn't before
before_first : (k : SequencedKey) (rows more : List RowEntry) (here : List RowEntry) → 0 < length here → RowsRise (rows ++ more) →
    ((P : RowEntry → Type 0) → AllByRecursion P more → AllByRecursion P here) → IsFirst here (λ r. is_lt (sequenced_cmp k (sequenced r)) ≡ false) → AreBefore k rows
before_first k [] more here some rises within first = tt
before_first k (r ∷ rs) more [] some rises within first = absurd (omega (arith, some))
before_first k (r ∷ rs) more (f ∷ fs) some rises within first =
    let less = within (λ x. sequenced_cmp (sequenced r) (sequenced x) ≡ Less) (all_rest (λ x. sequenced_cmp (sequenced r) (sequenced x) ≡ Less) rs more rises.0) in
    (above_front k (sequenced r) (sequenced f) less.0 first, before_first k rs more (f ∷ fs) some rises.1 within first)

pub before_slots : (k : SequencedKey) (ss : List Slot) (m : ℕ) (d : Slot) → IsSlots ss → m < length ss → IsFirst (slot_rows (get_or ss m d)) (λ r. is_lt (sequenced_cmp k (sequenced r)) ≡ false) → AreBefore k (all_slot_rows (take m ss))
before_slots k [] m d w lt first = absurd (omega (arith, lt))
before_slots k (s ∷ ss) zero d w lt first = tt
before_slots k (s ∷ ss) (suc m) d w lt first =
    let within : m < length ss = omega (arith, lt) in
    let filled = all_at IsFilled ss w.filled.1 m d within in
    all_append (λ r. sequenced_cmp k (sequenced r) ≡ Greater) (slot_rows s) (all_slot_rows (take m ss))
    (before_first k (slot_rows s) (all_slot_rows ss) (slot_rows (get_or ss m d)) filled.some w.rises (λ P h. in_slot P ss m d h within) first)
    (before_slots k ss m d (tail_slots s ss w) within first)

pub filled_at : (ss : List Slot) (m : ℕ) (s : Slot) → IsSlots ss → m < length ss → s ≡ get_or ss m s → IsFilled s
filled_at ss m s w lt is = subst IsFilled (sym is) (all_at IsFilled ss w.filled m s lt)

slot_rises : (ss : List Slot) (m : ℕ) (d : Slot) → RowsRise (all_slot_rows ss) → m < length ss → RowsRise (slot_rows (get_or ss m d))
slot_rises [] m d h lt = absurd (omega (arith, lt))
slot_rises (s ∷ ss) zero d h lt = front_rises (slot_rows s) (all_slot_rows ss) h
slot_rises (s ∷ ss) (suc m) d h lt = slot_rises ss m d (rest_rises (slot_rows s) (all_slot_rows ss) h) (omega (arith, lt))

pub rises_at : (ss : List Slot) (m : ℕ) (s : Slot) → IsSlots ss → m < length ss → s ≡ get_or ss m s → RowsRise (slot_rows s)
rises_at ss m s w lt is = subst (λ t. RowsRise (slot_rows t)) (sym is) (slot_rises ss m s w.rises lt)

pub behind_upto : (k : SequencedKey) (ss : List Slot) (m : ℕ) (s : Slot) (b : Bool) → IsSlots ss → m < length ss → s ≡ get_or ss m s → IsFirst (slot_rows s) (λ r. is_lt (sequenced_cmp k (sequenced r)) ≡ b) → b ≡ true → AreBehind k (all_slot_rows (drop m ss))
behind_upto k ss m s b w lt is first does =
    behind_slots k ss m s w lt
    (subst (λ t. IsFirst (slot_rows t) (λ r. is_lt (sequenced_cmp k (sequenced r)) ≡ true)) is (subst (λ a. IsFirst (slot_rows s) (λ r. is_lt (sequenced_cmp k (sequenced r)) ≡ a)) does first))

pub before_on : (k : SequencedKey) (ss : List Slot) (m n : ℕ) (s : Slot) (b : Bool) → IsSlots ss → m < length ss → s ≡ get_or ss m s → IsFirst (slot_rows s) (λ r. is_lt (sequenced_cmp k (sequenced r)) ≡ b) → b ≡ false → m ≡ n → AreBefore k (all_slot_rows (take n ss))
before_on k ss m n s b w lt is first isnt same =
    subst (λ i. AreBefore k (all_slot_rows (take i ss))) same
    (before_slots k ss m s w lt
    (subst (λ t. IsFirst (slot_rows t) (λ r. is_lt (sequenced_cmp k (sequenced r)) ≡ false)) is (subst (λ a. IsFirst (slot_rows s) (λ r. is_lt (sequenced_cmp k (sequenced r)) ≡ a)) isnt first)))

pub none_behind : (k : SequencedKey) (ss : List Slot) (n : ℕ) → n ≡ length ss → AreBehind k (all_slot_rows (drop n ss))
none_behind k ss n is = subst (λ ts. AreBehind k (all_slot_rows ts)) (sym (drop_all n ss (omega (arith, is)))) tt

less_behind : (k : SequencedKey) (ss : List Slot) → AreBehind k (all_slot_rows ss) → AreBehind k (all_slot_rows (drop 1 ss))
less_behind k [] h = tt
less_behind k (s ∷ ss) h = all_rest (λ r. sequenced_cmp k (sequenced r) ≡ Less) (slot_rows s) (all_slot_rows ss) h

-- behind the last slot in front of an index
pub behind_last : (k : SequencedKey) (ss : List Slot) (low i : ℕ) → i ≡ low - 1 → AreBehind k (all_slot_rows (drop low ss)) → AreBehind k (all_slot_rows (drop (i + 1) ss))
behind_last k ss zero i is h = let next : 1 ≡ i + 1 = omega (arith, is) in subst (λ n. AreBehind k (all_slot_rows (drop n ss))) next (less_behind k ss h)
behind_last k ss (suc n) i is h = let next : suc n ≡ i + 1 = omega (arith, is) in subst (λ m. AreBehind k (all_slot_rows (drop m ss))) next h

-- ---- a slot in place of another

pub joined_at : (f : Slot → List RowEntry) (ss : List Slot) (at : ℕ) (s : Slot) → at < length ss → s ≡ get_or ss at s → joined f ss ≡ joined f (take at ss) ++ (f s ++ joined f (drop (at + 1) ss))
joined_at f [] at s lt is = absurd (omega (arith, lt))
joined_at f (t ∷ ss) zero s lt is = ap (λ x. f x ++ joined f ss) (sym is)
joined_at f (t ∷ ss) (suc at) s lt is = rw (drop_past t ss at) (ap (λ rs. f t ++ rs) (joined_at f ss at s (omega (arith, lt)) is) ∙ sym (append_assoc (f t) (joined f (take at ss)) (f s ++ joined f (drop (at + 1) ss))))

pub joined_set : (f : Slot → List RowEntry) (ss : List Slot) (at : ℕ) (s : Slot) → at < length ss → joined f (set ss at s) ≡ joined f (take at ss) ++ (f s ++ joined f (drop (at + 1) ss))
joined_set f [] at s lt = absurd (omega (arith, lt))
joined_set f (t ∷ ss) zero s lt = refl
joined_set f (t ∷ ss) (suc at) s lt = rw (drop_past t ss at) (ap (λ rs. f t ++ rs) (joined_set f ss at s (omega (arith, lt))) ∙ sym (append_assoc (f t) (joined f (take at ss)) (f s ++ joined f (drop (at + 1) ss))))

pub joined_insert : (f : Slot → List RowEntry) (ss : List Slot) (at : ℕ) (s : Slot) → at ≤ length ss → joined f (insert ss at s) ≡ joined f (take at ss) ++ (f s ++ joined f (drop at ss))
joined_insert f ss zero s le = refl
joined_insert f [] (suc at) s le = absurd (omega (arith, le))
joined_insert f (t ∷ ss) (suc at) s le = ap (λ rs. f t ++ rs) (joined_insert f ss at s (omega (arith, le))) ∙ sym (append_assoc (f t) (joined f (take at ss)) (f s ++ joined f (drop at ss)))

-- a put in one part of three
put_in_parts : (before here new behind : List RowEntry) (row : RowEntry) → AreBefore (sequenced row) before → AreBehind (sequenced row) behind → new ≡ put_row here row → before ++ (new ++ behind) ≡ put_row (before ++ (here ++ behind)) row
put_in_parts before here new behind row b h is =
    ap (λ rs. before ++ (rs ++ behind)) is ∙ ap (λ rs. before ++ rs) (sym (put_before here behind row h)) ∙ sym (put_after before (here ++ behind) row b)

pub put_joined : (f : Slot → List RowEntry) (ss : List Slot) (at : ℕ) (s new : Slot) (row : RowEntry) → at < length ss → s ≡ get_or ss at s → AreBefore (sequenced row) (joined f (take at ss)) → AreBehind (sequenced row) (joined f (drop (at + 1) ss)) →
    f new ≡ put_row (f s) row → joined f (set ss at new) ≡ put_row (joined f ss) row
put_joined f ss at s new row lt is b h put =
    joined_set f ss at new lt ∙ put_in_parts (joined f (take at ss)) (f s) (f new) (joined f (drop (at + 1) ss)) row b h put ∙ ap (λ rs. put_row rs row) (sym (joined_at f ss at s lt is))

-- ---- rows that count are rows

pub kept_all : (P : RowEntry → Type 0) (marks : Option (List Bool)) (i : ℕ) (rows : List RowEntry) → AllByRecursion P rows → AllByRecursion P (kept_from marks i rows)
kept_all P marks i [] h = tt
kept_all P marks i (r ∷ rs) h = by (is_gone marks i) (kept_all P marks (i + 1) rs h.1)
  where
    by : (b : Bool) → AllByRecursion P (kept_from marks (i + 1) rs) → AllByRecursion P (cond b (kept_from marks (i + 1) rs) (r ∷ kept_from marks (i + 1) rs))
    by true later = later
    by false later = (h.0, later)

pub standing_all : (P : RowEntry → Type 0) (ss : List Slot) → AllByRecursion P (all_slot_rows ss) → AllByRecursion P (standing ss)
standing_all P [] h = tt
standing_all P (s ∷ ss) h = all_append P (rows_in s) (standing ss) (kept_all P s.gone 0 (slot_rows s) (all_front P (slot_rows s) (all_slot_rows ss) h)) (standing_all P ss (all_rest P (slot_rows s) (all_slot_rows ss) h))

kept_rises : (marks : Option (List Bool)) (i : ℕ) (rows : List RowEntry) → RowsRise rows → RowsRise (kept_from marks i rows)
kept_rises marks i [] h = tt
kept_rises marks i (r ∷ rs) h = by (is_gone marks i) (kept_rises marks (i + 1) rs h.1)
  where
    by : (b : Bool) → RowsRise (kept_from marks (i + 1) rs) → RowsRise (cond b (kept_from marks (i + 1) rs) (r ∷ kept_from marks (i + 1) rs))
    by true later = later
    by false later = (kept_all (λ x. sequenced_cmp (sequenced r) (sequenced x) ≡ Less) marks (i + 1) rs h.0, later)

pub rows_rise : (s : Slot) → RowsRise (slot_rows s) → RowsRise (rows_in s)
rows_rise s h = kept_rises s.gone 0 (slot_rows s) h

-- where no row is marked, all count
none_gone : (i : ℕ) (rows : List RowEntry) → kept_from None i rows ≡ rows
none_gone i [] = refl
none_gone i (r ∷ rs) = ap (λ ys. r ∷ ys) (none_gone (i + 1) rs)

pub whole_rows : (s : Slot) → s.gone ≡ None → rows_in s ≡ slot_rows s
whole_rows s none = ap (λ m. kept_from m 0 (slot_rows s)) none ∙ none_gone 0 (slot_rows s)

-- ---- slots behind a put

pub slot_place : (k : SequencedKey) (ss : List Slot) (at : ℕ) → IsSlotFor k ss at → AreBefore k (standing (take at ss)) × AreBehind k (standing (drop (at + 1) ss))
slot_place k ss at place = (standing_all (λ r. sequenced_cmp k (sequenced r) ≡ Greater) (take at ss) place.before, standing_all (λ r. sequenced_cmp k (sequenced r) ≡ Less) (drop (at + 1) ss) place.behind)

filled_set : (ss : List Slot) (at : ℕ) (s : Slot) → IsFilled s → AllByRecursion IsFilled ss → AllByRecursion IsFilled (set ss at s)
filled_set [] at s f h = tt
filled_set (t ∷ ss) zero s f h = (f, h.1)
filled_set (t ∷ ss) (suc at) s f h = (h.0, filled_set ss at s f h.1)

pub slots_put : (ss : List Slot) (at : ℕ) (s new : Slot) (row : RowEntry) → IsSlots ss → at < length ss → s ≡ get_or ss at s → IsSlotFor (sequenced row) ss at → IsFilled new → slot_rows new ≡ put_row (slot_rows s) row → IsSlots (set ss at new)
slots_put ss at s new row w lt is place filled put =
    record {
      filled = filled_set ss at new filled w.filled;
      rises = subst RowsRise (sym (put_joined slot_rows ss at s new row lt is place.before place.behind put)) (put_rises row (all_slot_rows ss) w.rises);
    }

-- a slot that still holds the rows that it held
same_slot : (ss : List Slot) (at : ℕ) (s new : Slot) → at < length ss → s ≡ get_or ss at s → slot_rows new ≡ slot_rows s → all_slot_rows (set ss at new) ≡ all_slot_rows ss
same_slot ss at s new lt is same = joined_set slot_rows ss at new lt ∙ ap (λ rs. all_slot_rows (take at ss) ++ (rs ++ all_slot_rows (drop (at + 1) ss))) same ∙ sym (joined_at slot_rows ss at s lt is)

pub slots_same : (ss : List Slot) (at : ℕ) (s new : Slot) → IsSlots ss → at < length ss → s ≡ get_or ss at s → IsFilled new → slot_rows new ≡ slot_rows s → IsSlots (set ss at new)
slots_same ss at s new w lt is filled same =
    record { filled = filled_set ss at new filled w.filled; rises = subst RowsRise (sym (same_slot ss at s new lt is same)) w.rises }

-- ---- a slot more

pub joined_split : (f : Slot → List RowEntry) (ss : List Slot) (n : ℕ) → joined f ss ≡ joined f (take n ss) ++ joined f (drop n ss)
joined_split f ss zero = refl
joined_split f [] (suc n) = refl
joined_split f (s ∷ ss) (suc n) = ap (λ rs. f s ++ rs) (joined_split f ss n) ∙ sym (append_assoc (f s) (joined f (take n ss)) (joined f (drop n ss)))

pub put_alone_joined : (f : Slot → List RowEntry) (ss : List Slot) (n : ℕ) (s : Slot) (row : RowEntry) → n ≤ length ss → f s ≡ row ∷ [] → AreBefore (sequenced row) (joined f (take n ss)) → AreBehind (sequenced row) (joined f (drop n ss)) → joined f (insert ss n s) ≡ put_row (joined f ss) row
put_alone_joined f ss n s row le is b h =
    let before = joined f (take n ss) in
    let behind = joined f (drop n ss) in
    joined_insert f ss n s le ∙ ap (λ rs. before ++ (rs ++ behind)) is ∙ ap (λ rs. before ++ rs) (sym (put_first row behind h)) ∙ sym (put_after before behind row b) ∙ ap (λ rs. put_row rs row) (sym (joined_split f ss n))

filled_insert : (ss : List Slot) (n : ℕ) (s : Slot) → n ≤ length ss → IsFilled s → AllByRecursion IsFilled ss → AllByRecursion IsFilled (insert ss n s)
filled_insert ss zero s le f h = (f, h)
filled_insert [] (suc n) s le f h = absurd (omega (arith, le))
filled_insert (t ∷ ss) (suc n) s le f h = (h.0, filled_insert ss n s (omega (arith, le)) f h.1)

pub before_next : (P : RowEntry → Type 0) (f : Slot → List RowEntry) (ss : List Slot) (at : ℕ) (s : Slot) → at < length ss → s ≡ get_or ss at s → AllByRecursion P (joined f (take at ss)) → AllByRecursion P (f s) → AllByRecursion P (joined f (take (at + 1) ss))
before_next P f [] at s lt is h here = absurd (omega (arith, lt))
before_next P f (t ∷ ss) zero s lt is h here = all_append P (f t) [] (subst (λ x. AllByRecursion P (f x)) is here) tt
before_next P f (t ∷ ss) (suc at) s lt is h here =
    rw (take_past t ss at)
    (all_append P (f t) (joined f (take (at + 1) ss)) (all_front P (f t) (joined f (take at ss)) h) (before_next P f ss at s (omega (arith, lt)) is (all_rest P (f t) (joined f (take at ss)) h) here))

-- a slot of one row more
pub with_alone : (ss : List Slot) (n : ℕ) (s : Slot) (row : RowEntry) (new : List Slot) → IsSlots ss → IsGapFor (sequenced row) ss n → slot_rows s ≡ row ∷ [] → s.gone ≡ None → row.seq ≤ 2 ^ 64 - 1 → new ≡ insert ss n s → WithPut ss (row ∷ []) new
with_alone ss n s row new w place alone whole fits is =
    let few : length (slot_rows s) ≡ 1 = ap length alone in
    let filled : IsFilled s = record { some = omega (arith, few); few = omega (arith, few); fits = subst (NoneLater (2 ^ 64 - 1)) (sym alone) (fits, tt) } in
    let before = standing_all (λ r. sequenced_cmp (sequenced row) (sequenced r) ≡ Greater) (take n ss) place.before in
    let behind = standing_all (λ r. sequenced_cmp (sequenced row) (sequenced r) ≡ Less) (drop n ss) place.behind in
    record {
      rows = ap standing is ∙ put_alone_joined rows_in ss n s row place.within (whole_rows s whole ∙ alone) before behind;
      slots = subst IsSlots (sym is) (record {
        filled = filled_insert ss n s place.within filled w.filled;
        rises = subst RowsRise (sym (put_alone_joined slot_rows ss n s row place.within alone place.before place.behind)) (put_rises row (all_slot_rows ss) w.rises);
      });
    }

nothing_there : (k : SequencedKey) (ss : List Slot) → length ss ≡ 0 → AreBehind k (all_slot_rows ss)
nothing_there k [] none = tt
nothing_there k (s ∷ ss) none = absurd (omega (arith, none))

pub gap_of_none : (k : SequencedKey) (ss : List Slot) → length ss ≡ 0 → IsGapFor k ss 0
gap_of_none k ss none = record { within = omega arith; before = tt; behind = nothing_there k ss none }

pub gap_behind : (k : SequencedKey) (ss : List Slot) (at : ℕ) (s : Slot) → at < length ss → s ≡ get_or ss at s → IsSlotFor k ss at → AreBefore k (slot_rows s) → IsGapFor k ss (at + 1)
gap_behind k ss at s lt is place passed =
    record {
      within = omega (arith, lt);
      before = before_next (λ r. sequenced_cmp k (sequenced r) ≡ Greater) slot_rows ss at s lt is place.before passed;
      behind = place.behind;
    }

-- ---- new slots in place of one

pub joined_two : (f : Slot → List RowEntry) (ss : List Slot) (at : ℕ) (low high : Slot) → at < length ss → joined f (set (insert ss (at + 1) high) at low) ≡ joined f (take at ss) ++ ((f low ++ f high) ++ joined f (drop (at + 1) ss))
joined_two f [] at low high lt = absurd (omega (arith, lt))
joined_two f (t ∷ ss) zero low high lt = sym (append_assoc (f low) (f high) (joined f ss))
joined_two f (t ∷ ss) (suc at) low high lt =
    rw (take_past t ss at, drop_past t ss at)
    (ap (λ rs. f t ++ rs) (joined_two f ss at low high (omega (arith, lt))) ∙ sym (append_assoc (f t) (joined f (take at ss)) ((f low ++ f high) ++ joined f (drop (at + 1) ss))))

filled_two : (ss : List Slot) (at : ℕ) (low high : Slot) → at < length ss → IsFilled low → IsFilled high → AllByRecursion IsFilled ss → AllByRecursion IsFilled (set (insert ss (at + 1) high) at low)
filled_two [] at low high lt f g h = absurd (omega (arith, lt))
filled_two (t ∷ ss) zero low high lt f g h = (f, (g, h.1))
filled_two (t ∷ ss) (suc at) low high lt f g h = rw (take_past t ss at, drop_past t ss at) (h.0, filled_two ss at low high (omega (arith, lt)) f g h.1)

-- rows that rise still do where only some in the middle count
parts_rise : (before here behind : List RowEntry) (marks : Option (List Bool)) → RowsRise (before ++ (here ++ behind)) → RowsRise (before ++ (kept_from marks 0 here ++ behind))
parts_rise before here behind marks w = front before w
  where
    middle : (i : ℕ) (rows : List RowEntry) → RowsRise (rows ++ behind) → RowsRise (kept_from marks i rows ++ behind)
    middle i [] h = h
    middle i (r ∷ rs) h = by (is_gone marks i) (middle (i + 1) rs h.1)
      where
        past : AreBehind (sequenced r) (kept_from marks (i + 1) rs ++ behind)
        past =
            all_append (λ x. sequenced_cmp (sequenced r) (sequenced x) ≡ Less) (kept_from marks (i + 1) rs) behind
            (kept_all (λ x. sequenced_cmp (sequenced r) (sequenced x) ≡ Less) marks (i + 1) rs (all_front (λ x. sequenced_cmp (sequenced r) (sequenced x) ≡ Less) rs behind h.0))
            (all_rest (λ x. sequenced_cmp (sequenced r) (sequenced x) ≡ Less) rs behind h.0)

        by : (b : Bool) → RowsRise (kept_from marks (i + 1) rs ++ behind) → RowsRise (cond b (kept_from marks (i + 1) rs) (r ∷ kept_from marks (i + 1) rs) ++ behind)
        by true later = later
        by false later = (past, later)

    front : (xs : List RowEntry) → RowsRise (xs ++ (here ++ behind)) → RowsRise (xs ++ (kept_from marks 0 here ++ behind))
    front [] h = middle 0 here h
    front (x ∷ xs) h =
        let less = λ (r : RowEntry). sequenced_cmp (sequenced x) (sequenced r) ≡ Less in
        let rest = all_rest less xs (here ++ behind) h.0 in (
          all_append less xs (kept_from marks 0 here ++ behind) (all_front less xs (here ++ behind) h.0)
              (all_append less (kept_from marks 0 here) behind (kept_all less marks 0 here (all_front less here behind rest)) (all_rest less here behind rest)),
          front xs h.1,
        )

-- in slots `new` the rows of one of `ss` stand as `rows`, which all count
with_new : (ss new : List Slot) (at : ℕ) (s : Slot) (row : RowEntry) (rows : List RowEntry) → IsSlots ss → at < length ss → s ≡ get_or ss at s → IsSlotFor (sequenced row) ss at → rows ≡ put_row (rows_in s) row → AllByRecursion IsFilled new →
    joined slot_rows new ≡ joined slot_rows (take at ss) ++ (rows ++ joined slot_rows (drop (at + 1) ss)) → joined rows_in new ≡ joined rows_in (take at ss) ++ (rows ++ joined rows_in (drop (at + 1) ss)) → WithPut ss (row ∷ []) new
with_new ss new at s row rows w lt is place put filled all some =
    let places = slot_place (sequenced row) ss at place in
    let before = all_slot_rows (take at ss) in
    let behind = all_slot_rows (drop (at + 1) ss) in
    let low : RowsRise (before ++ (rows_in s ++ behind)) = parts_rise before (slot_rows s) behind s.gone (subst RowsRise (joined_at slot_rows ss at s lt is) w.rises) in
    record {
      rows = some ∙ put_in_parts (standing (take at ss)) (rows_in s) rows (standing (drop (at + 1) ss)) row places.0 places.1 put ∙ ap (λ rs. put_row rs row) (sym (joined_at rows_in ss at s lt is));
      slots = record {
        filled = filled;
        rises = subst RowsRise (sym (all ∙ put_in_parts before (rows_in s) rows behind row place.before place.behind put)) (put_rises row (before ++ (rows_in s ++ behind)) low);
      };
    }

fit_put : (s : Slot) (row : RowEntry) → IsFilled s → row.seq ≤ 2 ^ 64 - 1 → NoneLater (2 ^ 64 - 1) (put_row (rows_in s) row)
fit_put s row filled fits = all_put (λ r. r.seq ≤ 2 ^ 64 - 1) row (rows_in s) fits (kept_all (λ r. r.seq ≤ 2 ^ 64 - 1) s.gone 0 (slot_rows s) filled.fits)

filled_whole : (s : Slot) → IsWhole s → NoneLater (2 ^ 64 - 1) (slot_rows s) → IsFilled s
filled_whole s whole low = record { some = whole.some; few = whole.few; fits = low }

pub with_one : (ss : List Slot) (at : ℕ) (s low : Slot) (row : RowEntry) → IsSlots ss → at < length ss → s ≡ get_or ss at s → IsSlotFor (sequenced row) ss at → row.seq ≤ 2 ^ 64 - 1 → IsWhole low → slot_rows low ≡ put_row (rows_in s) row → WithPut ss (row ∷ []) (set ss at low)
with_one ss at s low row w lt is place fits whole put =
    let fit = fit_put s row (filled_at ss at s w lt is) fits in
    let filled = filled_whole low whole (subst (NoneLater (2 ^ 64 - 1)) (sym put) fit) in
    with_new ss (set ss at low) at s row (slot_rows low) w lt is place put (filled_set ss at low filled w.filled) (joined_set slot_rows ss at low lt)
    (joined_set rows_in ss at low lt ∙ ap (λ rs. standing (take at ss) ++ (rs ++ standing (drop (at + 1) ss))) (whole_rows low whole.whole))

pub with_two : (ss : List Slot) (at : ℕ) (s low high : Slot) (row : RowEntry) → IsSlots ss → at < length ss → s ≡ get_or ss at s → IsSlotFor (sequenced row) ss at → row.seq ≤ 2 ^ 64 - 1 → IsWhole low → IsWhole high →
    slot_rows low ++ slot_rows high ≡ put_row (rows_in s) row → WithPut ss (row ∷ []) (set (insert ss (at + 1) high) at low)
with_two ss at s low high row w lt is place fits whole also put =
    let fit = subst (NoneLater (2 ^ 64 - 1)) (sym put) (fit_put s row (filled_at ss at s w lt is) fits) in
    let first = filled_whole low whole (all_front (λ r. r.seq ≤ 2 ^ 64 - 1) (slot_rows low) (slot_rows high) fit) in
    let second = filled_whole high also (all_rest (λ r. r.seq ≤ 2 ^ 64 - 1) (slot_rows low) (slot_rows high) fit) in
    with_new ss (set (insert ss (at + 1) high) at low) at s row (slot_rows low ++ slot_rows high) w lt is place put (filled_two ss at low high lt first second w.filled) (joined_two slot_rows ss at low high lt)
    (joined_two rows_in ss at low high lt ∙ (λ i. standing (take at ss) ++ ((whole_rows low whole.whole i ++ whole_rows high also.whole i) ++ standing (drop (at + 1) ss))))

put_some_step : (row r : RowEntry) (rs : List RowEntry) (o : Ordering) → 0 < length (match_ordering o (row ∷ r ∷ rs) (row ∷ rs) (r ∷ put_row rs row))
put_some_step row r rs Less = omega arith
put_some_step row r rs Equal = omega arith
put_some_step row r rs Greater = omega arith

pub put_some : (rows : List RowEntry) (row : RowEntry) → 0 < length (put_row rows row)
put_some [] row = omega arith
put_some (r ∷ rs) row = put_some_step row r rs (sequenced_cmp (sequenced row) (sequenced r))

kept_few_step : (b : Bool) (r : RowEntry) (xs ys : List RowEntry) → length xs ≤ length ys → length (cond b xs (r ∷ xs)) ≤ length (r ∷ ys)
kept_few_step true r xs ys h = omega (arith, h)
kept_few_step false r xs ys h = omega (arith, h)

kept_few : (marks : Option (List Bool)) (i : ℕ) (rows : List RowEntry) → length (kept_from marks i rows) ≤ length rows
kept_few marks i [] = omega arith
kept_few marks i (r ∷ rs) = kept_few_step (is_gone marks i) r (kept_from marks (i + 1) rs) rs (kept_few marks (i + 1) rs)

-- the rows of a slot with one more fit in two
pub two_fit : (s : Slot) (row : RowEntry) (rows : List RowEntry) → length (slot_rows s) ≤ 32 → rows ≡ put_row (rows_in s) row → (0 < length rows) × (length rows ≤ 33)
two_fit s row rows few is =
    let size : length rows ≡ length (put_row (rows_in s) row) = ap length is in
    let some : 0 < length (put_row (rows_in s) row) = put_some (rows_in s) row in
    let more : length (put_row (rows_in s) row) ≤ length (rows_in s) + 1 = put_few (rows_in s) row in
    let kept : length (rows_in s) ≤ length (slot_rows s) = kept_few s.gone 0 (slot_rows s) in
    (omega (arith, size, some), omega (arith, size, more, kept, few))

-- ---- a slot that takes a row as it stands, or doesn't

pub with_taken : (ss : List Slot) (at : ℕ) (s new : Slot) (row : RowEntry) (all : List Slot) → IsSlots ss → at < length ss → s ≡ get_or ss at s → IsSlotFor (sequenced row) ss at → row.seq ≤ 2 ^ 64 - 1 → HasTaken s row new → all ≡ set ss at new → WithPut ss (row ∷ []) all
with_taken ss at s new row all w lt is place fits taken same =
    let was = filled_at ss at s w lt is in
    let places = slot_place (sequenced row) ss at place in
    let filled : IsFilled new = record {
      some = subst (λ rs. 0 < length rs) (sym taken.rows) (put_some (slot_rows s) row);
      few = taken.few;
      fits = subst (NoneLater (2 ^ 64 - 1)) (sym taken.rows) (all_put (λ r. r.seq ≤ 2 ^ 64 - 1) row (slot_rows s) fits was.fits);
    } in
    record {
      rows = ap standing same
          ∙ put_joined rows_in ss at s new row lt is places.0 places.1 (whole_rows new taken.whole ∙ taken.rows ∙ ap (λ rs. put_row rs row) (sym (whole_rows s taken.was)));
      slots = subst IsSlots (sym same) (slots_put ss at s new row w lt is place filled taken.rows);
    }

take_set : {X : Type 0} (xs : List X) (at : ℕ) (x : X) → take at (set xs at x) ≡ take at xs
take_set [] at x = refl
take_set (y ∷ ys) zero x = refl
take_set (y ∷ ys) (suc at) x = ap (λ zs. y ∷ zs) (take_set ys at x)

drop_set : {X : Type 0} (xs : List X) (at : ℕ) (x : X) → drop (at + 1) (set xs at x) ≡ drop (at + 1) xs
drop_set [] at x = refl
drop_set (y ∷ ys) zero x = refl
drop_set (y ∷ ys) (suc at) x = drop_past y (set ys at x) at ∙ drop_set ys at x ∙ sym (drop_past y ys at)

-- slots of which one is as it was but for where it stands
pub record AreAsWere (ss : List Slot) (at : ℕ) (all : List Slot) : Type 0 where
  pub slots : IsSlots all
  pub rows : standing all ≡ standing ss
  pub within : at < length all
  pub place : (k : SequencedKey) → IsSlotFor k ss at → IsSlotFor k all at

pub as_were : (ss : List Slot) (at : ℕ) (s new : Slot) (all : List Slot) → IsSlots ss → at < length ss → s ≡ get_or ss at s → IsSameSlot s new → all ≡ set ss at new → AreAsWere ss at all
as_were ss at s new all w lt is same set_is =
    let was = filled_at ss at s w lt is in
    let filled : IsFilled new = record {
      some = subst (λ rs. 0 < length rs) (sym same.rows) was.some;
      few = subst (λ rs. length rs ≤ 32) (sym same.rows) was.few;
      fits = subst (NoneLater (2 ^ 64 - 1)) (sym same.rows) was.fits;
    } in
    let counted : rows_in new ≡ rows_in s = (λ i. kept_from (same.marks i) 0 (same.rows i)) in
    let size : length (set ss at new) ≡ length ss = length_set ss at new in
    subst (AreAsWere ss at) (sym set_is) (record {
      slots = slots_same ss at s new w lt is filled same.rows;
      rows = joined_set rows_in ss at new lt ∙ ap (λ rs. standing (take at ss) ++ (rs ++ standing (drop (at + 1) ss))) counted ∙ sym (joined_at rows_in ss at s lt is);
      within = omega (arith, size, lt);
      place = λ k place. record {
        within = λ some. omega (arith, size, lt);
        before = subst (λ ts. AreBefore k (all_slot_rows ts)) (sym (take_set ss at new)) place.before;
        behind = subst (λ ts. AreBehind k (all_slot_rows ts)) (sym (drop_set ss at new)) place.behind;
      };
    })

pub not_put : (ss : List Slot) (at : ℕ) (all new : List Slot) → AreAsWere ss at all → new ≡ all → WithPut ss [] new
not_put ss at all new was is = record { rows = ap standing is ∙ was.rows; slots = subst IsSlots (sym is) was.slots }

-- ---- puts one after the other

pub put_same : (ss all new : List Slot) (rows : List RowEntry) → standing all ≡ standing ss → WithPut all rows new → WithPut ss rows new
put_same ss all new rows same put = record { rows = put.rows ∙ ap (λ rs. put_rows rs rows) same; slots = put.slots }

pub none_put : (ss new : List Slot) → IsSlots ss → new ≡ ss → WithPut ss [] new
none_put ss new w is = record { rows = ap standing is; slots = subst IsSlots (sym is) w }

-- ---- a row behind all of a slot

pub above_all : (k : SequencedKey) (rows : List RowEntry) (last : RowEntry) → RowsRise rows → slice_get rows (length rows - 1) ≡ Some last → is_gt (sequenced_cmp k (sequenced last)) ≡ true → AreBefore k rows
above_all k [] last rises is above = tt
above_all k (r ∷ []) last rises is above =
    let zeroth : length (r ∷ []) - 1 ≡ 0 = omega arith in
    let one : Some r ≡ Some last = subst (λ n. slice_get (r ∷ []) n ≡ Some last) zeroth is in
    let same : r ≡ last = cc in
    (is_greater (sequenced_cmp k (sequenced r)) (ap (λ x. is_gt (sequenced_cmp k (sequenced x))) same ∙ above), tt)
above_all k (r ∷ s ∷ rs) last rises is above =
    let here : length (r ∷ s ∷ rs) - 1 ≡ suc (length rs) = omega arith in
    let there : length rs ≡ length (s ∷ rs) - 1 = omega arith in
    let get : slice_get (s ∷ rs) (length rs) ≡ Some last = subst (λ n. slice_get (r ∷ s ∷ rs) n ≡ Some last) here is in
    let later = above_all k (s ∷ rs) last rises.1 (subst (λ n. slice_get (s ∷ rs) n ≡ Some last) there get) above in
    (above_both k (sequenced r) (sequenced s) rises.0.0 later.0, later)

-- ---- slots one after the other

pub joined_drop : (f : Slot → List RowEntry) (ss : List Slot) (i : ℕ) (s : Slot) → i < length ss → s ≡ get_or ss i s → joined f (drop i ss) ≡ f s ++ joined f (drop (i + 1) ss)
joined_drop f [] i s lt is = absurd (omega (arith, lt))
joined_drop f (t ∷ ss) zero s lt is = ap (λ x. f x ++ joined f ss) (sym is)
joined_drop f (t ∷ ss) (suc i) s lt is = joined_drop f ss i s (omega (arith, lt)) is ∙ ap (λ (ts : List Slot). f s ++ joined f ts) (sym (drop_past t ss i))

pub joined_append : (f : Slot → List RowEntry) (ss ts : List Slot) → joined f (ss ++ ts) ≡ joined f ss ++ joined f ts
joined_append f [] ts = refl
joined_append f (s ∷ ss) ts = ap (λ rs. f s ++ rs) (joined_append f ss ts) ∙ sym (append_assoc (f s) (joined f ss) (joined f ts))

-- a loop that adds what a slot has
pub joined_on : (f : Slot → List RowEntry) (ss : List Slot) (i : ℕ) (s : Slot) (found more all : List RowEntry) → i < length ss → s ≡ get_or ss i s → more ≡ found ++ f s → found ++ joined f (drop i ss) ≡ all → more ++ joined f (drop (i + 1) ss) ≡ all
joined_on f ss i s found more all lt is adds was =
    ap (λ rs. rs ++ joined f (drop (i + 1) ss)) adds ∙ append_assoc found (f s) (joined f (drop (i + 1) ss)) ∙ ap (λ rs. found ++ rs) (sym (joined_drop f ss i s lt is)) ∙ was

-- ---- rows of a sequence that are put and taken back

abbrev pub others : ℕ → RowEntry → Bool
others n r = not (r.seq == n)

drops_put : (n : ℕ) (row : RowEntry) (rows : List RowEntry) → (row.seq == n) ≡ true → filter (others n) (put_row rows row) ≡ filter (others n) rows
drops_put n row [] is = ap (λ b. cond (not b) (row ∷ []) []) is
drops_put n row (r ∷ rs) is = by (sequenced_cmp (sequenced row) (sequenced r)) refl (drops_put n row rs is)
  where
    by : (o : Ordering) → sequenced_cmp (sequenced row) (sequenced r) ≡ o → filter (others n) (put_row rs row) ≡ filter (others n) rs →
        filter (others n) (match_ordering o (row ∷ r ∷ rs) (row ∷ rs) (r ∷ put_row rs row)) ≡ filter (others n) (r ∷ rs)
    by Less e later = ap (λ b. cond (not b) (row ∷ filter (others n) (r ∷ rs)) (filter (others n) (r ∷ rs))) is
    by Equal e later =
        let same : (r.seq == n) ≡ true = ap (λ (k : SequencedKey). k.seq == n) (sym (sequenced_same (sequenced row) (sequenced r) e)) ∙ is in
        ap (λ b. cond (not b) (row ∷ filter (others n) rs) (filter (others n) rs)) is ∙ sym (ap (λ b. cond (not b) (r ∷ filter (others n) rs) (filter (others n) rs)) same)
    by Greater e later = ap (λ rows. cond (others n r) (r ∷ rows) rows) later

drops_puts : (n : ℕ) (put rows : List RowEntry) → AllByRecursion (λ r. (r.seq == n) ≡ true) put → filter (others n) (put_rows rows put) ≡ filter (others n) rows
drops_puts n [] rows each = refl
drops_puts n (row ∷ put) rows each = drops_puts n put (put_row rows row) each.1 ∙ drops_put n row rows each.0

below_other : (m n last : ℕ) → m ≤ last → last < n → (m == n) ≡ false
below_other m n last le lt = grind (arith, nat_tests)

drops_none : (n last : ℕ) (rows : List RowEntry) → NoneLater last rows → last < n → filter (others n) rows ≡ rows
drops_none n last [] low lt = refl
drops_none n last (r ∷ rs) low lt =
    ap (λ b. cond (not b) (r ∷ filter (others n) rs) (filter (others n) rs)) (below_other r.seq n last low.0 lt) ∙ ap (λ ys. r ∷ ys) (drops_none n last rs low.1 lt)

pub taken_back : (n last : ℕ) (ss new back : List Slot) (more : List RowEntry) → NoneLater last (standing ss) → last < n → AllByRecursion (λ r. (r.seq == n) ≡ true) more → WithSomePut ss more new →
    standing back ≡ filter (others n) (standing new) → IsSlots back → WithPut ss [] back
taken_back n last ss new back more low lt each some is slots =
    let upto = some.1 in
    record {
      rows =
          is ∙ ap (filter (others n)) upto.put.rows
          ∙ drops_puts n upto.done (standing ss) (all_front (λ r. (r.seq == n) ≡ true) upto.done some.0 (subst (AllByRecursion (λ r. (r.seq == n) ≡ true)) upto.parts each))
          ∙ drops_none n last (standing ss) low lt;
      slots = slots;
    }

-- ---- slots of which a sequence is taken back, as far as a loop has come

pub record TakenBack (keeps : RowEntry → Bool) (old now : List Slot) (at : ℕ) : Type 0 where
  pub size : length now ≡ length old
  pub slots : IsSlots now
  pub done : standing (take at now) ≡ filter keeps (standing (take at old))
  pub rest : drop at now ≡ drop at old

joined_take : (f : Slot → List RowEntry) (ss : List Slot) (at : ℕ) (s : Slot) → at < length ss → s ≡ get_or ss at s → joined f (take (at + 1) ss) ≡ joined f (take at ss) ++ f s
joined_take f [] at s lt is = absurd (omega (arith, lt))
joined_take f (t ∷ ss) zero s lt is = append-nil (f t) ∙ ap f (sym is)
joined_take f (t ∷ ss) (suc at) s lt is = ap (joined f) (take_past t ss at) ∙ ap (λ rs. f t ++ rs) (joined_take f ss at s (omega (arith, lt)) is) ∙ sym (append_assoc (f t) (joined f (take at ss)) (f s))

joined_take_set : (f : Slot → List RowEntry) (ss : List Slot) (at : ℕ) (s : Slot) → at < length ss → joined f (take (at + 1) (set ss at s)) ≡ joined f (take at ss) ++ f s
joined_take_set f [] at s lt = absurd (omega (arith, lt))
joined_take_set f (t ∷ ss) zero s lt = append-nil (f s)
joined_take_set f (t ∷ ss) (suc at) s lt =
    ap (joined f) (take_past t (set ss at s) at) ∙ ap (λ rs. f t ++ rs) (joined_take_set f ss at s (omega (arith, lt))) ∙ sym (append_assoc (f t) (joined f (take at ss)) (f s))

get_behind : {X : Type 0} (xs : List X) (at : ℕ) (d : X) → get_or (drop at xs) 0 d ≡ get_or xs at d
get_behind [] zero d = refl
get_behind [] (suc at) d = refl
get_behind (x ∷ xs) zero d = refl
get_behind (x ∷ xs) (suc at) d = get_behind xs at d

drop_next : {X : Type 0} (xs : List X) (at : ℕ) → drop (at + 1) xs ≡ drop 1 (drop at xs)
drop_next [] zero = refl
drop_next [] (suc at) = let next : suc at + 1 ≡ suc (at + 1) = omega arith in ap (λ m. drop m []) next
drop_next (x ∷ xs) zero = refl
drop_next (x ∷ xs) (suc at) = drop_past x xs at ∙ drop_next xs at

pub none_taken_back : (keeps : RowEntry → Bool) (ss : List Slot) → IsSlots ss → TakenBack keeps ss ss 0
none_taken_back keeps ss w = record { size = refl; slots = w; done = refl; rest = refl }

pub taken_back_on : (keeps : RowEntry → Bool) (old now : List Slot) (at : ℕ) (s new : Slot) (all : List Slot) → TakenBack keeps old now at → at < length now → s ≡ get_or now at s →
    slot_rows new ≡ slot_rows s → (IsFilled s → rows_in new ≡ filter keeps (rows_in s)) → all ≡ set now at new → TakenBack keeps old all (at + 1)
taken_back_on keeps old now at s new all was lt is same taken all_is =
    let filled = filled_at now at s was.slots lt is in
    let whole : IsFilled new = record {
      some = subst (λ rs. 0 < length rs) (sym same) filled.some;
      few = subst (λ rs. length rs ≤ 32) (sym same) filled.few;
      fits = subst (NoneLater (2 ^ 64 - 1)) (sym same) filled.fits;
    } in
    let there : at < length old = omega (arith, lt, was.size) in
    let here : s ≡ get_or old at s = is ∙ sym (get_behind now at s) ∙ ap (λ (ts : List Slot). get_or ts 0 s) was.rest ∙ get_behind old at s in
    subst (λ ts. TakenBack keeps old ts (at + 1)) (sym all_is) (record {
      size = length_set now at new ∙ was.size;
      slots = slots_same now at s new was.slots lt is whole same;
      done =
          joined_take_set rows_in now at new lt ∙ (λ i. was.done i ++ taken filled i)
          ∙ sym (filter-append keeps (standing (take at old)) (rows_in s)) ∙ ap (filter keeps) (sym (joined_take rows_in old at s there here));
      rest = drop_set now at new ∙ drop_next now at ∙ ap (drop 1) was.rest ∙ sym (drop_next old at);
    })

take_all : {X : Type 0} (xs : List X) (n : ℕ) → length xs ≤ n → take n xs ≡ xs
take_all [] zero le = refl
take_all [] (suc n) le = refl
take_all (x ∷ xs) zero le = absurd (omega (arith, le))
take_all (x ∷ xs) (suc n) le = ap (λ ys. x ∷ ys) (take_all xs n (omega (arith, le)))

pub all_taken_back : (keeps : RowEntry → Bool) (old now : List Slot) (at : ℕ) → TakenBack keeps old now at → length now ≤ at → standing now ≡ filter keeps (standing old)
all_taken_back keeps old now at was le =
    ap standing (sym (take_all now at le)) ∙ was.done ∙ ap (λ (ts : List Slot). filter keeps (standing ts)) (take_all old at (omega (arith, le, was.size)))

-- ---- slots that are shared

pub record Shared (ss found left : List Slot) : Type 0 where
  pub counted : standing found ++ standing left ≡ standing ss
  pub stored : all_slot_rows found ++ all_slot_rows left ≡ all_slot_rows ss
  pub filled : AllByRecursion IsFilled ss → AllByRecursion IsFilled found

pub none_shared : (ss : List Slot) → Shared ss [] ss
none_shared ss = record { counted = refl; stored = refl; filled = λ h. tt }

pub shared_on : (ss found : List Slot) (at : ℕ) (s new : Slot) (more : List Slot) → Shared ss found (drop at ss) → at < length ss → s ≡ get_or ss at s → IsSameSlot s new → more ≡ found ++ (new ∷ []) → Shared ss more (drop (at + 1) ss)
shared_on ss found at s new more was lt is same more_is =
    subst (λ ts. Shared ss ts (drop (at + 1) ss)) (sym more_is) (record {
      counted = on rows_in (λ i. kept_from (same.marks i) 0 (same.rows i)) was.counted;
      stored = on slot_rows same.rows was.stored;
      filled = λ h.
          let here = all_at IsFilled ss h at s lt in
          let filled : IsFilled s = subst IsFilled (sym is) here in
          all_append IsFilled found (new ∷ []) (was.filled h) (
            record {
              some = subst (λ rs. 0 < length rs) (sym same.rows) filled.some;
              few = subst (λ rs. length rs ≤ 32) (sym same.rows) filled.few;
              fits = subst (NoneLater (2 ^ 64 - 1)) (sym same.rows) filled.fits;
            },
            tt,
          );
    })
  where
    on : (f : Slot → List RowEntry) → f new ≡ f s → joined f found ++ joined f (drop at ss) ≡ joined f ss → joined f (found ++ (new ∷ [])) ++ joined f (drop (at + 1) ss) ≡ joined f ss
    on f e was =
        ap (λ rs. rs ++ joined f (drop (at + 1) ss)) (joined_append f found (new ∷ []) ∙ ap (λ rs. joined f found ++ rs) (append-nil (f new) ∙ e))
        ∙ append_assoc (joined f found) (f s) (joined f (drop (at + 1) ss)) ∙ ap (λ rs. joined f found ++ rs) (sym (joined_drop f ss at s lt is)) ∙ was

pub all_shared : (ss found left : List Slot) → Shared ss found left → left ≡ [] → (standing found ≡ standing ss) × (IsSlots ss → IsSlots found)
all_shared ss found left was none =
    let at_end = λ (f : Slot → List RowEntry). sym (append-nil (joined f found)) ∙ ap (λ (ts : List Slot). joined f found ++ joined f ts) (sym none) in
    (at_end rows_in ∙ was.counted, λ w. record { filled = was.filled w.filled; rises = subst RowsRise (sym (at_end slot_rows ∙ was.stored)) w.rises })

-- ---- some of several put

pub put_on : (rows : List RowEntry) (done : List RowEntry) (row : RowEntry) → put_rows rows (done ++ (row ∷ [])) ≡ put_row (put_rows rows done) row
put_on rows [] row = refl
put_on rows (d ∷ done) row = put_on (put_row rows d) done row

pub put_upto_none : (ss : List Slot) (rows : List RowEntry) → IsSlots ss → IsPutUpTo ss rows rows ss
put_upto_none ss rows w = record { done = []; parts = refl; put = none_put ss ss w refl }

pub put_upto_on : (ss mid new : List Slot) (rows left rest : List RowEntry) (row : RowEntry) → IsPutUpTo ss rows left mid → left ≡ row ∷ rest → WithPut mid (row ∷ []) new → IsPutUpTo ss rows rest new
put_upto_on ss mid new rows left rest row upto is put =
    record {
      done = upto.done ++ (row ∷ []);
      parts = upto.parts ∙ ap (λ rs. upto.done ++ rs) is ∙ sym (append_assoc upto.done (row ∷ []) rest);
      put = record { rows = put.rows ∙ ap (λ rs. put_row rs row) upto.put.rows ∙ sym (put_on (standing ss) upto.done row); slots = put.slots };
    }

pub put_upto_all : (ss new : List Slot) (rows left : List RowEntry) → IsPutUpTo ss rows left new → left ≡ [] → WithPut ss rows new
put_upto_all ss new rows left upto none =
    subst (λ rs. WithPut ss rs new) (sym (upto.parts ∙ ap (λ rs. upto.done ++ rs) none ∙ append-nil upto.done)) upto.put

-- a row that is refused
pub put_upto_here : (ss mid new : List Slot) (rows left : List RowEntry) → IsPutUpTo ss rows left mid → WithPut mid [] new → WithSomePut ss rows new
put_upto_here ss mid new rows left upto none = (left, record { done = upto.done; parts = upto.parts; put = record { rows = none.rows ∙ upto.put.rows; slots = none.slots } })

some_last : (rest : List RowEntry) (row : RowEntry) → 0 < length (rest ++ (row ∷ []))
some_last [] row = omega arith
some_last (r ∷ rest) row = omega arith

-- the last of no more than one is all of them
pub one_popped : (rows rest : List RowEntry) (row : RowEntry) → rows ≡ rest ++ (row ∷ []) → length rows ≤ 1 → rows ≡ row ∷ []
one_popped rows [] row is le = is
one_popped rows (r ∷ rest) row is le =
    let size : length rows ≡ length (r ∷ (rest ++ (row ∷ []))) = ap length is in
    let more : 0 < length (rest ++ (row ∷ [])) = some_last rest row in
    absurd (omega (arith, le, size, more))

-- ---- bounds of sequences and of the number of rows

pub low_puts : (n : ℕ) (rows more : List RowEntry) → NoneLater n rows → NoneLater (greatest_seq n more) (put_rows rows more)
low_puts n rows [] low = low
low_puts n rows (m ∷ more) low =
    low_puts (max n m.seq) (put_row rows m) more
    (all_put (λ r. r.seq ≤ max n m.seq) m rows (omega arith) (all_each (λ r. r.seq ≤ n) (λ r. r.seq ≤ max n m.seq) (λ r le. omega (arith, le)) rows low))

pub few_puts : (rows more : List RowEntry) → length (put_rows rows more) ≤ length rows + length more
few_puts rows [] = omega arith
few_puts rows (m ∷ more) = omega (arith, few_puts (put_row rows m) more, put_few rows m)

few_step : (b : Bool) (r : RowEntry) (xs ys : List RowEntry) → length xs ≤ length ys → length (cond b (r ∷ xs) xs) ≤ length (r ∷ ys)
few_step true r xs ys h = omega (arith, h)
few_step false r xs ys h = omega (arith, h)

pub few_kept : (p : RowEntry → Bool) (rows : List RowEntry) → length (filter p rows) ≤ length rows
few_kept p [] = omega arith
few_kept p (r ∷ rs) = few_step (p r) r (filter p rs) rs (few_kept p rs)

pub all_of_test : (n : ℕ) (rows : List RowEntry) → list_all (λ r. r.seq == n) rows ≡ true → AllByRecursion (λ r. (r.seq == n) ≡ true) rows
all_of_test n [] is = tt
all_of_test n (r ∷ rs) is = let parts = both_true (r.seq == n) (list_all (λ x. x.seq == n) rs) is in (parts.0, all_of_test n rs parts.1)
