-- What a reader sees of a key among rows in slots.
use Rattle.std.proofs.Common.{◌≡◌, ℕ, zero, suc, add-one, ◌+◌, ◌<◌, ◌≤◌, Bool, true, false, cond, not, bytes_eq, nat_le, List, [], ◌∷◌, ◌++◌, append_assoc, append-nil, get_or, length, take, drop, Option, Some, None, refl, sym, ap, subst, ◌∙◌, arith, Ordering, Less, Equal, Greater}
use Rattle.std.specs.List.{AllByRecursion}
use Rattle.std.specs.Ordering.{is_gt, is_lt, nat_cmp, ordering_then}
use Rattle.std.proofs.lemmas.Bool.Decides.{nat_tests}
use Rattle.std.proofs.lemmas.List.{drop_all, drop_more}
use Rattle.slate_types.specs.declared.types.RowEntry.{RowEntry}
use Rattle.slate_types.specs.Keys.{key_cmp, key_lt}
use Rattle.slate_types.specs.Rows.{is_base, is_operand, sequenced, sequenced_cmp}
use Rattle.slate_types.proofs.KeyOrder.{bytes_eq_above, bytes_eq_same, equal_keys, lt_le_trans, not_lt}
use Rattle.slate_mem.specs.declared.slots.Slot.{Slot}
use Rattle.slate_mem.specs.Slots.{AreBefore, AreBehind, IsSlotFor, IsSlots, NoneAbove, RowsRise, all_slot_rows, is_gone, kept_from, rows_from, rows_in, slot_rows, standing}
use Rattle.slate_mem.specs.Table.{newest}
use Rattle.slate_mem.proofs.SlotLaws.{all_append, all_each, all_front, all_rest, joined_drop, joined_split, kept_all, rest_rises, standing_all}
use Rattle.slate_mem.proofs.SlotOrder.{standing_rises}
use Rattle.slate_mem.proofs.SlotReads.{keys_rise, newest_behind, none_above, place}
use Rattle.slate_mem.proofs.WalkLaws.{takes_row}

-- ---- rows of a slot in front of an index, and those from there on

kept_split : (marks : Option (List Bool)) (i n : ℕ) (rows : List RowEntry) → kept_from marks i rows ≡ kept_from marks i (take n rows) ++ kept_from marks (i + n) (drop n rows)
kept_split marks i zero rows = let same : i ≡ i + 0 = omega arith in ap (λ j. kept_from marks j rows) same
kept_split marks i (suc n) [] = refl
kept_split marks i (suc n) (r ∷ rs) = by (is_gone marks i) (kept_split marks (i + 1) n rs ∙ ap (λ j. kept_from marks (i + 1) (take n rs) ++ kept_from marks j (drop n rs)) same)
  where
    same : i + 1 + n ≡ i + suc n
    same = omega arith

    by : (b : Bool) → kept_from marks (i + 1) rs ≡ kept_from marks (i + 1) (take n rs) ++ kept_from marks (i + suc n) (drop n rs) →
        cond b (kept_from marks (i + 1) rs) (r ∷ kept_from marks (i + 1) rs) ≡ cond b (kept_from marks (i + 1) (take n rs)) (r ∷ kept_from marks (i + 1) (take n rs)) ++ kept_from marks (i + suc n) (drop n rs)
    by true h = h
    by false h = ap (λ ys. r ∷ ys) h

pub newest_begins : (k : List ℕ) (n : ℕ) (s : Slot) (at : ℕ) → AreBefore (place k n) (take at (slot_rows s)) → (rows : List RowEntry) → newest k n (rows_from s at ++ rows) ≡ newest k n (rows_in s ++ rows)
newest_begins k n s at before rows =
    let front = kept_from s.gone 0 (take at (slot_rows s)) in
    let same : 0 + at ≡ at = omega arith in
    let split : rows_in s ≡ front ++ rows_from s at = kept_split s.gone 0 at (slot_rows s) ∙ ap (λ j. front ++ kept_from s.gone j (drop at (slot_rows s))) same in
    sym (ap (λ xs. newest k n (xs ++ rows)) split ∙ ap (newest k n) (append_assoc front (rows_from s at) rows)
    ∙ newest_behind k n front (rows_from s at ++ rows) (kept_all (λ r. sequenced_cmp (place k n) (sequenced r) ≡ Greater) s.gone 0 (take at (slot_rows s)) before))

pub rows_left : (s : Slot) (at : ℕ) → length (slot_rows s) ≤ at → rows_from s at ≡ []
rows_left s at le = ap (kept_from s.gone at) (drop_all at (slot_rows s) le)

-- ---- behind the rows of a key

beyond : (k : List ℕ) (n : ℕ) (r : RowEntry) → is_gt (sequenced_cmp (place k n) (sequenced r)) ≡ false → bytes_eq r.key k ≡ false → key_lt k r.key ≡ true
beyond k n r h other = by (key_cmp k r.key) refl h
  where
    by : (o : Ordering) → key_cmp k r.key ≡ o → is_gt (ordering_then o (nat_cmp r.seq n)) ≡ false → key_lt k r.key ≡ true
    by Less e g = ap is_lt e
    by Equal e g = let clash : true ≡ false = sym (bytes_eq_same k) ∙ ap (λ x. bytes_eq x k) (equal_keys k r.key e) ∙ other in cc
    by Greater e g = cc

all_beyond : (k : List ℕ) (r : RowEntry) (rows : List RowEntry) → key_lt k r.key ≡ true → AreBehind (sequenced r) rows → AllByRecursion (λ x. key_lt k x.key ≡ true) (r ∷ rows)
all_beyond k r rows h behind =
    (h, all_each (λ x. sequenced_cmp (sequenced r) (sequenced x) ≡ Less) (λ x. key_lt k x.key ≡ true) (λ x less. lt_le_trans k r.key x.key h (not_lt x.key r.key (keys_rise r x less))) rows behind)

beyond_from : (k : List ℕ) (n : ℕ) (xs rows : List RowEntry) (at : ℕ) (row : RowEntry) → at < length xs → row ≡ get_or xs at row → NoneAbove (place k n) (drop at xs) → bytes_eq row.key k ≡ false → RowsRise (xs ++ rows) → AllByRecursion (λ x. key_lt k x.key ≡ true) (drop at xs ++ rows)
beyond_from k n [] rows at row lt is none other rises = absurd (omega (arith, lt))
beyond_from k n (x ∷ xs) rows zero row lt is none other rises = all_beyond k x (xs ++ rows) (beyond k n x none.0 (ap (λ (r : RowEntry). bytes_eq r.key k) (sym is) ∙ other)) rises.0
beyond_from k n (x ∷ xs) rows (suc at) row lt is none other rises = beyond_from k n xs rows at row (omega (arith, lt)) is none other rises.1

-- where a row at its place has another key, none behind it has that key
pub newest_ends : (k : List ℕ) (n : ℕ) (s : Slot) (at : ℕ) (row : RowEntry) → at < length (slot_rows s) → row ≡ get_or (slot_rows s) at row → NoneAbove (place k n) (drop at (slot_rows s)) → bytes_eq row.key k ≡ false →
    (rows : List RowEntry) → RowsRise (slot_rows s ++ rows) → newest k n (rows_from s at ++ rows) ≡ []
newest_ends k n s at row lt is none other rows rises =
    let all = beyond_from k n (slot_rows s) rows at row lt is none other rises in
    none_above k n (rows_from s at ++ rows)
    (all_append (λ x. key_lt k x.key ≡ true) (rows_from s at) rows
    (kept_all (λ x. key_lt k x.key ≡ true) s.gone at (drop at (slot_rows s)) (all_front (λ x. key_lt k x.key ≡ true) (drop at (slot_rows s)) rows all))
    (all_rest (λ x. key_lt k x.key ≡ true) (drop at (slot_rows s)) rows all))

-- ---- a row of the key

pub none_behind_next : (k : List ℕ) (n : ℕ) (rows : List RowEntry) (at : ℕ) (row : RowEntry) → at < length rows → NoneAbove (place k n) (drop at rows) → NoneAbove (place k n) (drop (at + 1) rows)
none_behind_next k n rows at row lt none = (subst (NoneAbove (place k n)) (drop_more rows at row lt) none).1

low_enough : (m n : ℕ) → is_gt (nat_cmp m n) ≡ false → nat_le m n ≡ true
low_enough m n h = grind (arith, nat_tests)

seq_seen : (k : List ℕ) (n : ℕ) (r : RowEntry) → is_gt (sequenced_cmp (place k n) (sequenced r)) ≡ false → bytes_eq r.key k ≡ true → nat_le r.seq n ≡ true
seq_seen k n r h same = by (key_cmp k r.key) refl h
  where
    by : (o : Ordering) → key_cmp k r.key ≡ o → is_gt (ordering_then o (nat_cmp r.seq n)) ≡ false → nat_le r.seq n ≡ true
    by Less e g = let clash : true ≡ false = sym same ∙ bytes_eq_above k r.key e in cc
    by Equal e g = low_enough r.seq n g
    by Greater e g = cc

-- the row at an index, where it counts and has the key, is the first that a reader sees of those from there on
pub newest_takes : (k : List ℕ) (n : ℕ) (s : Slot) (at : ℕ) (row : RowEntry) (left : List RowEntry) → at < length (slot_rows s) → row ≡ get_or (slot_rows s) at row → NoneAbove (place k n) (drop at (slot_rows s)) → bytes_eq row.key k ≡ true →
    rows_from s at ≡ row ∷ left → (rows : List RowEntry) → newest k n (rows_from s at ++ rows) ≡ cond (is_base row) (row ∷ []) (row ∷ newest k n (left ++ rows))
newest_takes k n s at row left lt is none same here rows =
    let first : is_gt (sequenced_cmp (place k n) (sequenced row)) ≡ false =
    ap (λ r. is_gt (sequenced_cmp (place k n) (sequenced r))) is ∙ (subst (NoneAbove (place k n)) (drop_more (slot_rows s) at row lt) none).0 in
    ap (λ xs. newest k n (xs ++ rows)) here ∙ takes_row k n row (left ++ rows) same (seq_seen k n row first same)

-- as far as a walk over a slot has come: what was found, and what is left
abbrev pub Sought : List ℕ → ℕ → Slot → List RowEntry → List RowEntry → ℕ → Type 0
Sought k n s before found at = (rows : List RowEntry) → found ++ newest k n (rows_from s at ++ rows) ≡ before ++ newest k n (rows_in s ++ rows)

pub sought_on : (k : List ℕ) (n : ℕ) (s : Slot) (before found : List RowEntry) (at : ℕ) → rows_from s at ≡ rows_from s (at + 1) → Sought k n s before found at → Sought k n s before found (at + 1)
sought_on k n s before found at same was rows = ap (λ xs. found ++ newest k n (xs ++ rows)) (sym same) ∙ was rows

pub sought_merge : (k : List ℕ) (n : ℕ) (s : Slot) (before found more : List RowEntry) (at : ℕ) (row : RowEntry) → at < length (slot_rows s) → row ≡ get_or (slot_rows s) at row → NoneAbove (place k n) (drop at (slot_rows s)) → bytes_eq row.key k ≡ true →
    rows_from s at ≡ row ∷ rows_from s (at + 1) → is_operand row ≡ true → more ≡ found ++ (row ∷ []) → Sought k n s before found at → Sought k n s before more (at + 1)
sought_merge k n s before found more at row lt is none same here merge adds was rows =
    let rest = newest k n (rows_from s (at + 1) ++ rows) in
    let takes = newest_takes k n s at row (rows_from s (at + 1)) lt is none same here rows ∙ ap (λ b. cond (not b) (row ∷ []) (row ∷ rest)) merge in
    ap (λ xs. xs ++ rest) adds ∙ append_assoc found (row ∷ []) rest ∙ ap (λ xs. found ++ xs) (sym takes) ∙ was rows

-- the row at an index is no merge, and the last one
pub sought_base : (k : List ℕ) (n : ℕ) (s : Slot) (before found more : List RowEntry) (at : ℕ) (row : RowEntry) → at < length (slot_rows s) → row ≡ get_or (slot_rows s) at row → NoneAbove (place k n) (drop at (slot_rows s)) → bytes_eq row.key k ≡ true →
    rows_from s at ≡ row ∷ rows_from s (at + 1) → is_operand row ≡ false → more ≡ found ++ (row ∷ []) → Sought k n s before found at → (rows : List RowEntry) → before ++ newest k n (rows_in s ++ rows) ≡ more
sought_base k n s before found more at row lt is none same here base adds was rows =
    let takes = newest_takes k n s at row (rows_from s (at + 1)) lt is none same here rows ∙ ap (λ b. cond (not b) (row ∷ []) (row ∷ newest k n (rows_from s (at + 1) ++ rows))) base in
    sym (was rows) ∙ ap (λ xs. found ++ xs) takes ∙ sym adds

pub sought_ends : (k : List ℕ) (n : ℕ) (s : Slot) (before found : List RowEntry) (at : ℕ) (row : RowEntry) → at < length (slot_rows s) → row ≡ get_or (slot_rows s) at row → NoneAbove (place k n) (drop at (slot_rows s)) → bytes_eq row.key k ≡ false → Sought k n s before found at →
    (rows : List RowEntry) → RowsRise (slot_rows s ++ rows) → before ++ newest k n (rows_in s ++ rows) ≡ found
sought_ends k n s before found at row lt is none other was rows rises = sym (was rows) ∙ ap (λ xs. found ++ xs) (newest_ends k n s at row lt is none other rows rises) ∙ append-nil found

pub sought_all : (k : List ℕ) (n : ℕ) (s : Slot) (before found : List RowEntry) (at : ℕ) → length (slot_rows s) ≤ at → Sought k n s before found at → (rows : List RowEntry) → before ++ newest k n (rows_in s ++ rows) ≡ found ++ newest k n rows
sought_all k n s before found at le was rows = sym (was rows) ∙ ap (λ xs. found ++ newest k n (xs ++ rows)) (rows_left s at le)

-- ---- slot by slot

rises_counted : (xs : List RowEntry) (ss : List Slot) → RowsRise (xs ++ all_slot_rows ss) → RowsRise (xs ++ standing ss)
rises_counted [] ss h = standing_rises ss h
rises_counted (x ∷ xs) ss h = (
  all_append (λ r. sequenced_cmp (sequenced x) (sequenced r) ≡ Less) xs (standing ss) (all_front (λ r. sequenced_cmp (sequenced x) (sequenced r) ≡ Less) xs (all_slot_rows ss) h.0)
      (standing_all (λ r. sequenced_cmp (sequenced x) (sequenced r) ≡ Less) ss (all_rest (λ r. sequenced_cmp (sequenced x) (sequenced r) ≡ Less) xs (all_slot_rows ss) h.0)),
  rises_counted xs ss h.1,
)

next_rises : (ss : List Slot) (at : ℕ) (s : Slot) → RowsRise (all_slot_rows ss) → at < length ss → s ≡ get_or ss at s → RowsRise (slot_rows s ++ standing (drop (suc at) ss))
next_rises [] at s h lt is = absurd (omega (arith, lt))
next_rises (t ∷ ss) zero s h lt is = subst (λ x. RowsRise (slot_rows x ++ standing ss)) (sym is) (rises_counted (slot_rows t) ss h)
next_rises (t ∷ ss) (suc at) s h lt is = next_rises ss at s (rest_rises (slot_rows t) (all_slot_rows ss) h) (omega (arith, lt)) is

-- rows of a slot, and those that count behind it
pub slot_rises : (ss : List Slot) (at : ℕ) (s : Slot) → RowsRise (all_slot_rows ss) → at < length ss → s ≡ get_or ss at s → RowsRise (slot_rows s ++ standing (drop (at + 1) ss))
slot_rises ss at s h lt is = subst (λ n. RowsRise (slot_rows s ++ standing (drop n ss))) (sym (add-one at)) (next_rises ss at s h lt is)

pub slots_begin : (k : List ℕ) (n : ℕ) (ss : List Slot) (at : ℕ) → IsSlotFor (place k n) ss at → newest k n (standing (drop at ss)) ≡ newest k n (standing ss)
slots_begin k n ss at first =
    sym (ap (newest k n) (joined_split rows_in ss at)
    ∙ newest_behind k n (standing (take at ss)) (standing (drop at ss)) (standing_all (λ r. sequenced_cmp (place k n) (sequenced r) ≡ Greater) (take at ss) first.before))

pub slots_on : (k : List ℕ) (n : ℕ) (ss : List Slot) (at : ℕ) (s : Slot) (found more all : List RowEntry) → at < length ss → s ≡ get_or ss at s → ((rows : List RowEntry) → found ++ newest k n (rows_in s ++ rows) ≡ more ++ newest k n rows) →
    found ++ newest k n (standing (drop at ss)) ≡ all → more ++ newest k n (standing (drop (at + 1) ss)) ≡ all
slots_on k n ss at s found more all lt is on was = sym (on (standing (drop (at + 1) ss))) ∙ ap (λ xs. found ++ newest k n xs) (sym (joined_drop rows_in ss at s lt is)) ∙ was

pub slots_end : (k : List ℕ) (n : ℕ) (ss : List Slot) (at : ℕ) (s : Slot) (found more all : List RowEntry) → IsSlots ss → at < length ss → s ≡ get_or ss at s →
    ((rows : List RowEntry) → RowsRise (slot_rows s ++ rows) → found ++ newest k n (rows_in s ++ rows) ≡ more) → found ++ newest k n (standing (drop at ss)) ≡ all → more ≡ all
slots_end k n ss at s found more all w lt is ends was = sym (ends (standing (drop (at + 1) ss)) (slot_rises ss at s w.rises lt is)) ∙ ap (λ xs. found ++ newest k n xs) (sym (joined_drop rows_in ss at s lt is)) ∙ was

pub slots_all : (k : List ℕ) (n : ℕ) (ss : List Slot) (at : ℕ) (found all : List RowEntry) → length ss ≤ at → found ++ newest k n (standing (drop at ss)) ≡ all → found ≡ all
slots_all k n ss at found all le was = sym (append-nil found) ∙ ap (λ ts. found ++ newest k n (standing ts)) (sym (drop_all at ss le)) ∙ was
