-- Reads of rows in slots: where a range begins, and the rows of a key.
use Rattle.std.proofs.Common.{◌≡◌, ℕ, zero, suc, ◌+◌, ◌-◌, ◌^◌, ◌<◌, ◌≤◌, Bool, true, false, cond, not, ◌&&◌, bytes_eq, nat_le, List, [], ◌∷◌, ◌++◌, append_assoc, append-nil, get_or, filter, length, take, drop, refl, sym, ap, subst, ◌∙◌, arith, Ordering, Less, Equal, Greater}
use Rattle.std.specs.List.{AllByRecursion}
use Rattle.std.specs.Ordering.{is_le, is_lt, nat_cmp, ordering_then, ordering_reverse}
use Rattle.std.specs.declared.ops.Bound.{Bound}
use Rattle.std.specs.declared.ops.Bound.TheVariants.{Included, Excluded, Unbounded}
use Rattle.std.proofs.lemmas.Bool.Decides.{nat_tests}
use Rattle.std.proofs.lemmas.List.Elements.{filter-append}
use Rattle.slate_types.specs.declared.bytes_range.BytesRange.{BytesRange}
use Rattle.slate_types.specs.declared.types.RowEntry.{RowEntry}
use Rattle.slate_types.specs.declared.sequenced_key.SequencedKey.{SequencedKey}
use Rattle.slate_types.specs.Keys.{key_cmp, key_le, key_lt, in_range, is_before_end, is_past_start}
use Rattle.slate_types.specs.Rows.{sequenced, sequenced_cmp}
use Rattle.slate_types.proofs.KeyOrder.{bytes_eq_above, bytes_eq_below, le_lt_trans, not_le, not_lt_trans, turned_key}
use Rattle.slate_mem.specs.declared.slots.Slot.{Slot}
use Rattle.slate_mem.specs.Slots.{AreBefore, IsFirstSlot, AreBehind, IsFilled, IsSlotFor, IsSlots, NoneLater, all_slot_rows, rows_in, slot_rows, standing}
use Rattle.slate_mem.specs.Table.{newest, to_base, up_to}
use Rattle.slate_mem.proofs.SlotLaws.{all_append, all_each, all_front, all_rest, joined_append, joined_drop, joined_split, standing_all}
use Rattle.slate_mem.proofs.OrderLaws.{not_below}

abbrev pub place : List ℕ → ℕ → SequencedKey
place k n = record { user_key = k; seq = n }

-- ---- numbers

above : (m n : ℕ) → nat_cmp m n ≡ Greater → n < m
above m n h = grind (arith, nat_tests, h)

below : (m n : ℕ) → nat_cmp m n ≡ Less → m < n
below m n h = grind (arith, nat_tests, h)

no_less : (m n : ℕ) → n < m → nat_le m n ≡ false
no_less m n h = grind (arith, nat_tests)

pub all_two : {X : Type 0} (P Q R : X → Type 0) → ((x : X) → P x → Q x → R x) → (xs : List X) → AllByRecursion P xs → AllByRecursion Q xs → AllByRecursion R xs
all_two P Q R f [] p q = tt
all_two P Q R f (x ∷ xs) p q = (f x p.0 q.0, all_two P Q R f xs p.1 q.1)

-- ---- where a range begins

not_past_included : (k : List ℕ) (r : RowEntry) → sequenced_cmp (place k (2 ^ 64 - 1)) (sequenced r) ≡ Greater → r.seq ≤ 2 ^ 64 - 1 → key_le k r.key ≡ false
not_past_included k r h fits = by (key_cmp k r.key) refl h
  where
    by : (o : Ordering) → key_cmp k r.key ≡ o → ordering_then o (nat_cmp r.seq (2 ^ 64 - 1)) ≡ Greater → key_le k r.key ≡ false
    by Less e g = cc
    by Equal e g = absurd (omega (arith, above r.seq (2 ^ 64 - 1) g, fits))
    by Greater e g = ap is_le e

past_included : (k : List ℕ) (n : ℕ) (r : RowEntry) → sequenced_cmp (place k n) (sequenced r) ≡ Less → key_le k r.key ≡ true
past_included k n r h = by (key_cmp k r.key) refl h
  where
    by : (o : Ordering) → key_cmp k r.key ≡ o → ordering_then o (nat_cmp r.seq n) ≡ Less → key_le k r.key ≡ true
    by Less e g = ap is_le e
    by Equal e g = ap is_le e
    by Greater e g = cc

not_past_excluded : (k : List ℕ) (n : ℕ) (r : RowEntry) → sequenced_cmp (place k n) (sequenced r) ≡ Greater → key_lt k r.key ≡ false
not_past_excluded k n r h = by (key_cmp k r.key) refl h
  where
    by : (o : Ordering) → key_cmp k r.key ≡ o → ordering_then o (nat_cmp r.seq n) ≡ Greater → key_lt k r.key ≡ false
    by Less e g = cc
    by Equal e g = ap is_lt e
    by Greater e g = ap is_lt e

past_excluded : (k : List ℕ) (r : RowEntry) → sequenced_cmp (place k 0) (sequenced r) ≡ Less → key_lt k r.key ≡ true
past_excluded k r h = by (key_cmp k r.key) refl h
  where
    by : (o : Ordering) → key_cmp k r.key ≡ o → ordering_then o (nat_cmp r.seq 0) ≡ Less → key_lt k r.key ≡ true
    by Less e g = ap is_lt e
    by Equal e g = absurd (omega (arith, below r.seq 0 g))
    by Greater e g = cc

all_fit : (ss : List Slot) (i : ℕ) → AllByRecursion IsFilled ss → NoneLater (2 ^ 64 - 1) (all_slot_rows (take i ss))
all_fit ss zero h = tt
all_fit [] (suc i) h = tt
all_fit (s ∷ ss) (suc i) h = all_append (λ r. r.seq ≤ 2 ^ 64 - 1) (slot_rows s) (all_slot_rows (take i ss)) h.0.fits (all_fit ss i h.1)

pub begins_included : (k : List ℕ) (ss : List Slot) (i : ℕ) → IsSlots ss → IsSlotFor (place k (2 ^ 64 - 1)) ss i → IsFirstSlot (Included k) ss i
begins_included k ss i w at =
    record {
      before = all_two (λ r. sequenced_cmp (place k (2 ^ 64 - 1)) (sequenced r) ≡ Greater) (λ r. r.seq ≤ 2 ^ 64 - 1) (λ r. key_le k r.key ≡ false) (not_past_included k) (all_slot_rows (take i ss)) at.before (all_fit ss i w.filled);
      behind = all_each (λ r. sequenced_cmp (place k (2 ^ 64 - 1)) (sequenced r) ≡ Less) (λ r. key_le k r.key ≡ true) (past_included k (2 ^ 64 - 1)) (all_slot_rows (drop (i + 1) ss)) at.behind;
    }

pub begins_excluded : (k : List ℕ) (ss : List Slot) (i : ℕ) → IsSlotFor (place k 0) ss i → IsFirstSlot (Excluded k) ss i
begins_excluded k ss i at =
    record {
      before = all_each (λ r. sequenced_cmp (place k 0) (sequenced r) ≡ Greater) (λ r. key_lt k r.key ≡ false) (not_past_excluded k 0) (all_slot_rows (take i ss)) at.before;
      behind = all_each (λ r. sequenced_cmp (place k 0) (sequenced r) ≡ Less) (λ r. key_lt k r.key ≡ true) (past_excluded k) (all_slot_rows (drop (i + 1) ss)) at.behind;
    }

all_true : (rows : List RowEntry) → AllByRecursion (λ r. true ≡ true) rows
all_true [] = tt
all_true (r ∷ rs) = (refl, all_true rs)

pub begins_open : (ss : List Slot) → IsFirstSlot Unbounded ss 0
begins_open ss = record { before = tt; behind = all_true (all_slot_rows (drop 1 ss)) }

-- ---- the rows of a key

both_false : (b c : Bool) → c ≡ false → (b && c) ≡ false
both_false true c h = h
both_false false c h = refl

passed : (k : List ℕ) (n : ℕ) (r : RowEntry) → sequenced_cmp (place k n) (sequenced r) ≡ Greater → (bytes_eq r.key k && nat_le r.seq n) ≡ false
passed k n r h = by (key_cmp k r.key) refl h
  where
    by : (o : Ordering) → key_cmp k r.key ≡ o → ordering_then o (nat_cmp r.seq n) ≡ Greater → (bytes_eq r.key k && nat_le r.seq n) ≡ false
    by Less e g = cc
    by Equal e g = both_false (bytes_eq r.key k) (nat_le r.seq n) (no_less r.seq n (above r.seq n g))
    by Greater e g = ap (λ b. b && nat_le r.seq n) (bytes_eq_below r.key k (turned_key r.key k ∙ ap ordering_reverse e))

-- rows in front of the place of a key with a sequence are none of those that a reader at it sees
pub newest_behind : (k : List ℕ) (n : ℕ) (before rows : List RowEntry) → AreBefore (place k n) before → newest k n (before ++ rows) ≡ newest k n rows
newest_behind k n before rows h = ap to_base (by before h)
  where
    by : (rs : List RowEntry) → AreBefore (place k n) rs → up_to k n (rs ++ rows) ≡ up_to k n rows
    by [] h = refl
    by (r ∷ rs) h = ap (λ b. cond b (r ∷ up_to k n (rs ++ rows)) (up_to k n (rs ++ rows))) (passed k n r h.0) ∙ by rs h.1

other_key : (k : List ℕ) (n : ℕ) (r : RowEntry) → key_lt k r.key ≡ true → (bytes_eq r.key k && nat_le r.seq n) ≡ false
other_key k n r h = ap (λ b. b && nat_le r.seq n) (bytes_eq_above k r.key (by (key_cmp k r.key) h))
  where
    by : (o : Ordering) → is_lt o ≡ true → o ≡ Less
    by Less g = refl
    by Equal g = cc
    by Greater g = cc

-- rows with greater keys are none either
pub none_above : (k : List ℕ) (n : ℕ) (rows : List RowEntry) → AllByRecursion (λ r. key_lt k r.key ≡ true) rows → newest k n rows ≡ []
none_above k n rows h = ap to_base (by rows h)
  where
    by : (rs : List RowEntry) → AllByRecursion (λ r. key_lt k r.key ≡ true) rs → up_to k n rs ≡ []
    by [] h = refl
    by (r ∷ rs) h = ap (λ b. cond b (r ∷ up_to k n rs) (up_to k n rs)) (other_key k n r h.0) ∙ by rs h.1

-- ---- the slots of a range

abbrev pub seen_in : BytesRange → ℕ → RowEntry → Bool
seen_in range n r = in_range range r.key && nat_le r.seq n

-- a key behind one that is past the end is past it
pub past_end : (end : Bound (List ℕ)) (a b : List ℕ) → key_lt b a ≡ false → is_before_end end a ≡ false → is_before_end end b ≡ false
past_end (Included e) a b order past = by (key_le b e) refl
  where
    by : (t : Bool) → key_le b e ≡ t → t ≡ false
    by true is = let clash : true ≡ false = sym (le_lt_trans b e a is (not_le a e past)) ∙ order in cc
    by false is = refl
past_end (Excluded e) a b order past = not_lt_trans b a e order past
past_end Unbounded a b order past = cc

not_seen : (range : BytesRange) (n : ℕ) (r : RowEntry) → in_range range r.key ≡ false → seen_in range n r ≡ false
not_seen range n r h = ap (λ b. b && nat_le r.seq n) h

pub none_seen : (range : BytesRange) (n : ℕ) (rows : List RowEntry) → AllByRecursion (λ r. in_range range r.key ≡ false) rows → filter (seen_in range n) rows ≡ []
none_seen range n [] h = refl
none_seen range n (r ∷ rs) h = ap (λ b. cond b (r ∷ filter (seen_in range n) rs) (filter (seen_in range n) rs)) (not_seen range n r h.0) ∙ none_seen range n rs h.1

-- no row in front of the first slot of a range is seen
pub none_in_front : (range : BytesRange) (n : ℕ) (ss : List Slot) (i : ℕ) → IsFirstSlot range.start ss i → filter (seen_in range n) (standing (take i ss)) ≡ []
none_in_front range n ss i first =
    none_seen range n (standing (take i ss))
    (all_each (λ r. is_past_start range.start r.key ≡ false) (λ r. in_range range r.key ≡ false) (λ r h. ap (λ b. b && is_before_end range.end r.key) h) (standing (take i ss))
    (standing_all (λ r. is_past_start range.start r.key ≡ false) (take i ss) first.before))

pub range_begins : (range : BytesRange) (n : ℕ) (ss : List Slot) (i : ℕ) → IsFirstSlot range.start ss i → filter (seen_in range n) (standing (drop i ss)) ≡ filter (seen_in range n) (standing ss)
range_begins range n ss i first =
    ap (λ rs. rs ++ filter (seen_in range n) (standing (drop i ss))) (sym (none_in_front range n ss i first))
    ∙ sym (filter-append (seen_in range n) (standing (take i ss)) (standing (drop i ss)))
    ∙ ap (filter (seen_in range n)) (sym (joined_split rows_in ss i))

pub range_on : (range : BytesRange) (n : ℕ) (ss : List Slot) (i : ℕ) (s cut : Slot) (found : List Slot) (all : List RowEntry) → i < length ss → s ≡ get_or ss i s → rows_in cut ≡ filter (seen_in range n) (rows_in s) →
    standing found ++ filter (seen_in range n) (standing (drop i ss)) ≡ all → standing (found ++ (cut ∷ [])) ++ filter (seen_in range n) (standing (drop (i + 1) ss)) ≡ all
range_on range n ss i s cut found all lt is rows was =
    let rest = filter (seen_in range n) (standing (drop (i + 1) ss)) in
    ap (λ rs. rs ++ rest) (joined_append rows_in found (cut ∷ []) ∙ ap (λ rs. standing found ++ rs) (append-nil (rows_in cut) ∙ rows))
    ∙ append_assoc (standing found) (filter (seen_in range n) (rows_in s)) rest
    ∙ ap (λ rs. standing found ++ rs) (sym (filter-append (seen_in range n) (rows_in s) (standing (drop (i + 1) ss))) ∙ ap (filter (seen_in range n)) (sym (joined_drop rows_in ss i s lt is)))
    ∙ was

-- where a slot behind the first begins out of the range, neither its rows nor those behind it are seen
pub keys_rise : (r x : RowEntry) → sequenced_cmp (sequenced r) (sequenced x) ≡ Less → key_lt x.key r.key ≡ false
keys_rise r x h = ap is_lt (turned_key x.key r.key) ∙ not_below (key_cmp r.key x.key) (nat_cmp x.seq r.seq) h

pub out_behind : (range : BytesRange) (r : RowEntry) (rows : List RowEntry) → AreBehind (sequenced r) rows → is_before_end range.end r.key ≡ false → AllByRecursion (λ x. in_range range x.key ≡ false) (r ∷ rows)
out_behind range r rows behind past = (
  both_false (is_past_start range.start r.key) (is_before_end range.end r.key) past,
  all_each (λ x. sequenced_cmp (sequenced r) (sequenced x) ≡ Less) (λ x. in_range range x.key ≡ false)
      (λ x h. both_false (is_past_start range.start x.key) (is_before_end range.end x.key) (past_end range.end r.key x.key (keys_rise r x h) past)) rows behind,
)
