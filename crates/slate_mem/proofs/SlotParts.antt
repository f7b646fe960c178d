-- What of slots is in a range: a part of a slot, and the walk over those of the range.
use Rattle.std.proofs.Common.{◌≡◌, ℕ, zero, suc, add-one, ◌+◌, ◌-◌, ◌^◌, ◌<◌, ◌≤◌, Bool, true, false, cond, not, ◌&&◌, ◌==◌, nat_le, List, [], ◌∷◌, ◌++◌, append_assoc, append-nil, get_or, filter, length, take, drop, Option, Some, None, slice_get, refl, sym, ap, subst, ◌∙◌, arith, Less}
use Rattle.std.specs.List.{AllByRecursion}
use Rattle.std.specs.declared.ops.Bound.{Bound}
use Rattle.std.specs.declared.ops.Bound.TheVariants.{Included, Excluded, Unbounded}
use Rattle.std.proofs.lemmas.Bool.Decides.{nat_tests}
use Rattle.std.proofs.lemmas.List.{drop_all}
use Rattle.slate_types.specs.declared.bytes_range.BytesRange.{BytesRange}
use Rattle.slate_types.specs.declared.types.RowEntry.{RowEntry}
use Rattle.slate_types.specs.Keys.{key_cmp, key_le, key_lt, in_range, is_before_end, is_past_start}
use Rattle.slate_types.specs.Rows.{sequenced, sequenced_cmp}
use Rattle.slate_types.proofs.KeyOrder.{le_lt_trans, lt_irreflexive, lt_le_trans, not_le, not_lt}
use Rattle.slate_types.proofs.Plain.{both_true}
use Rattle.slate_mem.specs.declared.slots.Slot.{Slot}
use Rattle.slate_mem.specs.Slots.{AreBehind, IsFilled, IsFirst, IsFirstSlot, IsSlots, NoneLater, RowsRise, all_slot_rows, kept_from, rows_in, slot_rows, standing}
use Rattle.slate_mem.proofs.SlotLaws.{all_append, all_at, all_each, all_front, all_rest, filled_at, front_rises, joined_append, joined_drop, joined_on, kept_all, rest_rises, standing_all}
use Rattle.slate_mem.proofs.SlotReads.{all_two, keys_rise, none_seen, out_behind, past_end, range_begins, range_on, seen_in}

-- ---- a slot within a range

pub both_hold : (b c : Bool) → b ≡ true → c ≡ true → (b && c) ≡ true
both_hold true c h g = g
both_hold false c h g = h

-- a key behind one that is past the start is past it
past_start : (start : Bound (List ℕ)) (a b : List ℕ) → key_lt b a ≡ false → is_past_start start a ≡ true → is_past_start start b ≡ true
past_start (Included s) a b order past = by (key_le s b) refl
  where
    by : (t : Bool) → key_le s b ≡ t → t ≡ true
    by true is = refl
    by false is = let clash : true ≡ false = sym (lt_le_trans b s a (not_le s b is) past) ∙ order in cc
past_start (Excluded s) a b order past = lt_le_trans s a b past (not_lt b a order)
past_start Unbounded a b order past = refl

before_end : (end : Bound (List ℕ)) (a b : List ℕ) → key_lt b a ≡ false → is_before_end end b ≡ true → is_before_end end a ≡ true
before_end end a b order before = by (is_before_end end a) refl
  where
    by : (t : Bool) → is_before_end end a ≡ t → t ≡ true
    by true is = refl
    by false is = let clash : true ≡ false = sym before ∙ past_end end a b order is in cc

not_below_itself : (k : List ℕ) → key_lt k k ≡ false
not_below_itself k = by (key_lt k k) refl
  where
    by : (t : Bool) → key_lt k k ≡ t → t ≡ false
    by true is = lt_irreflexive k is
    by false is = refl

-- no row stands behind the last one
none_past : (rows : List RowEntry) (n : ℕ) (d : RowEntry) → RowsRise rows → length rows ≤ suc n → n < length rows → AllByRecursion (λ r. key_lt (get_or rows n d).key r.key ≡ false) rows
none_past [] n d rises le lt = tt
none_past (r ∷ []) zero d rises le lt = (not_below_itself r.key, tt)
none_past (r ∷ s ∷ rs) zero d rises le lt = absurd (omega (arith, le))
none_past (r ∷ rs) (suc n) d rises le lt =
    let within : n < length rs = omega (arith, lt) in
    (keys_rise r (get_or rs n d) (all_at (λ x. sequenced_cmp (sequenced r) (sequenced x) ≡ Less) rs rises.0 n d within), none_past rs n d rises.1 (omega (arith, le)) within)

none_past_last : (rows : List RowEntry) (last : RowEntry) → RowsRise rows → 0 < length rows → get_or rows (length rows - 1) last ≡ last → AllByRecursion (λ r. key_lt last.key r.key ≡ false) rows
none_past_last rows last rises some is =
    subst (λ (l : RowEntry). AllByRecursion (λ r. key_lt l.key r.key ≡ false) rows) is (none_past rows (length rows - 1) last rises (omega (arith, some)) (omega (arith, some)))

-- where its first and its last key are in the range, all are
pub all_within : (range : BytesRange) (rows : List RowEntry) (first last : RowEntry) → RowsRise rows → 0 < length rows → get_or rows 0 first ≡ first → get_or rows (length rows - 1) last ≡ last →
    in_range range first.key ≡ true → in_range range last.key ≡ true → AllByRecursion (λ r. in_range range r.key ≡ true) rows
all_within range [] first last rises some is_first is_last begins ends = tt
all_within range (r ∷ rs) first last rises some is_first is_last begins ends =
    let first_in = both_true (is_past_start range.start first.key) (is_before_end range.end first.key) begins in
    let last_in = both_true (is_past_start range.start last.key) (is_before_end range.end last.key) ends in
    let start : is_past_start range.start r.key ≡ true = ap (λ (x : RowEntry). is_past_start range.start x.key) is_first ∙ first_in.0 in
    let past : AllByRecursion (λ x. is_past_start range.start x.key ≡ true) (r ∷ rs) =
    (start, all_each (λ x. sequenced_cmp (sequenced r) (sequenced x) ≡ Less) (λ x. is_past_start range.start x.key ≡ true) (λ x less. past_start range.start r.key x.key (keys_rise r x less) start) rs rises.0) in
    let before : AllByRecursion (λ x. is_before_end range.end x.key ≡ true) (r ∷ rs) =
    all_each (λ x. key_lt last.key x.key ≡ false) (λ x. is_before_end range.end x.key ≡ true) (λ x h. before_end range.end x.key last.key h last_in.1) (r ∷ rs) (none_past_last (r ∷ rs) last rises some is_last) in
    all_two (λ x. is_past_start range.start x.key ≡ true) (λ x. is_before_end range.end x.key ≡ true) (λ x. in_range range x.key ≡ true)
    (λ x p q. both_hold (is_past_start range.start x.key) (is_before_end range.end x.key) p q) (r ∷ rs) past before

all_kept : (p : RowEntry → Bool) (rows : List RowEntry) → AllByRecursion (λ r. p r ≡ true) rows → filter p rows ≡ rows
all_kept p [] h = refl
all_kept p (r ∷ rs) h = ap (λ b. cond b (r ∷ filter p rs) (filter p rs)) h.0 ∙ ap (λ ys. r ∷ ys) (all_kept p rs h.1)

upto_is : (m last n : ℕ) → m ≤ last → last ≤ n → nat_le m n ≡ true
upto_is m last n le few = grind (arith, nat_tests)

-- where all keys are in the range, and no sequence is above, all rows count that counted
pub whole_part : (range : BytesRange) (n last : ℕ) (s : Slot) → last ≤ n → NoneLater last (rows_in s) → AllByRecursion (λ r. in_range range r.key ≡ true) (slot_rows s) → rows_in s ≡ filter (seen_in range n) (rows_in s)
whole_part range n last s few low all =
    sym (all_kept (seen_in range n) (rows_in s)
    (all_two (λ r. in_range range r.key ≡ true) (λ r. r.seq ≤ last) (λ r. seen_in range n r ≡ true)
    (λ r p q. both_hold (in_range range r.key) (nat_le r.seq n) p (upto_is r.seq last n q few)) (rows_in s)
    (kept_all (λ r. in_range range r.key ≡ true) s.gone 0 (slot_rows s) all) low))

-- ---- the walk over the slots of a range

abbrev pub ArePast : BytesRange → List RowEntry → Type 0
ArePast range rows = AllByRecursion (λ r. is_past_start range.start r.key ≡ true) rows

-- as far as it has come
pub record Ranged (range : BytesRange) (n : ℕ) (ss found : List Slot) (at : ℕ) : Type 0 where
  pub later : ArePast range (all_slot_rows (drop (at + 1) ss))
  pub begun : 0 < length found → ArePast range (all_slot_rows (drop at ss))
  pub rows : standing found ++ filter (seen_in range n) (standing (drop at ss)) ≡ filter (seen_in range n) (standing ss)
  pub filled : AllByRecursion IsFilled found
  pub rises : RowsRise (all_slot_rows found ++ all_slot_rows (drop at ss))

drop_rises : (ss : List Slot) (i : ℕ) → RowsRise (all_slot_rows ss) → RowsRise (all_slot_rows (drop i ss))
drop_rises ss zero h = h
drop_rises [] (suc i) h = tt
drop_rises (s ∷ ss) (suc i) h = drop_rises ss i (rest_rises (slot_rows s) (all_slot_rows ss) h)

pub ranged_none : (range : BytesRange) (n : ℕ) (ss : List Slot) (at : ℕ) → IsSlots ss → IsFirstSlot range.start ss at → Ranged range n ss [] at
ranged_none range n ss at w first =
    record {
      later = first.behind;
      begun = λ some. absurd (omega (arith, some));
      rows = range_begins range n ss at first;
      filled = tt;
      rises = drop_rises ss at w.rises;
    }

past_next : (range : BytesRange) (ss : List Slot) (i : ℕ) → ArePast range (all_slot_rows (drop i ss)) → ArePast range (all_slot_rows (drop (suc i) ss))
past_next range [] zero h = tt
past_next range [] (suc i) h = tt
past_next range (s ∷ ss) zero h = all_rest (λ r. is_past_start range.start r.key ≡ true) (slot_rows s) (all_slot_rows ss) h
past_next range (s ∷ ss) (suc i) h = past_next range ss i h

past_behind : (range : BytesRange) (ss : List Slot) (i : ℕ) → ArePast range (all_slot_rows (drop i ss)) → ArePast range (all_slot_rows (drop (i + 1) ss))
past_behind range ss i h = subst (λ n. ArePast range (all_slot_rows (drop n ss))) (sym (add-one i)) (past_next range ss i h)

-- a slot with rows of another one
filled_as : (s t : Slot) → slot_rows t ≡ slot_rows s → IsFilled s → IsFilled t
filled_as s t same h =
    let count : length (slot_rows t) ≡ length (slot_rows s) = ap length same in
    record { some = omega (arith, h.some, count); few = omega (arith, h.few, count); fits = subst (NoneLater (2 ^ 64 - 1)) (sym same) h.fits }

pub ranged_on : (range : BytesRange) (n : ℕ) (ss found : List Slot) (at : ℕ) (s cut : Slot) → IsSlots ss → at < length ss → s ≡ get_or ss at s → slot_rows cut ≡ slot_rows s → rows_in cut ≡ filter (seen_in range n) (rows_in s) →
    Ranged range n ss found at → Ranged range n ss (found ++ (cut ∷ [])) (at + 1)
ranged_on range n ss found at s cut w lt is stored rows was =
    record {
      later = past_behind range ss (at + 1) was.later;
      begun = λ some. was.later;
      rows = range_on range n ss at s cut found (filter (seen_in range n) (standing ss)) lt is rows was.rows;
      filled = all_append IsFilled found (cut ∷ []) was.filled (filled_as s cut stored (filled_at ss at s w lt is), tt);
      rises = subst RowsRise (sym (joined_on slot_rows ss at s (all_slot_rows found) (all_slot_rows (found ++ (cut ∷ []))) (all_slot_rows found ++ all_slot_rows (drop at ss)) lt is
          (joined_append slot_rows found (cut ∷ []) ∙ ap (λ rs. all_slot_rows found ++ rs) (append-nil (slot_rows cut) ∙ stored)) refl)) was.rises;
    }

-- all slots of the range were found
pub record IsRanged (range : BytesRange) (n : ℕ) (ss found : List Slot) : Type 0 where
  pub rows : standing found ≡ filter (seen_in range n) (standing ss)
  pub slots : IsSlots found

ends : (range : BytesRange) (n : ℕ) (ss found : List Slot) (at : ℕ) → filter (seen_in range n) (standing (drop at ss)) ≡ [] → Ranged range n ss found at → IsRanged range n ss found
ends range n ss found at none was =
    record {
      rows = sym (append-nil (standing found)) ∙ ap (λ rs. standing found ++ rs) (sym none) ∙ was.rows;
      slots = record { filled = was.filled; rises = front_rises (all_slot_rows found) (all_slot_rows (drop at ss)) was.rises };
    }

pub ranged_all : (range : BytesRange) (n : ℕ) (ss found : List Slot) (at : ℕ) → length ss ≤ at → Ranged range n ss found at → IsRanged range n ss found
ranged_all range n ss found at le was = ends range n ss found at (ap (λ ts. filter (seen_in range n) (standing ts)) (drop_all at ss le)) was

out_of : (range : BytesRange) (k : List ℕ) → is_past_start range.start k ≡ true → in_range range k ≡ false → is_before_end range.end k ≡ false
out_of range k past out = sym (ap (λ b. b && is_before_end range.end k) past) ∙ out

-- rows past the start, of which the first is out of the range
none_within : (range : BytesRange) (rows more : List RowEntry) → 0 < length rows → RowsRise (rows ++ more) → ArePast range (rows ++ more) → IsFirst rows (λ r. in_range range r.key ≡ false) → AllByRecursion (λ r. in_range range r.key ≡ false) (rows ++ more)
none_within range [] more some rises past out = absurd (omega (arith, some))
none_within range (r ∷ rs) more some rises past out = out_behind range r (rs ++ more) rises.0 (out_of range r.key past.0 out)

pub ranged_ends : (range : BytesRange) (n : ℕ) (ss found : List Slot) (at : ℕ) (s : Slot) → IsSlots ss → at < length ss → s ≡ get_or ss at s → 0 < length found → IsFirst (slot_rows s) (λ r. in_range range r.key ≡ false) → Ranged range n ss found at → IsRanged range n ss found
ranged_ends range n ss found at s w lt is some out was =
    let here : all_slot_rows (drop at ss) ≡ slot_rows s ++ all_slot_rows (drop (at + 1) ss) = joined_drop slot_rows ss at s lt is in
    let rises = subst RowsRise here (rest_rises (all_slot_rows found) (all_slot_rows (drop at ss)) was.rises) in
    let past = subst (ArePast range) here (was.begun some) in
    let none = none_within range (slot_rows s) (all_slot_rows (drop (at + 1) ss)) (filled_at ss at s w lt is).some rises past out in
    ends range n ss found at
    (none_seen range n (standing (drop at ss)) (standing_all (λ r. in_range range r.key ≡ false) (drop at ss) (subst (AllByRecursion (λ r. in_range range r.key ≡ false)) (sym here) none))) was

-- ---- one row of a slot, and one slot

pub first_is : (range : BytesRange) (rows : List RowEntry) (row : RowEntry) (b : Bool) → 0 < length rows → row ≡ get_or rows 0 row → in_range range row.key ≡ b → IsFirst rows (λ r. in_range range r.key ≡ b)
first_is range [] row b some is h = absurd (omega (arith, some))
first_is range (r ∷ rs) row b some is h = ap (λ (x : RowEntry). in_range range x.key) (sym is) ∙ h

pub some_found : (n : ℕ) (b : Bool) → b ≡ (n == 0) → b ≡ false → 0 < n
some_found zero b is h = let clash : true ≡ false = sym is ∙ h in cc
some_found (suc n) b is h = omega arith

pub all_in : (P : RowEntry → Type 0) (ss : List Slot) (m : ℕ) (s : Slot) → AllByRecursion P (standing ss) → m < length ss → s ≡ get_or ss m s → AllByRecursion P (rows_in s)
all_in P [] m s h lt is = absurd (omega (arith, lt))
all_in P (t ∷ ss) zero s h lt is = subst (λ x. AllByRecursion P (rows_in x)) (sym is) (all_front P (rows_in t) (standing ss) h)
all_in P (t ∷ ss) (suc m) s h lt is = all_in P ss m s (all_rest P (rows_in t) (standing ss) h) (omega (arith, lt)) is

-- ---- whether a row counts

front_none : (xs ys : List RowEntry) → xs ++ ys ≡ [] → xs ≡ []
front_none [] ys h = refl
front_none (x ∷ xs) ys h = cc

pub some_standing : (ss : List Slot) (i : ℕ) (s : Slot) → i < length ss → s ≡ get_or ss i s → (rows_in s ≡ [] → ⊥) → standing ss ≡ standing (drop i ss) → standing ss ≡ [] → ⊥
some_standing ss i s lt is some was none = some (front_none (rows_in s) (standing (drop (i + 1) ss)) (sym (joined_drop rows_in ss i s lt is) ∙ sym was ∙ none))

pub none_standing : (ss : List Slot) (i : ℕ) (s : Slot) → i < length ss → s ≡ get_or ss i s → rows_in s ≡ [] → standing ss ≡ standing (drop i ss) → standing ss ≡ standing (drop (i + 1) ss)
none_standing ss i s lt is none was = was ∙ joined_drop rows_in ss i s lt is ∙ ap (λ xs. xs ++ standing (drop (i + 1) ss)) none

pub nothing_left : (ss : List Slot) (i : ℕ) → length ss ≤ i → standing (drop i ss) ≡ []
nothing_left ss i le = ap standing (drop_all i ss le)
