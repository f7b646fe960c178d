-- Rows in slots rise, so that they are in order, and in turn.
use Rattle.std.proofs.Common.{◌≡◌, ℕ, ◌+◌, ◌-◌, ◌^◌, ◌<◌, ◌≤◌, Bool, true, false, cond, List, [], ◌∷◌, ◌++◌, map, Option, refl, sym, ap, subst, ◌∙◌, arith, Less}
use Rattle.std.specs.List.{AllByRecursion}
use Rattle.std.specs.List.Sorted.{IsStrictlySortedBy}
use Rattle.std.specs.Map.{keys_of, values_of}
use Rattle.std.specs.Ordering.{is_lt, nat_cmp}
use Rattle.slate_types.specs.declared.types.RowEntry.{RowEntry}
use Rattle.slate_types.specs.declared.iter.IterationOrder.TheVariants.{Ascending}
use Rattle.slate_types.specs.Iteration.{IsInOrder, NoneBefore}
use Rattle.slate_types.specs.Keys.{key_cmp}
use Rattle.slate_types.specs.Rows.{sequenced, sequenced_cmp}
use Rattle.slate_types.proofs.KeyOrder.{turned_key}
use Rattle.slate_mem.specs.declared.slots.Slot.{Slot}
use Rattle.slate_mem.specs.Slots.{AreBehind, IsFilled, IsSlots, NoneLater, RowsRise, all_slot_rows, is_gone, kept_from, rows_in, standing, slot_rows}
use Rattle.slate_mem.specs.Tied.{IsRows, TableEntries}
use Rattle.slate_mem.proofs.OrderLaws.{not_below}
use Rattle.slate_mem.proofs.SlotLaws.{all_append, all_each, all_front, all_rest, kept_all, rest_rises, standing_all}

-- ---- the rows that count rise

counted_rise : (marks : Option (List Bool)) (i : ℕ) (rows all some : List RowEntry) → ((P : RowEntry → Type 0) → AllByRecursion P all → AllByRecursion P some) → RowsRise (rows ++ all) → RowsRise some → RowsRise (kept_from marks i rows ++ some)
counted_rise marks i [] all some among w later = later
counted_rise marks i (r ∷ rs) all some among w later = by (is_gone marks i) (counted_rise marks (i + 1) rs all some among w.1 later)
  where
    less : RowEntry → Type 0
    less x = sequenced_cmp (sequenced r) (sequenced x) ≡ Less

    past : AreBehind (sequenced r) (kept_from marks (i + 1) rs ++ some)
    past = all_append less (kept_from marks (i + 1) rs) some (kept_all less marks (i + 1) rs (all_front less rs all w.0)) (among less (all_rest less rs all w.0))

    by : (b : Bool) → RowsRise (kept_from marks (i + 1) rs ++ some) → RowsRise (cond b (kept_from marks (i + 1) rs) (r ∷ kept_from marks (i + 1) rs) ++ some)
    by true rest = rest
    by false rest = (past, rest)

pub standing_rises : (ss : List Slot) → RowsRise (all_slot_rows ss) → RowsRise (standing ss)
standing_rises [] w = tt
standing_rises (s ∷ ss) w = counted_rise s.gone 0 (slot_rows s) (all_slot_rows ss) (standing ss) (λ P h. standing_all P ss h) w (standing_rises ss (rest_rises (slot_rows s) (all_slot_rows ss) w))

-- ---- rows that rise are in order

none_before : (r : RowEntry) (rows : List RowEntry) → AreBehind (sequenced r) rows → NoneBefore Ascending r.key rows
none_before r [] h = tt
none_before r (s ∷ ss) h = (ap is_lt (turned_key s.key r.key) ∙ not_below (key_cmp r.key s.key) (nat_cmp s.seq r.seq) h.0, none_before r ss h.1)

pub ascend : (rows : List RowEntry) → RowsRise rows → IsInOrder Ascending rows
ascend [] h = tt
ascend (r ∷ rs) h = (none_before r rs h.0, ascend rs h.1)

pub slots_ascend : (ss : List Slot) → IsSlots ss → IsInOrder Ascending (standing ss)
slots_ascend ss w = ascend (standing ss) (standing_rises ss w.rises)

-- ---- rows as entries under their own keys, of which more laws speak

abbrev pub entries_of : List RowEntry → TableEntries
entries_of [] = []
entries_of (r ∷ rs) = (sequenced r, r) ∷ entries_of rs

pub entry_rows : (rows : List RowEntry) → values_of (entries_of rows) ≡ rows
entry_rows [] = refl
entry_rows (r ∷ rs) = ap (λ ys. r ∷ ys) (entry_rows rs)

entry_keys : (rows : List RowEntry) → keys_of (entries_of rows) ≡ map sequenced rows
entry_keys [] = refl
entry_keys (r ∷ rs) = ap (λ ks. sequenced r ∷ ks) (entry_keys rs)

all_behind : (r : RowEntry) (rows : List RowEntry) → AreBehind (sequenced r) rows → AllByRecursion (λ k. sequenced_cmp (sequenced r) k ≡ Less) (map sequenced rows)
all_behind r [] h = tt
all_behind r (s ∷ ss) h = (h.0, all_behind r ss h.1)

pub strictly : (rows : List RowEntry) → RowsRise rows → IsStrictlySortedBy sequenced_cmp (map sequenced rows)
unfolding IsStrictlySortedBy
strictly [] h = tt
strictly (r ∷ rs) h = (all_behind r rs h.0, strictly rs h.1)

entries_tied : (rows : List RowEntry) → NoneLater (2 ^ 64 - 1) rows → AllByRecursion (λ e. (e.0 ≡ sequenced e.1) × (e.1.seq < 2 ^ 64)) (entries_of rows)
entries_tied [] h = tt
entries_tied (r ∷ rs) h = ((refl, omega (arith, h.0)), entries_tied rs h.1)

pub as_entries : (rows : List RowEntry) → RowsRise rows → NoneLater (2 ^ 64 - 1) rows → IsRows (entries_of rows)
as_entries rows w h = record { tied = entries_tied rows h; rising = subst (IsStrictlySortedBy sequenced_cmp) (sym (entry_keys rows)) (strictly rows w) }

pub slots_fit : (ss : List Slot) → AllByRecursion IsFilled ss → NoneLater (2 ^ 64 - 1) (all_slot_rows ss)
slots_fit [] h = tt
slots_fit (s ∷ ss) h = all_append (λ r. r.seq ≤ 2 ^ 64 - 1) (slot_rows s) (all_slot_rows ss) h.0.fits (slots_fit ss h.1)

pub standing_entries : (ss : List Slot) → IsSlots ss → IsRows (entries_of (standing ss))
standing_entries ss w = as_entries (standing ss) (standing_rises ss w.rises) (standing_all (λ r. r.seq ≤ 2 ^ 64 - 1) ss (slots_fit ss w.filled))
