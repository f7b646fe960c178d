-- What a table of rows in slots shows: the rows of a range, those up to a sequence, and those behind one.
use Rattle.std.proofs.Common.{◌≡◌, ℕ, ◌-◌, ◌^◌, ◌≤◌, Bool, true, false, cond, ◌&&◌, nat_le, List, [], ◌∷◌, filter, length, refl, sym, ap, subst, ◌∙◌, arith}
use Rattle.std.specs.Prelude.{nat_lt}
use Rattle.std.specs.List.Sorted.{IsStrictlySortedBy}
use Rattle.std.proofs.lemmas.Bool.Decides.{nat_tests}
use Rattle.slate_types.specs.declared.bytes_range.BytesRange.{BytesRange}
use Rattle.slate_types.specs.declared.types.RowEntry.{RowEntry}
use Rattle.slate_types.specs.declared.iter.IterationOrder.{IterationOrder}
use Rattle.slate_types.specs.Iteration.{IsInOrder}
use Rattle.slate_types.specs.Keys.{in_range, key_cmp}
use Rattle.slate_types.specs.RowTurns.{AreInTurn, row_before}
use Rattle.slate_types.specs.Rows.{of_key}
use Rattle.slate_types.proofs.Lists.{AllByRecursion_filter}
use Rattle.slate_mem.specs.declared.slots.Slot.{Slot}
use Rattle.slate_mem.specs.Slots.{IsSlots, IsTable, NoneLater, standing}
use Rattle.slate_mem.specs.Table.{after_seq, put_rows, ranged}
use Rattle.slate_mem.proofs.LaterRows.{put_rising, rises_filtered}
use Rattle.slate_mem.proofs.SlotLaws.{few_kept, standing_all}
use Rattle.slate_mem.proofs.SlotOrder.{entries_of, entry_rows, slots_fit, standing_entries, standing_rises, strictly}
use Rattle.slate_mem.proofs.SlotReads.{seen_in}
use Rattle.slate_mem.proofs.TurnLaws.{ranged_in_turn}

-- ---- of all sequences

fits_all : (m : ℕ) → m ≤ 2 ^ 64 - 1 → nat_le m (2 ^ 64 - 1) ≡ true
fits_all m le = grind (arith, nat_tests)

and_true : (b c : Bool) → c ≡ true → (b && c) ≡ b
and_true true c h = h
and_true false c h = refl

fits_seen : (range : BytesRange) (rows : List RowEntry) → NoneLater (2 ^ 64 - 1) rows → filter (seen_in range (2 ^ 64 - 1)) rows ≡ ranged range rows
fits_seen range [] h = refl
fits_seen range (r ∷ rs) h =
    let here : seen_in range (2 ^ 64 - 1) r ≡ in_range range r.key = and_true (in_range range r.key) (nat_le r.seq (2 ^ 64 - 1)) (fits_all r.seq h.0) in
    let later = fits_seen range rs h.1 in
    (λ i. cond (here i) (r ∷ later i) (later i))

standing_fit : (ss : List Slot) → IsSlots ss → NoneLater (2 ^ 64 - 1) (standing ss)
standing_fit ss w = standing_all (λ r. r.seq ≤ 2 ^ 64 - 1) ss (slots_fit ss w.filled)

pub all_ranged : (range : BytesRange) (ss : List Slot) → IsSlots ss → filter (seen_in range (2 ^ 64 - 1)) (standing ss) ≡ ranged range (standing ss)
all_ranged range ss w = fits_seen range (standing ss) (standing_fit ss w)

pub range_turns : (range : BytesRange) (ss : List Slot) (order : IterationOrder) (rows : List RowEntry) → IsSlots ss → IsInOrder order rows → ((k : List ℕ) → of_key k rows ≡ of_key k (ranged range (standing ss))) → AreInTurn (row_before order) rows
range_turns range ss order rows w h is =
    ranged_in_turn range (entries_of (standing ss)) order rows (standing_entries ss w) h (λ k. is k ∙ ap (λ rs. of_key k (ranged range rs)) (sym (entry_rows (standing ss))))

-- ---- up to a sequence

pub seen_upto : (range : BytesRange) (n : ℕ) (rows : List RowEntry) → filter (seen_in range n) rows ≡ filter (λ r. nat_le r.seq n) (ranged range rows)
seen_upto range n [] = refl
seen_upto range n (r ∷ rs) = by (in_range range r.key) (seen_upto range n rs)
  where
    by : (b : Bool) → filter (seen_in range n) rs ≡ filter (λ x. nat_le x.seq n) (ranged range rs) →
        cond (b && nat_le r.seq n) (r ∷ filter (seen_in range n) rs) (filter (seen_in range n) rs) ≡ filter (λ x. nat_le x.seq n) (cond b (r ∷ ranged range rs) (ranged range rs))
    by true later = ap (λ xs. cond (nat_le r.seq n) (r ∷ xs) xs) later
    by false later = later

-- a table of slots of a range
pub part_table : (range : BytesRange) (n last most : ℕ) (ss found : List Slot) (before segments : List (List ℕ)) → IsTable ss last most before → standing found ≡ filter (seen_in range n) (standing ss) → IsSlots found → IsStrictlySortedBy key_cmp segments →
    IsTable found last most segments
part_table range n last most ss found before segments t rows slots rising =
    let count : length (standing found) ≡ length (filter (seen_in range n) (standing ss)) = ap length rows in
    record {
      slots = slots;
      low = subst (NoneLater last) (sym rows) (AllByRecursion_filter (λ r. r.seq ≤ last) (seen_in range n) (standing ss) t.low);
      fits = t.fits;
      few = omega (arith, t.few, few_kept (seen_in range n) (standing ss), count);
      counted = t.counted;
      rising = rising;
    }

-- ---- behind a sequence

pub put_after : (seq : ℕ) (ss : List Slot) → IsSlots ss → put_rows [] (after_seq seq (standing ss)) ≡ after_seq seq (standing ss)
put_after seq ss w = put_rising (after_seq seq (standing ss)) [] (rises_filtered (λ r. nat_lt seq r.seq) (standing ss) (strictly (standing ss) (standing_rises ss w.rises)))
