use Rattle.std.proofs.Common.{◌≡◌, ◌+◌, ◌<◌, ◌≤◌, ◌++◌, ◌∷◌, [], ℕ, List, true, false, bytes_eq, get_or, length, ap, sym, subst, ◌∙◌, arith, rules}
use Rattle.std.proofs.lemmas.Option.{get_or_from_slice_get}
use Rattle.slate_types.specs.declared.types.RowEntry.{RowEntry}
use Rattle.slate_types.specs.Rows.{is_operand}
use Rattle.slate_mem.specs.Slots.{IsPlaceIn, RowsRise, rows_from, slot_rows}
use Rattle.slate_mem.specs.Table.{newest}
use Rattle.slate_mem.proofs.SlotNewest.{Sought, newest_begins, none_behind_next, sought_all, sought_base, sought_ends, sought_merge, sought_on}
use Rattle.slate_mem.proofs.SlotReads.{place}
use Rattle.slate_mem.proofs.slots.newest_in_slot.Goals as goal
use Rattle.slate_mem.proofs.slots.newest_in_slot.Goals.{in-Some+in_ok-clone+in_ok-push+else-not-is_merge, in_default}

pub place_in-at-requires : goal.place_in-at-requires
place_in-at-requires c = subst RowsRise (sym c.stored-rows.ensures) c.requires

pub row_at-requires : goal.row_at-requires
row_at-requires c = omega (arith, ap length c.stored-rows.ensures)

pub loop-at-init : goal.loop-at-init
loop-at-init c =
    let k = c.args.key.now in
    let n = c.args.max_seq in
    let s = c.args.slot.now in
    let at = c.place_in-at.result in
    let there = subst (λ rs. IsPlaceIn (place k n) rs at) c.stored-rows.ensures (subst (λ (j : List ℕ). IsPlaceIn (place j n) c.stored-rows.result.now at) c.as_slice.ensures c.place_in-at.ensures) in
    record { behind = there.behind; found = λ rows. ap (λ xs. c.args.found.now.items ++ xs) (newest_begins k n s at there.before rows) }

pub returns-then-ne-clause-ends : goal.returns-then-ne-clause-ends
returns-then-ne-clause-ends c e rows rises =
    let k = c.args.key.now in
    let s = c.args.slot.now in
    let at = c.loop-at.at in
    let row = c.index-rows-at.result in
    let within : at < length (slot_rows s) = omega (arith, ap length c.stored-rows.ensures) in
    let is = c.index-rows-at.is ∙ ap (λ rs. get_or rs at row) c.stored-rows.ensures in
    let at_index : bytes_eq (get_or c.stored-rows.result.now at row).key k ≡ false = search rules in
    let other = ap (λ (r : RowEntry). bytes_eq r.key k) c.index-rows-at.is ∙ at_index in
    sought_ends k c.args.max_seq s c.args.found.now.items c.loop-at.found.items at row within is c.loop-at.invariant.behind other c.loop-at.invariant.found rows rises

pub returns-then-not-is_merge-clause-ends : goal.returns-then-not-is_merge-clause-ends
returns-then-not-is_merge-clause-ends c e rows rises =
    let k = c.args.key.now in
    let s = c.args.slot.now in
    let at = c.loop-at.at in
    let first = c.index-rows-at.result in
    let row = c.in-Some.row.now in
    let found = c.loop-at.found.items in
    let within : at < length (slot_rows s) = omega (arith, ap length c.stored-rows.ensures) in
    let first_is = c.index-rows-at.is ∙ ap (λ rs. get_or rs at first) c.stored-rows.ensures in
    let one : first ≡ row = first_is ∙ get_or_from_slice_get (slot_rows s) at row first c.in-Some.ensures.value in
    let is : row ≡ get_or (slot_rows s) at row = sym (get_or_from_slice_get (slot_rows s) at row row c.in-Some.ensures.value) in
    let at_index : bytes_eq (get_or c.stored-rows.result.now at first).key k ≡ true = search rules in
    let at_key = ap (λ (r : RowEntry). bytes_eq r.key k) c.index-rows-at.is ∙ at_index in
    let same = ap (λ (r : RowEntry). bytes_eq r.key k) (sym one) ∙ at_key in
    let base : is_operand row ≡ false = sym c.is_merge.ensures ∙ c.if-not-is_merge.true in
    let adds = c.in_ok-push.ensures.items ∙ ap (λ r. found ++ (r ∷ [])) c.in_ok-clone.ensures.cases in
    sought_base k c.args.max_seq s c.args.found.now.items found _ at row within is c.loop-at.invariant.behind same c.in-Some.ensures.row base adds c.loop-at.invariant.found rows

pub loop-at-preserved : goal.loop-at-preserved
loop-at-preserved c =
    let k = c.args.key.now in
    let n = c.args.max_seq in
    let s = c.args.slot.now in
    let at = c.loop-at.at in
    let before = c.args.found.now.items in
    let found = c.loop-at.found.items in
    let was = c.loop-at.invariant in
    let first = c.index-rows-at.result in
    let within : at < length (slot_rows s) = omega (arith, ap length c.stored-rows.ensures) in
    let first_is = c.index-rows-at.is ∙ ap (λ rs. get_or rs at first) c.stored-rows.ensures in
    let at_index : bytes_eq (get_or c.stored-rows.result.now at first).key k ≡ true = search rules in
    let at_key = ap (λ (r : RowEntry). bytes_eq r.key k) c.index-rows-at.is ∙ at_index in
    let sought : Sought k n s before c.match-row_at.found.items (at + 1) = elim c.match-row_at.branch [
      | in-Some+in_ok-clone+in_ok-push+else-not-is_merge w ↦
          let row = w.in-Some.row.now in
          let one : first ≡ row = first_is ∙ get_or_from_slice_get (slot_rows s) at row first w.in-Some.ensures.value in
          let is : row ≡ get_or (slot_rows s) at row = sym (get_or_from_slice_get (slot_rows s) at row row w.in-Some.ensures.value) in
          let same = ap (λ (r : RowEntry). bytes_eq r.key k) (sym one) ∙ at_key in
          let merge : is_operand row ≡ true = sym w.is_merge.ensures ∙ w.if-not-is_merge.false in
          let adds = ap (λ v. v.items) w.found-is ∙ w.in_ok-push.ensures.items ∙ ap (λ r. found ++ (r ∷ [])) w.in_ok-clone.ensures.cases in
          sought_merge k n s before found c.match-row_at.found.items at row within is was.behind same w.in-Some.ensures.row merge adds was.found
      | in_default w ↦ λ rows. ap (λ v. v.items ++ newest k n (rows_from s (at + 1) ++ rows)) w.found-is ∙ sought_on k n s before found at w.in_default.ensures.row was.found rows
    ] in
    record { behind = none_behind_next k n (slot_rows s) at first within was.behind; found = sought }

pub returns-clause-goes_on : goal.returns-clause-goes_on
returns-clause-goes_on c e rows =
    sought_all c.args.key.now c.args.max_seq c.args.slot.now c.args.found.now.items c.loop-at.found.items c.loop-at.at (omega (arith, ap length c.stored-rows.ensures)) c.loop-at.invariant.found rows
