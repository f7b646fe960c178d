use Rattle.std.proofs.Common.{◌≡◌, ◌-◌, true, get_or, length, ap, sym, ◌∙◌, arith}
use Rattle.slate_types.specs.declared.types.RowEntry.{RowEntry}
use Rattle.slate_types.specs.Keys.{in_range}
use Rattle.slate_mem.specs.Slots.{slot_rows}
use Rattle.slate_mem.proofs.SlotParts.{all_within}
use Rattle.slate_mem.proofs.slots.Slot.is_within.Goals as goal

pub overflow_sub-last : goal.overflow_sub-last
overflow_sub-last c = omega (arith, c.requires, ap length c.stored-rows.ensures)

pub bounds-rows-0 : goal.bounds-rows-0
bounds-rows-0 c = omega (arith, c.requires, ap length c.stored-rows.ensures)

pub bounds-rows-last : goal.bounds-rows-last
bounds-rows-last c = omega (arith, c.requires, ap length c.stored-rows.ensures)

pub returns-then-contains : goal.returns-then-contains
returns-then-contains c e rises =
    let range = c.args.range.now in
    let rows = slot_rows c.args.self.now in
    let first = c.index-rows-0.result in
    let last = c.index-rows-last.result in
    let first_is : get_or rows 0 first ≡ first = sym (c.index-rows-0.is ∙ ap (λ rs. get_or rs 0 first) c.stored-rows.ensures) in
    let last_is : get_or rows (length rows - 1) last ≡ last = sym (c.index-rows-last.is ∙ ap (λ rs. get_or rs (length rs - 1) last) c.stored-rows.ensures) in
    let begins : in_range range first.key ≡ true = ap (λ (x : RowEntry). in_range range x.key) c.index-rows-0.is ∙ ap (in_range range) (sym c.as_slice.ensures) ∙ sym c.contains.ensures ∙ c.if-contains.true in
    let ends : in_range range last.key ≡ true = ap (λ (x : RowEntry). in_range range x.key) c.index-rows-last.is ∙ ap (in_range range) (sym c.as_slice-then-contains.ensures) ∙ sym c.contains-then-contains.ensures ∙ e in
    all_within range rows first last rises c.requires first_is last_is begins ends
