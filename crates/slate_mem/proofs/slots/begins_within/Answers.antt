use Rattle.std.proofs.Common.{get_or, length, ap, sym, ◌∙◌, arith}
use Rattle.slate_types.specs.declared.types.RowEntry.{RowEntry}
use Rattle.slate_types.specs.Keys.{in_range}
use Rattle.slate_mem.specs.Slots.{slot_rows}
use Rattle.slate_mem.proofs.SlotParts.{first_is}
use Rattle.slate_mem.proofs.slots.begins_within.Goals as goal

pub bounds-rows-0 : goal.bounds-rows-0
bounds-rows-0 c = omega (arith, c.requires, ap length c.stored-rows.ensures)

pub returns : goal.returns
returns c =
    let row = c.index-rows-0.result in
    first_is c.args.range.now (slot_rows c.args.slot.now) row c.contains.result c.requires (c.index-rows-0.is ∙ ap (λ rs. get_or rs 0 row) c.stored-rows.ensures)
    (ap (λ (x : RowEntry). in_range c.args.range.now x.key) c.index-rows-0.is ∙ ap (in_range c.args.range.now) (sym c.as_slice.ensures) ∙ sym c.contains.ensures)
