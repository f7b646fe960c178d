use Rattle.std.proofs.Common.{◌∙◌, ap, sym, subst}
use Rattle.slate_mem.specs.Slots.{RowsRise}
use Rattle.slate_mem.specs.Table.{put_row}
use Rattle.slate_mem.proofs.SlotLaws.{rows_rise}
use Rattle.slate_mem.proofs.slots.rows_with.Goals as goal

pub put_in_list-requires : goal.put_in_list-requires
put_in_list-requires c = subst RowsRise (sym c.in-Ok.ensures) (rows_rise c.args.slot.now c.requires.rises)

pub returns : goal.returns
returns c = c.in_ok-put_in_list.ensures ∙ ap (λ rs. put_row rs c.args.row) c.in-Ok.ensures
