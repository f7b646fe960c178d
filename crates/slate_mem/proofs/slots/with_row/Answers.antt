use Rattle.std.proofs.Common.{List, subst}
use Rattle.std.specs.Prelude.{IfOk}
use Rattle.slate_types.specs.declared.types.RowEntry.{RowEntry}
use Rattle.slate_mem.specs.Slots.{AreHalves}
use Rattle.slate_mem.proofs.SlotLaws.{two_fit}
use Rattle.slate_mem.proofs.slots.with_row.Goals as goal

pub in_halves-requires : goal.in_halves-requires
in_halves-requires c = two_fit c.args.slot.now c.args.row c.in-Ok.rows.items c.requires.filled.few c.in-Ok.ensures

pub returns : goal.returns
returns c = subst (λ (rs : List RowEntry). IfOk c.in_halves.result (λ all. AreHalves rs all.0 all.1)) c.in-Ok.ensures c.in_halves.ensures
