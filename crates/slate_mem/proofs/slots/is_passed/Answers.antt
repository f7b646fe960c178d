use Rattle.std.proofs.Common.{◌∙◌, sym, subst}
use Rattle.slate_mem.specs.Slots.{AreBefore, RowsRise}
use Rattle.slate_mem.proofs.SlotLaws.{above_all}
use Rattle.slate_mem.proofs.slots.is_passed.Goals as goal

pub returns-then-rows-ge-SLOT_ROWS : goal.returns-then-rows-ge-SLOT_ROWS
returns-then-rows-ge-SLOT_ROWS c = λ is.
    subst (AreBefore (record { user_key = c.args.key.now; seq = c.args.seq })) c.stored-rows.ensures
    (above_all (record { user_key = c.args.key.now; seq = c.args.seq }) c.stored-rows.result.now c.in-Some.last.now (subst RowsRise (sym c.stored-rows.ensures) c.requires) (sym c.in-Some.ensures.value) (sym c.is_above.ensures ∙ is))
