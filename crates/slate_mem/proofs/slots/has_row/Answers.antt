use Rattle.std.proofs.Common.{◌≡◌, ◌∷◌, ◌+◌, [], length, ap, sym, ◌∙◌, arith}
use Rattle.slate_mem.specs.Slots.{rows_from}
use Rattle.slate_mem.proofs.SlotNewest.{rows_left}
use Rattle.slate_mem.proofs.slots.has_row.Goals as goal

pub row_at-requires : goal.row_at-requires
row_at-requires c = omega (arith, ap length c.stored-count.ensures)

pub loop-at-preserved : goal.loop-at-preserved
loop-at-preserved c =
    let was = c.loop-at.invariant in
    record { within = omega arith; none = was.none ∙ c.in_default.ensures.row }

pub returns-in-Some-clause-some : goal.returns-in-Some-clause-some
returns-in-Some-clause-some c e none =
    let clash : c.in-Some._row.now ∷ rows_from c.args.slot.now (c.loop-at.at + 1) ≡ [] = sym c.in-Some.ensures.row ∙ sym c.loop-at.invariant.none ∙ none in
    cc

pub returns-clause-none : goal.returns-clause-none
returns-clause-none c e = c.loop-at.invariant.none ∙ rows_left c.args.slot.now c.loop-at.at (omega (arith, ap length c.stored-count.ensures))
