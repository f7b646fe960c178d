use Rattle.std.proofs.Common.{◌≡◌, true, false, refl, ◌∙◌, arith}
use Rattle.slate_mem.proofs.SlotParts.{none_standing, nothing_left, some_standing}
use Rattle.slate_mem.proofs.slots.are_empty.Goals as goal

pub returns-then-has_row : goal.returns-then-has_row
returns-then-has_row c =
    let some = some_standing c.args.slots.now c.loop-slot.slot-index c.slot-item.result (omega arith) c.slot-item.is (c.has_row.ensures.some c.if-has_row.true) c.loop-slot.invariant in
    (λ e. absurd cc, λ none. absurd (some none))

pub loop-slot-preserved : goal.loop-slot-preserved
loop-slot-preserved c = none_standing c.args.slots.now c.loop-slot.slot-index c.slot-item.result (omega arith) c.slot-item.is (c.has_row.ensures.none c.if-has_row.false) c.loop-slot.invariant

pub returns : goal.returns
returns c = (λ _. c.loop-slot.invariant ∙ nothing_left c.args.slots.now c.loop-slot.slot-index (omega arith), λ _. refl)
