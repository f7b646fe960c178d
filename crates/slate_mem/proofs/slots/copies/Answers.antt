use Rattle.std.proofs.Common.{◌++◌, append-nil, drop, ap, sym, ◌∙◌, arith}
use Rattle.std.proofs.lemmas.List.{drop_all}
use Rattle.slate_mem.specs.Slots.{joined, rows_in}
use Rattle.slate_mem.proofs.SlotLaws.{joined_on}
use Rattle.slate_mem.proofs.slots.copies.Goals as goal

pub loop-slot-preserved : goal.loop-slot-preserved
loop-slot-preserved c =
    joined_on rows_in c.args.slots.now c.loop-slot.slot-index c.slot-item.result c.loop-slot.found.items _ _ (omega arith) c.slot-item.is c.in_ok-copy_to.ensures c.loop-slot.invariant

pub returns : goal.returns
returns c =
    let found = c.loop-slot.found.items in
    sym (append-nil found) ∙ ap (λ ts. found ++ joined rows_in ts) (sym (drop_all c.loop-slot.slot-index c.args.slots.now (omega arith))) ∙ c.loop-slot.invariant
