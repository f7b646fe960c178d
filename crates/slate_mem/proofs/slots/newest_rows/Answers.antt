use Rattle.std.proofs.Common.{◌++◌, ℕ, List, drop, ap, subst, ◌∙◌, arith}
use Rattle.slate_mem.specs.Slots.{IsSlotFor, standing}
use Rattle.slate_mem.specs.Table.{newest}
use Rattle.slate_mem.proofs.SlotLaws.{rises_at}
use Rattle.slate_mem.proofs.SlotNewest.{slots_all, slots_begin, slots_end, slots_on}
use Rattle.slate_mem.proofs.SlotReads.{place}
use Rattle.slate_mem.proofs.slots.newest_rows.Goals as goal

pub loop-at-init : goal.loop-at-init
loop-at-init c =
    let k = c.args.key.now in
    let n = c.args.max_seq in
    let slots = c.args.slots.now in
    let at = c.slot_at-at.result in
    let first = subst (λ (j : List ℕ). IsSlotFor (place j n) slots at) c.as_slice.ensures c.slot_at-at.ensures in
    ap (λ xs. xs ++ newest k n (standing (drop at slots))) c.new-found.ensures.items ∙ slots_begin k n slots at first

pub newest_in_slot-requires : goal.newest_in_slot-requires
newest_in_slot-requires c = rises_at c.args.slots.now c.loop-at.at c.index-slots-at.result c.requires (omega arith) c.index-slots-at.is

pub loop-at-preserved : goal.loop-at-preserved
loop-at-preserved c =
    slots_on c.args.key.now c.args.max_seq c.args.slots.now c.loop-at.at c.index-slots-at.result c.loop-at.found.items _ _ (omega arith) c.index-slots-at.is (c.in_ok-goes_on.ensures.goes_on c.if-not-goes_on.false) c.loop-at.invariant

pub returns-then-not-goes_on : goal.returns-then-not-goes_on
returns-then-not-goes_on c =
    slots_end c.args.key.now c.args.max_seq c.args.slots.now c.loop-at.at c.index-slots-at.result c.loop-at.found.items _ _ c.requires (omega arith) c.index-slots-at.is (c.in_ok-goes_on.ensures.ends c.if-not-goes_on.true) c.loop-at.invariant

pub returns : goal.returns
returns c = slots_all c.args.key.now c.args.max_seq c.args.slots.now c.loop-at.at c.loop-at.found.items _ (omega arith) c.loop-at.invariant
