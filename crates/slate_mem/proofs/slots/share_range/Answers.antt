use Rattle.std.proofs.Common.{◌+◌, ◌<◌, length, ap, sym, subst, arith}
use Rattle.slate_types.specs.declared.types.RowEntry.{RowEntry}
use Rattle.slate_mem.specs.Slots.{IsSlots}
use Rattle.slate_mem.proofs.SlotLaws.{filled_at, rises_at}
use Rattle.slate_mem.proofs.SlotParts.{IsRanged, Ranged, all_in, ranged_all, ranged_ends, ranged_none, ranged_on}
use Rattle.slate_mem.proofs.slots.share_range.Goals as goal

pub first_slot-at-requires : goal.first_slot-at-requires
first_slot-at-requires c = c.requires.slots

pub loop-at-init : goal.loop-at-init
loop-at-init c =
    let range = c.args.range.now in
    let slots = c.args.slots.now in
    subst (λ fs. Ranged range c.args.seq slots fs c.first_slot-at.result) (sym c.new-found.ensures.items) (ranged_none range c.args.seq slots c.first_slot-at.result c.requires.slots c.first_slot-at.ensures)

pub goes_on-requires : goal.goes_on-requires
goes_on-requires c = (filled_at c.args.slots.now c.loop-at.at c.index-slots-at.result c.requires.slots (omega arith) c.index-slots-at.is).some

pub returns-then-not-goes_on-clause-rows : goal.returns-then-not-goes_on-clause-rows
returns-then-not-goes_on-clause-rows c =
    let ended = c.goes_on.ensures c.if-not-goes_on.true in
    let some : 0 < length c.loop-at.found.items = omega (arith, ended.0, ap length c.deref.ensures.value) in
    (ranged_ends c.args.range.now c.args.seq c.args.slots.now c.loop-at.found.items c.loop-at.at c.index-slots-at.result c.requires.slots (omega arith) c.index-slots-at.is some ended.1 c.loop-at.invariant).rows

pub returns-then-not-goes_on-clause-slots : goal.returns-then-not-goes_on-clause-slots
returns-then-not-goes_on-clause-slots c =
    let ended = c.goes_on.ensures c.if-not-goes_on.true in
    let some : 0 < length c.loop-at.found.items = omega (arith, ended.0, ap length c.deref.ensures.value) in
    (ranged_ends c.args.range.now c.args.seq c.args.slots.now c.loop-at.found.items c.loop-at.at c.index-slots-at.result c.requires.slots (omega arith) c.index-slots-at.is some ended.1 c.loop-at.invariant).slots

pub part_of-requires : goal.part_of-requires
part_of-requires c =
    let slots = c.args.slots.now in
    let s = c.index-slots-at-in-loop-at.result in
    let is = c.index-slots-at-in-loop-at.is in
    let within : c.loop-at.at < length slots = omega arith in
    record {
      filled = filled_at slots c.loop-at.at s c.requires.slots within is;
      rises = rises_at slots c.loop-at.at s c.requires.slots within is;
      low = all_in _ slots c.loop-at.at s c.requires.low within is;
    }

pub loop-at-preserved : goal.loop-at-preserved
loop-at-preserved c =
    let range = c.args.range.now in
    let slots = c.args.slots.now in
    let part = c.in_ok-part_of.ensures in
    subst (λ fs. Ranged range c.args.seq slots fs (c.loop-at.at + 1)) (sym c.in_ok-push.ensures.items)
    (ranged_on range c.args.seq slots c.loop-at.found.items c.loop-at.at c.index-slots-at-in-loop-at.result c.in_ok-part_of.field-0 c.requires.slots (omega arith) c.index-slots-at-in-loop-at.is part.stored part.rows c.loop-at.invariant)

pub returns-clause-rows : goal.returns-clause-rows
returns-clause-rows c = (ranged_all c.args.range.now c.args.seq c.args.slots.now c.loop-at.found.items c.loop-at.at (omega arith) c.loop-at.invariant).rows

pub returns-clause-slots : goal.returns-clause-slots
returns-clause-slots c = (ranged_all c.args.range.now c.args.seq c.args.slots.now c.loop-at.found.items c.loop-at.at (omega arith) c.loop-at.invariant).slots
