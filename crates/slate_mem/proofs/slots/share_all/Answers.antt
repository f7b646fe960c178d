use Rattle.std.proofs.Common.{arith}
use Rattle.slate_mem.proofs.SlotLaws.{shared_on}
use Rattle.slate_mem.proofs.slots.share_all.Goals as goal

pub loop-slot-preserved : goal.loop-slot-preserved
loop-slot-preserved c =
    shared_on c.args.slots.now c.loop-slot.all.items c.loop-slot.slot-index c.slot-item.result c.in_ok-share.field-0 c.push.new.self.items c.loop-slot.invariant (omega arith) c.slot-item.is
    (record { rows = c.in_ok-share.ensures.stored; marks = c.in_ok-share.ensures.marks }) c.in_ok-push.ensures.items
