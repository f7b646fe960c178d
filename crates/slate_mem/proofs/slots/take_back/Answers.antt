use Rattle.std.proofs.Common.{◌<◌, length, arith, refl}
use Rattle.slate_mem.proofs.SlotLaws.{all_taken_back, none_taken_back, others, taken_back_on}
use Rattle.slate_mem.proofs.slots.take_back.Goals as goal

pub loop-at-init : goal.loop-at-init
loop-at-init c = none_taken_back (others c.args.seq) c.args.slots.now.items c.requires

pub loop-at-preserved : goal.loop-at-preserved
loop-at-preserved c =
    let lt : c.loop-at.at < length c.loop-at.slots.items = omega arith in
    taken_back_on (others c.args.seq) c.args.slots.now.items c.loop-at.slots.items c.loop-at.at c.index_mut.result.now c.take_back.new.self _ c.loop-at.invariant lt c.index_mut.ensures.value c.take_back.ensures.stored c.take_back.ensures.rows refl

pub returns : goal.returns
returns c =
    record {
      rows = all_taken_back (others c.args.seq) c.args.slots.now.items c.loop-at.slots.items c.loop-at.at c.loop-at.invariant (omega arith);
      slots = c.loop-at.invariant.slots;
    }
