use Rattle.std.proofs.Common.{◌∙◌}
use Rattle.slate_types.proofs.Exits.{if_ok_both}
use Rattle.slate_mem.specs.Slots.{kept_from}
use Rattle.slate_mem.proofs.SlotParts.{whole_part}
use Rattle.slate_mem.proofs.slots.part_of.Goals as goal

pub is_within-requires : goal.is_within-requires
is_within-requires c = c.requires.filled.some

pub returns-then-is_within-clause-rows : goal.returns-then-is_within-clause-rows
returns-then-is_within-clause-rows c =
    let all = c.is_within.ensures c.if-is_within.true c.requires.rises in
    let whole = whole_part c.args.range.now c.args.seq c.args.last c.args.slot.now c.if-last-seq.true c.requires.low all in
    if_ok_both c.share.result _ _ _ (λ s stored marks. (λ i. kept_from (marks i) 0 (stored i)) ∙ whole) c.share.ensures.stored c.share.ensures.marks

pub returns-else-last-seq-clause-rows : goal.returns-else-last-seq-clause-rows
returns-else-last-seq-clause-rows c = c.cut.ensures.rows c.requires.filled
