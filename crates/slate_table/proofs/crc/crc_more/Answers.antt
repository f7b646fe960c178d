use Rattle.std.proofs.Common.{◌∙◌}
use Rattle.slate_table.proofs.FoldLaws.{part_taken}
use Rattle.slate_table.proofs.crc.crc_more.Goals as goal

pub loop-rest-preserved : goal.loop-rest-preserved
loop-rest-preserved c =
    part_taken c.loop-rest.crc _ c.round-crc.result c.loop-rest.rest.now _ _ c.split_at.ensures.front c.split_at.ensures.back c.round-crc.ensures
    ∙ c.loop-rest.invariant
