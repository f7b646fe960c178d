use Rattle.slate_table.proofs.FoldLaws.{folded_lanes}
use Rattle.slate_table.proofs.crc.folded_at.Goals as goal

pub returns-clause-len : goal.returns-clause-len
returns-clause-len c = (folded_lanes c.args.history.now c.args.bytes.now c.args.at _ _ _ _ _ c.requires.room c.requires.long
    c.sixteen_at.ensures c.sixteen_at-2.ensures c.sixteen_at-3.ensures c.sixteen_at-4.ensures c.sixteen_at-5.ensures).0

pub returns-clause-lanes : goal.returns-clause-lanes
returns-clause-lanes c = (folded_lanes c.args.history.now c.args.bytes.now c.args.at _ _ _ _ _ c.requires.room c.requires.long
    c.sixteen_at.ensures c.sixteen_at-2.ensures c.sixteen_at-3.ensures c.sixteen_at-4.ensures c.sixteen_at-5.ensures).1
