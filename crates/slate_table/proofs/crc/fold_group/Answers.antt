use Rattle.slate_table.proofs.FoldLaws.{fold_step}
use Rattle.slate_table.proofs.crc.fold_group.Goals as goal

pub returns-clause-folded : goal.returns-clause-folded
returns-clause-folded c =
    fold_step c.args.at c.args.history.now c.args.bytes.now c.folded_at-group.result c.requires.room c.folded_at-group.ensures.len c.folded_at-group.ensures.lanes
