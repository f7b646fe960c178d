use Rattle.slate_types.proofs.FoldLaws.{fold_middle, merge_pieces, hides_older}
use Rattle.slate_types.proofs.FlushLaws.{flush_keeps}
use Rattle.slate_types.proofs.laws.folds.Goals as goal

pub returns-clause-folds_in_portions : goal.returns-clause-folds_in_portions
returns-clause-folds_in_portions c = fold_middle

pub returns-clause-merges_in_pieces : goal.returns-clause-merges_in_pieces
returns-clause-merges_in_pieces c = merge_pieces

pub returns-clause-hides_older : goal.returns-clause-hides_older
returns-clause-hides_older c = hides_older

pub returns-clause-flush_keeps_states : goal.returns-clause-flush_keeps_states
returns-clause-flush_keeps_states c = flush_keeps
