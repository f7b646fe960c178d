use Rattle.slate_merge.specs.FoldedLaws.{folded_dropped, folded_in_order}
use Rattle.slate_merge.specs.Folding.{links}
use Rattle.slate_merge.proofs.FoldedKeys.{cut_whole, keeps_folds, keeps_shown}
use Rattle.slate_merge.proofs.FoldedTurns.{none_rises_in_turn}
use Rattle.slate_merge.proofs.laws.folded_rows.Goals as goal

pub returns : goal.returns
returns c = record {
  in_order = folded_in_order;
  by_seeks = folded_dropped;
  whole = λ different barrier rows. cut_whole (links different barrier) rows;
  in_turn = none_rises_in_turn;
  keeps_folds = keeps_folds;
  keeps_shown = keeps_shown;
}
