use Rattle.slate_mem.proofs.BatchLaws.{has_one_row}
use Rattle.slate_mem.proofs.RowOfLaws.{row_has}
use Rattle.slate_mem.proofs.MemLaws.{puts_in_front, newest_folds}
use Rattle.slate_mem.proofs.laws.commit_rows.Goals as goal

pub returns : goal.returns
returns c =
    record {
      has_a_row = has_one_row;
      row_is_of_its_commit = row_has;
      newest_go_first = puts_in_front;
      newest_fold_as_all = newest_folds;
    }
