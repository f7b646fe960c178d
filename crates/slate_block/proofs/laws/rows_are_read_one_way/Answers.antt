use Rattle.slate_block.proofs.RowLaws.{same_row_v1, same_row_v2, one_row_v1, one_row_v2}
use Rattle.slate_block.proofs.laws.rows_are_read_one_way.Goals as goal

pub returns-clause-delimited_v1 : goal.returns-clause-delimited_v1
returns-clause-delimited_v1 c = same_row_v1

pub returns-clause-delimited_v2 : goal.returns-clause-delimited_v2
returns-clause-delimited_v2 c = same_row_v2

pub returns-clause-one_way_v1 : goal.returns-clause-one_way_v1
returns-clause-one_way_v1 c = one_row_v1

pub returns-clause-one_way_v2 : goal.returns-clause-one_way_v2
returns-clause-one_way_v2 c = one_row_v2
