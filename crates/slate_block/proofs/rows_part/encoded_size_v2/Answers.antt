use Rattle.std.proofs.Common.{arith}
use Rattle.slate_block.proofs.RowSizes.{five_groups}
use Rattle.slate_block.proofs.rows_part.encoded_size_v2.Goals as goal

pub overflow_add-result-5 : goal.overflow_add-result-5
overflow_add-result-5 c = omega (arith, five_groups)

pub returns-clause-bound : goal.returns-clause-bound
returns-clause-bound c = omega (arith, five_groups)
