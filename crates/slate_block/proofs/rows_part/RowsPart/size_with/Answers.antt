use Rattle.std.proofs.Common.{arith}
use Rattle.slate_block.proofs.RowSizes.{counted_v1}
use Rattle.slate_block.proofs.rows_part.RowsPart.size_with.Goals as goal

pub returns-in-V1 : goal.returns-in-V1
returns-in-V1 c = rw c.in-V1.is (omega (arith, c.encoded_size.ensures, counted_v1 c.args.shared c.args.entry.now c.requires.lengths.0 c.requires.lengths.1))
