use Rattle.std.proofs.Common.{arith}
use Rattle.slate_mem.proofs.metadata.count_row.Goals as goal

pub returns-clause-bytes : goal.returns-clause-bytes
returns-clause-bytes c = omega (arith, c.saturating_add-count-2.ensures, c.estimated_size.ensures)
