use Rattle.slate_read.proofs.Jumps.{below_covering}
use Rattle.slate_read.proofs.table_walk.first_from.Goals as goal

pub returns : goal.returns
returns c = λ i k can below. below_covering _ _ i k c.args.key.now (λ e. c.partitions_covering_range.ensures.each i k can e) below
