use Rattle.slate_read.proofs.Jumps.{above_covering}
use Rattle.slate_read.proofs.table_walk.end_upto.Goals as goal

pub returns : goal.returns
returns c = λ i k can above. above_covering _ _ i k c.args.key.now (λ e. c.partitions_covering_range.ensures.each i k can e) above
