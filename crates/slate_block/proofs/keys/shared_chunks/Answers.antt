use Rattle.std.proofs.Common.{sym, arith}
use Rattle.slate_block.proofs.Prefixes.{chunk_again}
use Rattle.slate_block.proofs.keys.shared_chunks.Goals as goal

pub loop-at-preserved : goal.loop-at-preserved
loop-at-preserved c = record { within = omega arith; shared = chunk_again c.args.lhs.now c.args.rhs.now c.loop-at.at c.loop-at.invariant.shared (sym c.if-eq.ensures) }
