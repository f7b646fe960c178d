use Rattle.std.proofs.Common.{arith}
use Rattle.slate_block.proofs.Prefixes.{front_len}
use Rattle.slate_block.proofs.keys.compute_prefix.Goals as goal

pub returns-else-lhs-at : goal.returns-else-lhs-at
returns-else-lhs-at c = front_len c.args.lhs.now c.args.rhs.now c.loop-at.at (omega arith) (omega arith) c.loop-at.invariant.shared (λ p q e. c.if-lhs-at.false e)

pub returns-after-loop-at : goal.returns-after-loop-at
returns-after-loop-at c = front_len c.args.lhs.now c.args.rhs.now c.loop-at.at (omega arith) (omega arith) c.loop-at.invariant.shared (λ p q e. omega arith)
