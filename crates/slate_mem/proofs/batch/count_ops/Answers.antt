use Rattle.std.proofs.Common.{arith}
use Rattle.slate_mem.proofs.KeptLaws.{length_listed}
use Rattle.slate_mem.proofs.batch.count_ops.Goals as goal

pub returns : goal.returns
returns c =
    let all = length_listed c.args.ops.now.entries in
    let left = rw c.in-None.ensures.steps.0 at c.loop-list.invariant.1 in
    omega (arith, c.loop-list.invariant.0)
