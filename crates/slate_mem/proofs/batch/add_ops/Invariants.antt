use Rattle.std.proofs.Common.{◌≡◌, ◌++◌, take}
use Rattle.slate_mem.specs.Kept.{tagged}
use Rattle.slate_mem.proofs.batch.add_ops.Given as goal

abbrev pub invariant-loop-op : goal.invariant-loop-op
invariant-loop-op l = l.all.items ≡ l.initial.all.items ++ tagged l.key (take l.op-index l.ops)
