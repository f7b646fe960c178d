use Rattle.std.proofs.Common.{◌≡◌, ◌++◌}
use Rattle.slate_mem.specs.Kept.{listed}
use Rattle.slate_mem.proofs.batch.list_ops.Given as goal

abbrev pub invariant-loop-key : goal.invariant-loop-key
invariant-loop-key l = l.all.items ++ listed l.key-iterator ≡ listed l.ops.entries
