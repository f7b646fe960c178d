use Rattle.std.proofs.Common.{◌≡◌, ◌++◌}
use Rattle.std.specs.Vec.Iter.{into_iter_items}
use Rattle.slate_index.specs.Changes.{entry_puts}
use Rattle.slate_index.specs.Commits.{change_ops}
use Rattle.slate_index.proofs.entries.push_puts.Given as goal

abbrev pub invariant-loop-key : goal.invariant-loop-key
invariant-loop-key l = l.ops.items ++ change_ops (entry_puts (into_iter_items l.key-iterator)) ≡ l.fn.ops.items ++ change_ops (entry_puts l.fn.keys.items)
