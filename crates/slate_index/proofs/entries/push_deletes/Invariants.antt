use Rattle.std.proofs.Common.{◌≡◌, ◌++◌, not, filter}
use Rattle.std.specs.Vec.Iter.{into_iter_items}
use Rattle.slate_types.specs.Keys.{among}
use Rattle.slate_index.specs.Changes.{deletes}
use Rattle.slate_index.specs.Commits.{change_ops}
use Rattle.slate_index.proofs.entries.push_deletes.Given as goal

abbrev pub invariant-loop-key : goal.invariant-loop-key
invariant-loop-key l =
    l.ops.items ++ change_ops (deletes (filter (λ k. not (among k l.news)) (into_iter_items l.key-iterator)))
    ≡ l.fn.ops.items ++ change_ops (deletes (filter (λ k. not (among k l.news)) l.fn.olds.items))
