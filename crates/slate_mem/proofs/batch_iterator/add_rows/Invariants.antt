use Rattle.std.proofs.Common.{◌≡◌, ◌++◌, map, reverse}
use Rattle.slate_mem.specs.BatchRows.{stamped}
use Rattle.slate_mem.proofs.batch_iterator.add_rows.Given as goal

abbrev pub invariant-loop-op : goal.invariant-loop-op
invariant-loop-op l =
    l.rows.items ++ map (stamped l.stamps l.key) (reverse l.op-iterator.iter.rest.now) ≡ l.initial.rows.items ++ map (stamped l.stamps l.key) (reverse l.ops)
