use Rattle.std.proofs.Common.{◌≡◌, ◌≤◌, ◌++◌, [], length}
use Rattle.std.specs.Vec.Iter.{into_iter_items, into_iter_len}
use Rattle.slate_mem.specs.FlushRows.{IsGroup}
use Rattle.slate_mem.proofs.flush_fold.fold_keys.Given as goal
use Rattle.slate_mem.proofs.FlushLaws.{flush_rows}

abbrev pub invariant-loop-row : goal.invariant-loop-row
invariant-loop-row g l = record {
  same : g.M.MergeOperator.combine l.operator ≡ g.M.MergeOperator.combine l.fn.operator;
  later : g.M.MergeOperator.faults l.fn.operator ≤ g.M.MergeOperator.faults l.operator;
  still : g.M.MergeOperator.faults l.operator ≡ g.M.MergeOperator.faults l.fn.operator;
  count : into_iter_len l.row-iterator ≡ length (into_iter_items l.row-iterator);
  group : IsGroup l.low.items;
  rows : l.folded.items ++ flush_rows (g.M.MergeOperator.combine l.fn.operator) l.barrier l.low.items (into_iter_items l.row-iterator) ≡ flush_rows (g.M.MergeOperator.combine l.fn.operator) l.barrier [] l.fn.rows.items;
}
