use Rattle.std.proofs.Common.{◌≡◌, ◌≤◌, ◌++◌, []}
use Rattle.slate_mem.specs.BatchRows.{folded_entries}
use Rattle.slate_mem.specs.Kept.{AreKept}
use Rattle.slate_mem.proofs.batch.folded_keys.Given as goal

abbrev pub invariant-loop-key : goal.invariant-loop-key
invariant-loop-key g l = record {
  same : g.M.MergeOperator.combine l.operator ≡ g.M.MergeOperator.combine l.fn.operator;
  later : g.M.MergeOperator.faults l.fn.operator ≤ g.M.MergeOperator.faults l.operator;
  still : g.M.MergeOperator.faults l.operator ≡ g.M.MergeOperator.faults l.fn.operator;
  kept : AreKept l.key-iterator;
  own : l.own.items ≡ [];
  rows : l.rows.items ++ folded_entries (g.M.MergeOperator.combine l.fn.operator) l.stamps l.key-iterator ≡ folded_entries (g.M.MergeOperator.combine l.fn.operator) l.stamps l.fn.ops.entries;
}
