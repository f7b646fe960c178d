use Rattle.std.proofs.Common.{◌≡◌, ◌++◌, drop, map}
use Rattle.slate_types.specs.Rows.{operand}
use Rattle.slate_merge.proofs.fold_group.push_operands.Given as goal

abbrev pub invariant-loop-row : goal.invariant-loop-row
invariant-loop-row l = l.operands.items ++ map operand (drop l.row-index l.rows) ≡ l.initial.operands.items ++ map operand l.rows
