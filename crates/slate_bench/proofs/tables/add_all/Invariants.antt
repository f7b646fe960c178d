use Rattle.std.proofs.Common.{◌≤◌, length}
use Rattle.slate_bench.proofs.tables.add_all.Given as goal

abbrev pub invariant-loop-row : goal.invariant-loop-row
invariant-loop-row l = l.row-index ≤ length l.builder.rows
