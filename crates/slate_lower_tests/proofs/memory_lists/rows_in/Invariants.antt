use Rattle.std.proofs.Common.{◌≡◌, take}
use Rattle.slate_mem.specs.Table.{ranged}
use Rattle.slate_lower_tests.proofs.memory_lists.rows_in.Given as goal

abbrev pub invariant-loop-row : goal.invariant-loop-row
invariant-loop-row l = l.found.items ≡ ranged l.range (take l.row-index l.rows)
