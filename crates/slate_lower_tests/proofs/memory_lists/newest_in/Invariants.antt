use Rattle.std.proofs.Common.{◌≡◌, ◌++◌, drop}
use Rattle.slate_mem.specs.Table.{newest}
use Rattle.slate_lower_tests.proofs.memory_lists.newest_in.Given as goal

abbrev pub invariant-loop-row : goal.invariant-loop-row
invariant-loop-row l = l.found.items ++ newest l.key l.max_seq (drop l.row-index l.rows) ≡ newest l.key l.max_seq l.rows
