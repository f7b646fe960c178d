use Rattle.std.proofs.Common.{◌≡◌, ◌++◌}
use Rattle.slate_mem.specs.BatchRows.{newest_rows}
use Rattle.slate_mem.proofs.batch_iterator.rising_rows.Given as goal

abbrev pub invariant-loop-key : goal.invariant-loop-key
invariant-loop-key l = l.rows.items ++ newest_rows l.stamps l.key-iterator ≡ newest_rows l.stamps l.fn.entries
