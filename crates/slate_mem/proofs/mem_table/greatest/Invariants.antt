use Rattle.std.proofs.Common.{◌≡◌, drop}
use Rattle.slate_types.specs.Fold.{greatest_seq}
use Rattle.slate_mem.proofs.mem_table.greatest.Given as goal

abbrev pub invariant-loop-row : goal.invariant-loop-row
invariant-loop-row l = greatest_seq l.last (drop l.row-index l.rows) ≡ greatest_seq l.fn.last l.rows
