use Rattle.std.proofs.Common.{◌≡◌, take}
use Rattle.std.specs.List.{count_by}
use Rattle.slate_types.specs.Rows.{is_put, is_tombstone, is_operand}
use Rattle.slate_table.proofs.stats_writing.count_rows.Given as goal

abbrev pub invariant-loop-row : goal.invariant-loop-row
invariant-loop-row l = record {
  puts : l.counts.puts ≡ count_by is_put (take l.row-index l.rows);
  deletes : l.counts.deletes ≡ count_by is_tombstone (take l.row-index l.rows);
  merges : l.counts.merges ≡ count_by is_operand (take l.row-index l.rows);
}
