-- Rows counted by their kinds.
--     stats_of rows      how many rows are puts, deletions and merge operands
--     Counting      what a builder that counts is seen as: the builder, and the counts of the rows that it took
use Rattle.std.specs.Prelude.{ℕ, ◌+◌, List}
use Rattle.std.specs.List.{count_by}
use Rattle.slate_types.specs.declared.types.RowEntry.{RowEntry}
use Rattle.slate_types.specs.Rows.{is_put, is_tombstone, is_operand}
use Rattle.slate_block.specs.declared.block.BlockStats.{BlockStats}
use Rattle.slate_block.specs.Building.{Building}

abbrev pub stats_of : List RowEntry → BlockStats
stats_of rows = record { num_puts = count_by is_put rows; num_deletes = count_by is_tombstone rows; num_merges = count_by is_operand rows }

abbrev pub sum_of : BlockStats → BlockStats → BlockStats
sum_of a b = record { num_puts = a.num_puts + b.num_puts; num_deletes = a.num_deletes + b.num_deletes; num_merges = a.num_merges + b.num_merges }

abbrev pub counted_rows : BlockStats → ℕ
counted_rows a = a.num_puts + a.num_deletes + a.num_merges

pub record Counting : Type 0 where
  pub builder : Building
  pub stats : BlockStats
