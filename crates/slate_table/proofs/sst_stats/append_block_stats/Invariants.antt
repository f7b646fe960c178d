use Rattle.std.proofs.Common.{◌≡◌, ◌++◌, take}
use Rattle.std.specs.List.{flat_map, AllByRecursion}
use Rattle.slate_block.specs.RowSpelling.{be16}
use Rattle.slate_table.specs.Decoded.{counts_bytes, FitCounts}
use Rattle.slate_table.specs.StatsReading.{counts_of}
use Rattle.slate_table.proofs.sst_stats.append_block_stats.Given as goal

abbrev pub invariant-loop-block : goal.invariant-loop-block
invariant-loop-block l = record {
  appended : l.out.items ≡ l.fn.out.items ++ flat_map (λ b. counts_bytes be16 (counts_of b)) (take l.block-index l.blocks);
  fit : AllByRecursion (λ b. FitCounts 16 (counts_of b)) (take l.block-index l.blocks);
}
