use Rattle.std.proofs.Common.{◌≡◌, ◌≤◌, ◌-◌, length}
use Rattle.slate_table.specs.StatsReading.{block_stats_from}
use Rattle.slate_table.proofs.StatsReads.{with_front}
use Rattle.slate_table.proofs.sst_stats.block_stats_from.Given as goal

abbrev pub invariant-loop : goal.invariant-loop
invariant-loop l = record {
  within : l.at ≤ length l.bytes;
  read : with_front l.blocks.items (block_stats_from (l.count - l.counter) l.bytes l.at) ≡ block_stats_from l.count l.bytes l.at-2;
}
