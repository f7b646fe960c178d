use Rattle.std.proofs.Common.{◌≤◌, drop, length, reverse}
use Rattle.slate_tables.specs.Merging.{IsTableSource, MatchEach}
use Rattle.slate_tables.proofs.merging.table_sources.Given as goal

abbrev pub invariant-loop-at : goal.invariant-loop-at
invariant-loop-at l = record {
  within : l.at ≤ length l.handles;
  each : MatchEach (IsTableSource l.range l.order) (reverse (drop l.at l.handles)) l.sources.items;
}

abbrev pub decreases-loop-at : goal.decreases-loop-at
decreases-loop-at l = l.at
