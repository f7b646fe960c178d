use Rattle.std.proofs.Common.{◌≤◌, [], ◌++◌, drop, length, reverse}
use Rattle.slate_db.specs.OpenScans.{AreEach, IsRunSource}
use Rattle.slate_db.proofs.open_scan.run_sources.Given as goal

abbrev pub invariant-loop-at : goal.invariant-loop-at
invariant-loop-at g l = record {
  within : l.at ≤ length l.runs;
  each : AreEach (IsRunSource l.range l.options.order l.begin) ([] ++ reverse (drop l.at l.runs)) l.sources.items;
}

abbrev pub decreases-loop-at : goal.decreases-loop-at
decreases-loop-at g l = l.at
