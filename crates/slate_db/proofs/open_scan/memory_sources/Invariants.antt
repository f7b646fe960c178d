use Rattle.std.proofs.Common.{◌≤◌, [], ◌∷◌, ◌++◌, drop, length, map, reverse}
use Rattle.slate_db.specs.OpenScans.{AreEach, IsMemorySource}
use Rattle.slate_db.proofs.open_scan.memory_sources.Given as goal

abbrev pub invariant-loop-at : goal.invariant-loop-at
invariant-loop-at l = record {
  within : l.at ≤ length l.frozen;
  each : AreEach (IsMemorySource l.range l.order l.begin) ((l.active.rows ∷ []) ++ reverse (drop l.at (map (λ t. t.rows) l.frozen))) l.sources.items;
}

abbrev pub decreases-loop-at : goal.decreases-loop-at
decreases-loop-at l = l.at
