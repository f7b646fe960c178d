use Rattle.std.proofs.Common.{◌≡◌, ◌≤◌, ◌<◌, ◌-◌, ◌+◌, length, ℕ}
use Rattle.slate_types.specs.declared.iter.IterationOrder.TheVariants.{Ascending}
use Rattle.slate_block.specs.GroupWalks.{BeginsBefore}
use Rattle.slate_block.proofs.walk_v2.last_before.Given as goal

abbrev pub invariant-loop-low : goal.invariant-loop-low
invariant-loop-low l = record {
  from : l.from ≤ l.low;
  high : l.high ≤ length l.offsets;
  low : l.from < l.low → l.low ≤ length l.offsets;
  before : (number : ℕ) → l.from ≤ number → number + 1 ≡ l.low → BeginsBefore Ascending l.body l.offsets number l.key;
}

abbrev pub decreases-loop-low : goal.decreases-loop-low
decreases-loop-low l = l.high - l.low
