use Rattle.std.proofs.Common.{◌≤◌, ◌<◌, ◌-◌}
use Rattle.slate_types.specs.declared.iter.IterationOrder.TheVariants.{Descending}
use Rattle.slate_block.specs.GroupWalks.{BeginsBefore}
use Rattle.slate_block.proofs.walk_back_v2.groups_to_search.Given as goal

abbrev pub invariant-loop-low : goal.invariant-loop-low
invariant-loop-low l = record {
  within : l.upto ≤ l.groups;
  after : l.upto < l.groups → BeginsBefore Descending l.body l.offsets l.upto l.key;
}

abbrev pub decreases-loop-low : goal.decreases-loop-low
decreases-loop-low l = l.upto - l.low
