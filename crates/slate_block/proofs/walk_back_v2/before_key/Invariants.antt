use Rattle.std.proofs.Common.{◌≤◌}
use Rattle.slate_types.specs.declared.iter.IterationOrder.TheVariants.{Descending}
use Rattle.slate_block.specs.BlockWalks.{IsPast}
use Rattle.slate_block.specs.GroupWalks.{reads_back}
use Rattle.slate_block.proofs.walk_back_v2.before_key.Given as goal

abbrev pub invariant-loop-before : goal.invariant-loop-before
invariant-loop-before l = record {
  within : l.before ≤ l.groups;
  past : IsPast Descending l.key (reads_back l.groups l.body l.offsets) (reads_back l.before l.body l.offsets);
}

abbrev pub decreases-loop-before : goal.decreases-loop-before
decreases-loop-before l = l.before
