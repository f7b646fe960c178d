use Rattle.std.proofs.Common.{◌≤◌, length, take, Ok}
use Rattle.slate_types.specs.declared.iter.IterationOrder.TheVariants.{Descending}
use Rattle.slate_block.specs.BlockWalks.{IsPast}
use Rattle.slate_block.specs.GroupWalks.{turned}
use Rattle.slate_block.proofs.walk_back_v2.rows_upto_key.Given as goal

abbrev pub invariant-loop-kept : goal.invariant-loop-kept
invariant-loop-kept l = record {
  within : l.kept ≤ length l.rows;
  past : IsPast Descending l.key (turned (Ok l.rows)) (turned (Ok (take l.kept l.rows)));
}

abbrev pub decreases-loop-kept : goal.decreases-loop-kept
decreases-loop-kept l = l.kept
