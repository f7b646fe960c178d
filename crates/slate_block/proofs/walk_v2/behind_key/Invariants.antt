use Rattle.std.proofs.Common.{length}
use Rattle.slate_types.specs.declared.iter.IterationOrder.TheVariants.{Ascending}
use Rattle.slate_block.specs.BlockWalks.{IsPast}
use Rattle.slate_block.specs.GroupWalks.{as_place, left_v2}
use Rattle.slate_block.proofs.walk_v2.behind_key.Given as goal

abbrev pub invariant-loop-walk : goal.invariant-loop-walk
invariant-loop-walk l = record { past : IsPast Ascending l.key (left_v2 l.body l.offsets l.fn.place) (left_v2 l.body l.offsets (as_place l.walk)) }

abbrev pub decreases-loop-walk : goal.decreases-loop-walk
decreases-loop-walk l = length (left_v2 l.body l.offsets (as_place l.walk))
