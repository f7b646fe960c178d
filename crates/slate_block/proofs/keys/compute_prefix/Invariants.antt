use Rattle.std.proofs.Common.{◌≡◌, ◌≤◌, ◌-◌, length, min, take}
use Rattle.slate_block.proofs.keys.compute_prefix.Given as goal

abbrev pub invariant-loop-at : goal.invariant-loop-at
invariant-loop-at l = record {
  within : l.at ≤ min (length l.lhs) (length l.rhs);
  shared : take l.at l.lhs ≡ take l.at l.rhs;
}

abbrev pub decreases-loop-at : goal.decreases-loop-at
decreases-loop-at l = length l.lhs - l.at
