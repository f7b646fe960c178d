use Rattle.std.proofs.Common.{◌≡◌, ◌-◌, ◌≤◌, ◌++◌, length, drop, option_map}
use Rattle.slate_language.specs.Built.{built_ops}
use Rattle.slate_language.proofs.parse.read_ops.Given as goal

abbrev pub invariant-loop-at : goal.invariant-loop-at
invariant-loop-at l = record {
  within : l.at ≤ length l.tokens;
  ops : option_map (λ os. l.ops.items ++ os) (built_ops (drop l.at l.tokens)) ≡ built_ops l.tokens;
}

abbrev pub decreases-loop-at : goal.decreases-loop-at
decreases-loop-at l = length l.tokens - l.at
