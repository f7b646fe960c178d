use Rattle.std.proofs.Common.{◌≡◌, flat_map, take}
use Rattle.slate_index.specs.Shown.{left_at}
use Rattle.slate_index.proofs.audit.left_ops.Given as goal

abbrev pub invariant-loop-key : goal.invariant-loop-key
invariant-loop-key l = l.left.items ≡ flat_map (λ k. left_at k l.made) (take l.key-index l.key-items)
