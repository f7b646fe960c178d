use Rattle.std.proofs.Common.{◌≡◌, map, length}
use Rattle.slate_filter.specs.Names.{are_apart}
use Rattle.slate_filter.proofs.names.are_apart.Given as goal

abbrev pub decreases-loop-policy : goal.decreases-loop-policy
decreases-loop-policy g l = length l.left

-- what holds of all names is what holds of those that are left
abbrev pub invariant-loop-policy : goal.invariant-loop-policy
invariant-loop-policy g l =
    are_apart (map (λ p. ((goal.FilterPolicy-dyn g (p.vtable, p.value)).meaning p.value).name) l.policies)
    ≡ are_apart (map (λ p. ((goal.FilterPolicy-dyn g (p.vtable, p.value)).meaning p.value).name) l.left)
