use Rattle.std.proofs.Common.{◌≡◌, map, drop}
use Rattle.slate_types.specs.Keys.{among}
use Rattle.slate_filter.proofs.names.is_named.Given as goal

abbrev pub invariant-loop-policy : goal.invariant-loop-policy
invariant-loop-policy g l =
    among l.name (map (λ p. ((goal.FilterPolicy-dyn g (p.vtable, p.value)).meaning p.value).name) l.policies)
    ≡ among l.name (map (λ p. ((goal.FilterPolicy-dyn g (p.vtable, p.value)).meaning p.value).name) (drop l.policy-index l.policies))
