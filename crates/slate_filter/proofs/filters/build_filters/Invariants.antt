use Rattle.std.proofs.Common.{◌≡◌, ◌++◌, map, filter_map, drop}
use Rattle.slate_filter.specs.Named.{named_pair}
use Rattle.slate_filter.specs.Policy.{named}
use Rattle.slate_filter.proofs.filters.build_filters.Given as goal

-- the filters so far, and those of the later policies
abbrev pub invariant-loop-policy : goal.invariant-loop-policy
invariant-loop-policy g l =
    map named_pair l.filters.items ++ filter_map (λ p. named p.name (p.builds l.rows)) (map (λ p. (goal.FilterPolicy-dyn g (p.vtable, p.value)).meaning p.value) (drop l.policy-index l.policies))
    ≡ filter_map (λ p. named p.name (p.builds l.rows)) (map (λ p. (goal.FilterPolicy-dyn g (p.vtable, p.value)).meaning p.value) l.policies)
