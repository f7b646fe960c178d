use Rattle.std.proofs.Common.{◌≡◌, map, drop}
use Rattle.slate_filter.specs.Asking.{asked}
use Rattle.slate_filter.specs.Named.{named_pair}
use Rattle.slate_filter.proofs.asking.asked.Given as goal

-- what all filters answer is what those still to be asked do
abbrev pub invariant-loop-filter : goal.invariant-loop-filter
invariant-loop-filter g l =
    asked (map (λ p. (goal.FilterPolicy-dyn g (p.vtable, p.value)).meaning p.value) l.policies) (map named_pair l.filters) l.query
    ≡ asked (map (λ p. (goal.FilterPolicy-dyn g (p.vtable, p.value)).meaning p.value) l.policies) (map named_pair (drop l.filter-index l.filters)) l.query
