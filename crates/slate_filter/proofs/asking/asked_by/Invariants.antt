use Rattle.std.proofs.Common.{◌≡◌, map, drop}
use Rattle.slate_filter.specs.Asking.{asked_by}
use Rattle.slate_filter.proofs.asking.asked_by.Given as goal

-- what all policies answer is what those still to be asked do
abbrev pub invariant-loop-policy : goal.invariant-loop-policy
invariant-loop-policy g l =
    asked_by (map (λ p. (goal.FilterPolicy-dyn g (p.vtable, p.value)).meaning p.value) l.policies) l.query (l.name, l.filter)
    ≡ asked_by (map (λ p. (goal.FilterPolicy-dyn g (p.vtable, p.value)).meaning p.value) (drop l.policy-index l.policies)) l.query (l.name, l.filter)
