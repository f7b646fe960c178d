use Rattle.std.proofs.Common.{◌≡◌, map, length}
use Rattle.std.specs.String.{string_bytes}
use Rattle.slate_language.specs.Words.{are_handed, filter_names}
use Rattle.slate_language.proofs.words.are_handed.Given as goal

abbrev pub decreases-loop-word : goal.decreases-loop-word
decreases-loop-word g l = length l.left

abbrev pub invariant-loop-word : goal.invariant-loop-word
invariant-loop-word g l =
    are_handed (map (λ p. ((goal.FilterPolicy-dyn g (p.vtable, p.value)).meaning p.value).name) l.policies) (filter_names (map string_bytes l.words))
    ≡ are_handed (map (λ p. ((goal.FilterPolicy-dyn g (p.vtable, p.value)).meaning p.value).name) l.policies) (filter_names (map string_bytes l.left))
