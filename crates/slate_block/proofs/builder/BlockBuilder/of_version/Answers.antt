use Rattle.std.proofs.Common.{◌≡◌, List, [], sym, subst, ℕ}
use Rattle.slate_block.specs.Building.{number, Holds}
use Rattle.slate_block.proofs.HeldOnce.{held_alone}
use Rattle.slate_block.proofs.HeldLaws.{nothing_held}
use Rattle.slate_block.proofs.builder.BlockBuilder.of_version.Goals as goal

empty_held : (version : ℕ) (body offsets front : List ℕ) → body ≡ [] → offsets ≡ [] → front ≡ [] → Holds version body offsets 0 front []
empty_held version body offsets front a b c =
    subst (λ (l : List ℕ). Holds version l offsets 0 front []) (sym a)
    (subst (λ (l : List ℕ). Holds version [] l 0 front []) (sym b)
    (subst (λ (l : List ℕ). Holds version [] [] 0 l []) (sym c) (nothing_held version)))

pub invariant_of-result : goal.invariant_of-result
invariant_of-result c = (held_alone (number c.args.version) _ _ 0 _ [] (empty_held (number c.args.version) _ _ _ c.new.ensures.items c.new-2.ensures.items c.new-3.ensures), tt)
