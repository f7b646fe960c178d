use Rattle.std.proofs.Common.{◌≡◌, ◌∙◌, ℕ, List, min, length, take, ap, arith}
use Rattle.std.specs.Ordering.{ordering_then}
use Rattle.std.proofs.lemmas.List.{take_rest}
use Rattle.slate_types.specs.Keys.{key_cmp}
use Rattle.slate_block.proofs.PartLaws.{parts_cmp}
use Rattle.slate_block.proofs.key_parts.cmp_parts.Goals as goal

pub returns : goal.returns
returns c =
    let front = c.args.front.now in
    let suffix = c.args.suffix.now in
    let key = c.args.key.now in
    let len = c.min-len.result in
    let shorter : len ≡ min (length front) (length key) = omega (arith, c.min-len.ensures) in
    c.then.ensures ∙ (λ i. ordering_then (c.cmp.ensures i) (c.cmp-2.ensures i))
    ∙ ap (λ (l : List ℕ). ordering_then (key_cmp front (take len key)) (key_cmp suffix l)) (take_rest key len) ∙ parts_cmp front suffix key len shorter
