use Rattle.std.proofs.Common.{◌≡◌, ◌+◌, ◌∙◌, arith, refl}
use Rattle.slate_shared.specs.Shared.{all_parts}
use Rattle.slate_services.proofs.FlushingLaws.{left_three}
use Rattle.slate_services.proofs.PlainLaws.{whole_if}
use Rattle.slate_services.proofs.flushing.left_by.Goals as goal

pub returns-clause-left : goal.returns-clause-left
returns-clause-left g c =
    let first = c.joined-two.ensures in
    let last = c.joined-all.ensures in
    let sum = c.requires.parts in
    let two = first.same.1 in
    let all = last.same.1 in
    let parts : c.joined-all.result.parts ≡ all_parts = omega (arith, sum, two, all) in
    let copy = whole_if c.joined-all.result c.close-core.result.0.events c.close-core.result.1
    c.in_ok-copied.field-0 c.in_ok-copied.was c.close-core.ensures.copy in (
      left_three _ _ _ c.joined-two.result c.joined-all.result c.in_ok-copied.field-0.events
          c.close-core.result.0.events first.joins last.joins parts copy,
      refl,
      refl,
    )
