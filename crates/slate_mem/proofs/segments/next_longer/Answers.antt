use Rattle.std.proofs.Common.{◌∙◌, sym}
use Rattle.std.specs.Prelude.{nat_eq}
use Rattle.std.specs.List.{starts_with}
use Rattle.slate_mem.proofs.NestLaws.{no_next, next_begins, next_other}
use Rattle.slate_mem.proofs.segments.next_longer.Goals as goal

pub returns-in_default : goal.returns-in_default
returns-in_default c =
    let e = c.range-longer.ensures in
    let range = e.in_range tt in
    no_next c.args.prefix.now c.args.prefixes.now e.ordered c.requires (range.5 c.in_default.ensures.steps.0)

pub returns-then-starts_with : goal.returns-then-starts_with
returns-then-starts_with c =
    let e = c.range-longer.ensures in
    let range = e.in_range tt in
    next_begins c.args.prefix.now c.in-Some.next.now c.args.prefixes.now c.range-longer.result _ c.in-Some.ensures.steps e.ordered c.requires range.1 range.2
    (sym (c.starts_with.ensures.value ∙ (λ i. starts_with nat_eq (c.as_slice.ensures i) (c.as_slice-2.ensures i))) ∙ c.if-starts_with.true)

pub returns-else-starts_with : goal.returns-else-starts_with
returns-else-starts_with c =
    let e = c.range-longer.ensures in
    let range = e.in_range tt in
    next_other c.args.prefix.now c.in-Some.next.now c.args.prefixes.now c.range-longer.result _ c.in-Some.ensures.steps e.ordered c.requires range.1 range.2
    (sym (c.starts_with.ensures.value ∙ (λ i. starts_with nat_eq (c.as_slice.ensures i) (c.as_slice-2.ensures i))) ∙ c.if-starts_with.false)
