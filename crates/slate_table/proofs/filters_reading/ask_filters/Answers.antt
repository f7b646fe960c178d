use Rattle.std.proofs.Common.{◌∙◌, ap, length, map}
use Rattle.std.specs.Option.{ok_or}
use Rattle.slate_types.specs.declared.error.SlateDBError.TheVariants.{InvalidFilterBlock}
use Rattle.slate_table.proofs.FilterAnswers.{part_answers}
use Rattle.slate_table.proofs.filters_reading.ask_filters.Goals as goal

pub returns : goal.returns
returns g c =
    let policies = map (λ p. (goal.FilterPolicy-dyn g (p.vtable, p.value)).meaning p.value) c.args.policies.now in
    let says = part_answers policies c.args.query.now c.args.part.now c.answer_in.result c.answer_in.ensures.answer c.answer_in.ensures.bytes in
    let is = c.ok_or.ensures.value ∙ ap (λ o. ok_or o (InvalidFilterBlock (length c.args.part.now))) c.unwrap_or-answer.ensures in
    record { answer = rw is says.answer; cause = rw is says.cause }
