use Rattle.std.proofs.Common.{map, ap, inl, take}
use Rattle.std.proofs.lemmas.Result.{IfOk-from_err}
use Rattle.slate_types.proofs.Exits.{err_exit}
use Rattle.slate_block.specs.RowReading.{refusal}
use Rattle.slate_table.proofs.SectionAsks.{front_answers, front_refuses}
use Rattle.slate_table.proofs.filters_reading.ask_section.Goals as goal

pub returns-in_err-len : goal.returns-in_err-len
returns-in_err-len g c =
    record {
      asked = IfOk-from_err c.from_residual.result _ c.from_residual.ensures.0;
      cause = err_exit c.from_residual.result _ c.from_residual.ensures.1 _ (inl (inl (ap refusal c.in_err-len.ensures.cause)));
    }

pub returns : goal.returns
returns g c =
    let policies = map (λ p. (goal.FilterPolicy-dyn g (p.vtable, p.value)).meaning p.value) c.args.policies.now in
    let bytes = c.args.bytes.now in
    let part = take c.in_ok-len.len bytes in
    record {
      asked = front_answers policies c.args.query.now c.args.place bytes part c.ask_filters.result c.checked_len.ensures.bytes c.in_ok-len.ensures.found c.ask_filters.ensures.answer;
      cause = front_refuses policies c.args.query.now c.args.place bytes part c.ask_filters.result c.checked_len.ensures.bytes c.in_ok-len.ensures.found c.ask_filters.ensures.cause;
    }
