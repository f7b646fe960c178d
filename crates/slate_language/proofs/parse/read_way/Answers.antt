use Rattle.std.proofs.Common.{sym, ◌∙◌}
use Rattle.std.proofs.lemmas.Result.{IfOk-from_err}
use Rattle.slate_language.proofs.OpLaws.{with_third, way_is}
use Rattle.slate_language.proofs.parse.read_way.Goals as goal

pub returns-in-Ok-Some : goal.returns-in-Ok-Some
returns-in-Ok-Some c = record {
  way = (λ i. with_third (sym c.in-Ok-Some.field-0-is i) (sym c.in-Some.is i))
      ∙ way_is c.args.tokens.now c.start-item.result c.end-item.result c.in-Ok-Some.field-0 c.in_ok-steps.field-0 c.in-len2-up.len_at_least c.start-item.is c.end-item.is c.in-Ok-Some.ensures.bounds c.in_ok-steps.ensures.steps;
}

pub returns-in-Ok-None : goal.returns-in-Ok-None
returns-in-Ok-None c = record {
  way = (λ i. with_third (sym c.in-Ok-None.field-0-is i) (sym c.in-Some.is i))
      ∙ way_is c.args.tokens.now c.start-item.result c.end-item.result c.in-Ok-None.field-0 c.in_ok-steps.field-0 c.in-len2-up.len_at_least c.start-item.is c.end-item.is c.in-Ok-None.ensures.bounds c.in_ok-steps.ensures.steps;
}

pub returns-in_err-steps : goal.returns-in_err-steps
returns-in_err-steps c = record { way = IfOk-from_err c.from_residual.result _ c.from_residual.ensures.0 }
