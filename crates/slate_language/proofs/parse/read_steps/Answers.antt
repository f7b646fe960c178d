use Rattle.std.proofs.Common.{◌+◌, ◌++◌, drop, option_map, ap, ◌∙◌}
use Rattle.std.proofs.lemmas.Result.{IfOk-from_err}
use Rattle.slate_language.specs.Parse.{read_all, read_step}
use Rattle.slate_language.proofs.OpLaws.{each_refused, each_taken}
use Rattle.slate_language.proofs.parse.read_steps.Goals as goal

pub returns-in_default : goal.returns-in_default
returns-in_default c = record {
  steps = each_refused read_step c.args.tokens.now c.loop-token.token-index c.token-item.result c.loop-token.steps.items c.in_ok-step.field-0 c.loop-token-test.true c.loop-token.invariant
      (c.in_ok-step.ensures.step ∙ ap read_step c.token-item.is) c.in_default.is;
}

pub loop-token-preserved : goal.loop-token-preserved
loop-token-preserved c =
    let later = read_all read_step (drop (c.loop-token.token-index + 1) c.args.tokens.now) in
    ap (λ xs. option_map (λ sts. xs ++ sts) later) c.in_ok-push.ensures.items
    ∙ each_taken read_step c.args.tokens.now c.loop-token.token-index c.token-item.result c.loop-token.steps.items c.in_ok-step.field-0 c.in-Some.step c.loop-token-test.true c.loop-token.invariant
    (c.in_ok-step.ensures.step ∙ ap read_step c.token-item.is) c.in-Some.is

pub returns-in_err-step : goal.returns-in_err-step
returns-in_err-step c = record { steps = IfOk-from_err c.from_residual.result _ c.from_residual.ensures.0 }

pub returns-in_err-push : goal.returns-in_err-push
returns-in_err-push c = record { steps = IfOk-from_err c.from_residual-in_err-push.result _ c.from_residual-in_err-push.ensures.0 }
