use Rattle.std.proofs.Common.{ap, ◌∙◌}
use Rattle.std.proofs.lemmas.Result.{IfOk-weaker, IfOk-from_err}
use Rattle.slate_language.specs.Built.{built_tokens}
use Rattle.slate_language.proofs.parse.read_shared.Goals as goal

pub returns : goal.returns
returns c = record {
  line = IfOk-weaker c.read_line-line.result _ _ (λ o is. is ∙ ap built_tokens (c.as_slice.ensures.value ∙ c.in_ok-tokens.ensures.tokens)) c.read_line-line.ensures.line;
}

pub returns-in_err-tokens : goal.returns-in_err-tokens
returns-in_err-tokens c = record { line = IfOk-from_err c.from_residual.result _ c.from_residual.ensures.0 }
