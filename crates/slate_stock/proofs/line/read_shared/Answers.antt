use Rattle.std.proofs.Common.{◌∙◌, ap}
use Rattle.std.proofs.lemmas.Result.{IfOk-from_err, IfOk-weaker}
use Rattle.slate_stock.specs.Lines.{line_of}
use Rattle.slate_stock.proofs.line.read_shared.Goals as goal

pub returns : goal.returns
returns c = record { line = IfOk-weaker c.read_tokens-line.result _ _ (λ o is. is ∙ ap line_of (c.as_slice.ensures.value ∙ c.in_ok-tokens.ensures.tokens)) c.read_tokens-line.ensures.line }

pub returns-in_err-tokens : goal.returns-in_err-tokens
returns-in_err-tokens c = record { line = IfOk-from_err c.from_residual.result _ c.from_residual.ensures.0 }
