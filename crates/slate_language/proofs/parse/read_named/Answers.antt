use Rattle.std.proofs.lemmas.Result.{IfOk-from_err}
use Rattle.slate_language.proofs.parse.read_named.Goals as goal

pub returns-in_err-key : goal.returns-in_err-key
returns-in_err-key c = record { pair = IfOk-from_err c.from_residual.result _ c.from_residual.ensures.0 }
