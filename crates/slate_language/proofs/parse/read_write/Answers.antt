use Rattle.std.proofs.lemmas.Result.{IfOk-from_err}
use Rattle.slate_language.proofs.parse.read_write.Goals as goal

pub returns-in_err-ops : goal.returns-in_err-ops
returns-in_err-ops c = record { line = IfOk-from_err c.from_residual.result _ c.from_residual.ensures.0 }
