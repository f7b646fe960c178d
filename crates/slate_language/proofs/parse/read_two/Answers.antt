use Rattle.std.proofs.lemmas.Result.{IfOk-from_err}
use Rattle.slate_language.proofs.parse.read_two.Goals as goal

pub returns-in_err-first : goal.returns-in_err-first
returns-in_err-first c = record { bytes = IfOk-from_err c.from_residual.result _ c.from_residual.ensures.0 }
