use Rattle.std.proofs.lemmas.Result.{IfOk-from_err}
use Rattle.slate_table.proofs.info.version_field.Goals as goal

pub returns-in_err-stored-clause-within : goal.returns-in_err-stored-clause-within
returns-in_err-stored-clause-within c = IfOk-from_err c.from_residual.result _ c.from_residual.ensures.0

pub returns-in_err-stored-clause-bytes : goal.returns-in_err-stored-clause-bytes
returns-in_err-stored-clause-bytes c = IfOk-from_err c.from_residual.result _ c.from_residual.ensures.0
