use Rattle.std.proofs.lemmas.Result.{IfOk-from_err}
use Rattle.slate_table.proofs.sst_index.entry_field.Goals as goal

pub returns-in_err-offset-clause-found : goal.returns-in_err-offset-clause-found
returns-in_err-offset-clause-found c = IfOk-from_err c.from_residual.result _ c.from_residual.ensures.0

pub returns-in_err-offset-clause-within : goal.returns-in_err-offset-clause-within
returns-in_err-offset-clause-within c = IfOk-from_err c.from_residual.result _ c.from_residual.ensures.0

pub returns-in_err-start-clause-found : goal.returns-in_err-start-clause-found
returns-in_err-start-clause-found c = IfOk-from_err c.from_residual-in_err-start.result _ c.from_residual-in_err-start.ensures.0

pub returns-in_err-start-clause-within : goal.returns-in_err-start-clause-within
returns-in_err-start-clause-within c = IfOk-from_err c.from_residual-in_err-start.result _ c.from_residual-in_err-start.ensures.0
