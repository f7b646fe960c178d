use Rattle.std.proofs.lemmas.Result.{IfOk-from_err}
use Rattle.slate_table.proofs.info.read_info.Goals as goal

pub returns-in_err-at-clause-found : goal.returns-in_err-at-clause-found
returns-in_err-at-clause-found c = IfOk-from_err c.from_residual.result _ c.from_residual.ensures.0

pub returns-in_err-at-clause-bytes : goal.returns-in_err-at-clause-bytes
returns-in_err-at-clause-bytes c = IfOk-from_err c.from_residual.result _ c.from_residual.ensures.0

pub returns-in_err-first_entry-clause-found : goal.returns-in_err-first_entry-clause-found
returns-in_err-first_entry-clause-found c = IfOk-from_err c.from_residual-in_err-first_entry.result _ c.from_residual-in_err-first_entry.ensures.0

pub returns-in_err-first_entry-clause-bytes : goal.returns-in_err-first_entry-clause-bytes
returns-in_err-first_entry-clause-bytes c = IfOk-from_err c.from_residual-in_err-first_entry.result _ c.from_residual-in_err-first_entry.ensures.0
