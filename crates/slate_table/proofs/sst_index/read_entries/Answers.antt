use Rattle.std.proofs.lemmas.Result.{IfOk-from_err}
use Rattle.slate_table.proofs.sst_index.read_entries.Goals as goal

pub returns-in_err-count-clause-found : goal.returns-in_err-count-clause-found
returns-in_err-count-clause-found c = IfOk-from_err c.from_residual.result _ c.from_residual.ensures.0

pub returns-in_err-count-clause-within : goal.returns-in_err-count-clause-within
returns-in_err-count-clause-within c = IfOk-from_err c.from_residual.result _ c.from_residual.ensures.0

pub returns-in_err-count-clause-bytes : goal.returns-in_err-count-clause-bytes
returns-in_err-count-clause-bytes c = IfOk-from_err c.from_residual.result _ c.from_residual.ensures.0

pub returns-in_err-places-clause-found : goal.returns-in_err-places-clause-found
returns-in_err-places-clause-found c = IfOk-from_err c.from_residual-in_err-places.result _ c.from_residual-in_err-places.ensures.0

pub returns-in_err-places-clause-within : goal.returns-in_err-places-clause-within
returns-in_err-places-clause-within c = IfOk-from_err c.from_residual-in_err-places.result _ c.from_residual-in_err-places.ensures.0

pub returns-in_err-places-clause-bytes : goal.returns-in_err-places-clause-bytes
returns-in_err-places-clause-bytes c = IfOk-from_err c.from_residual-in_err-places.result _ c.from_residual-in_err-places.ensures.0
