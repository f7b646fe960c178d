use Rattle.std.proofs.lemmas.Result.{IfOk-from_err}
use Rattle.slate_table.proofs.info.places_from.Goals as goal

pub returns-in_err-index-clause-found : goal.returns-in_err-index-clause-found
returns-in_err-index-clause-found c = IfOk-from_err c.from_residual.result _ c.from_residual.ensures.0

pub returns-in_err-filters-clause-found : goal.returns-in_err-filters-clause-found
returns-in_err-filters-clause-found c = IfOk-from_err c.from_residual-in_err-filters.result _ c.from_residual-in_err-filters.ensures.0

pub returns-in_err-stats-clause-found : goal.returns-in_err-stats-clause-found
returns-in_err-stats-clause-found c = IfOk-from_err c.from_residual-in_err-stats.result _ c.from_residual-in_err-stats.ensures.0

pub returns-in_err-ending-clause-found : goal.returns-in_err-ending-clause-found
returns-in_err-ending-clause-found c = IfOk-from_err c.from_residual-in_err-ending.result _ c.from_residual-in_err-ending.ensures.0
