use Rattle.std.proofs.lemmas.Result.{IfOk-from_err}
use Rattle.slate_mem.proofs.fold.join_value.Goals as goal

pub returns-in_err-made-clause-value : goal.returns-in_err-made-clause-value
returns-in_err-made-clause-value g c = IfOk-from_err c.from_residual.result _ c.from_residual.ensures.0

pub returns-in_err-made-clause-same : goal.returns-in_err-made-clause-same
returns-in_err-made-clause-same g c = c.merge.ensures.same

pub returns-in_err-made-clause-later : goal.returns-in_err-made-clause-later
returns-in_err-made-clause-later g c = c.merge.ensures.later
