use Rattle.std.proofs.lemmas.Result.{IfOk-from_err}
use Rattle.slate_types.proofs.Exits.{err_exit}
use Rattle.slate_mem.proofs.batch_iterator.Stamps.row.Goals as goal

pub returns-in_err-to_row-in-None : goal.returns-in_err-to_row-in-None
returns-in_err-to_row-in-None c =
    record {
      row = IfOk-from_err c.from_residual.result _ c.from_residual.ensures.0;
      cause = err_exit c.from_residual.result _ c.from_residual.ensures.1 _ c.in_err-to_row-in-None.ensures.cause;
    }

pub returns-in-Some-clause-cause : goal.returns-in-Some-clause-cause
returns-in-Some-clause-cause c = c.to_row.ensures.cause
