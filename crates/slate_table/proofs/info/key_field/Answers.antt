use Rattle.std.proofs.Common.{refl, inl}
use Rattle.std.proofs.lemmas.Result.{IfOk-from_err}
use Rattle.slate_table.proofs.info.key_field.Goals as goal
use Rattle.slate_types.proofs.Exits.{err_exit}

pub returns-in_err-is_there-clause-found : goal.returns-in_err-is_there-clause-found
returns-in_err-is_there-clause-found c = IfOk-from_err c.from_residual.result _ c.from_residual.ensures.0

pub returns-in_err-is_there-clause-within : goal.returns-in_err-is_there-clause-within
returns-in_err-is_there-clause-within c = IfOk-from_err c.from_residual.result _ c.from_residual.ensures.0

pub returns-in_err-len-clause-found : goal.returns-in_err-len-clause-found
returns-in_err-len-clause-found c = IfOk-from_err c.from_residual-in_err-len.result _ c.from_residual-in_err-len.ensures.0

pub returns-in_err-len-clause-within : goal.returns-in_err-len-clause-within
returns-in_err-len-clause-within c = IfOk-from_err c.from_residual-in_err-len.result _ c.from_residual-in_err-len.ensures.0

pub returns-in_err-start-clause-found : goal.returns-in_err-start-clause-found
returns-in_err-start-clause-found c = IfOk-from_err c.from_residual-in_err-start.result _ c.from_residual-in_err-start.ensures.0

pub returns-in_err-start-clause-within : goal.returns-in_err-start-clause-within
returns-in_err-start-clause-within c = IfOk-from_err c.from_residual-in_err-start.result _ c.from_residual-in_err-start.ensures.0

pub returns-in_err-key : goal.returns-in_err-key
returns-in_err-key c =
    record {
      found = IfOk-from_err c.from_residual-in_err-key.result _ c.from_residual-in_err-key.ensures.0;
      cause = err_exit c.from_residual-in_err-key.result _ c.from_residual-in_err-key.ensures.1 _ (inl refl);
      within = IfOk-from_err c.from_residual-in_err-key.result _ c.from_residual-in_err-key.ensures.0;
    }

pub returns-then-is_there-eq0-clause-cause : goal.returns-then-is_there-eq0-clause-cause
returns-then-is_there-eq0-clause-cause c = tt

pub returns-then-is_there-eq1-clause-cause : goal.returns-then-is_there-eq1-clause-cause
returns-then-is_there-eq1-clause-cause c = tt

pub returns-clause-found : goal.returns-clause-found
returns-clause-found c = tt

pub returns-clause-within : goal.returns-clause-within
returns-clause-within c = tt
