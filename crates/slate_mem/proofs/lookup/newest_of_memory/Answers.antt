use Rattle.std.proofs.lemmas.Result.{IfOk-weaker, IfOk-from_err}
use Rattle.slate_types.proofs.Exits.{err_exit}
use Rattle.slate_mem.proofs.lookup.newest_of_memory.Goals as goal

pub returns-clause-found : goal.returns-clause-found
returns-clause-found c = IfOk-weaker c.newest_of_frozen.result _ _ (λ all h. h c.args.active.now.rows c.in_ok-found.ensures.rows) c.newest_of_frozen.ensures.found

pub returns-in_err-found : goal.returns-in_err-found
returns-in_err-found c =
    record {
      found = IfOk-from_err c.from_residual.result _ c.from_residual.ensures.0;
      cause = err_exit c.from_residual.result _ c.from_residual.ensures.1 _ c.in_err-found.ensures.cause;
    }
