use Rattle.std.proofs.Common.{inr, arith, inl}
use Rattle.std.proofs.lemmas.Result.{IfOk-weaker, IfErr-weaker, err_from_is_err_and, IfOk-from_err}
use Rattle.slate_table.proofs.Results.{on_err, if_ok, spread}
use Rattle.slate_table.proofs.Asking.{reaches_err, reaches_ok}
use Rattle.slate_table.proofs.opening.read_info.Goals as goal

pub returns : goal.returns
returns g c =
    record {
      found = IfOk-weaker c.info_of.result _ _ (λ info found. (c.in_ok-answer.answer, c.in_ok-answer.ensures.read, found)) c.info_of.ensures.found;
      some = if_ok c.info_of.result _ (λ _. omega arith);
      cause = (IfErr-weaker c.info_of.result _ _
          (λ e h. spread (λ refused. (omega arith, (c.in_ok-answer.answer, c.in_ok-answer.ensures.read, refused))) h) c.info_of.ensures.cause);
      once = on_err c.info_of.result (inr (c.in_ok-answer.answer, c.in_ok-answer.ensures.read, tt));
      reaches = reaches_ok c.in_ok-answer.ensures.reaches;
    }

pub returns-in_err-answer : goal.returns-in_err-answer
returns-in_err-answer g c =
    let p = err_from_is_err_and c.from_residual.result c.from_residual.ensures.1 in
    record {
      found = IfOk-from_err c.from_residual.result _ c.from_residual.ensures.0;
      some = IfOk-from_err c.from_residual.result _ c.from_residual.ensures.0;
      cause = rw (p.1, p.2) (inl c.in_err-answer.ensures.cause);
      once = rw p.1 (inl c.in_err-answer.ensures.none);
      reaches = reaches_err c.in_err-answer.ensures.reaches c.from_residual.ensures.1;
    }
