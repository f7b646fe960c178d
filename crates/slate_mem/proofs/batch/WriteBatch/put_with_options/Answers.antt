use Rattle.std.proofs.Common.{refl, inl, inr}
use Rattle.std.proofs.lemmas.Result.{IfOk-from_err}
use Rattle.slate_types.proofs.Exits.{err_exit}
use Rattle.slate_mem.proofs.batch.WriteBatch.put_with_options.Goals as goal

pub returns-in_err-test_put-clause-taken : goal.returns-in_err-test_put-clause-taken
returns-in_err-test_put-clause-taken c = IfOk-from_err c.from_residual.result _ c.from_residual.ensures.0

pub returns-in_err-test_put-clause-means : goal.returns-in_err-test_put-clause-means
returns-in_err-test_put-clause-means c = λ ops is. IfOk-from_err c.from_residual.result _ c.from_residual.ensures.0

pub returns-in_err-test_put-clause-cause : goal.returns-in_err-test_put-clause-cause
returns-in_err-test_put-clause-cause c = err_exit c.from_residual.result _ c.from_residual.ensures.1 _ (inr c.in_err-test_put.ensures.cause)

pub returns-in_err-value-clause-taken : goal.returns-in_err-value-clause-taken
returns-in_err-value-clause-taken c = IfOk-from_err c.from_residual-in_err-value.result _ c.from_residual-in_err-value.ensures.0

pub returns-in_err-value-clause-means : goal.returns-in_err-value-clause-means
returns-in_err-value-clause-means c = λ ops is. IfOk-from_err c.from_residual-in_err-value.result _ c.from_residual-in_err-value.ensures.0

pub returns-in_err-value-clause-cause : goal.returns-in_err-value-clause-cause
returns-in_err-value-clause-cause c = err_exit c.from_residual-in_err-value.result _ c.from_residual-in_err-value.ensures.1 _ (inl refl)

pub returns-in_err-test_put-clause-same : goal.returns-in_err-test_put-clause-same
returns-in_err-test_put-clause-same c = err_exit c.from_residual.result _ c.from_residual.ensures.1 _ refl

pub returns-in_err-value-clause-same : goal.returns-in_err-value-clause-same
returns-in_err-value-clause-same c = err_exit c.from_residual-in_err-value.result _ c.from_residual-in_err-value.ensures.1 _ refl

pub returns-clause-same : goal.returns-clause-same
returns-clause-same c = c.replace_copied.ensures.same
