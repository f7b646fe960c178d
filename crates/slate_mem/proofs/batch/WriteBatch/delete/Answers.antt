use Rattle.std.proofs.Common.{inr, refl}
use Rattle.std.proofs.lemmas.Result.{IfOk-from_err}
use Rattle.slate_types.proofs.Exits.{err_exit}
use Rattle.slate_mem.proofs.batch.WriteBatch.delete.Goals as goal

pub returns-in_err-test_key-clause-taken : goal.returns-in_err-test_key-clause-taken
returns-in_err-test_key-clause-taken c = IfOk-from_err c.from_residual.result _ c.from_residual.ensures.0

pub returns-in_err-test_key-clause-means : goal.returns-in_err-test_key-clause-means
returns-in_err-test_key-clause-means c = λ ops is. IfOk-from_err c.from_residual.result _ c.from_residual.ensures.0

pub returns-in_err-test_key-clause-cause : goal.returns-in_err-test_key-clause-cause
returns-in_err-test_key-clause-cause c = err_exit c.from_residual.result _ c.from_residual.ensures.1 _ (inr c.in_err-test_key.ensures.cause)

pub returns-in_err-test_key-clause-same : goal.returns-in_err-test_key-clause-same
returns-in_err-test_key-clause-same c = err_exit c.from_residual.result _ c.from_residual.ensures.1 _ refl

pub returns-clause-taken : goal.returns-clause-taken
returns-clause-taken c = c.replace_copied.ensures.taken

pub returns-clause-means : goal.returns-clause-means
returns-clause-means c = c.replace_copied.ensures.means

pub returns-clause-same : goal.returns-clause-same
returns-clause-same c = c.replace_copied.ensures.same
