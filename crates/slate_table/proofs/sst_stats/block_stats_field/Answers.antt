use Rattle.std.proofs.lemmas.Result.{IfOk-from_err}
use Rattle.slate_table.proofs.sst_stats.block_stats_field.Goals as goal

pub returns-in_err-num_puts-clause-within : goal.returns-in_err-num_puts-clause-within
returns-in_err-num_puts-clause-within c = IfOk-from_err c.from_residual.result _ c.from_residual.ensures.0

pub returns-in_err-num_deletes-clause-within : goal.returns-in_err-num_deletes-clause-within
returns-in_err-num_deletes-clause-within c = IfOk-from_err c.from_residual-in_err-num_deletes.result _ c.from_residual-in_err-num_deletes.ensures.0

pub returns-in_err-num_merges-clause-within : goal.returns-in_err-num_merges-clause-within
returns-in_err-num_merges-clause-within c = IfOk-from_err c.from_residual-in_err-num_merges.result _ c.from_residual-in_err-num_merges.ensures.0
