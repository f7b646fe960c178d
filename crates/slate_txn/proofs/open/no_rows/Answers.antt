use Rattle.std.proofs.Common.{◌-◌, ◌^◌}
use Rattle.std.proofs.lemmas.Result.{IfOk-weaker}
use Rattle.slate_txn.proofs.OwnLaws.{none_of_keys}
use Rattle.slate_txn.proofs.open.no_rows.Goals as goal

pub returns-clause-none : goal.returns-clause-none
returns-clause-none c = IfOk-weaker c.new-rows.result _ _ (λ it h. none_of_keys c.args.range.now (2 ^ 64 - 1) it.rows _ c.new-batch.ensures h) c.new-rows.ensures.rows
