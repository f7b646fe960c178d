use Rattle.std.proofs.Common.{◌-◌, ◌^◌}
use Rattle.std.proofs.lemmas.Result.{IfOk-weaker}
use Rattle.slate_txn.proofs.OwnLaws.{none_of_keys}
use Rattle.slate_shared.proofs.Views.{own_none}
use Rattle.slate_shared.proofs.view.no_operations.Goals as goal

pub returns-clause-none : goal.returns-clause-none
returns-clause-none c =
    own_none c.args.range.now c.args.order c.new-rows.result
    (IfOk-weaker c.new-rows.result _ _ (λ it h. none_of_keys c.args.range.now (2 ^ 64 - 1) it.rows _ c.new-batch.ensures h) c.new-rows.ensures.rows) c.new-rows.ensures.in_order c.new-rows.ensures.turn c.new-rows.ensures.order
