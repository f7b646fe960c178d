use Rattle.std.proofs.Common.{List, [], if◌then◌else◌, ap, ◌∙◌, map, reverse}
use Rattle.std.proofs.lemmas.Result.{IfOk-weaker}
use Rattle.slate_types.specs.Keys.{in_range}
use Rattle.slate_mem.specs.declared.WriteOp.{WriteOp}
use Rattle.slate_mem.specs.Batch.{Ops, kept}
use Rattle.slate_mem.specs.RowOf.{own_row}
use Rattle.slate_mem.proofs.BatchLaws.{keeps_what_is_kept}
use Rattle.slate_txn.specs.State.{Tx}
use Rattle.slate_txn.proofs.db_transaction.DbTransactionInner.own_range.Goals as goal

-- those that the batch keeps are those of all
pub returns-clause-rows : goal.returns-clause-rows
returns-clause-rows c =
    IfOk-weaker c.own_range.result _ _
    (λ it h k. h k ∙ ap (λ (os : List WriteOp). if in_range c.args.range.now k then map (own_row k) (reverse os) else [])
    (ap (λ (os : Ops). kept os k) c.self.invariant.batch.0 ∙ keeps_what_is_kept _ k ∙ ap (λ (t : Tx). kept t.ops k) c.self.view_is))
    c.own_range.ensures.rows
