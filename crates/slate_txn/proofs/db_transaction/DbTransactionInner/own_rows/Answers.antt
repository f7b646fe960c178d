use Rattle.std.proofs.Common.{◌≡◌, List, ap, subst, ◌∙◌, map, reverse}
use Rattle.std.specs.Prelude.{IfOk}
use Rattle.slate_mem.specs.declared.WriteOp.{WriteOp}
use Rattle.slate_mem.specs.Batch.{Ops, kept}
use Rattle.slate_mem.specs.RowOf.{own_row}
use Rattle.slate_mem.proofs.BatchLaws.{keeps_what_is_kept}
use Rattle.slate_txn.specs.State.{Tx}
use Rattle.slate_txn.proofs.db_transaction.DbTransactionInner.own_rows.Goals as goal

-- those that the batch keeps are those of all
kept_is : (c : goal.After-own_rows) → kept c.self.inside.batch.ops c.args.key.now ≡ kept c.args.self.now.ops c.args.key.now
kept_is c =
    ap (λ (os : Ops). kept os c.args.key.now) c.self.invariant.batch.0
    ∙ keeps_what_is_kept _ c.args.key.now
    ∙ ap (λ (t : Tx). kept t.ops c.args.key.now) c.self.view_is

pub returns-clause-rows : goal.returns-clause-rows
returns-clause-rows c = subst (λ (os : List WriteOp). IfOk c.own_rows.result (λ rows. rows.items ≡ map (own_row c.args.key.now) (reverse os))) (kept_is c) c.own_rows.ensures.rows
