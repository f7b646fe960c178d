use Rattle.std.proofs.Common.{subst, sym}
use Rattle.std.proofs.lemmas.Result.{IfOk-from_err}
use Rattle.slate_types.specs.Iteration.{RowList}
use Rattle.slate_types.specs.RowTurns.{AreInTurn, row_before}
use Rattle.slate_types.proofs.Exits.{err_exit}
use Rattle.slate_mem.proofs.TurnLaws.{batch_in_turn}
use Rattle.slate_mem.proofs.batch_iterator.WriteBatchIterator.new.Goals as goal

pub returns-in_err-rows : goal.returns-in_err-rows
returns-in_err-rows c =
    record {
      rows = IfOk-from_err c.from_residual.result _ c.from_residual.ensures.0;
      in_order = IfOk-from_err c.from_residual.result _ c.from_residual.ensures.0;
      turn = IfOk-from_err c.from_residual.result _ c.from_residual.ensures.0;
      order = IfOk-from_err c.from_residual.result _ c.from_residual.ensures.0;
      cause = err_exit c.from_residual.result _ c.from_residual.ensures.1 _ c.in_err-rows.ensures.cause;
    }

pub returns-clause-turn : goal.returns-clause-turn
returns-clause-turn c =
    subst (λ (it : RowList). AreInTurn (row_before c.args.order) it.rows) (sym c.new.ensures)
    (batch_in_turn c.args.range.now c.args.seq c.args.default_ttl_millis c.args.now c.args.batch.now.ops c.args.order c.in_ok-rows.rows.items c.in_ok-rows.ensures.rows c.in_ok-rows.ensures.in_order)
