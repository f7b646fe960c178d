use Rattle.std.proofs.Common.{arith}
use Rattle.slate_stock.proofs.TotalLaws.{sum_all, sum_refused, sum_step}
use Rattle.slate_stock.proofs.total.sum_of.Goals as goal

pub loop-row-preserved : goal.loop-row-preserved
loop-row-preserved c = sum_step c.args.rows.now c.loop-row.row-index _ _ c.in-Ok.more c.loop-row.sum (omega arith) c.row-item.is c.in-Ok.ensures.sum c.loop-row.invariant

pub returns-in-Err-clause-refused : goal.returns-in-Err-clause-refused
returns-in-Err-clause-refused c = sum_refused c.args.rows.now c.loop-row.row-index c.loop-row.sum _ _ c.in-Err.error (omega arith) c.row-item.is c.loop-row.invariant c.in-Err.ensures.refused

pub returns-clause-sum : goal.returns-clause-sum
returns-clause-sum c = sum_all c.args.rows.now c.loop-row.row-index c.loop-row.sum (omega arith) c.loop-row.invariant
