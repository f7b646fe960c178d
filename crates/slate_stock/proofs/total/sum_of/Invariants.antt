use Rattle.std.proofs.Common.{◌≡◌, take}
use Rattle.slate_stock.specs.Totals.{values_sum}
use Rattle.slate_stock.proofs.total.sum_of.Given as goal

abbrev pub invariant-loop-row : goal.invariant-loop-row
invariant-loop-row l = l.sum ≡ values_sum (take l.row-index l.rows)
