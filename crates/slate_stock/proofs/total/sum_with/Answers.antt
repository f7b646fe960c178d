use Rattle.std.proofs.Common.{◌∙◌, sym}
use Rattle.std.proofs.lemmas.Result.{IfErr-weaker, IfOk-weaker}
use Rattle.slate_stock.proofs.TotalLaws.{past_row, row_sum_is}
use Rattle.slate_stock.proofs.total.sum_with.Goals as goal

pub returns-in-Some-clause-sum : goal.returns-in-Some-clause-sum
returns-in-Some-clause-sum c = IfOk-weaker c.added.result _ _ (λ n is. row_sum_is c.args.row.now c.args.sum c.in-Some.more n (sym c.as_slice.ensures ∙ c.in-Some.ensures.some.0) c.in-Some.ensures.some.1 is.1) c.added.ensures.ok

pub returns-in-Some-clause-refused : goal.returns-in-Some-clause-refused
returns-in-Some-clause-refused c = IfErr-weaker c.added.result _ _ (λ e is. past_row c.args.row.now c.args.sum c.in-Some.more e (sym c.as_slice.ensures ∙ c.in-Some.ensures.some.0) c.in-Some.ensures.some.1 is.0 is.1) c.added.ensures.refused
