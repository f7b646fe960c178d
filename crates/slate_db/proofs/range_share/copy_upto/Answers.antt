use Rattle.std.proofs.Common.{refl, sym, subst}
use Rattle.std.proofs.lemmas.Result.{IfOk-weaker}
use Rattle.slate_mem.specs.Table.{ranged}
use Rattle.slate_db.specs.Model.{Rows}
use Rattle.slate_db.specs.RangeShares.{HasUpto}
use Rattle.slate_db.proofs.RangeRows.{has_copied}
use Rattle.slate_db.proofs.range_share.copy_upto.Goals as goal

pub returns-clause-rows : goal.returns-clause-rows
returns-clause-rows c =
    let range = c.args.range.now in
    let n = c.args.at in
    let table = c.args.table.now.rows in
    IfOk-weaker c.upto.result _ _ (λ t e. subst (λ (rows : Rows). HasUpto range n table rows) (sym e) (has_copied range n table (ranged range table) (λ k. refl))) c.upto.ensures.rows
