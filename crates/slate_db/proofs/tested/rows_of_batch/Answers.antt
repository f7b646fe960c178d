use Rattle.std.proofs.Common.{option_map, refl, sym, subst}
use Rattle.std.specs.List.{AllByRecursion}
use Rattle.std.proofs.lemmas.Result.{err_from_is_err_and, IfOk-weaker}
use Rattle.slate_types.specs.Fold.{operator_at}
use Rattle.slate_db.specs.Layers.{FitsMemory}
use Rattle.slate_db.proofs.MemoryRows.{commit_fits}
use Rattle.slate_db.proofs.Tests.{is_some_map, operator_short, tested_some}
use Rattle.slate_types.proofs.StillLaws.{still_at}
use Rattle.slate_db.proofs.tested.rows_of_batch.Goals as goal

pub fold_entries-requires : goal.fold_entries-requires
fold_entries-requires g c = tested_some c.args.operator.now c.args.batch.now.held_merge _ (is_some_map g.M.MergeOperator.combine c.args.operator.now) c.requires

pub returns-clause-fit : goal.returns-clause-fit
returns-clause-fit g c fine = subst (AllByRecursion FitsMemory) (sym c.in_ok-rows.ensures.rows)
    (commit_fits (operator_at (option_map g.M.MergeOperator.combine c.args.operator.now)) c.args.default_millis c.args.seq _ c.args.batch.now.ops (operator_short g.M.MergeOperator.combine g.met.M.MergeOperator.short c.args.operator.now) fine)

-- whatever is done with operands, of which there are none
pub returns-then-not-has_merge_ops-clause-fit : goal.returns-then-not-has_merge_ops-clause-fit
returns-then-not-has_merge_ops-clause-fit g c fine =
    IfOk-weaker c.plain_rows.result _ _ (λ rows is. subst (AllByRecursion FitsMemory) (sym (is (operator_at (option_map g.M.MergeOperator.combine c.args.operator.now))))
    (commit_fits (operator_at (option_map g.M.MergeOperator.combine c.args.operator.now)) c.args.default_millis c.args.seq _ c.args.batch.now.ops (operator_short g.M.MergeOperator.combine g.met.M.MergeOperator.short c.args.operator.now) fine)) c.plain_rows.ensures.rows

pub returns-then-not-has_merge_ops-clause-still : goal.returns-then-not-has_merge_ops-clause-still
returns-then-not-has_merge_ops-clause-still g c = still_at _ _ c.plain_rows.result refl

pub returns-in_err-rows-clause-still : goal.returns-in_err-rows-clause-still
returns-in_err-rows-clause-still g c =
    let p = err_from_is_err_and c.from_residual.result c.from_residual.ensures.1 in
    rw (p.1, p.2) c.in_err-rows.ensures.still

pub returns-clause-still : goal.returns-clause-still
returns-clause-still g c = c.in_ok-rows.ensures.still
