use Rattle.std.proofs.Common.{[], List, map, refl, subst}
use Rattle.std.proofs.lemmas.Result.{err_from_is_err_and}
use Rattle.slate_types.proofs.Calls.{call_none}
use Rattle.slate_types.proofs.Exits.{err_exit}
use Rattle.slate_store.specs.Reach.{reach_of}
use Rattle.slate_table.specs.declared.info.SsTableHandle.{SsTableHandle}
use Rattle.slate_db.specs.ScanFilters.{FailsAsking, TablesAreLeft}
use Rattle.slate_db.proofs.ScanFilters.{fails_memory}
use Rattle.slate_db.proofs.scan_filters.run_left.Goals as goal

pub returns-in_err-prefix-clause-refused : goal.returns-in_err-prefix-clause-refused
returns-in_err-prefix-clause-refused g c =
    let p = err_from_is_err_and c.from_residual.result c.from_residual.ensures.1 in
    rw (p.1, p.2) (fails_memory _ _ _ _ _ _ ([], call_none _, tt) refl)

pub returns-in_err-tables-clause-refused : goal.returns-in_err-tables-clause-refused
returns-in_err-tables-clause-refused g c =
    err_exit c.from_residual-in_err-tables.result _ c.from_residual-in_err-tables.ensures.1 _ (subst (λ (hs : List SsTableHandle). FailsAsking (map (λ p. (goal.FilterPolicy-dyn g (p.vtable, p.value)).meaning p.value) c.args.policies.now) c.args.query.now (reach_of g.S.Store g.M.MergeOperator g.T.BlockTransformer c.args.env.now) (reach_of g.S.Store g.M.MergeOperator g.T.BlockTransformer c.tables_left.new.env) hs c.in_err-tables.field-0.0) c.as_slice.ensures.value c.in_err-tables.ensures.refused)

pub returns-clause-left : goal.returns-clause-left
returns-clause-left g c = subst (λ (hs : List SsTableHandle). TablesAreLeft (map (λ p. (goal.FilterPolicy-dyn g (p.vtable, p.value)).meaning p.value) c.args.policies.now) c.args.query.now (reach_of g.S.Store g.M.MergeOperator g.T.BlockTransformer c.args.env.now) (reach_of g.S.Store g.M.MergeOperator g.T.BlockTransformer c.tables_left.new.env) c.args.range.now hs c.in_ok-tables.tables.items) c.as_slice.ensures.value c.in_ok-tables.ensures.left
