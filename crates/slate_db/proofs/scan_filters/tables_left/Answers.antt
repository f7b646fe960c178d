use Rattle.std.proofs.Common.{[], map, refl, ap, ◌∙◌}
use Rattle.std.proofs.lemmas.Result.{err_from_is_err_and, IfOk-from_err}
use Rattle.slate_types.proofs.Calls.{call_none}
use Rattle.slate_types.proofs.Exits.{err_exit}
use Rattle.slate_types.proofs.Reaching.{reads_none, reads_then}
use Rattle.slate_store.specs.Reach.{reach_of}
use Rattle.slate_db.proofs.Checks.{checks_none}
use Rattle.slate_db.proofs.ScanFilters.{among_more, among_none, fails_more, let_in_more, let_in_none, one_among, so_far_all, so_far_more, so_far_none, tables_checked_more}
use Rattle.slate_types.specs.Outside.{unblamed}
use Rattle.slate_db.proofs.scan_filters.tables_left.Goals as goal

pub loop-table-init : goal.loop-table-init
loop-table-init g c = record {
  let_in = ([], call_none _, (tt, let_in_none (reach_of g.S.Store g.M.MergeOperator g.T.BlockTransformer c.args.env.now).meaning.decode (map (λ p. (goal.FilterPolicy-dyn g (p.vtable, p.value)).meaning p.value) c.args.policies.now) c.args.query.now c.new-left.result.items [] c.new-left.ensures.items));
  reads = reads_none _;
  still = refl;
  among = among_none c.args.tables.now c.new-left.result.items c.new-left.ensures.items;
  so_far = so_far_none (map (λ p. (goal.FilterPolicy-dyn g (p.vtable, p.value)).meaning p.value) c.args.policies.now) (reach_of g.S.Store g.M.MergeOperator g.T.BlockTransformer c.args.env.now) c.args.range.now c.args.tables.now c.new-left.result.items c.new-left.ensures.items;
  checked = λ layers os stored. checks_none os (reach_of g.S.Store g.M.MergeOperator g.T.BlockTransformer c.args.env.now);
}

pub loop-table-preserved : goal.loop-table-preserved
loop-table-preserved g c =
    let i = c.loop-table.invariant in
    let added = c.in_ok-add_left.ensures.added in
    record {
      let_in = let_in_more (map (λ p. (goal.FilterPolicy-dyn g (p.vtable, p.value)).meaning p.value) c.args.policies.now) c.args.query.now (reach_of g.S.Store g.M.MergeOperator g.T.BlockTransformer c.args.env.now) (reach_of g.S.Store g.M.MergeOperator g.T.BlockTransformer c.loop-table.env) (reach_of g.S.Store g.M.MergeOperator g.T.BlockTransformer c.add_left.new.env) c.args.tables.now c.table-item.result c.loop-table.left.items c.add_left.new.left.items added.kept (one_among c.args.tables.now c.loop-table.table-index c.table-item.result c.loop-table-test.true c.table-item.is) i.reads added.are i.let_in added.let_in;
      reads = reads_then _ _ _ i.reads c.add_left.ensures.reads;
      still = c.in_ok-add_left.ensures.still ∙ i.still;
      among = among_more c.args.tables.now c.loop-table.table-index c.table-item.result c.loop-table.left.items c.add_left.new.left.items added.kept c.loop-table-test.true c.table-item.is added.are i.among;
      so_far = so_far_more _ c.args.query.now _ _ _ c.args.range.now c.args.tables.now c.loop-table.table-index c.table-item.result c.loop-table.left.items c.add_left.new.left.items i.reads c.add_left.ensures.reads c.loop-table-test.true c.table-item.is i.so_far added;
      checked = tables_checked_more (reach_of g.S.Store g.M.MergeOperator g.T.BlockTransformer c.args.env.now) (reach_of g.S.Store g.M.MergeOperator g.T.BlockTransformer c.loop-table.env) (reach_of g.S.Store g.M.MergeOperator g.T.BlockTransformer c.add_left.new.env) c.args.tables.now c.loop-table.table-index c.table-item.result i.reads c.add_left.ensures.reads c.loop-table-test.true c.table-item.is i.checked added.checked;
    }

pub returns : goal.returns
returns g c =
    let i = c.loop-table.invariant in
    record {
      left = record { among = i.among; let_in = i.let_in; others = so_far_all (map (λ p. (goal.FilterPolicy-dyn g (p.vtable, p.value)).meaning p.value) c.args.policies.now) (reach_of g.S.Store g.M.MergeOperator g.T.BlockTransformer c.args.env.now) (reach_of g.S.Store g.M.MergeOperator g.T.BlockTransformer c.loop-table.env) c.args.range.now c.args.tables.now c.loop-table.table-index c.loop-table.left.items c.loop-table-test.false i.so_far; checked = i.checked };
      refused = tt;
      reads = i.reads;
      still = i.still;
    }

pub returns-in_err-add_left : goal.returns-in_err-add_left
returns-in_err-add_left g c =
    let i = c.loop-table.invariant in
    record {
      left = IfOk-from_err c.from_residual.result _ c.from_residual.ensures.0;
      refused = err_exit c.from_residual.result _ c.from_residual.ensures.1 _
          (fails_more (map (λ p. (goal.FilterPolicy-dyn g (p.vtable, p.value)).meaning p.value) c.args.policies.now) c.args.query.now (reach_of g.S.Store g.M.MergeOperator g.T.BlockTransformer c.args.env.now) (reach_of g.S.Store g.M.MergeOperator g.T.BlockTransformer c.loop-table.env) (reach_of g.S.Store g.M.MergeOperator g.T.BlockTransformer c.add_left.new.env) _ c.args.tables.now _ (one_among c.args.tables.now c.loop-table.table-index c.table-item.result c.loop-table-test.true c.table-item.is) (i.let_in.0, i.let_in.1, i.let_in.2.0) i.reads c.add_left.ensures.reads c.in_err-add_left.ensures.refused);
      reads = reads_then _ _ _ i.reads c.add_left.ensures.reads;
      still = (let p = err_from_is_err_and c.from_residual.result c.from_residual.ensures.1 in rw (p.1, p.2) (c.in_err-add_left.ensures.still ∙ ap (unblamed c.in_err-add_left.field-0.0) i.still));
    }
