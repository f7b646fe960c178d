use Rattle.std.proofs.Common.{[], ap, map, refl, ◌∙◌}
use Rattle.std.proofs.lemmas.Result.{IfOk-from_err, err_from_is_err_and}
use Rattle.slate_types.proofs.Calls.{call_none}
use Rattle.slate_types.proofs.Exits.{err_exit}
use Rattle.slate_types.proofs.Reaching.{reads_none, reads_then}
use Rattle.slate_store.specs.Reach.{reach_of}
use Rattle.slate_db.specs.Installs.{handles_of}
use Rattle.slate_db.proofs.Checks.{checks_none}
use Rattle.slate_db.proofs.RunReads.{handle_among}
use Rattle.slate_db.proofs.ScanFilters.{among_none, asks_then, fails_memory, fails_more, let_in_none, runs_among, runs_checked_more, runs_let_in, runs_so_far_all, runs_so_far_more, runs_so_far_none}
use Rattle.slate_types.specs.Outside.{unblamed, unblamed_by}
use Rattle.slate_db.proofs.scan_filters.runs_left.Goals as goal

pub loop-run-init : goal.loop-run-init
loop-run-init g c = record {
  let_in = ([], call_none _, (tt, let_in_none (reach_of g.S.Store g.M.MergeOperator g.T.BlockTransformer c.args.env.now).meaning.decode (map (λ p. (goal.FilterPolicy-dyn g (p.vtable, p.value)).meaning p.value) c.args.policies.now) c.args.query.now (handles_of c.new-left.result.items) [] (ap handles_of c.new-left.ensures.items)));
  reads = reads_none _;
  still = refl;
  among = among_none (handles_of c.args.runs.now) (handles_of c.new-left.result.items) (ap handles_of c.new-left.ensures.items);
  so_far = runs_so_far_none (map (λ p. (goal.FilterPolicy-dyn g (p.vtable, p.value)).meaning p.value) c.args.policies.now) (reach_of g.S.Store g.M.MergeOperator g.T.BlockTransformer c.args.env.now) c.args.range.now c.args.runs.now c.new-left.result.items c.new-left.ensures.items;
  checked = λ groups os stored. checks_none os (reach_of g.S.Store g.M.MergeOperator g.T.BlockTransformer c.args.env.now);
}

pub loop-run-preserved : goal.loop-run-preserved
loop-run-preserved g c =
    let i = c.loop-run.invariant in
    let one = c.in_ok-one.ensures.left in
    record {
      let_in = runs_let_in (map (λ p. (goal.FilterPolicy-dyn g (p.vtable, p.value)).meaning p.value) c.args.policies.now) c.args.query.now (reach_of g.S.Store g.M.MergeOperator g.T.BlockTransformer c.args.env.now) (reach_of g.S.Store g.M.MergeOperator g.T.BlockTransformer c.loop-run.env) (reach_of g.S.Store g.M.MergeOperator g.T.BlockTransformer c.run_left.new.env) c.run-item.result.tables.items (handles_of c.args.runs.now) c.in_ok-one.one c.loop-run.left.items c.push_run.new.runs.items (handle_among c.args.runs.now c.loop-run.run-index c.run-item.result c.loop-run-test.true c.run-item.is) i.reads c.in_ok-push_run.ensures i.let_in one.let_in;
      reads = reads_then _ _ _ i.reads c.run_left.ensures.reads;
      still = c.in_ok-one.ensures.still ∙ i.still;
      among = runs_among c.args.runs.now c.loop-run.run-index c.run-item.result c.in_ok-one.one c.loop-run.left.items c.push_run.new.runs.items c.loop-run-test.true c.run-item.is c.in_ok-push_run.ensures one.among i.among;
      so_far = runs_so_far_more _ c.args.query.now _ _ _ c.args.range.now c.args.runs.now c.loop-run.run-index c.run-item.result c.in_ok-one.one c.loop-run.left.items c.push_run.new.runs.items i.reads c.run_left.ensures.reads c.loop-run-test.true c.run-item.is i.so_far one c.in_ok-push_run.ensures;
      checked = runs_checked_more (reach_of g.S.Store g.M.MergeOperator g.T.BlockTransformer c.args.env.now) (reach_of g.S.Store g.M.MergeOperator g.T.BlockTransformer c.loop-run.env) (reach_of g.S.Store g.M.MergeOperator g.T.BlockTransformer c.run_left.new.env) c.args.runs.now c.loop-run.run-index c.run-item.result i.reads c.run_left.ensures.reads c.loop-run-test.true c.run-item.is i.checked one.checked;
    }

pub returns : goal.returns
returns g c =
    let i = c.loop-run.invariant in
    record {
      left = record { among = i.among; let_in = i.let_in; others = runs_so_far_all (map (λ p. (goal.FilterPolicy-dyn g (p.vtable, p.value)).meaning p.value) c.args.policies.now) (reach_of g.S.Store g.M.MergeOperator g.T.BlockTransformer c.args.env.now) (reach_of g.S.Store g.M.MergeOperator g.T.BlockTransformer c.loop-run.env) c.args.range.now c.args.runs.now c.loop-run.run-index c.loop-run.left.items c.loop-run-test.false i.so_far; checked = i.checked };
      refused = tt;
      reads = i.reads;
      still = i.still;
    }

pub returns-in_err-one : goal.returns-in_err-one
returns-in_err-one g c =
    let i = c.loop-run.invariant in
    record {
      left = IfOk-from_err c.from_residual.result _ c.from_residual.ensures.0;
      refused = err_exit c.from_residual.result _ c.from_residual.ensures.1 _
          (fails_more (map (λ p. (goal.FilterPolicy-dyn g (p.vtable, p.value)).meaning p.value) c.args.policies.now) c.args.query.now (reach_of g.S.Store g.M.MergeOperator g.T.BlockTransformer c.args.env.now) (reach_of g.S.Store g.M.MergeOperator g.T.BlockTransformer c.loop-run.env) (reach_of g.S.Store g.M.MergeOperator g.T.BlockTransformer c.run_left.new.env) c.run-item.result.tables.items (handles_of c.args.runs.now) _ (handle_among c.args.runs.now c.loop-run.run-index c.run-item.result c.loop-run-test.true c.run-item.is) (i.let_in.0, i.let_in.1, i.let_in.2.0) i.reads c.run_left.ensures.reads c.in_err-one.ensures.refused);
      reads = reads_then _ _ _ i.reads c.run_left.ensures.reads;
      still = (let p = err_from_is_err_and c.from_residual.result c.from_residual.ensures.1 in rw (p.1, p.2) (c.in_err-one.ensures.still ∙ ap (unblamed c.in_err-one.field-0.0) i.still));
    }

pub returns-in_err-push_run : goal.returns-in_err-push_run
returns-in_err-push_run g c =
    let p = err_from_is_err_and c.from_residual-in_err-push_run.result c.from_residual-in_err-push_run.ensures.1 in
    let before = c.loop-run.invariant.let_in in
    let one = c.in_ok-one.ensures.left.let_in in
    record {
      left = IfOk-from_err c.from_residual-in_err-push_run.result _ c.from_residual-in_err-push_run.ensures.0;
      refused = rw (p.1, p.2) (fails_memory _ _ _ _ _ _
          (asks_then _ _ _ c.run-item.result.tables.items (handles_of c.args.runs.now) (handle_among c.args.runs.now c.loop-run.run-index c.run-item.result c.loop-run-test.true c.run-item.is) (before.0, before.1, before.2.0) (one.0, one.1, one.2.0)) refl);
      reads = reads_then _ _ _ c.loop-run.invariant.reads c.run_left.ensures.reads;
      still = ap (unblamed_by c.from_residual-in_err-push_run.result) (c.in_ok-one.ensures.still ∙ c.loop-run.invariant.still);
    }
