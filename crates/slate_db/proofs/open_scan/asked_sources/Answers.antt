use Rattle.std.proofs.Common.{[], ◌∷◌, List, Option, map, reverse, subst, sym, refl, ap}
use Rattle.std.proofs.lemmas.Result.{err_from_is_err_and, IfOk-from_err}
use Rattle.slate_types.specs.declared.filter_policy.FilterQuery.{FilterQuery}
use Rattle.slate_types.proofs.Calls.{call_none}
use Rattle.slate_types.proofs.Exits.{err_exit}
use Rattle.slate_types.proofs.Reaching.{reads_none}
use Rattle.slate_mem.specs.Table.{MemTableModel}
use Rattle.slate_read.specs.declared.sorted_run.SortedRun.{SortedRun}
use Rattle.slate_store.specs.Reach.{reach_of}
use Rattle.slate_db.specs.Installs.{handles_of}
use Rattle.slate_db.specs.OpenScans.{AreScanSources}
use Rattle.slate_db.specs.ScanFilters.{Covers, FailsAsking, RunsAreLeft, scan_query}
use Rattle.slate_db.proofs.RangeFilters.{scan_covers}
use Rattle.slate_db.proofs.ScanFilters.{fails_memory}
use Rattle.slate_types.specs.Outside.{unblamed_by}
use Rattle.slate_db.proofs.open_scan.asked_sources.Goals as goal

pub runs_left-requires : goal.runs_left-requires
runs_left-requires g c = subst (λ (q : Option FilterQuery). Covers q c.args.range.now) (sym c.in_ok-query.ensures.query) (scan_covers c.args.range.now c.args.options.now.prefix c.args.options.now.filter_context c.requires.prefix)

pub returns-in_err-query : goal.returns-in_err-query
returns-in_err-query g c = record {
  sources = IfOk-from_err c.from_residual.result _ c.from_residual.ensures.0;
  refused = err_exit c.from_residual.result _ c.from_residual.ensures.1 _ (fails_memory _ _ _ _ _ _ ([], call_none _, tt) c.in_err-query.ensures.cause);
  reads = reads_none _;
  still = refl;
}

pub returns-in_err-left : goal.returns-in_err-left
returns-in_err-left g c = record {
  sources = IfOk-from_err c.from_residual-in_err-left.result _ c.from_residual-in_err-left.ensures.0;
  refused = err_exit c.from_residual-in_err-left.result _ c.from_residual-in_err-left.ensures.1 _
      (subst (λ (q : Option FilterQuery). FailsAsking (map (λ p. (goal.FilterPolicy-dyn g (p.vtable, p.value)).meaning p.value) c.args.policies.now) q (reach_of g.S.Store g.M.MergeOperator g.T.BlockTransformer c.args.env.now) (reach_of g.S.Store g.M.MergeOperator g.T.BlockTransformer c.runs_left.new.env) (handles_of c.args.runs.now) c.in_err-left.field-0.0) c.in_ok-query.ensures.query c.in_err-left.ensures.refused);
  reads = c.runs_left.ensures.reads;
  still = (let p = err_from_is_err_and c.from_residual-in_err-left.result c.from_residual-in_err-left.ensures.1 in rw (p.1, p.2) (c.in_err-left.ensures.still));
}

pub returns-in_err-sources : goal.returns-in_err-sources
returns-in_err-sources g c = record {
  sources = IfOk-from_err c.from_residual-in_err-sources.result _ c.from_residual-in_err-sources.ensures.0;
  refused = err_exit c.from_residual-in_err-sources.result _ c.from_residual-in_err-sources.ensures.1 _ (let asked = c.in_ok-left.ensures.left.let_in in fails_memory _ _ _ _ _ _ (asked.0, asked.1, asked.2.0) c.in_err-sources.ensures.cause);
  reads = c.runs_left.ensures.reads;
  still = ap (unblamed_by c.from_residual-in_err-sources.result) c.in_ok-left.ensures.still;
}

pub returns : goal.returns
returns g c =
    record {
      sources = record {
        left = c.in_ok-left.left.items;
        asked = subst (λ (q : Option FilterQuery). RunsAreLeft (map (λ p. (goal.FilterPolicy-dyn g (p.vtable, p.value)).meaning p.value) c.args.policies.now) q (reach_of g.S.Store g.M.MergeOperator g.T.BlockTransformer c.args.env.now) (reach_of g.S.Store g.M.MergeOperator g.T.BlockTransformer c.runs_left.new.env) c.args.range.now c.args.runs.now c.in_ok-left.left.items) c.in_ok-query.ensures.query c.in_ok-left.ensures.left;
        are = λ ops has. subst (λ (rs : List SortedRun). AreScanSources c.args.range.now c.args.options.now.order c.args.begin ops (c.args.active.now.rows ∷ reverse (map (λ (t : MemTableModel). t.rows) c.args.frozen.now)) (reverse rs) c.in_ok-sources.sources.items) c.as_slice.ensures.value (c.in_ok-sources.ensures.sources ops has);
      };
      refused = tt;
      reads = c.runs_left.ensures.reads;
      still = c.in_ok-left.ensures.still;
    }
