use Rattle.std.proofs.Common.{◌≡◌, [], ℕ, ◌+◌, ◌-◌, ◌<◌, drop, get_or, length, map, rules, sym, ap, ◌∙◌, subst, arith, refl, List}
use Rattle.std.specs.Prelude.{Contains}
use Rattle.std.proofs.lemmas.Result.{err_from_is_err_and, IfOk-from_err}
use Rattle.slate_types.proofs.OutsideLaws.{counted_earlier}
use Rattle.slate_types.proofs.Reaching.{reads_none, reads_then}
use Rattle.slate_types.specs.Outside.{Meaning, unblamed}
use Rattle.slate_read.specs.declared.sorted_run.SortedRun.{SortedRun}
use Rattle.slate_store.specs.Reach.{reach_of}
use Rattle.slate_table.specs.declared.info.SsTableHandle.{SsTableHandle}
use Rattle.slate_db.specs.Installs.{handles_of}
use Rattle.slate_db.specs.Lookup.{AreStoredAs}
use Rattle.slate_db.proofs.Answered.{from_first, from_last}
use Rattle.slate_db.proofs.Behind.{behind_more, behind_none}
use Rattle.slate_db.proofs.Checks.{checks_both, checks_err, checks_none}
use Rattle.slate_db.proofs.Filters.{filtered_some}
use Rattle.slate_db.proofs.RunReads.{FoundSoFar, damage_of_run, handle_among, none_found, rows_of_run, run_found, run_stored, runs_decide, runs_end}
use Rattle.slate_db.proofs.Shown.{no_rows}
use Rattle.slate_db.proofs.UnderOwn.{extends_both, extends_none}
use Rattle.slate_db.proofs.lookup.newest_of_runs.Goals as goal
use Rattle.slate_db.proofs.lookup.newest_of_runs.Goals.{then-loop-at-test+else-not-is_decided, else-loop-at-test}

-- the tables of a run are among all
among : (runs : List SortedRun) (i : ℕ) (run : SortedRun) (hs : List SsTableHandle) → i < length runs → run ≡ get_or runs i run → hs ≡ run.tables.items → (h : SsTableHandle) → Contains hs h → Contains (handles_of runs) h
among runs i run hs within is same h there = handle_among runs i run within is h (subst (λ (xs : List SsTableHandle). Contains xs h) same there)

pub loop-at-init : goal.loop-at-init
loop-at-init g c = record {
  within = omega arith;
  checked = λ layers os are. checks_none os (reach_of g.S.Store g.M.MergeOperator g.T.BlockTransformer c.args.env.now);
  reads = reads_none _;
  behind = behind_none _ (record { policies = map (λ p. (goal.FilterPolicy-dyn g (p.vtable, p.value)).meaning p.value) c.args.policies.now; query = c.args.query.now }) (handles_of c.args.runs.now);
  extends = extends_none c.args.newer.items;
  rows = no_rows _ (record { policies = map (λ p. (goal.FilterPolicy-dyn g (p.vtable, p.value)).meaning p.value) c.args.policies.now; query = c.args.query.now }) c.args.max_seq (handles_of c.args.runs.now) c.args.newer.items;
  found = λ os filtered answers. none_found (reach_of g.S.Store g.M.MergeOperator g.T.BlockTransformer c.args.env.now).meaning os c.args.runs.now (length c.args.runs.now) c.args.key.now c.args.max_seq c.args.newer.items refl;
  still = refl;
}

pub loop-at-preserved : goal.loop-at-preserved
loop-at-preserved g c =
    let i = c.loop-at.at - 1 in
    let run = c.index-runs-at.result in
    let slice : c.as_slice.result.now ≡ c.index-runs-at.result.tables.items = c.as_slice.ensures.value ∙ sym (ap (λ (r : SortedRun). r.tables.items) c.index-runs-at.is) in
    let m = (reach_of g.S.Store g.M.MergeOperator g.T.BlockTransformer c.args.env.now).meaning in
    let below : c.loop-at.at - 1 < length c.args.runs.now = omega (arith, c.loop-at-test.true, c.loop-at.invariant.within) in
    let next : c.loop-at.at ≡ c.loop-at.at - 1 + 1 = omega (arith, c.loop-at-test.true) in
    let first = c.loop-at.invariant.reads in
    let last = c.newest_of_tables.ensures.reads in
    record {
      within = omega (arith, c.loop-at.invariant.within);
      checked = λ layers os are.
          let own = run_stored m os c.args.runs.now i run layers below c.index-runs-at.is are in
          checks_both os (reach_of g.S.Store g.M.MergeOperator g.T.BlockTransformer c.args.env.now) (reach_of g.S.Store g.M.MergeOperator g.T.BlockTransformer c.loop-at.env) (reach_of g.S.Store g.M.MergeOperator g.T.BlockTransformer c.newest_of_tables.new.env) first last (c.loop-at.invariant.checked layers os are)
          (c.in_ok-found.ensures.checked own.0 os (subst (λ (x : Meaning). AreStoredAs x os c.as_slice.result.now own.0) (sym first.meaning) (subst (λ (hs : List SsTableHandle). AreStoredAs m os hs own.0) (sym slice) own.1)));
      reads = reads_then _ _ _ first last;
      behind = behind_more _ _ _ (record { policies = map (λ p. (goal.FilterPolicy-dyn g (p.vtable, p.value)).meaning p.value) c.args.policies.now; query = c.args.query.now }) (handles_of c.args.runs.now) c.as_slice.result.now (among c.args.runs.now (c.loop-at.at - 1) run c.as_slice.result.now below c.index-runs-at.is slice) c.loop-at.invariant.behind c.newest_of_tables.ensures.behind;
      extends = extends_both c.args.newer.items c.loop-at.found.items c.in_ok-found.found.items c.loop-at.invariant.extends c.in_ok-found.ensures.extends;
      rows = rows_of_run _ _ _ (record { policies = map (λ p. (goal.FilterPolicy-dyn g (p.vtable, p.value)).meaning p.value) c.args.policies.now; query = c.args.query.now }) c.args.max_seq (handles_of c.args.runs.now) _ c.args.newer.items c.loop-at.found.items c.in_ok-found.found.items (among c.args.runs.now i run c.as_slice.result.now below c.index-runs-at.is slice) c.loop-at.invariant.rows c.in_ok-found.ensures.rows;
      found = λ os filtered answers. run_found m os c.args.runs.now i run c.args.key.now c.args.max_seq c.args.newer.items c.loop-at.found.items c.in_ok-found.found.items below c.index-runs-at.is
          (subst (λ (j : ℕ). FoundSoFar m os (drop j c.args.runs.now) c.args.key.now c.args.max_seq c.args.newer.items c.loop-at.found.items) next (c.loop-at.invariant.found os filtered (from_first os _ _ _ first last answers)))
          (λ layers are. c.in_ok-found.ensures.found layers os
          (subst (λ (x : Meaning). AreStoredAs x os c.as_slice.result.now layers) (sym first.meaning) (subst (λ (hs : List SsTableHandle). AreStoredAs m os hs layers) (sym slice) are))
          (filtered_some _ m _ os (handles_of c.args.runs.now) c.as_slice.result.now first.meaning filtered (among c.args.runs.now i run c.as_slice.result.now below c.index-runs-at.is slice))
          (from_last os _ _ _ first last answers));
      still = c.in_ok-found.ensures.still ∙ c.loop-at.invariant.still;
    }

pub returns : goal.returns
returns g c =
    record {
      found = (λ layers os are filtered answers own above operands h.
          elim c.loop-at-test.branch [
            | then-loop-at-test+else-not-is_decided w ↦ runs_decide (reach_of g.S.Store g.M.MergeOperator g.T.BlockTransformer c.args.env.now).meaning os c.args.runs.now c.loop-at.at c.args.key.now c.args.max_seq c.args.newer.items c.loop-at.found.items (c.loop-at.invariant.found os filtered answers) (search rules) layers are own above operands h
            | else-loop-at-test w ↦ runs_end (reach_of g.S.Store g.M.MergeOperator g.T.BlockTransformer c.args.env.now).meaning os c.args.runs.now c.loop-at.at c.args.key.now c.args.max_seq c.args.newer.items c.loop-at.found.items (c.loop-at.invariant.found os filtered answers) (omega (arith, w.loop-at-test.false)) layers are own above operands h
          ]);
      whole = λ layers os are filtered answers. tt;
      extends = c.loop-at.invariant.extends;
      rows = c.loop-at.invariant.rows;
      cause = tt;
      behind = c.loop-at.invariant.behind;
      checked = c.loop-at.invariant.checked;
      reads = c.loop-at.invariant.reads;
      still = c.loop-at.invariant.still;
    }

pub returns-in_err-found : goal.returns-in_err-found
returns-in_err-found g c =
    let p = err_from_is_err_and c.from_residual.result c.from_residual.ensures.1 in
    let run = c.index-runs-at.result in
    let slice : c.as_slice.result.now ≡ c.index-runs-at.result.tables.items = c.as_slice.ensures.value ∙ sym (ap (λ (r : SortedRun). r.tables.items) c.index-runs-at.is) in
    let m = (reach_of g.S.Store g.M.MergeOperator g.T.BlockTransformer c.args.env.now).meaning in
    let below : c.loop-at.at - 1 < length c.args.runs.now = omega (arith, c.loop-at-test.true, c.loop-at.invariant.within) in
    let first = c.loop-at.invariant.reads in
    let last = c.newest_of_tables.ensures.reads in
    record {
      found = λ layers os are filtered answers. IfOk-from_err c.from_residual.result _ c.from_residual.ensures.0;
      whole = (λ layers os are filtered answers.
          let own = run_stored m os c.args.runs.now (c.loop-at.at - 1) run layers below c.index-runs-at.is are in
          let p = err_from_is_err_and c.from_residual.result c.from_residual.ensures.1 in
          rw (p.1, p.2) (counted_earlier _ _ _ _ first.later (c.in_err-found.ensures.whole own.0 os
          (subst (λ (x : Meaning). AreStoredAs x os c.as_slice.result.now own.0) (sym first.meaning) (subst (λ (hs : List SsTableHandle). AreStoredAs m os hs own.0) (sym slice) own.1))
          (filtered_some _ m _ os (handles_of c.args.runs.now) c.as_slice.result.now first.meaning filtered (among c.args.runs.now (c.loop-at.at - 1) run c.as_slice.result.now below c.index-runs-at.is slice))
          (from_last os _ _ _ first last answers))));
      extends = IfOk-from_err c.from_residual.result _ c.from_residual.ensures.0;
      rows = IfOk-from_err c.from_residual.result _ c.from_residual.ensures.0;
      cause = rw (p.1, p.2) (damage_of_run _ _ _ _ (handles_of c.args.runs.now) _ _ (among c.args.runs.now (c.loop-at.at - 1) run c.as_slice.result.now below c.index-runs-at.is slice) first.later c.loop-at.invariant.rows c.in_err-found.ensures.cause);
      behind = behind_more _ _ _ (record { policies = map (λ p. (goal.FilterPolicy-dyn g (p.vtable, p.value)).meaning p.value) c.args.policies.now; query = c.args.query.now }) (handles_of c.args.runs.now) c.as_slice.result.now (among c.args.runs.now (c.loop-at.at - 1) run c.as_slice.result.now below c.index-runs-at.is slice) c.loop-at.invariant.behind c.newest_of_tables.ensures.behind;
      checked = λ layers os are. checks_err c.from_residual.result os (reach_of g.S.Store g.M.MergeOperator g.T.BlockTransformer c.args.env.now) (reach_of g.S.Store g.M.MergeOperator g.T.BlockTransformer c.newest_of_tables.new.env) c.from_residual.ensures.0;
      reads = reads_then _ _ _ first last;
      still = rw (p.1, p.2) (c.in_err-found.ensures.still ∙ ap (unblamed c.in_err-found.field-0.0) c.loop-at.invariant.still);
    }
