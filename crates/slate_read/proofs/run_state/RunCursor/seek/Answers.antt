use Rattle.std.proofs.Common.{◌∙◌, None, length, refl, sym, ap, arith}
use Rattle.std.proofs.lemmas.Result.{IfErr-weaker, on_ok_weaker}
use Rattle.slate_types.proofs.Moves.{moves_fails}
use Rattle.slate_types.proofs.Reaching.{later_none, reads_none}
use Rattle.slate_merge.proofs.NoMoreRows.{both_added, none_added}
use Rattle.slate_read.specs.RunBringing.{brings_run}
use Rattle.slate_read.specs.RunWalk.{IsCursorWithin, refuses_run, rows_ahead}
use Rattle.slate_read.proofs.RunBringings.{let_go_adds}
use Rattle.slate_read.proofs.RunSeeks.{ahead_kept, ahead_passed, run_sought}
use Rattle.slate_read.proofs.Withins.{none_within}
use Rattle.slate_read.proofs.run_state.RunCursor.seek.Goals as goal

pub returns-then-is_ahead_kept : goal.returns-then-is_ahead_kept
returns-then-is_ahead_kept g c = record {
  sought = ahead_kept c.args.range.now c.args.order c.args.key.now _ c.args.self.now (sym c.is_ahead_kept.ensures ∙ c.if-is_ahead_kept.true);
  cause = tt;
  no_larger = omega arith;
  adds = none_added (brings_run c.args.order) (refuses_run c.args.order) _ c.args.self.now;
  within = none_within IsCursorWithin _ c.args.self.now;
  reads = reads_none _;
  counts = refl;
}

pub returns : goal.returns
returns g c =
    let o = c.seek_tables.ensures in
    let moved = ahead_passed c.args.range.now c.args.order c.args.key.now _ c.args.self.now (record c.args.self.now { ahead = c.take.new.self }) (sym c.is_ahead_kept.ensures ∙ c.if-is_ahead_kept.false) c.take.ensures.after refl refl in
    let none = ap (λ r. length (rows_ahead r)) c.take.ensures.after in
    record {
      sought = on_ok_weaker c.seek_tables.result (λ k. run_sought c.args.range.now c.args.order c.args.key.now _ _ _ c.args.self.now (record c.args.self.now { ahead = c.take.new.self }) c.seek_tables.new.self moved k) o.sought;
      cause = IfErr-weaker c.seek_tables.result _ _ (λ e made. moves_fails _ _ _ _ _ _ _ _ None e moved (later_none _) made) o.cause;
      no_larger = on_ok_weaker c.seek_tables.result (λ k. omega (arith, k, none)) o.no_larger;
      adds = on_ok_weaker c.seek_tables.result (λ k. both_added (brings_run c.args.order) (refuses_run c.args.order) _ _ _ c.args.self.now (record c.args.self.now { ahead = c.take.new.self }) c.seek_tables.new.self (let_go_adds c.args.order _ c.args.self.now (record c.args.self.now { ahead = c.take.new.self }) c.take.ensures.after refl refl) k) o.adds;
      within = o.within;
      reads = o.reads;
      counts = o.counts;
    }
