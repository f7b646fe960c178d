use Rattle.std.proofs.Common.{◌∙◌, None, Some, refl, sym, arith, ap}
use Rattle.slate_types.specs.Outside.{unblamed}
use Rattle.std.proofs.lemmas.Result.{err_from_is_err_and, IfOk-from_err}
use Rattle.slate_types.proofs.Moves.{moves_both, moves_fails, moves_none, moves_step}
use Rattle.slate_types.proofs.Reaching.{reads_none, reads_then}
use Rattle.slate_merge.proofs.NoMoreRows.{added_hands, both_added, none_added}
use Rattle.slate_merge.proofs.Peeks.{none_of}
use Rattle.slate_read.specs.RunBringing.{brings_run}
use Rattle.slate_read.specs.RunWalk.{IsCursorWithin, refuses_run}
use Rattle.slate_read.proofs.RunBringings.{ahead_taken, end_hands, next_adds, run_hands, run_spent_adds}
use Rattle.slate_read.proofs.Runs.{ended_run, opened_ahead, opened_fewer, opened_run, run_spent, run_step}
use Rattle.slate_read.proofs.RunSeeks.{run_fails}
use Rattle.slate_read.proofs.Withins.{none_within, run_stays, within_then}
use Rattle.slate_read.proofs.run_state.RunCursor.advance.Goals as goal

pub loop-row-init : goal.loop-row-init
loop-row-init g c = record {
  moves = moves_none _ _ _ _ _;
  adds = none_added (brings_run c.args.order) (refuses_run c.args.order) _ c.args.self.now;
  none = none_of c.args.self.now.ahead (sym c.is_some.ensures ∙ c.if-is_some.false);
  bound = omega arith;
  within = none_within IsCursorWithin _ c.args.self.now;
  reads = reads_none _;
  counts = refl;
}

pub loop-row-preserved : goal.loop-row-preserved
loop-row-preserved g c =
    let i = c.loop-row.invariant in
    let t = c.in_ok-row.ensures in
    let closed = (rw c.in_default.is at t.spent) refl in
    let spent = run_spent c.args.range.now c.args.order _ _ c.loop-row.self (record c.loop-row.self { current = c.take_row.new.current }) (rw c.in_default.is at t.step) refl refl in
    let o = c.in_ok-open_next.ensures in
    let opened = opened_run c.args.range.now c.args.order _ _ (record c.loop-row.self { current = c.take_row.new.current }) c.open_next.new.self c.in_ok-open_next.field-0 c.if-not-branch.false closed o.opened in
    let less = o.no_larger closed in
    record {
      moves = moves_both _ _ _ _ _ _ _ _ _ i.moves (moves_both _ _ _ _ _ _ _ _ _ spent opened);
      adds = both_added (brings_run c.args.order) (refuses_run c.args.order) _ _ _ c.args.self.now c.loop-row.self c.open_next.new.self i.adds
          (both_added (brings_run c.args.order) (refuses_run c.args.order) _ _ _ c.loop-row.self (record c.loop-row.self { current = c.take_row.new.current }) c.open_next.new.self (run_spent_adds c.args.order _ _ c.loop-row.self (record c.loop-row.self { current = c.take_row.new.current }) (rw c.in_default.is at t.hands) refl refl)
          (next_adds c.args.range.now c.args.order _ _ (record c.loop-row.self { current = c.take_row.new.current }) c.open_next.new.self c.in_ok-open_next.field-0 o.opened));
      none = opened_ahead c.args.range.now _ _ (record c.loop-row.self { current = c.take_row.new.current }) c.open_next.new.self c.in_ok-open_next.field-0 o.opened ∙ i.none;
      bound = omega (arith, i.bound, t.no_larger, less);
      within = within_then IsCursorWithin _ _ _ c.args.self.now c.loop-row.self c.open_next.new.self i.within (within_then IsCursorWithin _ _ _ c.loop-row.self (record c.loop-row.self { current = c.take_row.new.current }) c.open_next.new.self (run_stays _ _ c.loop-row.self (record c.loop-row.self { current = c.take_row.new.current }) refl t.within) o.within);
      reads = reads_then _ _ _ i.reads (reads_then _ _ _ t.reads o.reads);
      counts = o.counts ∙ t.counts ∙ i.counts;
    }

pub loop-row-smaller : goal.loop-row-smaller
loop-row-smaller g c = opened_fewer (record c.loop-row.self { current = c.take_row.new.current }) c.open_next.new.self c.in_ok-open_next.field-0 c.if-not-branch.false c.in_ok-open_next.ensures.fewer

pub returns-in_err-row : goal.returns-in_err-row
returns-in_err-row g c =
    let i = c.loop-row.invariant in
    let p = err_from_is_err_and c.from_residual.result c.from_residual.ensures.1 in
    record {
      step = IfOk-from_err c.from_residual.result _ c.from_residual.ensures.0;
      cause = rw (p.1, p.2) (moves_fails _ _ _ _ _ _ _ _ None _ i.moves i.reads.later (run_fails c.args.order _ _ c.loop-row.self _ c.in_err-row.ensures.cause));
      smaller = IfOk-from_err c.from_residual.result _ c.from_residual.ensures.0;
      no_larger = rw p.1 tt;
      hands = IfOk-from_err c.from_residual.result _ c.from_residual.ensures.0;
      within = within_then IsCursorWithin _ _ _ c.args.self.now c.loop-row.self (record c.loop-row.self { current = c.take_row.new.current }) i.within (run_stays _ _ c.loop-row.self (record c.loop-row.self { current = c.take_row.new.current }) refl c.in_err-row.ensures.within);
      reads = reads_then _ _ _ i.reads c.in_err-row.ensures.reads;
      counts = rw (p.1, p.2) (c.in_err-row.ensures.counts ∙ ap (unblamed c.in_err-row.field-0.0) i.counts);
    }

pub returns-in-Some : goal.returns-in-Some
returns-in-Some g c =
    let i = c.loop-row.invariant in
    let t = c.in_ok-row.ensures in
    let less = (rw c.in-Some.is at t.smaller) refl in
    let step = run_step c.args.range.now c.args.order _ _ c.loop-row.self (record c.loop-row.self { current = c.take_row.new.current }) c.in-Some.row (rw c.in-Some.is at t.step) i.none refl refl in
    record {
      step = moves_step _ _ _ _ _ _ _ _ _ _ i.moves step;
      cause = tt;
      smaller = λ some. omega (arith, i.bound, less);
      no_larger = omega (arith, i.bound, less);
      hands = added_hands (brings_run c.args.order) (refuses_run c.args.order) _ _ _ c.args.self.now c.loop-row.self (record c.loop-row.self { current = c.take_row.new.current }) (Some c.in-Some.row) i.adds (run_hands c.args.order _ _ c.loop-row.self (record c.loop-row.self { current = c.take_row.new.current }) (Some c.in-Some.row) (rw c.in-Some.is at t.hands) refl refl);
      within = within_then IsCursorWithin _ _ _ c.args.self.now c.loop-row.self (record c.loop-row.self { current = c.take_row.new.current }) i.within (run_stays _ _ c.loop-row.self (record c.loop-row.self { current = c.take_row.new.current }) refl t.within);
      reads = reads_then _ _ _ i.reads t.reads;
      counts = t.counts ∙ i.counts;
    }

pub returns-in_err-open_next : goal.returns-in_err-open_next
returns-in_err-open_next g c =
    let i = c.loop-row.invariant in
    let t = c.in_ok-row.ensures in
    let spent = run_spent c.args.range.now c.args.order _ _ c.loop-row.self (record c.loop-row.self { current = c.take_row.new.current }) (rw c.in_default.is at t.step) refl refl in
    let p = err_from_is_err_and c.from_residual-in_err-open_next.result c.from_residual-in_err-open_next.ensures.1 in
    let o = c.in_err-open_next.ensures in
    let reads = reads_then _ _ _ i.reads t.reads in
    record {
      step = IfOk-from_err c.from_residual-in_err-open_next.result _ c.from_residual-in_err-open_next.ensures.0;
      cause = rw (p.1, p.2) (moves_fails _ _ _ _ _ _ _ _ None _ (moves_both _ _ _ _ _ _ _ _ _ i.moves spent) reads.later (o.cause c.args.order));
      smaller = IfOk-from_err c.from_residual-in_err-open_next.result _ c.from_residual-in_err-open_next.ensures.0;
      no_larger = rw p.1 tt;
      hands = IfOk-from_err c.from_residual-in_err-open_next.result _ c.from_residual-in_err-open_next.ensures.0;
      within = within_then IsCursorWithin _ _ _ c.args.self.now c.loop-row.self c.open_next.new.self i.within (within_then IsCursorWithin _ _ _ c.loop-row.self (record c.loop-row.self { current = c.take_row.new.current }) c.open_next.new.self (run_stays _ _ c.loop-row.self (record c.loop-row.self { current = c.take_row.new.current }) refl t.within) o.within);
      reads = reads_then _ _ _ reads o.reads;
      counts = rw (p.1, p.2) (o.counts ∙ ap (unblamed c.in_err-open_next.field-0.0) (t.counts ∙ i.counts));
    }

pub returns-then-not-branch : goal.returns-then-not-branch
returns-then-not-branch g c =
    let i = c.loop-row.invariant in
    let t = c.in_ok-row.ensures in
    let closed = (rw c.in_default.is at t.spent) refl in
    let spent = run_spent c.args.range.now c.args.order _ _ c.loop-row.self (record c.loop-row.self { current = c.take_row.new.current }) (rw c.in_default.is at t.step) refl refl in
    let o = c.in_ok-open_next.ensures in
    let ended = ended_run c.args.range.now c.args.order _ _ (record c.loop-row.self { current = c.take_row.new.current }) c.open_next.new.self c.in_ok-open_next.field-0 c.if-not-branch.true i.none closed o.opened in
    let less = o.no_larger closed in
    record {
      step = moves_step _ _ _ _ _ _ _ _ _ _ (moves_both _ _ _ _ _ _ _ _ _ i.moves spent) ended;
      cause = tt;
      smaller = λ some. cc;
      no_larger = omega (arith, i.bound, t.no_larger, less);
      hands = added_hands (brings_run c.args.order) (refuses_run c.args.order) _ _ _ c.args.self.now c.loop-row.self c.open_next.new.self None i.adds
          (added_hands (brings_run c.args.order) (refuses_run c.args.order) _ _ _ c.loop-row.self (record c.loop-row.self { current = c.take_row.new.current }) c.open_next.new.self None (run_spent_adds c.args.order _ _ c.loop-row.self (record c.loop-row.self { current = c.take_row.new.current }) (rw c.in_default.is at t.hands) refl refl)
          (end_hands c.args.range.now c.args.order _ _ (record c.loop-row.self { current = c.take_row.new.current }) c.open_next.new.self c.in_ok-open_next.field-0 c.if-not-branch.true i.none closed o.opened));
      within = within_then IsCursorWithin _ _ _ c.args.self.now c.loop-row.self c.open_next.new.self i.within (within_then IsCursorWithin _ _ _ c.loop-row.self (record c.loop-row.self { current = c.take_row.new.current }) c.open_next.new.self (run_stays _ _ c.loop-row.self (record c.loop-row.self { current = c.take_row.new.current }) refl t.within) o.within);
      reads = reads_then _ _ _ i.reads (reads_then _ _ _ t.reads o.reads);
      counts = o.counts ∙ t.counts ∙ i.counts;
    }

pub returns-then-is_some-clause-hands : goal.returns-then-is_some-clause-hands
returns-then-is_some-clause-hands g c =
    ahead_taken c.args.order _ c.args.self.now (record c.args.self.now { ahead = c.take.new.self }) c.take.result (sym c.is_some.ensures ∙ c.if-is_some.true) c.take.ensures.value c.take.ensures.after refl refl

pub returns-then-is_some-clause-within : goal.returns-then-is_some-clause-within
returns-then-is_some-clause-within g c = none_within IsCursorWithin _ c.args.self.now
