use Rattle.std.proofs.Common.{◌∙◌, None, length, refl, ap, arith}
use Rattle.slate_types.specs.Outside.{unblamed}
use Rattle.slate_merge.proofs.NoMoreRows.{both_added, none_added}
use Rattle.slate_read.specs.RunBringing.{brings_run}
use Rattle.slate_read.specs.RunWalk.{IsCursorWithin, refuses_run, rows_ahead}
use Rattle.std.proofs.lemmas.Result.{err_from_is_err_and}
use Rattle.slate_types.proofs.Moves.{moves_both, moves_fails, moves_none}
use Rattle.slate_types.proofs.Reaching.{reads_none, reads_then}
use Rattle.slate_read.proofs.RunBringings.{found_adds, next_adds, passes_adds, run_spent_adds}
use Rattle.slate_read.proofs.Runs.{opened_ahead, opened_fewer, opened_run}
use Rattle.slate_read.proofs.RunSeeks.{ended_sought, found_none, found_some, passes_moves, run_fails, run_lifted, run_sought, passed_fewer, passed_bound}
use Rattle.slate_read.proofs.Withins.{none_within, passes_within, run_stays, within_then}
use Rattle.slate_read.proofs.run_state.RunCursor.seek_tables.Goals as goal

pub loop-row-init : goal.loop-row-init
loop-row-init g c = record {
  moves = moves_none _ _ _ _ _;
  adds = none_added (brings_run c.args.order) (refuses_run c.args.order) _ c.args.self.now;
  none = c.requires.none;
  bound = omega arith;
  within = none_within IsCursorWithin _ c.args.self.now;
  reads = reads_none _;
  counts = refl;
}

pub loop-row-preserved : goal.loop-row-preserved
loop-row-preserved g c =
    let i = c.loop-row.invariant in
    let t = c.in_ok-row.ensures in
    let closed = (rw c.in_default.is at t.spent) refl in
    let p = c.pass_over.ensures in
    let found = found_none c.args.range.now c.args.order c.args.key.now _ _ c.loop-row.self (record c.loop-row.self { current = c.find_row.new.current }) (rw c.in_default.is at t.found) i.none refl refl in
    let passed = passes_moves c.args.range.now c.args.order c.args.key.now _ (record c.loop-row.self { current = c.find_row.new.current }) c.pass_over.new.self p i.none closed in
    let o = c.in_ok-open_next.ensures in
    let opened = run_lifted c.args.range.now c.args.order c.args.key.now _ _ c.pass_over.new.self c.open_next.new.self (opened_run c.args.range.now c.args.order _ _ c.pass_over.new.self c.open_next.new.self c.in_ok-open_next.field-0 c.if-not-branch.false (p.open_table ∙ closed) o.opened) in
    let fewer = passed_bound c.args.order c.args.key.now (record c.loop-row.self { current = c.find_row.new.current }) c.pass_over.new.self p in
    let less = o.no_larger (p.open_table ∙ closed) in
    record {
      moves = moves_both _ _ _ _ _ _ _ _ _ i.moves (moves_both _ _ _ _ _ _ _ _ _ found (moves_both _ _ _ _ _ _ _ _ _ passed opened));
      adds = both_added (brings_run c.args.order) (refuses_run c.args.order) _ _ _ c.args.self.now c.loop-row.self c.open_next.new.self i.adds
          (both_added (brings_run c.args.order) (refuses_run c.args.order) _ _ _ c.loop-row.self (record c.loop-row.self { current = c.find_row.new.current }) c.open_next.new.self (run_spent_adds c.args.order _ _ c.loop-row.self (record c.loop-row.self { current = c.find_row.new.current }) (rw c.in_default.is at t.hands) refl refl)
          (both_added (brings_run c.args.order) (refuses_run c.args.order) _ _ _ (record c.loop-row.self { current = c.find_row.new.current }) c.pass_over.new.self c.open_next.new.self (passes_adds c.args.order c.args.key.now _ (record c.loop-row.self { current = c.find_row.new.current }) c.pass_over.new.self p) (next_adds c.args.range.now c.args.order _ _ c.pass_over.new.self c.open_next.new.self c.in_ok-open_next.field-0 o.opened)));
      none = opened_ahead c.args.range.now _ _ c.pass_over.new.self c.open_next.new.self c.in_ok-open_next.field-0 o.opened ∙ p.ahead ∙ i.none;
      bound = omega (arith, i.bound, t.no_larger, fewer, less);
      within = within_then IsCursorWithin _ _ _ c.args.self.now c.loop-row.self c.open_next.new.self i.within (within_then IsCursorWithin _ _ _ c.loop-row.self (record c.loop-row.self { current = c.find_row.new.current }) c.open_next.new.self (run_stays _ _ c.loop-row.self (record c.loop-row.self { current = c.find_row.new.current }) refl t.within) (within_then IsCursorWithin _ _ _ (record c.loop-row.self { current = c.find_row.new.current }) c.pass_over.new.self c.open_next.new.self (passes_within c.args.order c.args.key.now _ (record c.loop-row.self { current = c.find_row.new.current }) c.pass_over.new.self p) o.within));
      reads = reads_then _ _ _ i.reads (reads_then _ _ _ t.reads o.reads);
      counts = o.counts ∙ t.counts ∙ i.counts;
    }

pub loop-row-smaller : goal.loop-row-smaller
loop-row-smaller g c =
    let fewer = passed_fewer c.args.order c.args.key.now (record c.loop-row.self { current = c.find_row.new.current }) c.pass_over.new.self c.pass_over.ensures in
    let less = opened_fewer c.pass_over.new.self c.open_next.new.self c.in_ok-open_next.field-0 c.if-not-branch.false c.in_ok-open_next.ensures.fewer in
    omega (arith, fewer, less)

pub returns-in_err-row : goal.returns-in_err-row
returns-in_err-row g c =
    let i = c.loop-row.invariant in
    let p = err_from_is_err_and c.from_residual.result c.from_residual.ensures.1 in
    record {
      sought = rw p.1 tt;
      cause = rw (p.1, p.2) (moves_fails _ _ _ _ _ _ _ _ None _ i.moves i.reads.later (run_fails c.args.order _ _ c.loop-row.self _ c.in_err-row.ensures.cause));
      no_larger = rw p.1 tt;
      adds = rw p.1 tt;
      within = within_then IsCursorWithin _ _ _ c.args.self.now c.loop-row.self (record c.loop-row.self { current = c.find_row.new.current }) i.within (run_stays _ _ c.loop-row.self (record c.loop-row.self { current = c.find_row.new.current }) refl c.in_err-row.ensures.within);
      reads = reads_then _ _ _ i.reads c.in_err-row.ensures.reads;
      counts = rw (p.1, p.2) (c.in_err-row.ensures.counts ∙ ap (unblamed c.in_err-row.field-0.0) i.counts);
    }

pub returns-in-Some : goal.returns-in-Some
returns-in-Some g c =
    let i = c.loop-row.invariant in
    let t = c.in_ok-row.ensures in
    let less = (rw c.in-Some.is at t.smaller) refl in
    let one = ap (λ r. length (rows_ahead r)) c.replace.ensures.after in
    let found = found_some c.args.range.now c.args.order c.args.key.now _ _ c.loop-row.self (record { ahead = c.replace.new.dest; current = c.find_row.new.current; tables = c.loop-row.self.tables; limits = c.loop-row.self.limits }) c.in-Some.row (rw c.in-Some.is at t.found) i.none c.replace.ensures.after refl in
    record {
      sought = run_sought c.args.range.now c.args.order c.args.key.now _ _ _ c.args.self.now c.loop-row.self (record { ahead = c.replace.new.dest; current = c.find_row.new.current; tables = c.loop-row.self.tables; limits = c.loop-row.self.limits }) i.moves found;
      cause = tt;
      no_larger = omega (arith, i.bound, less, one);
      adds = both_added (brings_run c.args.order) (refuses_run c.args.order) _ _ _ c.args.self.now c.loop-row.self (record { ahead = c.replace.new.dest; current = c.find_row.new.current; tables = c.loop-row.self.tables; limits = c.loop-row.self.limits }) i.adds (found_adds c.args.order _ _ c.loop-row.self (record { ahead = c.replace.new.dest; current = c.find_row.new.current; tables = c.loop-row.self.tables; limits = c.loop-row.self.limits }) c.in-Some.row (rw c.in-Some.is at t.hands) c.replace.ensures.after refl);
      within = within_then IsCursorWithin _ _ _ c.args.self.now c.loop-row.self (record { ahead = c.replace.new.dest; current = c.find_row.new.current; tables = c.loop-row.self.tables; limits = c.loop-row.self.limits }) i.within (run_stays _ _ c.loop-row.self (record { ahead = c.replace.new.dest; current = c.find_row.new.current; tables = c.loop-row.self.tables; limits = c.loop-row.self.limits }) refl t.within);
      reads = reads_then _ _ _ i.reads t.reads;
      counts = t.counts ∙ i.counts;
    }

pub returns-in_err-open_next : goal.returns-in_err-open_next
returns-in_err-open_next g c =
    let i = c.loop-row.invariant in
    let t = c.in_ok-row.ensures in
    let closed = (rw c.in_default.is at t.spent) refl in
    let pass = c.pass_over.ensures in
    let found = found_none c.args.range.now c.args.order c.args.key.now _ _ c.loop-row.self (record c.loop-row.self { current = c.find_row.new.current }) (rw c.in_default.is at t.found) i.none refl refl in
    let passed = passes_moves c.args.range.now c.args.order c.args.key.now _ (record c.loop-row.self { current = c.find_row.new.current }) c.pass_over.new.self pass i.none closed in
    let p = err_from_is_err_and c.from_residual-in_err-open_next.result c.from_residual-in_err-open_next.ensures.1 in
    let o = c.in_err-open_next.ensures in
    let reads = reads_then _ _ _ i.reads t.reads in
    record {
      sought = rw p.1 tt;
      cause = rw (p.1, p.2) (moves_fails _ _ _ _ _ _ _ _ None _ (moves_both _ _ _ _ _ _ _ _ _ i.moves (moves_both _ _ _ _ _ _ _ _ _ found passed)) reads.later (o.cause c.args.order));
      no_larger = rw p.1 tt;
      adds = rw p.1 tt;
      within = within_then IsCursorWithin _ _ _ c.args.self.now c.loop-row.self c.open_next.new.self i.within (within_then IsCursorWithin _ _ _ c.loop-row.self (record c.loop-row.self { current = c.find_row.new.current }) c.open_next.new.self (run_stays _ _ c.loop-row.self (record c.loop-row.self { current = c.find_row.new.current }) refl t.within) (within_then IsCursorWithin _ _ _ (record c.loop-row.self { current = c.find_row.new.current }) c.pass_over.new.self c.open_next.new.self (passes_within c.args.order c.args.key.now _ (record c.loop-row.self { current = c.find_row.new.current }) c.pass_over.new.self pass) o.within));
      reads = reads_then _ _ _ reads o.reads;
      counts = rw (p.1, p.2) (o.counts ∙ ap (unblamed c.in_err-open_next.field-0.0) (t.counts ∙ i.counts));
    }

pub returns-then-not-branch : goal.returns-then-not-branch
returns-then-not-branch g c =
    let i = c.loop-row.invariant in
    let t = c.in_ok-row.ensures in
    let closed = (rw c.in_default.is at t.spent) refl in
    let p = c.pass_over.ensures in
    let found = found_none c.args.range.now c.args.order c.args.key.now _ _ c.loop-row.self (record c.loop-row.self { current = c.find_row.new.current }) (rw c.in_default.is at t.found) i.none refl refl in
    let passed = passes_moves c.args.range.now c.args.order c.args.key.now _ (record c.loop-row.self { current = c.find_row.new.current }) c.pass_over.new.self p i.none closed in
    let o = c.in_ok-open_next.ensures in
    let ended = ended_sought c.args.range.now c.args.order c.args.key.now _ _ c.pass_over.new.self c.open_next.new.self c.in_ok-open_next.field-0 c.if-not-branch.true (p.ahead ∙ i.none) (p.open_table ∙ closed) o.opened in
    let fewer = passed_bound c.args.order c.args.key.now (record c.loop-row.self { current = c.find_row.new.current }) c.pass_over.new.self p in
    let less = o.no_larger (p.open_table ∙ closed) in
    record {
      sought = run_sought c.args.range.now c.args.order c.args.key.now _ _ _ c.args.self.now c.pass_over.new.self c.open_next.new.self (moves_both _ _ _ _ _ _ _ _ _ i.moves (moves_both _ _ _ _ _ _ _ _ _ found passed)) ended;
      cause = tt;
      no_larger = omega (arith, i.bound, t.no_larger, fewer, less);
      adds = both_added (brings_run c.args.order) (refuses_run c.args.order) _ _ _ c.args.self.now c.loop-row.self c.open_next.new.self i.adds
          (both_added (brings_run c.args.order) (refuses_run c.args.order) _ _ _ c.loop-row.self (record c.loop-row.self { current = c.find_row.new.current }) c.open_next.new.self (run_spent_adds c.args.order _ _ c.loop-row.self (record c.loop-row.self { current = c.find_row.new.current }) (rw c.in_default.is at t.hands) refl refl)
          (both_added (brings_run c.args.order) (refuses_run c.args.order) _ _ _ (record c.loop-row.self { current = c.find_row.new.current }) c.pass_over.new.self c.open_next.new.self (passes_adds c.args.order c.args.key.now _ (record c.loop-row.self { current = c.find_row.new.current }) c.pass_over.new.self p) (next_adds c.args.range.now c.args.order _ _ c.pass_over.new.self c.open_next.new.self c.in_ok-open_next.field-0 o.opened)));
      within = within_then IsCursorWithin _ _ _ c.args.self.now c.loop-row.self c.open_next.new.self i.within (within_then IsCursorWithin _ _ _ c.loop-row.self (record c.loop-row.self { current = c.find_row.new.current }) c.open_next.new.self (run_stays _ _ c.loop-row.self (record c.loop-row.self { current = c.find_row.new.current }) refl t.within) (within_then IsCursorWithin _ _ _ (record c.loop-row.self { current = c.find_row.new.current }) c.pass_over.new.self c.open_next.new.self (passes_within c.args.order c.args.key.now _ (record c.loop-row.self { current = c.find_row.new.current }) c.pass_over.new.self p) o.within));
      reads = reads_then _ _ _ i.reads (reads_then _ _ _ t.reads o.reads);
      counts = o.counts ∙ t.counts ∙ i.counts;
    }
