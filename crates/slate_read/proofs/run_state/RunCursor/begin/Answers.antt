use Rattle.std.proofs.Common.{◌∙◌, sym, arith, refl}
use Rattle.slate_types.proofs.Moves.{moves_none}
use Rattle.slate_types.proofs.Reaching.{reads_none}
use Rattle.slate_merge.proofs.NoMoreRows.{none_added}
use Rattle.slate_read.specs.RunBringing.{brings_run}
use Rattle.slate_read.specs.RunWalk.{IsCursorWithin, refuses_run}
use Rattle.slate_read.proofs.RunBringings.{next_adds}
use Rattle.slate_read.proofs.Runs.{begun_run, not_open}
use Rattle.slate_read.proofs.Withins.{none_within}
use Rattle.slate_read.proofs.run_state.RunCursor.begin.Goals as goal

pub returns-then-is_some : goal.returns-then-is_some
returns-then-is_some g c = record { moved = moves_none _ _ _ _ _; cause = tt; no_larger = omega arith; adds = none_added (brings_run c.args.order) (refuses_run c.args.order) _ c.args.self.now; within = none_within IsCursorWithin _ c.args.self.now; reads = reads_none _; counts = refl }

pub returns-in-Ok : goal.returns-in-Ok
returns-in-Ok g c =
    let closed = not_open c.args.self.now.current (sym c.is_some.ensures ∙ c.if-is_some.false) in
    record {
      moved = begun_run c.args.range.now c.args.order _ _ c.args.self.now c.open_next.new.self c.in-Ok.field-0 closed c.in-Ok.ensures.opened;
      cause = tt;
      no_larger = c.in-Ok.ensures.no_larger closed;
      adds = next_adds c.args.range.now c.args.order _ _ c.args.self.now c.open_next.new.self c.in-Ok.field-0 c.in-Ok.ensures.opened;
      within = c.in-Ok.ensures.within;
      reads = c.in-Ok.ensures.reads;
      counts = c.in-Ok.ensures.counts;
    }

pub returns-in-Err : goal.returns-in-Err
returns-in-Err g c = record { moved = tt; cause = c.in-Err.ensures.cause c.args.order; no_larger = tt; adds = tt; within = c.in-Err.ensures.within; reads = c.in-Err.ensures.reads; counts = c.in-Err.ensures.counts }
