use Rattle.std.proofs.Common.{◌∙◌, None, ap}
use Rattle.slate_types.specs.Outside.{unblamed}
use Rattle.std.proofs.lemmas.Result.{err_from_is_err_and}
use Rattle.slate_types.proofs.Moves.{moves_both, moves_fails}
use Rattle.slate_types.proofs.Calls.{reads_at_then}
use Rattle.slate_types.proofs.Reaching.{reads_then}
use Rattle.slate_read.proofs.Bringings.{adds_both, fetches_adds}
use Rattle.slate_read.proofs.Cursors.{some_fails}
use Rattle.slate_read.proofs.ReadAhead.{fetched_some, fetches_moves}
use Rattle.slate_read.proofs.table_state.Cursor.fill.Goals as goal

pub returns-in_err-read_ahead : goal.returns-in_err-read_ahead
returns-in_err-read_ahead g c =
    let p = err_from_is_err_and c.from_residual.result c.from_residual.ensures.1 in
    let e = c.in_err-read_ahead.ensures in
    record {
      moved = rw p.1 tt;
      cause = rw (p.1, p.2) (some_fails c.args.table.now c.args.order _ _ _ _ c.args.self.now _ e.cause);
      first = rw p.1 tt;
      stop = rw p.1 tt;
      rows = rw p.1 tt;
      some = rw p.1 tt;
      adds = rw p.1 tt;
      within = e.within;
      reads = e.reads;
      counts = rw (p.1, p.2) (e.counts);
    }

pub loop-init : goal.loop-init
loop-init g c =
    let e = c.in_ok-read_ahead.ensures in
    let f = e.fetched.2 in
    record {
      moves = fetches_moves c.args.table.now c.args.order c.args.limits.bytes _ _ e.fetched.0 c.args.self.now c.read_ahead.new.self e.fetched.1 f;
      adds = fetches_adds c.args.table.now c.args.order c.args.limits.bytes _ _ e.fetched.0 c.args.self.now c.read_ahead.new.self e.fetched.1 f;
      first = f.first;
      stop = f.stop;
      rows = f.rows;
      some = fetched_some _ c.args.table.now c.args.order c.args.limits.bytes e.fetched.0 c.args.self.now c.read_ahead.new.self f;
      within = e.within;
      reads = e.reads;
      counts = e.counts;
    }

pub loop-preserved : goal.loop-preserved
loop-preserved g c =
    let i = c.loop.invariant in
    let e = c.in_ok-read_ahead-2.ensures in
    let f = e.fetched.2 in
    record {
      moves = moves_both _ _ _ _ _ _ _ _ _ i.moves (fetches_moves c.args.table.now c.args.order c.args.limits.bytes _ _ e.fetched.0 c.loop.self c.read_ahead-in-loop.new.self e.fetched.1 f);
      adds = adds_both c.args.table.now c.args.order _ _ _ c.args.self.now c.loop.self c.read_ahead-in-loop.new.self i.adds (fetches_adds c.args.table.now c.args.order c.args.limits.bytes _ _ e.fetched.0 c.loop.self c.read_ahead-in-loop.new.self e.fetched.1 f);
      first = f.first ∙ i.first;
      stop = f.stop ∙ i.stop;
      rows = f.rows ∙ i.rows;
      some = fetched_some _ c.args.table.now c.args.order c.args.limits.bytes e.fetched.0 c.loop.self c.read_ahead-in-loop.new.self f;
      within = λ paths here. reads_at_then paths _ _ _ (i.within paths here) (e.within paths here);
      reads = reads_then _ _ _ i.reads e.reads;
      counts = e.counts ∙ i.counts;
    }

pub returns-in_err-read_ahead-2 : goal.returns-in_err-read_ahead-2
returns-in_err-read_ahead-2 g c =
    let i = c.loop.invariant in
    let p = err_from_is_err_and c.from_residual-in_err-read_ahead-2.result c.from_residual-in_err-read_ahead-2.ensures.1 in
    let e = c.in_err-read_ahead-2.ensures in
    record {
      moved = rw p.1 tt;
      cause = rw (p.1, p.2) (moves_fails _ _ _ _ _ _ _ _ None _ i.moves i.reads.later (some_fails c.args.table.now c.args.order _ _ _ _ c.loop.self _ e.cause));
      first = rw p.1 tt;
      stop = rw p.1 tt;
      rows = rw p.1 tt;
      some = rw p.1 tt;
      adds = rw p.1 tt;
      within = λ paths here. reads_at_then paths _ _ _ (i.within paths here) (e.within paths here);
      reads = reads_then _ _ _ i.reads e.reads;
      counts = rw (p.1, p.2) (e.counts ∙ ap (unblamed c.in_err-read_ahead-2.field-0.0) i.counts);
    }
