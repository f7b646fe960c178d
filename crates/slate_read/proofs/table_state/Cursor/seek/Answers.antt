use Rattle.std.proofs.Common.{◌≡◌, ◌≤◌, ◌-◌, ap, Some, arith, refl}
use Rattle.std.proofs.lemmas.Result.{err_from_is_err_and, on_ok_weaker, IfErr-weaker}
use Rattle.slate_types.proofs.Calls.{reads_at_none}
use Rattle.slate_types.proofs.Reaching.{later_none, reads_none}
use Rattle.slate_types.proofs.Moves.{moves_both, moves_fails, moves_none}
use Rattle.slate_read.specs.TableWalk.{bound_behind, reads_in}
use Rattle.slate_read.proofs.Bringings.{adds_both, jump_adds, skip_adds}
use Rattle.slate_read.proofs.Cursors.{row_fails}
use Rattle.slate_read.proofs.Jumps.{jump_moves, sought_behind}
use Rattle.slate_read.proofs.Seeks.{done_some, skip_moves, skipped_no_larger, skipped_none}
use Rattle.slate_read.proofs.table_state.Cursor.seek.Goals as goal

pub returns-in_err-skip : goal.returns-in_err-skip
returns-in_err-skip g c =
    let p = err_from_is_err_and c.from_residual.result c.from_residual.ensures.1 in
    record {
      sought = rw p.1 tt;
      cause = rw (p.1, p.2) (row_fails c.args.table.now c.args.order _ _ c.args.self.now _ c.in_err-skip.ensures.cause);
      no_larger = rw p.1 tt;
      adds = rw p.1 tt;
      within = λ paths here. reads_at_none paths _;
      reads = reads_none _;
      counts = refl;
    }

pub returns-then-branch : goal.returns-then-branch
returns-then-branch g c =
    let r = c.in_ok-skip.ensures in
    let skips = rw c.if-branch.true at r.skipped in
    let d : c.skip.new.self.stop - c.skip.new.self.first ≡ c.args.self.now.stop - c.args.self.now.first = (λ k. r.stop k - r.first k) in
    let less = skipped_no_larger _ _ _ _ skips in
    record {
      sought = done_some c.args.table.now c.args.order c.args.key.now _ _ c.args.self.now c.args.self.now c.skip.new.self (moves_none _ _ _ _ _) skips r.index r.first r.stop r.ready;
      cause = tt;
      no_larger = omega (arith, less, d);
      adds = skip_adds c.args.table.now c.args.order c.args.key.now _ c.args.self.now c.skip.new.self _ skips r.index r.ready;
      within = λ paths here. reads_at_none paths _;
      reads = reads_none _;
      counts = refl;
    }

pub returns : goal.returns
returns g c =
    let r = c.in_ok-skip.ensures in
    let skips = rw c.if-branch.false at r.skipped in
    let j = c.jump.ensures in
    let o = c.walk_to.ensures in
    let less = skipped_no_larger _ _ _ _ skips in
    let first = r.first in
    let stop = r.stop in
    let low = j.first in
    let high = j.stop in
    let open_rows = ap reads_in j.rows in
    let moved = moves_both _ _ _ _ _ _ _ _ _ (skip_moves c.args.table.now c.args.order c.args.key.now _ c.args.self.now c.skip.new.self _ skips r.index r.first r.stop r.ready)
    (jump_moves c.args.table.now c.args.order c.args.key.now _ c.skip.new.self c.jump.new.self j (skipped_none _ _ _ skips)) in
    let smaller : bound_behind c.jump.new.self ≤ bound_behind c.args.self.now = omega (arith, less, first, stop, low, high, open_rows) in
    record {
      sought = on_ok_weaker c.walk_to.result (λ k. sought_behind c.args.table.now c.args.order c.args.key.now _ _ _ c.args.self.now c.jump.new.self c.walk_to.new.self moved k) o.sought;
      cause = IfErr-weaker c.walk_to.result _ _ (λ e made. moves_fails _ _ _ _ _ _ _ _ (Some c.args.key.now) e moved (later_none _) made) o.cause;
      no_larger = on_ok_weaker c.walk_to.result (λ k. omega (arith, k, smaller)) o.no_larger;
      adds = on_ok_weaker c.walk_to.result (λ k. adds_both c.args.table.now c.args.order _ _ _ c.args.self.now c.jump.new.self c.walk_to.new.self (adds_both c.args.table.now c.args.order _ _ _ c.args.self.now c.skip.new.self c.jump.new.self (skip_adds c.args.table.now c.args.order c.args.key.now _ c.args.self.now c.skip.new.self _ skips r.index r.ready) (jump_adds c.args.table.now c.args.order c.args.key.now _ c.skip.new.self c.jump.new.self j)) k) o.adds;
      within = o.within;
      reads = o.reads;
      counts = o.counts;
    }
