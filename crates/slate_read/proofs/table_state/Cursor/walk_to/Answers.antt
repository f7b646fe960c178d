use Rattle.std.proofs.Common.{◌≡◌, ◌-◌, Some, arith, ◌∙◌, ap, refl}
use Rattle.slate_types.specs.Outside.{unblamed}
use Rattle.std.proofs.lemmas.Result.{err_from_is_err_and}
use Rattle.slate_types.proofs.Calls.{reads_at_none, reads_at_then}
use Rattle.slate_types.proofs.Reaching.{reads_none, reads_then}
use Rattle.slate_read.proofs.Bringings.{adds_both, adds_none, skip_adds}
use Rattle.slate_read.proofs.Cursors.{row_fails}
use Rattle.slate_types.proofs.Moves.{moves_both, moves_fails, moves_none}
use Rattle.slate_read.proofs.Seeks.{done_none, done_some, lifted, skip_moves, skipped_no_larger}
use Rattle.slate_read.proofs.table_state.Cursor.walk_to.Goals as goal

pub loop-self-init : goal.loop-self-init
loop-self-init g c = record {
  moves = moves_none _ _ _ _ _;
  adds = adds_none c.args.table.now c.args.order _ c.args.self.now;
  bound = omega arith;
  within = λ paths here. reads_at_none paths _;
  reads = reads_none _;
  counts = refl;
}

pub loop-self-preserved : goal.loop-self-preserved
loop-self-preserved g c =
    let i = c.loop-self.invariant in
    let r = c.in_ok-skip.ensures in
    let skips = rw c.if-branch.false at r.skipped in
    let moved = skip_moves c.args.table.now c.args.order c.args.key.now _ c.loop-self.self c.skip.new.self _ skips r.index r.first r.stop r.ready in
    let o = c.in_ok-open.ensures in
    let opened = lifted c.args.table.now c.args.order c.args.key.now _ _ c.skip.new.self c.open.new.self
    o.moved in
    let d : c.skip.new.self.stop - c.skip.new.self.first ≡ c.loop-self.self.stop - c.loop-self.self.first = (λ k. r.stop k - r.first k) in
    record {
      moves = moves_both _ _ _ _ _ _ _ _ _ i.moves (moves_both _ _ _ _ _ _ _ _ _ moved opened);
      adds = adds_both c.args.table.now c.args.order _ _ _ c.args.self.now c.loop-self.self c.open.new.self i.adds (adds_both c.args.table.now c.args.order _ _ _ c.loop-self.self c.skip.new.self c.open.new.self (skip_adds c.args.table.now c.args.order c.args.key.now _ c.loop-self.self c.skip.new.self _ skips r.index r.ready) o.adds);
      bound = omega (arith, i.bound, o.small, o.fewer, d);
      within = λ paths here. reads_at_then paths _ _ _ (i.within paths here) (o.within paths here);
      reads = reads_then _ _ _ i.reads o.reads;
      counts = o.counts ∙ i.counts;
    }

pub loop-self-smaller : goal.loop-self-smaller
loop-self-smaller g c =
    let r = c.in_ok-skip.ensures in
    let o = c.in_ok-open.ensures in
    let d : c.skip.new.self.stop - c.skip.new.self.first ≡ c.loop-self.self.stop - c.loop-self.self.first = (λ k. r.stop k - r.first k) in
    omega (arith, o.fewer, d)

pub returns-in_err-skip : goal.returns-in_err-skip
returns-in_err-skip g c =
    let i = c.loop-self.invariant in
    let p = err_from_is_err_and c.from_residual.result c.from_residual.ensures.1 in
    record {
      sought = rw p.1 tt;
      cause = rw (p.1, p.2) (moves_fails _ _ _ _ _ _ _ _ (Some c.args.key.now) _ i.moves i.reads.later (row_fails c.args.table.now c.args.order _ _ c.loop-self.self _ c.in_err-skip.ensures.cause));
      no_larger = rw p.1 tt;
      adds = rw p.1 tt;
      within = i.within;
      reads = i.reads;
      counts = rw (p.1, p.2) (ap (unblamed c.in_err-skip.field-0.0) i.counts);
    }

pub returns-then-branch : goal.returns-then-branch
returns-then-branch g c =
    let i = c.loop-self.invariant in
    let r = c.in_ok-skip.ensures in
    let skips = rw c.if-branch.true at r.skipped in
    let d : c.skip.new.self.stop - c.skip.new.self.first ≡ c.loop-self.self.stop - c.loop-self.self.first = (λ k. r.stop k - r.first k) in
    let less = skipped_no_larger _ _ _ _ skips in
    record {
      sought = done_some c.args.table.now c.args.order c.args.key.now _ _ c.args.self.now c.loop-self.self c.skip.new.self i.moves skips r.index r.first r.stop r.ready;
      cause = tt;
      no_larger = omega (arith, i.bound, less, d);
      adds = adds_both c.args.table.now c.args.order _ _ _ c.args.self.now c.loop-self.self c.skip.new.self i.adds (skip_adds c.args.table.now c.args.order c.args.key.now _ c.loop-self.self c.skip.new.self _ skips r.index r.ready);
      within = i.within;
      reads = i.reads;
      counts = i.counts;
    }

pub returns-then-self : goal.returns-then-self
returns-then-self g c =
    let i = c.loop-self.invariant in
    let r = c.in_ok-skip.ensures in
    let skips = rw c.if-branch.false at r.skipped in
    let d : c.skip.new.self.stop - c.skip.new.self.first ≡ c.loop-self.self.stop - c.loop-self.self.first = (λ k. r.stop k - r.first k) in
    let less = skipped_no_larger _ _ _ _ skips in
    record {
      sought = done_none c.args.table.now c.args.order c.args.key.now _ _ c.args.self.now c.loop-self.self c.skip.new.self i.moves skips r.index r.first r.stop r.ready (omega (arith, c.if-self.true));
      cause = tt;
      no_larger = omega (arith, i.bound, less, d);
      adds = adds_both c.args.table.now c.args.order _ _ _ c.args.self.now c.loop-self.self c.skip.new.self i.adds (skip_adds c.args.table.now c.args.order c.args.key.now _ c.loop-self.self c.skip.new.self _ skips r.index r.ready);
      within = i.within;
      reads = i.reads;
      counts = i.counts;
    }

pub returns-in_err-open : goal.returns-in_err-open
returns-in_err-open g c =
    let i = c.loop-self.invariant in
    let r = c.in_ok-skip.ensures in
    let skips = rw c.if-branch.false at r.skipped in
    let moved = skip_moves c.args.table.now c.args.order c.args.key.now _ c.loop-self.self c.skip.new.self _ skips r.index r.first r.stop r.ready in
    let p = err_from_is_err_and c.from_residual-in_err-open.result c.from_residual-in_err-open.ensures.1 in
    let o = c.in_err-open.ensures in
    record {
      sought = rw p.1 tt;
      cause = rw (p.1, p.2) (moves_fails _ _ _ _ _ _ _ _ (Some c.args.key.now) _ (moves_both _ _ _ _ _ _ _ _ _ i.moves moved) i.reads.later o.cause);
      no_larger = rw p.1 tt;
      adds = rw p.1 tt;
      within = λ paths here. reads_at_then paths _ _ _ (i.within paths here) (o.within paths here);
      reads = reads_then _ _ _ i.reads o.reads;
      counts = rw (p.1, p.2) (o.counts ∙ ap (unblamed c.in_err-open.field-0.0) i.counts);
    }
