use Rattle.std.proofs.Common.{◌≡◌, ◌-◌, None, Some, arith, ◌∙◌, ap, refl}
use Rattle.slate_types.specs.Outside.{unblamed}
use Rattle.std.proofs.lemmas.Result.{err_from_is_err_and, IfOk-from_err}
use Rattle.slate_types.proofs.Calls.{reads_at_none, reads_at_then}
use Rattle.slate_types.proofs.Reaching.{reads_none, reads_then}
use Rattle.slate_read.proofs.Bringings.{adds_both, adds_hands, adds_none, end_hands, row_hands, spent_adds}
use Rattle.slate_read.proofs.Cursors.{end_step, row_fails, row_moves, row_step, took_fewer, took_none}
use Rattle.slate_types.proofs.Moves.{moves_both, moves_fails, moves_none, moves_step}
use Rattle.slate_read.proofs.table_state.Cursor.advance.Goals as goal

pub loop-row-init : goal.loop-row-init
loop-row-init g c = record {
  moves = moves_none _ _ _ _ _;
  adds = adds_none c.args.table.now c.args.order _ c.args.self.now;
  bound = omega arith;
  within = λ paths here. reads_at_none paths _;
  reads = reads_none _;
  counts = refl;
}

pub loop-row-preserved : goal.loop-row-preserved
loop-row-preserved g c =
    let i = c.loop-row.invariant in
    let r = c.in_ok-row.ensures in
    let took = rw c.in_default.is at r.took in
    let moved = row_moves c.args.table.now c.args.order _ c.loop-row.self c.row.new.self took r.index r.first r.stop r.ready in
    let o = c.in_ok-open.ensures in
    let d : c.row.new.self.stop - c.row.new.self.first ≡ c.loop-row.self.stop - c.loop-row.self.first = (λ k. r.stop k - r.first k) in
    record {
      moves = moves_both _ _ _ _ _ _ _ _ _ i.moves (moves_both _ _ _ _ _ _ _ _ _ moved o.moved);
      adds = adds_both c.args.table.now c.args.order _ _ _ c.args.self.now c.loop-row.self c.open.new.self i.adds (adds_both c.args.table.now c.args.order _ _ _ c.loop-row.self c.row.new.self c.open.new.self (spent_adds c.args.table.now c.args.order _ c.loop-row.self c.row.new.self took r.index r.ready) o.adds);
      bound = omega (arith, i.bound, o.small, o.fewer, d);
      within = λ paths here. reads_at_then paths _ _ _ (i.within paths here) (o.within paths here);
      reads = reads_then _ _ _ i.reads o.reads;
      counts = o.counts ∙ i.counts;
    }

pub loop-row-smaller : goal.loop-row-smaller
loop-row-smaller g c =
    let r = c.in_ok-row.ensures in
    let o = c.in_ok-open.ensures in
    let d : c.row.new.self.stop - c.row.new.self.first ≡ c.loop-row.self.stop - c.loop-row.self.first = (λ k. r.stop k - r.first k) in
    omega (arith, o.fewer, d)

pub returns-in_err-row : goal.returns-in_err-row
returns-in_err-row g c =
    let i = c.loop-row.invariant in
    let p = err_from_is_err_and c.from_residual.result c.from_residual.ensures.1 in
    record {
      step = IfOk-from_err c.from_residual.result _ c.from_residual.ensures.0;
      cause = rw (p.1, p.2) (moves_fails _ _ _ _ _ _ _ _ None _ i.moves i.reads.later (row_fails c.args.table.now c.args.order _ _ c.loop-row.self _ c.in_err-row.ensures.cause));
      smaller = IfOk-from_err c.from_residual.result _ c.from_residual.ensures.0;
      hands = IfOk-from_err c.from_residual.result _ c.from_residual.ensures.0;
      no_larger = rw p.1 tt;
      within = i.within;
      reads = i.reads;
      counts = rw (p.1, p.2) (ap (unblamed c.in_err-row.field-0.0) i.counts);
    }

pub returns-in-Some : goal.returns-in-Some
returns-in-Some g c =
    let i = c.loop-row.invariant in
    let r = c.in_ok-row.ensures in
    let took = rw c.in-Some.is at r.took in
    let d : c.row.new.self.stop - c.row.new.self.first ≡ c.loop-row.self.stop - c.loop-row.self.first = (λ k. r.stop k - r.first k) in
    let less = took_fewer _ _ _ took in
    record {
      step = moves_step _ _ _ _ _ _ _ _ _ _ i.moves (row_step c.args.table.now c.args.order _ c.loop-row.self c.row.new.self c.in-Some.row took r.index r.first r.stop r.ready);
      cause = tt;
      smaller = λ some. omega (arith, i.bound, less, d);
      hands = adds_hands c.args.table.now c.args.order _ _ _ c.args.self.now c.loop-row.self c.row.new.self (Some c.in-Some.row) i.adds (row_hands c.args.table.now c.args.order _ c.loop-row.self c.row.new.self c.in-Some.row took r.index r.ready);
      no_larger = omega (arith, i.bound, less, d);
      within = i.within;
      reads = i.reads;
      counts = i.counts;
    }

pub returns-then-self : goal.returns-then-self
returns-then-self g c =
    let i = c.loop-row.invariant in
    let r = c.in_ok-row.ensures in
    let took = rw c.in_default.is at r.took in
    let moved = row_moves c.args.table.now c.args.order _ c.loop-row.self c.row.new.self took r.index r.first r.stop r.ready in
    let d : c.row.new.self.stop - c.row.new.self.first ≡ c.loop-row.self.stop - c.loop-row.self.first = (λ k. r.stop k - r.first k) in
    let none = (took_none _ _ took).1 in
    record {
      step = moves_step _ _ _ _ _ _ _ _ _ _ i.moves (moves_step _ _ _ _ _ _ _ _ _ _ moved (end_step c.args.table.now c.args.order _ c.row.new.self none (omega (arith, c.if-self.true))));
      cause = tt;
      smaller = λ some. cc;
      hands = adds_hands c.args.table.now c.args.order _ _ _ c.args.self.now c.loop-row.self c.row.new.self None i.adds (adds_hands c.args.table.now c.args.order _ _ _ c.loop-row.self c.row.new.self c.row.new.self None (spent_adds c.args.table.now c.args.order _ c.loop-row.self c.row.new.self took r.index r.ready) (end_hands c.args.table.now c.args.order _ c.row.new.self));
      no_larger = omega (arith, i.bound, none, d);
      within = i.within;
      reads = i.reads;
      counts = i.counts;
    }

pub returns-in_err-open : goal.returns-in_err-open
returns-in_err-open g c =
    let i = c.loop-row.invariant in
    let r = c.in_ok-row.ensures in
    let took = rw c.in_default.is at r.took in
    let moved = row_moves c.args.table.now c.args.order _ c.loop-row.self c.row.new.self took r.index r.first r.stop r.ready in
    let p = err_from_is_err_and c.from_residual-in_err-open.result c.from_residual-in_err-open.ensures.1 in
    let o = c.in_err-open.ensures in
    record {
      step = IfOk-from_err c.from_residual-in_err-open.result _ c.from_residual-in_err-open.ensures.0;
      cause = rw (p.1, p.2) (moves_fails _ _ _ _ _ _ _ _ None _ (moves_both _ _ _ _ _ _ _ _ _ i.moves moved) i.reads.later o.cause);
      smaller = IfOk-from_err c.from_residual-in_err-open.result _ c.from_residual-in_err-open.ensures.0;
      hands = IfOk-from_err c.from_residual-in_err-open.result _ c.from_residual-in_err-open.ensures.0;
      no_larger = rw p.1 tt;
      within = λ paths here. reads_at_then paths _ _ _ (i.within paths here) (o.within paths here);
      reads = reads_then _ _ _ i.reads o.reads;
      counts = rw (p.1, p.2) (o.counts ∙ ap (unblamed c.in_err-open.field-0.0) i.counts);
    }
