use Rattle.std.proofs.Common.{Ok, arith, ◌≡◌, ◌+◌, ◌-◌, ◌/◌, sym, ◌∙◌}
use Rattle.std.proofs.lemmas.Option.{slice_get_within}
use Rattle.std.proofs.lemmas.Result.{IfOk-from_err, err_from_is_err_and}
use Rattle.slate_block.proofs.block_iterator.BlockIterator.rows_before.Goals as goal

pub returns-in_err-is_before : goal.returns-in_err-is_before
returns-in_err-is_before g c =
    let p = err_from_is_err_and c.from_residual.result c.from_residual.ensures.1 in
    record {
      within = IfOk-from_err c.from_residual.result _ c.from_residual.ensures.0;
      last = IfOk-from_err c.from_residual.result _ c.from_residual.ensures.0;
      next = IfOk-from_err c.from_residual.result _ c.from_residual.ensures.0;
      cause = rw (p.1, p.2) c.in_err-is_before.ensures.cause;
    }

pub loop-low-init : goal.loop-low-init
loop-low-init g c =
    let size = c.rows_left-high.ensures in
    record {
      ordered = omega arith;
      within = omega (arith, size);
      below = λ index row e found. absurd (omega (arith, e));
      above = λ row found. absurd (let inside = slice_get_within c.args.self.now.reads c.rows_left-high.result (Ok row) found in omega (arith, inside, size));
    }

pub is_before-requires : goal.is_before-requires
is_before-requires g c = omega (arith, c.loop-low.invariant.within)

pub returns : goal.returns
returns g c =
    let same : c.loop-low.low ≡ c.loop-low.high = omega (arith, c.loop-low.invariant.ordered) in
    record {
      within = omega (arith, c.loop-low.invariant.within);
      last = c.loop-low.invariant.below;
      next = rw same c.loop-low.invariant.above;
      cause = tt;
    }

pub loop-low-preserved : goal.loop-low-preserved
loop-low-preserved g c = record {
  ordered = omega arith;
  within = omega (arith, c.loop-low.invariant.within);
  below = c.loop-low.invariant.below;
  above = λ row found. sym (c.in_ok-is_before.ensures.before row found) ∙ c.if-branch.false;
}

pub loop-low-preserved-then-branch : goal.loop-low-preserved-then-branch
loop-low-preserved-then-branch g c = record {
  ordered = omega arith;
  within = c.loop-low.invariant.within;
  below = λ index row e found.
      let same : index ≡ c.loop-low.low + (c.loop-low.high - c.loop-low.low) / 2 = omega (arith, e) in
      sym (c.in_ok-is_before.ensures.before row (rw same at found)) ∙ c.if-branch.true;
  above = c.loop-low.invariant.above;
}
