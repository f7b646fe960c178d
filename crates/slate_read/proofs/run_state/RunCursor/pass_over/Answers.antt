use Rattle.std.proofs.Common.{◌∙◌, [], refl, sym}
use Rattle.slate_read.proofs.RunSeeks.{pass_fewer, pass_one}
use Rattle.slate_read.proofs.run_state.RunCursor.pass_over.Goals as goal

pub loop-order-init : goal.loop-order-init
loop-order-init c = record { passed = ([], refl, tt); open_table = refl; ahead = refl }

pub loop-order-preserved : goal.loop-order-preserved
loop-order-preserved c =
    let i = c.loop-order.invariant in
    record {
      passed = pass_one c.args.order c.args.key.now _ _ _ i.passed (sym c.is_next_passed.ensures ∙ c.loop-order-test.true) c.pop_front.ensures.rest;
      open_table = i.open_table;
      ahead = i.ahead;
    }

pub loop-order-smaller : goal.loop-order-smaller
loop-order-smaller c = pass_fewer c.args.order c.args.key.now _ _ (sym c.is_next_passed.ensures ∙ c.loop-order-test.true) c.pop_front.ensures.rest

pub returns : goal.returns
returns c =
    let i = c.loop-order.invariant in
    record {
      passed = i.passed.0;
      are = i.passed.1;
      each = i.passed.2;
      stops = sym c.is_next_passed.ensures ∙ c.loop-order-test.false;
      open_table = i.open_table;
      ahead = i.ahead;
    }
