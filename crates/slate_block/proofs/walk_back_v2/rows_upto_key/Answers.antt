use Rattle.std.proofs.Common.{◌≡◌, true, arith, Ok}
use Rattle.slate_types.specs.declared.iter.IterationOrder.TheVariants.{Descending}
use Rattle.slate_types.specs.Iteration.{comes_before}
use Rattle.slate_block.specs.GroupWalks.{turned}
use Rattle.slate_block.proofs.BackSteps.{end_past}
use Rattle.slate_block.proofs.walk_back_v2.rows_upto_key.Goals as goal

pub loop-kept-preserved : goal.loop-kept-preserved
loop-kept-preserved c =
    let row = c.index-rows-kept.result in
    let before : comes_before Descending row.key c.args.key.now ≡ true = cc in
    record {
      within = omega arith;
      past = end_past Descending c.args.rows.now c.loop-kept.kept row c.args.key.now (turned (Ok c.args.rows.now)) (omega arith) c.loop-kept.invariant.within c.index-rows-kept.is before c.loop-kept.invariant.past;
    }

pub bounds-rows-kept : goal.bounds-rows-kept
bounds-rows-kept c = omega (arith, c.loop-kept.invariant.within)

pub returns-then-not-puts_before-clause-within : goal.returns-then-not-puts_before-clause-within
returns-then-not-puts_before-clause-within c = c.loop-kept.invariant.within

pub returns-then-not-puts_before-clause-past : goal.returns-then-not-puts_before-clause-past
returns-then-not-puts_before-clause-past c = c.loop-kept.invariant.past
