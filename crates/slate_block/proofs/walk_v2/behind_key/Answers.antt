use Rattle.std.proofs.lemmas.Result.{err_from_is_err_and}
use Rattle.slate_types.specs.declared.error.SlateDBError.TheVariants.{OutOfMemory}
use Rattle.slate_types.specs.declared.iter.IterationOrder.TheVariants.{Ascending}
use Rattle.slate_block.specs.GroupWalks.{as_place, left_v2}
use Rattle.slate_block.proofs.SeekLaws.{past_refused, past_trans}
use Rattle.slate_block.proofs.KeySteps.{gone_past}
use Rattle.slate_block.proofs.walk_v2.behind_key.Goals as goal

pub returns-in_err-pass-clause-cause : goal.returns-in_err-pass-clause-cause
returns-in_err-pass-clause-cause c =
    let reads = left_v2 c.args.body.now c.args.offsets.now in
    let p = err_from_is_err_and c.from_residual-in_err-pass.result c.from_residual-in_err-pass.ensures.1 in
    rw (p.1, p.2) (past_refused Ascending c.args.key.now (reads c.args.place) (reads (as_place c.loop-walk.walk)) c.in_err-pass.field-0.0 OutOfMemory c.loop-walk.invariant.past c.in_err-pass.ensures.cause c.in_err-pass.ensures.damage)

pub loop-walk-preserved : goal.loop-walk-preserved
loop-walk-preserved c =
    let reads = left_v2 c.args.body.now c.args.offsets.now in
    let past = gone_past c.args.key.now (reads (as_place c.loop-walk.walk)) (reads (as_place c.pass.new.self)) c.in_ok-pass.field-0 c.if-not-branch.false c.in_ok-pass.ensures.goes in
    record { past = past_trans Ascending c.args.key.now (reads c.args.place) (reads (as_place c.loop-walk.walk)) (reads (as_place c.pass.new.self)) c.loop-walk.invariant.past past }
