use Rattle.std.proofs.Common.{◌∙◌, ap, arith, refl}
use Rattle.std.proofs.lemmas.Result.{IfOk-from_err, err_from_is_err_and}
use Rattle.slate_types.specs.Outside.{unblamed}
use Rattle.slate_types.proofs.Exits.{err_exit}
use Rattle.slate_types.proofs.Reaching.{reads_none, reads_then}
use Rattle.slate_db.specs.Scans.{id_of, number_of, scan_of}
use Rattle.slate_script.proofs.Scanned.{fails_on, noted_then, open_on, took_none, took_step, took_steps}
use Rattle.slate_script.proofs.WalkLaws.{rest_none, TakesRest}
use Rattle.slate_script.proofs.scan.take_steps.Goals as goal

pub loop-step-init : goal.loop-step-init
loop-step-init g c = record {
  took = took_none (TakesRest (number_of c.args.scan.now) (scan_of c.args.scan.now).order c.args.steps.now 0) _ c.args.core.now c.args.scan.now c.args.rows.now.items (rest_none (number_of c.args.scan.now) (scan_of c.args.scan.now).order c.args.steps.now);
  opened = c.requires;
  reads = reads_none _;
  still = refl;
}

pub loop-step-preserved : goal.loop-step-preserved
loop-step-preserved g c =
    let i = c.loop-step.invariant in
    let took = took_step _ _ _ c.args.core.now c.loop-step.core c.take_step.new.core c.args.scan.now c.loop-step.scan c.take_step.new.scan c.loop-step.step-index c.args.steps.now c.step-item.result _ c.args.rows.now.items c.loop-step.rows.items c.take_step.new.rows.items c.loop-step-test.true c.step-item.is i.took c.in_ok-take_step.ensures.took in
    record { took = took; opened = open_on c.args.core.now c.take_step.new.core c.args.scan.now c.take_step.new.scan took c.requires; reads = reads_then _ _ _ i.reads c.take_step.ensures.reads; still = c.in_ok-take_step.ensures.still ∙ i.still }

pub returns-in_err-take_step : goal.returns-in_err-take_step
returns-in_err-take_step g c =
    let i = c.loop-step.invariant in
    let p = err_from_is_err_and c.from_residual.result c.from_residual.ensures.1 in
    record {
      noted = noted_then c.args.core.now c.loop-step.core c.take_step.new.core (id_of c.args.scan.now) (id_of c.loop-step.scan) i.took.names.named (i.took.ts, i.took.notes) c.take_step.ensures.noted;
      took = IfOk-from_err c.from_residual.result _ c.from_residual.ensures.0;
      refused = err_exit c.from_residual.result _ c.from_residual.ensures.1 _ (fails_on _ _ _ c.args.core.now c.loop-step.core c.args.scan.now c.loop-step.scan _ i.took i.reads c.in_err-take_step.ensures.refused);
      reads = reads_then _ _ _ i.reads c.take_step.ensures.reads;
      still = rw (p.1, p.2) (c.in_err-take_step.ensures.still ∙ ap (unblamed c.in_err-take_step.field-0.0) i.still);
    }

pub returns-clause-took : goal.returns-clause-took
returns-clause-took g c = took_steps _ _ c.args.core.now c.loop-step.core c.args.scan.now c.loop-step.scan c.loop-step.step-index c.args.steps.now _ _ (omega arith) c.loop-step.invariant.took

pub returns-clause-noted : goal.returns-clause-noted
returns-clause-noted g c = (c.loop-step.invariant.took.ts, c.loop-step.invariant.took.notes)
