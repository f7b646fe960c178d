use Rattle.std.proofs.Common.{◌≡◌, [], ◌∷◌, None, refl, ap, ◌∙◌, arith}
use Rattle.std.proofs.lemmas.Result.{IfOk-from_err, err_from_is_err_and}
use Rattle.slate_types.specs.Outside.{unblamed, unblamed_by}
use Rattle.slate_types.proofs.Exits.{err_exit}
use Rattle.slate_types.proofs.Reaching.{reads_none, reads_then}
use Rattle.slate_txn.specs.declared.event.TranscriptStep.TheVariants as steps
use Rattle.slate_db.specs.Scans.{id_of, number_of}
use Rattle.slate_script.proofs.Scanned.{fails_call, fails_memory, fails_on, noted_then, open_on, took_end, took_filled, took_none, took_row}
use Rattle.slate_script.proofs.WalkLaws.{first_none, TakesFirst}
use Rattle.slate_script.proofs.scan.take_rows.Goals as goal
use Rattle.slate_script.proofs.scan.take_rows.Goals.{else-loop-test, then-loop-test+in_ok-row+in_default}

pub loop-init : goal.loop-init
loop-init g c = record {
  took = took_none (TakesFirst (number_of c.args.scan.now) 0) _ c.args.core.now c.args.scan.now c.args.rows.now.items (first_none (number_of c.args.scan.now));
  opened = c.requires;
  reads = reads_none _;
  still = refl;
}

pub loop-preserved : goal.loop-preserved
loop-preserved g c =
    let i = c.loop.invariant in
    let o = c.in_ok-row.ensures in
    let took = took_row _ _ _ c.args.core.now c.loop.core c.next.new.self c.args.scan.now c.loop.scan c.next.new.it c.loop.counter c.in_ok-row.field-0 c.in-Some.row c.args.rows.now.items c.loop.rows.items _ i.took
    (record { notes = o.notes.noted; names = o.step.names; rows = o.step.rows; checked = o.step.checked; later = o.step.later; kept = o.notes.kept }) c.in-Some.is c.in_ok-push.ensures.items in
    record { took = took; opened = open_on c.args.core.now c.next.new.self c.args.scan.now c.next.new.it took c.requires; reads = reads_then _ _ _ i.reads c.next.ensures.step.reads; still = o.step.still ∙ i.still }

pub returns-in_err-row : goal.returns-in_err-row
returns-in_err-row g c =
    let i = c.loop.invariant in
    let o = c.in_err-row.ensures in
    let p = err_from_is_err_and c.from_residual.result c.from_residual.ensures.1 in
    record {
      noted = (i.took.ts, o.notes.same ∙ i.took.notes);
      took = IfOk-from_err c.from_residual.result _ c.from_residual.ensures.0;
      refused = err_exit c.from_residual.result _ c.from_residual.ensures.1 _ (fails_on _ _ _ c.args.core.now c.loop.core c.args.scan.now c.loop.scan _ i.took i.reads (fails_call _ _ c.loop.scan None _ o.step.undamaged o.step.cause));
      reads = reads_then _ _ _ i.reads c.next.ensures.step.reads;
      still = rw (p.1, p.2) (o.step.still ∙ ap (unblamed c.in_err-row.field-0.0) i.still);
    }

pub returns-in_err-push : goal.returns-in_err-push
returns-in_err-push g c =
    let i = c.loop.invariant in
    let o = c.in_ok-row.ensures in
    let took = took_row _ _ _ c.args.core.now c.loop.core c.next.new.self c.args.scan.now c.loop.scan c.next.new.it c.loop.counter c.in_ok-row.field-0 c.in-Some.row c.args.rows.now.items c.loop.rows.items _ i.took
    (record { notes = o.notes.noted; names = o.step.names; rows = o.step.rows; checked = o.step.checked; later = o.step.later; kept = o.notes.kept }) c.in-Some.is refl in
    record {
      noted = (took.ts, took.notes);
      took = IfOk-from_err c.from_residual-in_err-push.result _ c.from_residual-in_err-push.ensures.0;
      refused = err_exit c.from_residual-in_err-push.result _ c.from_residual-in_err-push.ensures.1 _ (fails_memory _ _ c.args.core.now c.next.new.self c.args.scan.now c.next.new.it took);
      reads = reads_then _ _ _ i.reads c.next.ensures.step.reads;
      still = ap (unblamed_by c.from_residual-in_err-push.result) (o.step.still ∙ i.still);
    }

pub returns-clause-took : goal.returns-clause-took
returns-clause-took g c =
    let i = c.loop.invariant in
    elim c.loop-test.branch [
      | else-loop-test w ↦
          let all : c.loop.counter ≡ c.args.count = omega arith in
          rw (w.core-is, w.scan-is, w.env-is) (took_filled _ _ c.args.core.now c.loop.core c.args.scan.now c.loop.scan c.loop.counter c.args.count _ _ i.took all)
      | then-loop-test+in_ok-row+in_default w ↦
          let o = w.in_ok-row.ensures in
          rw (w.core-is, w.scan-is, w.env-is) (took_end _ _ _ c.args.core.now c.loop.core w.next.new.self c.args.scan.now c.loop.scan w.next.new.it c.loop.counter c.args.count w.in_ok-row.field-0 _ _ i.took
          (record { notes = o.notes.noted; names = o.step.names; rows = o.step.rows; checked = o.step.checked; later = o.step.later; kept = o.notes.kept }) w.in_default.is w.loop-test.true)
    ]

pub returns-clause-noted : goal.returns-clause-noted
returns-clause-noted g c =
    let i = c.loop.invariant in
    elim c.loop-test.branch [
      | else-loop-test w ↦ rw w.core-is (i.took.ts, i.took.notes)
      | then-loop-test+in_ok-row+in_default w ↦
          rw w.core-is (noted_then c.args.core.now c.loop.core w.next.new.self (id_of c.args.scan.now) (id_of c.loop.scan) i.took.names.named (i.took.ts, i.took.notes) (steps.Next (number_of c.loop.scan) w.in_ok-row.field-0 ∷ [], w.in_ok-row.ensures.notes.noted))
    ]

pub returns-clause-reads : goal.returns-clause-reads
returns-clause-reads g c =
    elim c.loop-test.branch [
      | else-loop-test w ↦ rw w.env-is c.loop.invariant.reads
      | then-loop-test+in_ok-row+in_default w ↦ rw w.env-is (reads_then _ _ _ c.loop.invariant.reads w.next.ensures.step.reads)
    ]

pub returns-clause-still : goal.returns-clause-still
returns-clause-still g c =
    elim c.loop-test.branch [
      | else-loop-test w ↦ rw w.env-is c.loop.invariant.still
      | then-loop-test+in_ok-row+in_default w ↦ rw w.env-is (w.in_ok-row.ensures.step.still ∙ c.loop.invariant.still)
    ]
