use Rattle.std.proofs.Common.{OnOk, Some, sym, subst}
use Rattle.slate_txn.specs.declared.line.ScanStep.{ScanStep}
use Rattle.slate_db.specs.Scans.{id_of, number_of, scan_of}
use Rattle.slate_store.specs.Reach.{reach_of}
use Rattle.slate_script.specs.Scanning.{Took}
use Rattle.slate_script.specs.Walking.{TakesStep}
use Rattle.slate_db.proofs.StepExits.{on_ok_of, on_second}
use Rattle.slate_script.proofs.Scanned.{noted_call, seek_failed, sought}
use Rattle.slate_script.proofs.scan.take_step.Goals as goal

pub returns-in-Rows-clause-took : goal.returns-in-Rows-clause-took
returns-in-Rows-clause-took g c =
    subst (λ (st : ScanStep). OnOk c.take_rows.result (Took (TakesStep (number_of c.args.scan.now) (scan_of c.args.scan.now).order st) (reach_of g.S.Store g.M.MergeOperator g.T.BlockTransformer c.args.env.now) (reach_of g.S.Store g.M.MergeOperator g.T.BlockTransformer c.take_rows.new.env) c.args.core.now c.take_rows.new.core c.args.scan.now c.take_rows.new.scan c.args.rows.now.items c.take_rows.new.rows.items))
    (sym c.in-Rows.is) c.take_rows.ensures.took

pub returns-in-Seek-clause-took : goal.returns-in-Seek-clause-took
returns-in-Seek-clause-took g c =
    let o = c.seek.ensures in
    sought c.seek.result _ _ c.args.core.now c.seek.new.self c.args.scan.now c.seek.new.it c.args.step.now _ _ c.args.rows.now.items c.in-Seek.is c.as_slice.ensures (on_ok_of _ c.seek.result o.notes.noted) o.step.names (λ w rows l s. on_second _ c.seek.result (o.step.rows w rows l s)) o.step.checked o.step.later o.notes.kept

pub returns-in-Seek-clause-refused : goal.returns-in-Seek-clause-refused
returns-in-Seek-clause-refused g c = seek_failed c.seek.result _ _ c.args.scan.now (Some c.as_slice.result.now) c.seek.ensures.step.undamaged c.seek.ensures.step.cause

pub returns-in-Seek-clause-noted : goal.returns-in-Seek-clause-noted
returns-in-Seek-clause-noted g c = noted_call c.seek.result c.args.core.now c.seek.new.self (id_of c.args.scan.now) _ (on_ok_of _ c.seek.result c.seek.ensures.notes.noted) c.seek.ensures.notes.same

pub returns-in-Seek-clause-reads : goal.returns-in-Seek-clause-reads
returns-in-Seek-clause-reads g c = c.seek.ensures.step.reads

pub returns-in-Seek-clause-still : goal.returns-in-Seek-clause-still
returns-in-Seek-clause-still g c = c.seek.ensures.step.still
