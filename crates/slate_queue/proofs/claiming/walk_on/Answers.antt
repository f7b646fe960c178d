use Rattle.std.proofs.Common.{Some, None, ap, w64}
use Rattle.std.proofs.lemmas.Int.{to_z-of_z}
use Rattle.slate_store.specs.Reach.{reach_of}
use Rattle.slate_steps.specs.Reads.{told_in, unblamed_if}
use Rattle.slate_queue.specs.Calls.{db_error}
use Rattle.slate_queue.proofs.WalkSteps.{next_fails, next_walked, row_goes, row_stops, steps_at}
use Rattle.slate_queue.proofs.claiming.walk_on.Goals as goal

pub returns-in-Ok-Some : goal.returns-in-Ok-Some
returns-in-Ok-Some g c =
    let before = reach_of g.S.Store g.M.MergeOperator g.T.BlockTransformer c.args.env.now in
    let after = reach_of g.S.Store g.M.MergeOperator g.T.BlockTransformer c.next.new.env in
    let d = c.args.core.now in
    let e = c.next.new.core in
    let x = c.args.scan.now in
    let y = c.next.new.it in
    let walked = next_walked before after d e x y c.in-Ok-Some.field-0 (Some c.in-Ok-Some.row) c.in-Ok-Some.field-0-is c.requires.first c.in-Ok-Some.ensures.within c.next.ensures.named c.in-Ok-Some.ensures.checked c.in-Ok-Some.ensures.since c.next.ensures.reads in
    record {
      opened = c.next.ensures.opened;
      «open» = c.next.ensures.«open» c.requires.«open»;
      goes = row_goes c.args.now before after d e x y c.in-Ok-Some.row c.at_row.result walked (steps_at _ c.args.now c.in-Ok-Some.row c.at_row.result (to_z-of_z w64 c.args.now c.ranges.now) c.at_row.ensures.step);
      stops = row_stops before after d e x y c.in-Ok-Some.row c.at_row.result walked c.at_row.ensures.bad;
      counts = ap (unblamed_if (told_in db_error c.at_row.result)) c.in-Ok-Some.ensures.counts;
      reads = c.next.ensures.reads;
    }

pub returns-in-Ok-None : goal.returns-in-Ok-None
returns-in-Ok-None g c =
    let before = reach_of g.S.Store g.M.MergeOperator g.T.BlockTransformer c.args.env.now in
    let after = reach_of g.S.Store g.M.MergeOperator g.T.BlockTransformer c.next.new.env in
    record {
      opened = c.next.ensures.opened;
      «open» = c.next.ensures.«open» c.requires.«open»;
      goes = next_walked before after c.args.core.now c.next.new.core c.args.scan.now c.next.new.it c.in-Ok-None.field-0 None c.in-Ok-None.field-0-is c.requires.first c.in-Ok-None.ensures.within c.next.ensures.named c.in-Ok-None.ensures.checked c.in-Ok-None.ensures.since c.next.ensures.reads;
      stops = tt;
      counts = c.in-Ok-None.ensures.counts;
      reads = c.next.ensures.reads;
    }

pub returns-in-Err : goal.returns-in-Err
returns-in-Err g c =
    let before = reach_of g.S.Store g.M.MergeOperator g.T.BlockTransformer c.args.env.now in
    let after = reach_of g.S.Store g.M.MergeOperator g.T.BlockTransformer c.next.new.env in
    record {
      opened = c.next.ensures.opened;
      «open» = c.next.ensures.«open» c.requires.«open»;
      goes = tt;
      stops = next_fails before after c.args.core.now c.next.new.core c.args.scan.now c.next.new.it c.in-Err.error c.in-Err.ensures.same c.in-Err.ensures.undamaged c.in-Err.ensures.cause c.next.ensures.reads;
      counts = c.in-Err.ensures.counts;
      reads = c.next.ensures.reads;
    }
