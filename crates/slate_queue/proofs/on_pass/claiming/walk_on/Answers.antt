use Rattle.std.proofs.Common.{Some, None, ap, w64}
use Rattle.std.proofs.lemmas.Int.{to_z-of_z}
use Rattle.slate_store.specs.Reach.{reach_of}
use Rattle.slate_steps.specs.Reads.{told_in, unblamed_if}
use Rattle.slate_queue.specs.Calls.{db_error}
use Rattle.slate_queue.proofs.PassWalkLaws.{may_go, met_by, next_fails_on, next_walked_on, row_goes_on, row_halts, walking_next, walking_same}
use Rattle.slate_queue.proofs.WalkSteps.{steps_at}
use Rattle.slate_queue.proofs.on_pass.claiming.walk_on.Goals as goal

pub next-requires : goal.next-requires
next-requires g c = may_go g.P.Parts.options g.P.Parts.meaning c.args.txn.now c.args.scan.now c.requires.walking

pub returns-in-Ok-Some : goal.returns-in-Ok-Some
returns-in-Ok-Some g c =
    let before = reach_of g.S.Store g.M.MergeOperator g.T.BlockTransformer c.args.env.now in
    let after = reach_of g.S.Store g.M.MergeOperator g.T.BlockTransformer c.next.new.env in
    let o = g.P.Parts.options in
    let m = g.P.Parts.meaning in
    let t = c.args.txn.now in
    let u = c.next.new.txn in
    let x = c.args.scan.now in
    let y = c.next.new.it in
    let walked = next_walked_on o m before after t u x y c.in-Ok-Some.field-0 (Some c.in-Ok-Some.row) c.in-Ok-Some.field-0-is c.requires.walking.first c.in-Ok-Some.ensures.within c.next.ensures.named
    (λ os rows meaning met reading. met_by o m os before after (λ answers. c.in-Ok-Some.ensures.reading os rows meaning answers reading) (λ unslipped. c.in-Ok-Some.ensures.checked os rows meaning unslipped reading) met) (λ from. c.in-Ok-Some.ensures.since from c.args.txn.now.seen) c.next.ensures.more.2 c.next.ensures.reads in
    record {
      walking = walking_next o m t u x y c.in-Ok-Some.field-0 c.in-Ok-Some.ensures.within c.next.ensures.named c.next.ensures.more.1 c.requires.walking;
      goes = row_goes_on o m c.args.now before after t u x y c.in-Ok-Some.row c.at_row.result walked (steps_at _ c.args.now c.in-Ok-Some.row c.at_row.result (to_z-of_z w64 c.args.now c.ranges.now) c.at_row.ensures.step);
      halts = row_halts o m before after t u x y c.in-Ok-Some.row c.at_row.result walked c.at_row.ensures.bad;
      table = c.next.ensures.more.0;
      counts = ap (unblamed_if (told_in db_error c.at_row.result)) c.in-Ok-Some.ensures.counts;
      reads = c.next.ensures.reads;
    }

pub returns-in-Ok-None : goal.returns-in-Ok-None
returns-in-Ok-None g c =
    let before = reach_of g.S.Store g.M.MergeOperator g.T.BlockTransformer c.args.env.now in
    let after = reach_of g.S.Store g.M.MergeOperator g.T.BlockTransformer c.next.new.env in
    let o = g.P.Parts.options in
    let m = g.P.Parts.meaning in
    record {
      walking = walking_next o m c.args.txn.now c.next.new.txn c.args.scan.now c.next.new.it c.in-Ok-None.field-0 c.in-Ok-None.ensures.within c.next.ensures.named c.next.ensures.more.1 c.requires.walking;
      goes = next_walked_on o m before after c.args.txn.now c.next.new.txn c.args.scan.now c.next.new.it c.in-Ok-None.field-0 None c.in-Ok-None.field-0-is c.requires.walking.first c.in-Ok-None.ensures.within c.next.ensures.named
          (λ os rows meaning met reading. met_by o m os before after (λ answers. c.in-Ok-None.ensures.reading os rows meaning answers reading) (λ unslipped. c.in-Ok-None.ensures.checked os rows meaning unslipped reading) met) (λ from. c.in-Ok-None.ensures.since from c.args.txn.now.seen) c.next.ensures.more.2 c.next.ensures.reads;
      halts = tt;
      table = c.next.ensures.more.0;
      counts = c.in-Ok-None.ensures.counts;
      reads = c.next.ensures.reads;
    }

pub returns-in-Err : goal.returns-in-Err
returns-in-Err g c =
    let before = reach_of g.S.Store g.M.MergeOperator g.T.BlockTransformer c.args.env.now in
    let after = reach_of g.S.Store g.M.MergeOperator g.T.BlockTransformer c.next.new.env in
    let o = g.P.Parts.options in
    let m = g.P.Parts.meaning in
    record {
      walking = walking_same o m c.args.txn.now c.next.new.txn c.args.scan.now c.next.new.it c.in-Err.ensures.same c.next.ensures.named c.requires.walking;
      goes = tt;
      halts = next_fails_on o m before after c.args.txn.now c.next.new.txn c.args.scan.now c.next.new.it c.in-Err.error c.in-Err.ensures.same (λ os rows meaning answers reading. c.in-Err.ensures.undamaged os rows meaning answers reading) (λ from policies. c.in-Err.ensures.cause from policies c.args.txn.now.seen) c.next.ensures.reads;
      table = c.next.ensures.more.0;
      counts = c.in-Err.ensures.counts;
      reads = c.next.ensures.reads;
    }
