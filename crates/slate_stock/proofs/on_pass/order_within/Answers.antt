use Rattle.std.proofs.Common.{◌∙◌, ap, w64}
use Rattle.std.proofs.lemmas.Int.{to_z-of_z}
use Rattle.slate_types.proofs.Exits.{on_err_weaker}
use Rattle.slate_types.proofs.Reaching.{reads_none, reads_then}
use Rattle.slate_store.specs.Reach.{reach_of}
use Rattle.slate_steps.proofs.Reading.{if_err_map}
use Rattle.slate_steps.specs.Attempts.{IsVouchedThere}
use Rattle.slate_steps.proofs.StoreTruth.{checked_earlier}
use Rattle.slate_steps.specs.Reads.{told_in, unblamed_if}
use Rattle.slate_stock.specs.Attempting.{HasTakenOn}
use Rattle.slate_stock.specs.Running.{db_error}
use Rattle.slate_stock.proofs.AttemptCauses.{end_cause_on, end_truth_on, take_cause_on, take_truth_on}
use Rattle.slate_stock.proofs.AttemptLaws.{fits_start, ordered_then, stepped_then}
use Rattle.slate_stock.proofs.on_pass.order_within.Goals as goal

pub end_order-requires-clause-table : goal.end_order-requires-clause-table
end_order-requires-clause-table g c κs lives = (c.take_order.ensures.more.0 ∙ c.requires.table.0, c.requires.table.1)

pub end_order-requires-clause-taken : goal.end_order-requires-clause-taken
end_order-requires-clause-taken g c κs lives = (c.args.order.now, c.in-Ok.ensures.taken c.args.pass.now.seen c.requires.begun)

pub end_order-requires-clause-meaning : goal.end_order-requires-clause-meaning
end_order-requires-clause-meaning g c κs lives = c.take_order.ensures.reads.meaning ∙ c.requires.meaning

pub returns-in-Ok-clause-committed : goal.returns-in-Ok-clause-committed
returns-in-Ok-clause-committed g c =
    ordered_then g.P.Parts.options c.args.order.now _ c.args.now c.args.pass.now c.end_order.new.pass c.end_order.result (to_z-of_z w64 c.args.now c.ranges.now)
    (c.end_order.ensures.ordered c.args.order.now (c.in-Ok.ensures.taken c.args.pass.now.seen c.requires.begun))

pub returns-in-Ok-clause-cause : goal.returns-in-Ok-clause-cause
returns-in-Ok-clause-cause g c =
    let before = reach_of g.S.Store g.M.MergeOperator g.T.BlockTransformer c.args.env.now in
    let now = reach_of g.S.Store g.M.MergeOperator g.T.BlockTransformer c.take_order.new.env in
    let after = reach_of g.S.Store g.M.MergeOperator g.T.BlockTransformer c.end_order.new.env in
    if_err_map c.end_order.result _ _ (λ e x. end_cause_on g.P.Parts.options before now after c.args.pass.now c.end_order.new.pass c.args.order.now c.take_order.new.txn e c.take_order.ensures.reads
    (c.in-Ok.ensures.taken c.args.pass.now.seen c.requires.begun) x g.P.Parts.policies) c.end_order.ensures.cause

pub returns-in-Ok-clause-answer : goal.returns-in-Ok-clause-answer
returns-in-Ok-clause-answer g c = λ holds.
    let o = g.P.Parts.options in
    let m = g.P.Parts.meaning in
    let before = reach_of g.S.Store g.M.MergeOperator g.T.BlockTransformer c.args.env.now in
    let now = reach_of g.S.Store g.M.MergeOperator g.T.BlockTransformer c.take_order.new.env in
    let after = reach_of g.S.Store g.M.MergeOperator g.T.BlockTransformer c.end_order.new.env in
    let taken = c.in-Ok.ensures.taken c.args.pass.now.seen c.requires.begun in
    let v : IsVouchedThere o m c.take_order.new.txn = c.in-Ok.ensures.sees c.args.pass.now.seen c.requires.begun
    (checked_earlier g.P.Parts.policies m c.take_order.new.txn.seen c.end_order.new.pass.seen before now after c.end_order.ensures.known c.take_order.ensures.reads c.end_order.ensures.reads holds) c.requires.vouched in
    stepped_then o m c.args.order.now _ c.args.now c.args.pass.now c.end_order.new.pass c.end_order.result (to_z-of_z w64 c.args.now c.ranges.now) (c.end_order.ensures.stepped c.args.order.now taken v)

pub returns-in-Ok-clause-refused : goal.returns-in-Ok-clause-refused
returns-in-Ok-clause-refused g c = λ holds.
    let o = g.P.Parts.options in
    let m = g.P.Parts.meaning in
    let before = reach_of g.S.Store g.M.MergeOperator g.T.BlockTransformer c.args.env.now in
    let now = reach_of g.S.Store g.M.MergeOperator g.T.BlockTransformer c.take_order.new.env in
    let after = reach_of g.S.Store g.M.MergeOperator g.T.BlockTransformer c.end_order.new.env in
    let taken : HasTakenOn o c.args.pass.now.seen c.args.order.now c.take_order.new.txn = c.in-Ok.ensures.taken c.args.pass.now.seen c.requires.begun in
    let v : IsVouchedThere o m c.take_order.new.txn = c.in-Ok.ensures.sees c.args.pass.now.seen c.requires.begun
    (checked_earlier g.P.Parts.policies m c.take_order.new.txn.seen c.end_order.new.pass.seen before now after c.end_order.ensures.known c.take_order.ensures.reads c.end_order.ensures.reads holds) c.requires.vouched in
    if_err_map c.end_order.result _ _ (λ e x. end_truth_on o before now after c.args.pass.now c.end_order.new.pass c.args.order.now c.take_order.new.txn e c.take_order.ensures.reads taken x m g.P.Parts.policies
    (fits_start o m c.args.pass.now.seen c.args.order.now c.take_order.new.txn c.end_order.new.pass.seen taken c.end_order.ensures.known c.end_order.ensures.legal v)) c.end_order.ensures.cause

pub returns-in-Ok-clause-ended : goal.returns-in-Ok-clause-ended
returns-in-Ok-clause-ended g c =
    let taken = c.in-Ok.ensures.taken c.args.pass.now.seen c.requires.begun in
    on_err_weaker c.end_order.result (λ e. (c.take_order.new.txn, (taken.taken, taken.within), e)) c.end_order.ensures.ended

pub returns-in-Ok-clause-reads : goal.returns-in-Ok-clause-reads
returns-in-Ok-clause-reads g c = reads_then _ _ _ c.take_order.ensures.reads c.end_order.ensures.reads

pub rollback-requires : goal.rollback-requires
rollback-requires g c = record { table = (c.take_order.ensures.more.0 ∙ c.requires.table.0, c.requires.table.1) }

pub returns-in-Err-clause-ended : goal.returns-in-Err-clause-ended
returns-in-Err-clause-ended g c = (c.take_order.new.txn, c.in-Err.ensures.left c.args.pass.now.seen c.requires.begun, c.rollback.ensures.ended)

pub returns-in-Err-clause-cause : goal.returns-in-Err-clause-cause
returns-in-Err-clause-cause g c =
    take_cause_on g.P.Parts.options g.P.Parts.policies _ _ c.args.pass.now c.rollback.new.pass c.args.order.now c.take_order.new.txn c.in-Err.error c.rollback.ensures.known c.rollback.ensures.ended (c.in-Err.ensures.cause c.args.pass.now.seen c.requires.begun)

pub returns-in-Err-clause-refused : goal.returns-in-Err-clause-refused
returns-in-Err-clause-refused g c = λ holds.
    let o = g.P.Parts.options in
    let m = g.P.Parts.meaning in
    let before = reach_of g.S.Store g.M.MergeOperator g.T.BlockTransformer c.args.env.now in
    let after = reach_of g.S.Store g.M.MergeOperator g.T.BlockTransformer c.take_order.new.env in
    let t = c.take_order.new.txn in
    let new = c.rollback.new.pass in
    take_truth_on o m g.P.Parts.policies before after c.args.pass.now new c.args.order.now t c.in-Err.error c.take_order.ensures.reads (c.in-Err.ensures.left c.args.pass.now.seen c.requires.begun) c.rollback.ensures.known c.rollback.ensures.legal
    (c.in-Err.ensures.truth c.args.pass.now.seen new.seen c.requires.begun
    (checked_earlier g.P.Parts.policies m t.seen new.seen before after after c.rollback.ensures.known c.take_order.ensures.reads (reads_none after) holds) c.requires.vouched c.rollback.ensures.known c.rollback.ensures.legal)

pub returns-in-Ok-clause-counts : goal.returns-in-Ok-clause-counts
returns-in-Ok-clause-counts g c = c.end_order.ensures.counts ∙ ap (unblamed_if (told_in db_error c.end_order.result)) c.in-Ok.ensures.counts

pub returns-in-Err-clause-counts : goal.returns-in-Err-clause-counts
returns-in-Err-clause-counts g c = c.in-Err.ensures.counts
