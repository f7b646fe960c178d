use Rattle.std.proofs.Common.{[], ◌∙◌, ap, map, subst, w64}
use Rattle.std.proofs.lemmas.Int.{to_z-of_z}
use Rattle.slate_types.specs.declared.config.IsolationLevel.TheVariants.{SerializableSnapshot}
use Rattle.slate_types.proofs.Reaching.{fault_earlier, reads_then}
use Rattle.slate_store.specs.Reach.{reach_of}
use Rattle.slate_db.specs.Sound.{IsKept}
use Rattle.slate_steps.proofs.Reading.{if_err_map}
use Rattle.slate_steps.proofs.Settling.{ended_segmented}
use Rattle.slate_steps.proofs.StoreTruth.{checked_before}
use Rattle.slate_steps.proofs.Taking.{within_open}
use Rattle.slate_steps.specs.Reads.{IsFaultSettled, told_in, unblamed_if}
use Rattle.slate_stock.specs.Running.{db_error}
use Rattle.slate_stock.proofs.EndLaws.{end_cause, end_truth, ordered_at, take_cause, take_truth, taken_fits, taken_upto}
use Rattle.slate_stock.proofs.on_core.order_within.Goals as goal

pub take_order-requires-clause-open : goal.take_order-requires-clause-open
take_order-requires-clause-open g c κs lives = within_open c.requires.begun.0 c.args.core.now c.args.id.now SerializableSnapshot [] c.requires.begun.1

pub end_order-requires-clause-taken : goal.end_order-requires-clause-taken
end_order-requires-clause-taken g c κs lives = record {
  policies = _;
  before = _;
  after = _;
  core = c.requires.begun.0;
  order = c.args.order.now;
  is = c.in-Ok.ensures.taken c.requires.begun.0 c.requires.begun.1;
}

pub returns-in-Ok-clause-committed : goal.returns-in-Ok-clause-committed
returns-in-Ok-clause-committed g c = λ d h.
    let before = reach_of g.S.Store g.M.MergeOperator g.T.BlockTransformer c.args.env.now in
    let now = reach_of g.S.Store g.M.MergeOperator g.T.BlockTransformer c.take_order.new.env in
    let after = reach_of g.S.Store g.M.MergeOperator g.T.BlockTransformer c.end_order.new.env in
    let policies = map (λ p. (goal.FilterPolicy-dyn g (p.vtable, p.value)).meaning p.value) c.args.laws.now.policies.items in
    ordered_at policies before after d c.end_order.new.core c.args.order.now _ c.args.now c.end_order.result (to_z-of_z w64 c.args.now c.ranges.now)
    (c.end_order.ensures.ordered policies before after d c.args.order.now (taken_upto policies before now after d _ c.args.id.now c.args.order.now c.take_order.ensures.reads c.end_order.ensures.reads (c.in-Ok.ensures.taken d h)))

pub returns-in-Ok-clause-ended : goal.returns-in-Ok-clause-ended
returns-in-Ok-clause-ended g c = λ d h. let t = c.in-Ok.ensures.taken d h in c.end_order.ensures.ended d t.taken t.within

pub returns-in-Ok-clause-cause : goal.returns-in-Ok-clause-cause
returns-in-Ok-clause-cause g c = λ d h.
    let before = reach_of g.S.Store g.M.MergeOperator g.T.BlockTransformer c.args.env.now in
    let now = reach_of g.S.Store g.M.MergeOperator g.T.BlockTransformer c.take_order.new.env in
    let after = reach_of g.S.Store g.M.MergeOperator g.T.BlockTransformer c.end_order.new.env in
    let policies = map (λ p. (goal.FilterPolicy-dyn g (p.vtable, p.value)).meaning p.value) c.args.laws.now.policies.items in
    if_err_map c.end_order.result _ _ (λ e x. end_cause policies before now after d c.args.order.now e c.take_order.ensures.reads x) (c.end_order.ensures.cause policies before now d c.args.order.now (c.in-Ok.ensures.taken d h))

pub returns-in-Ok-clause-refused : goal.returns-in-Ok-clause-refused
returns-in-Ok-clause-refused g c = λ d seg h store.
    let before = reach_of g.S.Store g.M.MergeOperator g.T.BlockTransformer c.args.env.now in
    let now = reach_of g.S.Store g.M.MergeOperator g.T.BlockTransformer c.take_order.new.env in
    let after = reach_of g.S.Store g.M.MergeOperator g.T.BlockTransformer c.end_order.new.env in
    let policies = map (λ p. (goal.FilterPolicy-dyn g (p.vtable, p.value)).meaning p.value) c.args.laws.now.policies.items in
    if_err_map c.end_order.result _ _ (λ e x. end_truth (IsFaultSettled policies before after d) before.meaning now after d c.args.order.now e (λ y f s settled. fault_earlier before now after y c.take_order.ensures.reads.later f)
    (taken_fits policies seg before now d _ c.args.id.now c.args.order.now (c.in-Ok.ensures.taken d h) (checked_before policies seg before now after d c.take_order.ensures.reads c.end_order.ensures.reads store)) x) (c.end_order.ensures.cause policies before now d c.args.order.now (c.in-Ok.ensures.taken d h))

pub returns-in-Ok-clause-exhausted : goal.returns-in-Ok-clause-exhausted
returns-in-Ok-clause-exhausted g c = λ d h full. c.end_order.ensures.exhausted _ _ _ d c.args.order.now (c.in-Ok.ensures.taken d h) full

pub returns-in-Ok-clause-kept : goal.returns-in-Ok-clause-kept
returns-in-Ok-clause-kept g c = λ d h. let t = c.in-Ok.ensures.taken d h in subst (λ m. IsKept m d → IsKept m c.end_order.new.core) c.take_order.ensures.reads.meaning (c.end_order.ensures.kept d t.taken t.within)

pub returns-in-Ok-clause-segmented : goal.returns-in-Ok-clause-segmented
returns-in-Ok-clause-segmented g c = λ d h segmented. let t = c.in-Ok.ensures.taken d h in c.end_order.ensures.segmented d t.taken t.within segmented

pub returns-in-Ok-clause-reads : goal.returns-in-Ok-clause-reads
returns-in-Ok-clause-reads g c = reads_then _ _ _ c.take_order.ensures.reads c.end_order.ensures.reads

pub returns-in-Err-clause-ended : goal.returns-in-Err-clause-ended
returns-in-Err-clause-ended g c = λ d h. let left = c.in-Err.ensures.left d h in c.rollback.ensures.ended d SerializableSnapshot left.0 left.1

pub returns-in-Err-clause-cause : goal.returns-in-Err-clause-cause
returns-in-Err-clause-cause g c = λ d h. take_cause _ _ _ d c.args.id.now c.args.order.now c.in-Err.error (c.in-Err.ensures.cause d h)

pub returns-in-Err-clause-refused : goal.returns-in-Err-clause-refused
returns-in-Err-clause-refused g c = λ d seg h store.
    let before = reach_of g.S.Store g.M.MergeOperator g.T.BlockTransformer c.args.env.now in
    let after = reach_of g.S.Store g.M.MergeOperator g.T.BlockTransformer c.take_order.new.env in
    let policies = map (λ p. (goal.FilterPolicy-dyn g (p.vtable, p.value)).meaning p.value) c.args.laws.now.policies.items in
    take_truth (IsFaultSettled policies before after d) before.meaning d c.args.order.now c.in-Err.error (c.in-Err.ensures.truth d seg h store)

pub returns-in-Err-clause-kept : goal.returns-in-Err-clause-kept
returns-in-Err-clause-kept g c = λ d h kept. let left = c.in-Err.ensures.left d h in (c.rollback.ensures.ended d SerializableSnapshot left.0 left.1).kept _ kept

pub returns-in-Err-clause-segmented : goal.returns-in-Err-clause-segmented
returns-in-Err-clause-segmented g c = λ d h segmented. let left = c.in-Err.ensures.left d h in ended_segmented _ d _ c.args.id.now SerializableSnapshot (c.rollback.ensures.ended d SerializableSnapshot left.0 left.1) segmented

pub returns-in-Ok-clause-counts : goal.returns-in-Ok-clause-counts
returns-in-Ok-clause-counts g c = c.end_order.ensures.counts ∙ ap (unblamed_if (told_in db_error c.end_order.result)) c.in-Ok.ensures.counts

pub returns-in-Err-clause-counts : goal.returns-in-Err-clause-counts
returns-in-Err-clause-counts g c = c.in-Err.ensures.counts
