use Rattle.std.proofs.Common.{[], inl, inr, map, refl}
use Rattle.slate_types.specs.declared.config.IsolationLevel.TheVariants.{SerializableSnapshot}
use Rattle.slate_store.specs.Reach.{reach_of}
use Rattle.slate_steps.proofs.Taking.{within_open}
use Rattle.slate_stock.proofs.TotalLaws.{begin_total_cause, begin_total_truth}
use Rattle.slate_stock.proofs.total.total.Goals as goal

pub rollback-requires : goal.rollback-requires
rollback-requires g c =
    let s = c.total_within-total.ensures.still c.args.core.now c.in-Ok.ensures.within in
    within_open c.args.core.now c.total_within-total.new.core c.in-Ok.id SerializableSnapshot s.0 s.1

pub returns-in-Ok-clause-total : goal.returns-in-Ok-clause-total
returns-in-Ok-clause-total g c = λ seg settled. c.total_within-total.ensures.total c.args.core.now seg c.in-Ok.ensures.within settled

pub returns-in-Ok-clause-refused : goal.returns-in-Ok-clause-refused
returns-in-Ok-clause-refused g c = λ seg settled. c.total_within-total.ensures.refused c.args.core.now seg c.in-Ok.ensures.within settled

pub returns-in-Ok-clause-cause : goal.returns-in-Ok-clause-cause
returns-in-Ok-clause-cause g c = c.total_within-total.ensures.cause c.args.core.now c.in-Ok.ensures.within

pub returns-in-Ok-clause-left : goal.returns-in-Ok-clause-left
returns-in-Ok-clause-left g c = let s = c.total_within-total.ensures.still c.args.core.now c.in-Ok.ensures.within in inr (c.in-Ok.id, c.rollback.ensures.ended c.args.core.now SerializableSnapshot s.0 s.1)

pub returns-in-Err-clause-refused : goal.returns-in-Err-clause-refused
returns-in-Err-clause-refused g c = λ seg settled.
    let before = reach_of g.S.Store g.M.MergeOperator g.T.BlockTransformer c.args.env.now in
    let policies = map (λ p. (goal.FilterPolicy-dyn g (p.vtable, p.value)).meaning p.value) c.args.laws.now.policies.items in
    begin_total_truth policies before before c.args.core.now c.args.asset.now c.in-Err.error c.in-Err.ensures.cause

pub returns-in-Err-clause-cause : goal.returns-in-Err-clause-cause
returns-in-Err-clause-cause g c =
    let before = reach_of g.S.Store g.M.MergeOperator g.T.BlockTransformer c.args.env.now in
    let policies = map (λ p. (goal.FilterPolicy-dyn g (p.vtable, p.value)).meaning p.value) c.args.laws.now.policies.items in
    begin_total_cause policies before before c.args.core.now c.args.asset.now c.in-Err.error c.in-Err.ensures.cause

pub returns-in-Err-clause-left : goal.returns-in-Err-clause-left
returns-in-Err-clause-left g c = inl c.in-Err.ensures.same

pub returns-in-Ok-clause-counts : goal.returns-in-Ok-clause-counts
returns-in-Ok-clause-counts g c = c.total_within-total.ensures.counts

pub returns-in-Err-clause-counts : goal.returns-in-Err-clause-counts
returns-in-Err-clause-counts g c = refl
