use Rattle.std.proofs.Common.{[], ◌∙◌, ap, inl, inr, refl, subst, sym, w64}
use Rattle.std.specs.Prelude.{IfErr, IfOk, OnErr}
use Rattle.std.proofs.lemmas.Int.{to_z-of_z}
use Rattle.slate_types.specs.declared.config.IsolationLevel.TheVariants.{SerializableSnapshot}
use Rattle.slate_store.specs.Reach.{reach_of}
use Rattle.slate_shared.specs.Passes.{PassModel}
use Rattle.slate_steps.specs.Attempts.{IsAttempt, SeesOnly}
use Rattle.slate_stock.specs.Attempting.{HasOrderedOn, HasSteppedOn, IsLeftOn, IsOrderCauseOn, IsOrderTruthOn}
use Rattle.slate_stock.proofs.AttemptCauses.{begin_cause_on, begin_truth_on, left_ended}
use Rattle.slate_stock.proofs.AttemptLaws.{ordered_then, stepped_then}
use Rattle.slate_stock.proofs.on_pass.make_order.Goals as goal

pub order_within-requires-clause-table : goal.order_within-requires-clause-table
order_within-requires-clause-table g c κs lives = (c.in-Ok.ensures.begun.0, ap (λ (p : PassModel). p.table) c.in-Ok.ensures.same ∙ c.requires.table)

pub order_within-requires-clause-begun : goal.order_within-requires-clause-begun
order_within-requires-clause-begun g c κs lives = subst (λ (p : PassModel). IsAttempt g.P.Parts.options p.seen SerializableSnapshot [] c.in-Ok.txn) (sym c.in-Ok.ensures.same) c.in-Ok.ensures.begun.1

pub returns-in-Ok-clause-committed : goal.returns-in-Ok-clause-committed
returns-in-Ok-clause-committed g c =
    subst (λ (p : PassModel). IfOk c.order_within.result (λ n. HasOrderedOn g.P.Parts.options c.args.order.now c.args.now n p c.order_within.new.pass)) c.in-Ok.ensures.same
    (ordered_then g.P.Parts.options c.args.order.now _ c.args.now c.begin.new.pass c.order_within.new.pass c.order_within.result (to_z-of_z w64 c.args.now c.ranges.now) c.order_within.ensures.committed)

pub returns-in-Ok-clause-only : goal.returns-in-Ok-clause-only
returns-in-Ok-clause-only g c = subst (λ (p : PassModel). OnErr c.order_within.result (SeesOnly p c.order_within.new.pass)) c.in-Ok.ensures.same c.order_within.ensures.only

pub returns-in-Ok-clause-left : goal.returns-in-Ok-clause-left
returns-in-Ok-clause-left g c =
    subst (λ (p : PassModel). IfErr c.order_within.result (IsLeftOn g.P.Parts.options p c.order_within.new.pass)) c.in-Ok.ensures.same
    (left_ended g.P.Parts.options c.begin.new.pass c.order_within.new.pass c.order_within.result c.order_within.ensures.ended)

pub returns-in-Ok-clause-cause : goal.returns-in-Ok-clause-cause
returns-in-Ok-clause-cause g c =
    let before = reach_of g.S.Store g.M.MergeOperator g.T.BlockTransformer c.args.env.now in
    let after = reach_of g.S.Store g.M.MergeOperator g.T.BlockTransformer c.order_within.new.env in
    subst (λ (p : PassModel). IfErr c.order_within.result (IsOrderCauseOn g.P.Parts.options g.P.Parts.policies before after p c.order_within.new.pass c.args.order.now)) c.in-Ok.ensures.same c.order_within.ensures.cause

pub returns-in-Ok-clause-answer : goal.returns-in-Ok-clause-answer
returns-in-Ok-clause-answer g c = λ holds.
    subst (λ (p : PassModel). IfOk c.order_within.result (λ n. HasSteppedOn g.P.Parts.options g.P.Parts.meaning c.args.order.now c.args.now n p c.order_within.new.pass)) c.in-Ok.ensures.same
    (stepped_then g.P.Parts.options g.P.Parts.meaning c.args.order.now _ c.args.now c.begin.new.pass c.order_within.new.pass c.order_within.result (to_z-of_z w64 c.args.now c.ranges.now) (c.order_within.ensures.answer holds))

pub returns-in-Ok-clause-refused : goal.returns-in-Ok-clause-refused
returns-in-Ok-clause-refused g c = λ holds.
    let before = reach_of g.S.Store g.M.MergeOperator g.T.BlockTransformer c.args.env.now in
    let after = reach_of g.S.Store g.M.MergeOperator g.T.BlockTransformer c.order_within.new.env in
    subst (λ (p : PassModel). IfErr c.order_within.result (IsOrderTruthOn g.P.Parts.options g.P.Parts.meaning g.P.Parts.policies before after p c.order_within.new.pass c.args.order.now)) c.in-Ok.ensures.same (c.order_within.ensures.refused holds)

pub returns-in-Err-clause-only : goal.returns-in-Err-clause-only
returns-in-Err-clause-only g c = c.in-Err.ensures.unbegun.only

pub returns-in-Err-clause-left : goal.returns-in-Err-clause-left
returns-in-Err-clause-left g c = inr (inl c.in-Err.ensures.unbegun)

pub returns-in-Err-clause-cause : goal.returns-in-Err-clause-cause
returns-in-Err-clause-cause g c = begin_cause_on g.P.Parts.options _ _ _ c.args.pass.now c.begin.new.pass c.args.order.now c.in-Err.error c.in-Err.ensures.unbegun

pub returns-in-Err-clause-refused : goal.returns-in-Err-clause-refused
returns-in-Err-clause-refused g c = λ holds. begin_truth_on g.P.Parts.options _ g.P.Parts.policies _ _ c.args.pass.now c.begin.new.pass c.args.order.now c.in-Err.error c.in-Err.ensures.unbegun

pub returns-in-Ok-clause-counts : goal.returns-in-Ok-clause-counts
returns-in-Ok-clause-counts g c = c.order_within.ensures.counts

pub returns-in-Err-clause-counts : goal.returns-in-Err-clause-counts
returns-in-Err-clause-counts g c = refl
