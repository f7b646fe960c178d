use Rattle.std.proofs.Common.{ℕ, List, inl, inr, map, refl, sym, w64}
use Rattle.std.proofs.lemmas.Int.{to_z-of_z}
use Rattle.slate_store.specs.Reach.{reach_of}
use Rattle.slate_types.proofs.Exits.{err_exit}
use Rattle.slate_stock.specs.Running.{IsDbTruth, amounts_of}
use Rattle.slate_stock.proofs.EndLaws.{call_answers, call_grows, call_orders, call_settled, call_vouched, form_refused, ordered_at}
use Rattle.slate_stock.proofs.on_core.run_order_core.Goals as goal

pub returns-in-Some-clause-cause : goal.returns-in-Some-clause-cause
returns-in-Some-clause-cause g c = inr (inr (λ k. 0, form_refused (λ (k : List ℕ). 0) c.args.order.now c.in-Some.error (sym c.in-Some.ensures)))

pub returns-in-Some-clause-refused : goal.returns-in-Some-clause-refused
returns-in-Some-clause-refused g c = λ seg store.
    let before = reach_of g.S.Store g.M.MergeOperator g.T.BlockTransformer c.args.env.now in
    inr (inr (inl (form_refused (amounts_of before.meaning c.args.core.now) c.args.order.now c.in-Some.error (sym c.in-Some.ensures))))

pub returns-in_err-keys-clause-refused : goal.returns-in_err-keys-clause-refused
returns-in_err-keys-clause-refused g c = λ seg store. err_exit c.from_residual.result _ c.from_residual.ensures.1 _ (inl (IsDbTruth.fault (λ s h. tt)))

pub returns-clause-committed : goal.returns-clause-committed
returns-clause-committed g c = ordered_at _ _ _ c.args.core.now c.make_order-made.new.core c.args.order.now _ c.args.now c.make_order-made.result (to_z-of_z w64 c.args.now c.ranges.now) c.make_order-made.ensures.committed

pub returns-clause-answer : goal.returns-clause-answer
returns-clause-answer g c = λ seg store.
    let before = reach_of g.S.Store g.M.MergeOperator g.T.BlockTransformer c.args.env.now in
    let after = reach_of g.S.Store g.M.MergeOperator g.T.BlockTransformer c.make_order-made.new.env in
    let policies = map (λ p. (goal.FilterPolicy-dyn g (p.vtable, p.value)).meaning p.value) c.args.laws.now.policies.items in
    call_answers policies before after c.args.core.now c.make_order-made.new.core c.args.order.now _ c.make_order-made.result c.make_order-made.ensures.committed c.make_order-made.ensures.left seg store

pub returns-clause-settled : goal.returns-clause-settled
returns-clause-settled g c = λ settled.
    let before = reach_of g.S.Store g.M.MergeOperator g.T.BlockTransformer c.args.env.now in
    let after = reach_of g.S.Store g.M.MergeOperator g.T.BlockTransformer c.make_order-made.new.env in
    let policies = map (λ p. (goal.FilterPolicy-dyn g (p.vtable, p.value)).meaning p.value) c.args.laws.now.policies.items in
    call_settled policies before after c.args.core.now c.make_order-made.new.core c.args.order.now _ c.make_order-made.result c.make_order-made.ensures.committed c.make_order-made.ensures.left _ c.make_order-made.ensures.reads c.make_order-made.ensures.kept c.make_order-made.ensures.segmented settled

pub returns-clause-vouched : goal.returns-clause-vouched
returns-clause-vouched g c = λ seg settled vouched.
    let before = reach_of g.S.Store g.M.MergeOperator g.T.BlockTransformer c.args.env.now in
    let after = reach_of g.S.Store g.M.MergeOperator g.T.BlockTransformer c.make_order-made.new.env in
    let policies = map (λ p. (goal.FilterPolicy-dyn g (p.vtable, p.value)).meaning p.value) c.args.laws.now.policies.items in
    call_vouched policies before after c.args.core.now c.make_order-made.new.core c.args.order.now _ c.make_order-made.result c.make_order-made.ensures.committed c.make_order-made.ensures.left seg settled vouched

pub returns-clause-orders : goal.returns-clause-orders
returns-clause-orders g c = λ are.
    let before = reach_of g.S.Store g.M.MergeOperator g.T.BlockTransformer c.args.env.now in
    let after = reach_of g.S.Store g.M.MergeOperator g.T.BlockTransformer c.make_order-made.new.env in
    let policies = map (λ p. (goal.FilterPolicy-dyn g (p.vtable, p.value)).meaning p.value) c.args.laws.now.policies.items in
    call_orders policies before after c.args.core.now c.make_order-made.new.core c.args.order.now _ c.make_order-made.result c.make_order-made.ensures.committed c.make_order-made.ensures.left are

pub returns-clause-grows : goal.returns-clause-grows
returns-clause-grows g c =
    let before = reach_of g.S.Store g.M.MergeOperator g.T.BlockTransformer c.args.env.now in
    let after = reach_of g.S.Store g.M.MergeOperator g.T.BlockTransformer c.make_order-made.new.env in
    let policies = map (λ p. (goal.FilterPolicy-dyn g (p.vtable, p.value)).meaning p.value) c.args.laws.now.policies.items in
    call_grows policies before after c.args.core.now c.make_order-made.new.core c.args.order.now _ c.make_order-made.result c.make_order-made.ensures.committed c.make_order-made.ensures.left

pub returns-in-Some-clause-counts : goal.returns-in-Some-clause-counts
returns-in-Some-clause-counts g c = refl

pub returns-in_err-keys-clause-counts : goal.returns-in_err-keys-clause-counts
returns-in_err-keys-clause-counts g c = refl

pub returns-clause-counts : goal.returns-clause-counts
returns-clause-counts g c = c.make_order-made.ensures.counts
