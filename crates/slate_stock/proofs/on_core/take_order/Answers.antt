use Rattle.std.proofs.Common.{◌≡◌, ◌∙◌, ℕ, List, ap, inl, length, map, subst}
use Rattle.slate_store.specs.Reach.{reach_of}
use Rattle.slate_steps.proofs.Reading.{if_err_map, on_ok_map}
use Rattle.slate_steps.specs.Reads.{IsFaultSettled, told_in, unblamed_if}
use Rattle.slate_stock.specs.Orders.{order_keys}
use Rattle.slate_stock.specs.Running.{IsReadCause, IsReadTruth, amounts_of, db_error}
use Rattle.slate_stock.proofs.CoreLaws.{has_taken, read_there}
use Rattle.slate_stock.proofs.EndLaws.{put_cause, put_truth}
use Rattle.slate_stock.proofs.MapLaws.{known, known_is}
use Rattle.slate_stock.proofs.on_core.take_order.Goals as goal

pub put_order-done-requires-clause-known : goal.put_order-done-requires-clause-known
put_order-done-requires-clause-known g c = ap length c.as_slice.ensures.value ∙ c.in-Ok.ensures.long ∙ ap length c.requires.keys

pub returns-in-Ok-clause-taken : goal.returns-in-Ok-clause-taken
returns-in-Ok-clause-taken g c = λ d h.
    let o = c.args.order.now in
    let ns = c.in-Ok.amounts.items in
    let r = c.in-Ok.ensures.read d h in
    let are : ns ≡ map (known (order_keys o) ns) (order_keys o) = known_is o c.args.keys.now ns c.requires.names c.requires.form c.requires.keys (c.in-Ok.ensures.long ∙ ap length c.requires.keys) in
    on_ok_map c.put_order-done.result _ _ (λ p. has_taken _ _ _ d _ c.put_order-done.new.core c.args.id.now o (known (order_keys o) ns) c.args.keys.now ns c.requires.names c.requires.keys p.0 r are p.1)
    (c.put_order-done.ensures.put d r.taken (known (order_keys o) ns) r.within (c.as_slice.ensures.value ∙ are))

pub returns-in-Ok-clause-left : goal.returns-in-Ok-clause-left
returns-in-Ok-clause-left g c = λ d h. let r = c.in-Ok.ensures.read d h in c.put_order-done.ensures.left d r.taken r.within

pub returns-in-Ok-clause-cause : goal.returns-in-Ok-clause-cause
returns-in-Ok-clause-cause g c = λ d h.
    let o = c.args.order.now in
    let ns = c.in-Ok.amounts.items in
    let are : ns ≡ map (known (order_keys o) ns) (order_keys o) = known_is o c.args.keys.now ns c.requires.names c.requires.form c.requires.keys (c.in-Ok.ensures.long ∙ ap length c.requires.keys) in
    if_err_map c.put_order-done.result _ _ (λ e x. put_cause _ _ _ d c.args.id.now o (known (order_keys o) ns) e x) (c.put_order-done.ensures.refused (known (order_keys o) ns) (c.as_slice.ensures.value ∙ are))

pub returns-in-Ok-clause-truth : goal.returns-in-Ok-clause-truth
returns-in-Ok-clause-truth g c = λ d seg h store.
    let o = c.args.order.now in
    let before = reach_of g.S.Store g.M.MergeOperator g.T.BlockTransformer c.args.env.now in
    let after = reach_of g.S.Store g.M.MergeOperator g.T.BlockTransformer c.read_amounts.new.env in
    let policies = map (λ p. (goal.FilterPolicy-dyn g (p.vtable, p.value)).meaning p.value) c.args.laws.now.policies.items in
    let r = c.in-Ok.ensures.read d h in
    let there : c.in-Ok.amounts.items ≡ map (amounts_of before.meaning d) c.args.keys.now = read_there policies seg before after d _ c.args.id.now c.args.keys.now c.in-Ok.amounts.items r store in
    if_err_map c.put_order-done.result _ _ (λ e x. put_truth (IsFaultSettled policies before after d) before.meaning d o e (λ s h. tt) x)
    (c.put_order-done.ensures.refused (amounts_of before.meaning d) (c.as_slice.ensures.value ∙ there ∙ ap (λ (ks : List (List ℕ)). map (amounts_of before.meaning d) ks) c.requires.keys))

pub returns-in-Err-clause-cause : goal.returns-in-Err-clause-cause
returns-in-Err-clause-cause g c = λ d h.
    let before = reach_of g.S.Store g.M.MergeOperator g.T.BlockTransformer c.args.env.now in
    let after = reach_of g.S.Store g.M.MergeOperator g.T.BlockTransformer c.read_amounts.new.env in
    let policies = map (λ p. (goal.FilterPolicy-dyn g (p.vtable, p.value)).meaning p.value) c.args.laws.now.policies.items in
    inl (subst (λ (ks : List (List ℕ)). IsReadCause policies before after d c.args.id.now ks c.in-Err.error) c.requires.keys (c.in-Err.ensures.cause d h))

pub returns-in-Err-clause-truth : goal.returns-in-Err-clause-truth
returns-in-Err-clause-truth g c = λ d seg h store.
    let before = reach_of g.S.Store g.M.MergeOperator g.T.BlockTransformer c.args.env.now in
    let after = reach_of g.S.Store g.M.MergeOperator g.T.BlockTransformer c.read_amounts.new.env in
    let policies = map (λ p. (goal.FilterPolicy-dyn g (p.vtable, p.value)).meaning p.value) c.args.laws.now.policies.items in
    inl (subst (λ (ks : List (List ℕ)). IsReadTruth (IsFaultSettled policies before after d) before.meaning d ks c.in-Err.error) c.requires.keys (c.in-Err.ensures.truth d seg h store))

pub returns-in-Ok-clause-counts : goal.returns-in-Ok-clause-counts
returns-in-Ok-clause-counts g c = ap (unblamed_if (told_in db_error c.put_order-done.result)) c.in-Ok.ensures.counts

pub returns-in-Err-clause-counts : goal.returns-in-Err-clause-counts
returns-in-Err-clause-counts g c = c.in-Err.ensures.counts
