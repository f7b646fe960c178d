use Rattle.std.proofs.Common.{◌≡◌, ◌∙◌, ℕ, List, ap, inl, length, map, subst, sym}
use mathlib.Core.List.{IsPrefix}
use Rattle.slate_types.proofs.Exits.{on_ok}
use Rattle.slate_store.specs.Reach.{reach_of}
use Rattle.slate_steps.specs.Attempts.{IsFaultOn, IsStoreChecked}
use Rattle.slate_steps.proofs.Reading.{if_err_map, on_ok_map}
use Rattle.slate_steps.specs.Reads.{told_in, unblamed_if}
use Rattle.slate_stock.specs.Attempting.{IsReadsCauseOn, IsReadsTruthOn, amounts_since}
use Rattle.slate_stock.specs.Orders.{order_keys}
use Rattle.slate_stock.specs.Running.{db_error}
use Rattle.slate_stock.proofs.AttemptCauses.{put_cause_on, put_truth_on}
use Rattle.slate_stock.proofs.AttemptLaws.{read_since, taken_on}
use Rattle.slate_stock.proofs.MapLaws.{known, known_is}
use Rattle.slate_stock.proofs.on_pass.take_order.Goals as goal

pub put_order-done-requires-clause-known : goal.put_order-done-requires-clause-known
put_order-done-requires-clause-known g c = ap length c.as_slice.ensures.value ∙ c.in-Ok.ensures.long ∙ ap length c.requires.keys

pub returns-in-Ok-clause-taken : goal.returns-in-Ok-clause-taken
returns-in-Ok-clause-taken g c = λ from h.
    let o = c.args.order.now in
    let ns = c.in-Ok.amounts.items in
    let r = c.in-Ok.ensures.read from h in
    let are : ns ≡ map (known (order_keys o) ns) (order_keys o) = known_is o c.args.keys.now ns c.requires.names c.requires.form c.requires.keys (c.in-Ok.ensures.long ∙ ap length c.requires.keys) in
    on_ok_map c.put_order-done.result _ _
    (λ p. taken_on g.P.Parts.options from c.read_amounts.new.txn c.put_order-done.new.txn o (known (order_keys o) ns) c.args.keys.now ns c.requires.names c.requires.keys p.0 r are p.1)
    (c.put_order-done.ensures.put from r.taken (known (order_keys o) ns) r.within (c.as_slice.ensures.value ∙ are))

pub returns-in-Ok-clause-left : goal.returns-in-Ok-clause-left
returns-in-Ok-clause-left g c = λ from h. let r = c.in-Ok.ensures.read from h in c.put_order-done.ensures.left from r.taken r.within

pub returns-in-Ok-clause-sees : goal.returns-in-Ok-clause-sees
returns-in-Ok-clause-sees g c = λ from h holds v.
    let before = reach_of g.S.Store g.M.MergeOperator g.T.BlockTransformer c.args.env.now in
    let after = reach_of g.S.Store g.M.MergeOperator g.T.BlockTransformer c.read_amounts.new.env in
    on_ok c.put_order-done.result (c.put_order-done.ensures.sees (c.in-Ok.ensures.sees from h (subst (λ es. IsStoreChecked g.P.Parts.policies g.P.Parts.meaning es before after) c.put_order-done.ensures.more.1 holds) v))

pub returns-in-Ok-clause-cause : goal.returns-in-Ok-clause-cause
returns-in-Ok-clause-cause g c = λ from h.
    let o = c.args.order.now in
    let ns = c.in-Ok.amounts.items in
    let are : ns ≡ map (known (order_keys o) ns) (order_keys o) = known_is o c.args.keys.now ns c.requires.names c.requires.form c.requires.keys (c.in-Ok.ensures.long ∙ ap length c.requires.keys) in
    if_err_map c.put_order-done.result _ _ (λ e x. put_cause_on g.P.Parts.options _ _ _ from o c.read_amounts.new.txn c.put_order-done.new.txn (known (order_keys o) ns) e x) (c.put_order-done.ensures.refused (known (order_keys o) ns) (c.as_slice.ensures.value ∙ are))

pub returns-in-Ok-clause-truth : goal.returns-in-Ok-clause-truth
returns-in-Ok-clause-truth g c = λ from es h holds v later legal.
    let o = c.args.order.now in
    let before = reach_of g.S.Store g.M.MergeOperator g.T.BlockTransformer c.args.env.now in
    let after = reach_of g.S.Store g.M.MergeOperator g.T.BlockTransformer c.read_amounts.new.env in
    let t = c.read_amounts.new.txn in
    let r = c.in-Ok.ensures.read from h in
    let begins : IsPrefix t.seen es = subst (λ x. IsPrefix x es) c.put_order-done.ensures.more.1 later in
    let there : c.in-Ok.amounts.items ≡ map (amounts_since g.P.Parts.options g.P.Parts.meaning es t.tx.begin) c.args.keys.now =
    read_since g.P.Parts.options g.P.Parts.meaning from c.args.keys.now c.in-Ok.amounts.items t es r begins legal
    (c.in-Ok.ensures.sees from h (subst (λ x. IsStoreChecked g.P.Parts.policies g.P.Parts.meaning x before after) c.put_order-done.ensures.more.1 holds) v) in
    if_err_map c.put_order-done.result _ _ (λ e x. put_truth_on (IsFaultOn g.P.Parts.policies g.P.Parts.meaning c.put_order-done.new.txn.seen before after) g.P.Parts.options g.P.Parts.meaning es o t c.put_order-done.new.txn e (λ s. tt) x)
    (c.put_order-done.ensures.refused (amounts_since g.P.Parts.options g.P.Parts.meaning es t.tx.begin)
    (c.as_slice.ensures.value ∙ there ∙ ap (λ (ks : List (List ℕ)). map (amounts_since g.P.Parts.options g.P.Parts.meaning es t.tx.begin) ks) c.requires.keys))

pub returns-in-Ok-clause-more : goal.returns-in-Ok-clause-more
returns-in-Ok-clause-more g c =
    (c.put_order-done.ensures.more.0 ∙ c.read_amounts.ensures.more.0, subst (λ x. IsPrefix c.args.txn.now.seen x) (sym c.put_order-done.ensures.more.1) c.read_amounts.ensures.more.1)

pub returns-in-Err-clause-cause : goal.returns-in-Err-clause-cause
returns-in-Err-clause-cause g c = λ from h.
    let before = reach_of g.S.Store g.M.MergeOperator g.T.BlockTransformer c.args.env.now in
    let after = reach_of g.S.Store g.M.MergeOperator g.T.BlockTransformer c.read_amounts.new.env in
    inl (subst (λ (ks : List (List ℕ)). IsReadsCauseOn g.P.Parts.options g.P.Parts.policies before after from ks c.read_amounts.new.txn c.in-Err.error) c.requires.keys (c.in-Err.ensures.cause from h))

pub returns-in-Err-clause-truth : goal.returns-in-Err-clause-truth
returns-in-Err-clause-truth g c = λ from es h holds v later legal.
    let before = reach_of g.S.Store g.M.MergeOperator g.T.BlockTransformer c.args.env.now in
    let after = reach_of g.S.Store g.M.MergeOperator g.T.BlockTransformer c.read_amounts.new.env in
    inl (subst (λ (ks : List (List ℕ)). IsReadsTruthOn (IsFaultOn g.P.Parts.policies g.P.Parts.meaning c.read_amounts.new.txn.seen before after) g.P.Parts.options g.P.Parts.meaning es c.read_amounts.new.txn.tx.begin ks c.in-Err.error) c.requires.keys (c.in-Err.ensures.truth from es h holds v later legal))

pub returns-in-Ok-clause-counts : goal.returns-in-Ok-clause-counts
returns-in-Ok-clause-counts g c = ap (unblamed_if (told_in db_error c.put_order-done.result)) c.in-Ok.ensures.counts

pub returns-in-Err-clause-counts : goal.returns-in-Err-clause-counts
returns-in-Err-clause-counts g c = c.in-Err.ensures.counts
