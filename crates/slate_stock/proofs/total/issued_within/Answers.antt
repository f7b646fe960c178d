use Rattle.std.proofs.Common.{◌∙◌, [], ap, map, refl, subst}
use Rattle.slate_store.specs.Reach.{reach_of}
use Rattle.slate_types.specs.declared.error.SlateDBError.TheVariants as errors
use Rattle.slate_steps.proofs.Reading.{if_err_map}
use Rattle.slate_steps.proofs.StoreTruth.{checked_in}
use Rattle.slate_steps.specs.Reads.{IsFaultSettled}
use Rattle.slate_stock.specs.declared.error.StockError.TheVariants.{Db}
use Rattle.slate_stock.specs.Amounts.{issued_key}
use Rattle.slate_stock.specs.Running.{IsGetTruth}
use Rattle.slate_stock.proofs.TotalLaws.{got_key, issued_cause, issued_truth, memory_cause, memory_truth}
use Rattle.slate_stock.proofs.total.issued_within.Goals as goal

pub returns-in-Ok-clause-read : goal.returns-in-Ok-clause-read
returns-in-Ok-clause-read g c = λ d h.
    let before = reach_of g.S.Store g.M.MergeOperator g.T.BlockTransformer c.args.env.now in
    let policies = map (λ p. (goal.FilterPolicy-dyn g (p.vtable, p.value)).meaning p.value) c.args.laws.now.policies.items in
    got_key policies before (reach_of g.S.Store g.M.MergeOperator g.T.BlockTransformer c.read_amount-issued.new.env) d c.read_amount-issued.new.core c.args.id.now c.in-Ok.key (issued_key c.args.asset.now) c.read_amount-issued.result (c.in-Ok.ensures ∙ ap issued_key c.as_slice.ensures) (c.read_amount-issued.ensures.read d [] h)

pub returns-in-Ok-clause-left : goal.returns-in-Ok-clause-left
returns-in-Ok-clause-left g c = λ d h. c.read_amount-issued.ensures.left d [] h

pub returns-in-Ok-clause-refused : goal.returns-in-Ok-clause-refused
returns-in-Ok-clause-refused g c = λ d seg h settled.
    let before = reach_of g.S.Store g.M.MergeOperator g.T.BlockTransformer c.args.env.now in
    let after = reach_of g.S.Store g.M.MergeOperator g.T.BlockTransformer c.read_amount-issued.new.env in
    let policies = map (λ p. (goal.FilterPolicy-dyn g (p.vtable, p.value)).meaning p.value) c.args.laws.now.policies.items in
    if_err_map c.read_amount-issued.result _ _ (λ e x. issued_truth policies before after d c.args.asset.now seg e settled (subst (λ k. IsGetTruth (IsFaultSettled policies before after d) before.meaning d k e) (c.in-Ok.ensures ∙ ap issued_key c.as_slice.ensures) x))
    (c.read_amount-issued.ensures.truth d [] seg h refl (checked_in policies seg before after d settled) tt)

pub returns-in-Ok-clause-cause : goal.returns-in-Ok-clause-cause
returns-in-Ok-clause-cause g c = λ d h.
    let before = reach_of g.S.Store g.M.MergeOperator g.T.BlockTransformer c.args.env.now in
    let after = reach_of g.S.Store g.M.MergeOperator g.T.BlockTransformer c.read_amount-issued.new.env in
    let policies = map (λ p. (goal.FilterPolicy-dyn g (p.vtable, p.value)).meaning p.value) c.args.laws.now.policies.items in
    if_err_map c.read_amount-issued.result _ _ (λ e x. issued_cause policies before after d c.args.asset.now c.in-Ok.key c.args.id.now e x) (c.read_amount-issued.ensures.cause d [] h)

pub returns-in-Err-clause-left : goal.returns-in-Err-clause-left
returns-in-Err-clause-left g c = λ d h. ([], h)

pub returns-in-Err-clause-refused : goal.returns-in-Err-clause-refused
returns-in-Err-clause-refused g c = λ d seg h settled.
    let before = reach_of g.S.Store g.M.MergeOperator g.T.BlockTransformer c.args.env.now in
    let policies = map (λ p. (goal.FilterPolicy-dyn g (p.vtable, p.value)).meaning p.value) c.args.laws.now.policies.items in
    memory_truth policies before before d c.args.asset.now _ (ap Db c.from.ensures)

pub returns-in-Err-clause-cause : goal.returns-in-Err-clause-cause
returns-in-Err-clause-cause g c = λ d h.
    let before = reach_of g.S.Store g.M.MergeOperator g.T.BlockTransformer c.args.env.now in
    let policies = map (λ p. (goal.FilterPolicy-dyn g (p.vtable, p.value)).meaning p.value) c.args.laws.now.policies.items in
    memory_cause policies before before d c.args.asset.now _ (ap Db c.from.ensures)

pub returns-in-Ok-clause-counts : goal.returns-in-Ok-clause-counts
returns-in-Ok-clause-counts g c = c.read_amount-issued.ensures.counts

pub returns-in-Err-clause-counts : goal.returns-in-Err-clause-counts
returns-in-Err-clause-counts g c = refl
