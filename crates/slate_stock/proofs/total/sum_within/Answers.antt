use Rattle.std.proofs.Common.{◌∙◌, [], ap, map}
use Rattle.slate_store.specs.Reach.{reach_of}
use Rattle.slate_steps.proofs.Reading.{if_err_map, if_ok_map}
use Rattle.slate_steps.specs.Reads.{told_in, unblamed_if}
use Rattle.slate_stock.specs.Running.{db_error}
use Rattle.slate_stock.specs.Totals.{values_sum}
use Rattle.slate_stock.proofs.TotalLaws.{scan_cause, scan_truth, sum_cause, sum_truth}
use Rattle.slate_stock.proofs.total.sum_within.Goals as goal

pub returns-in-Ok-clause-still : goal.returns-in-Ok-clause-still
returns-in-Ok-clause-still g c = λ d ts h. c.balances_within.ensures.still d ts h

pub returns-in-Ok-clause-sum : goal.returns-in-Ok-clause-sum
returns-in-Ok-clause-sum g c = λ d ts seg h none settled. if_ok_map c.sum_of-sum.result _ _ (λ n is. is ∙ ap values_sum (c.as_slice.ensures.value ∙ c.in-Ok.ensures.found d ts seg h none settled)) c.sum_of-sum.ensures.sum

pub returns-in-Ok-clause-refused : goal.returns-in-Ok-clause-refused
returns-in-Ok-clause-refused g c = λ d ts seg h none settled.
    let before = reach_of g.S.Store g.M.MergeOperator g.T.BlockTransformer c.args.env.now in
    let after = reach_of g.S.Store g.M.MergeOperator g.T.BlockTransformer c.balances_within.new.env in
    let policies = map (λ p. (goal.FilterPolicy-dyn g (p.vtable, p.value)).meaning p.value) c.args.laws.now.policies.items in
    if_err_map c.sum_of-sum.result _ _ (λ e x. sum_truth policies before after d c.args.asset.now _ e (c.as_slice.ensures.value ∙ c.in-Ok.ensures.found d ts seg h none settled) x) c.sum_of-sum.ensures.refused

pub returns-in-Ok-clause-cause : goal.returns-in-Ok-clause-cause
returns-in-Ok-clause-cause g c = λ d ts h.
    let before = reach_of g.S.Store g.M.MergeOperator g.T.BlockTransformer c.args.env.now in
    let after = reach_of g.S.Store g.M.MergeOperator g.T.BlockTransformer c.balances_within.new.env in
    let policies = map (λ p. (goal.FilterPolicy-dyn g (p.vtable, p.value)).meaning p.value) c.args.laws.now.policies.items in
    if_err_map c.sum_of-sum.result _ _ (λ e x. sum_cause policies before after d c.args.asset.now _ e x) c.sum_of-sum.ensures.refused

pub returns-in-Err-clause-still : goal.returns-in-Err-clause-still
returns-in-Err-clause-still g c = λ d ts h. c.balances_within.ensures.still d ts h

pub returns-in-Err-clause-refused : goal.returns-in-Err-clause-refused
returns-in-Err-clause-refused g c = λ d ts seg h none settled.
    let before = reach_of g.S.Store g.M.MergeOperator g.T.BlockTransformer c.args.env.now in
    let after = reach_of g.S.Store g.M.MergeOperator g.T.BlockTransformer c.balances_within.new.env in
    let policies = map (λ p. (goal.FilterPolicy-dyn g (p.vtable, p.value)).meaning p.value) c.args.laws.now.policies.items in
    scan_truth policies before after d c.args.asset.now c.in-Err.error (c.in-Err.ensures.undamaged d ts seg h settled)

pub returns-in-Err-clause-cause : goal.returns-in-Err-clause-cause
returns-in-Err-clause-cause g c = λ d ts h.
    let before = reach_of g.S.Store g.M.MergeOperator g.T.BlockTransformer c.args.env.now in
    let after = reach_of g.S.Store g.M.MergeOperator g.T.BlockTransformer c.balances_within.new.env in
    let policies = map (λ p. (goal.FilterPolicy-dyn g (p.vtable, p.value)).meaning p.value) c.args.laws.now.policies.items in
    scan_cause policies before after d c.args.asset.now c.args.core.now c.args.id.now ts c.in-Err.error h c.in-Err.ensures.cause

pub returns-in-Ok-clause-counts : goal.returns-in-Ok-clause-counts
returns-in-Ok-clause-counts g c = ap (unblamed_if (told_in db_error c.sum_of-sum.result)) c.in-Ok.ensures.counts

pub returns-in-Err-clause-counts : goal.returns-in-Err-clause-counts
returns-in-Err-clause-counts g c = c.in-Err.ensures.counts
