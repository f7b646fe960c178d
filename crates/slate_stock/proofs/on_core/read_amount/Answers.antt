use Rattle.std.proofs.Common.{◌++◌, ◌∷◌, [], ℕ, List, ap, inl, inr, map, subst, sym}
use Rattle.slate_types.specs.declared.config.IsolationLevel.TheVariants.{SerializableSnapshot}
use Rattle.slate_types.proofs.Exits.{on_err}
use Rattle.slate_txn.specs.declared.event.TranscriptStep.TheVariants as steps
use Rattle.slate_steps.specs.Steps.{IsWithin, Sees}
use Rattle.slate_steps.proofs.Reading.{if_err_map, if_ok_map}
use Rattle.slate_store.specs.Reach.{reach_of}
use Rattle.slate_steps.specs.Reads.{IsFaultSettled, told_in, unblamed_if}
use Rattle.slate_stock.specs.Running.{db_error}
use Rattle.slate_stock.proofs.CauseLaws.{found_cause, found_truth, one_fault}
use Rattle.slate_stock.proofs.on_core.read_amount.Goals as goal

pub returns-in-Ok-clause-read : goal.returns-in-Ok-clause-read
returns-in-Ok-clause-read g c = λ d ts h.
    let before = reach_of g.S.Store g.M.MergeOperator g.T.BlockTransformer c.args.env.now in
    if_ok_map c.amount_found-amount.result _ _ (λ n is. record {
      answer = c.in-Ok.found;
      is = is;
      within = subst (λ (k : List ℕ). IsWithin d c.args.id.now SerializableSnapshot (ts ++ (steps.Get k c.in-Ok.found ∷ [])) c.get.new.core) c.as_slice.ensures (c.in-Ok.ensures.within d SerializableSnapshot ts h);
      seen = λ seg store sees. subst (λ (k : List ℕ). Sees before.meaning d (ts ++ (steps.Get k c.in-Ok.found ∷ []))) c.as_slice.ensures (c.in-Ok.ensures.checked d SerializableSnapshot ts seg h store sees);
    }) c.amount_found-amount.ensures.amount

pub returns-in-Ok-clause-left : goal.returns-in-Ok-clause-left
returns-in-Ok-clause-left g c = λ d ts h. on_err c.amount_found-amount.result (_, c.in-Ok.ensures.within d SerializableSnapshot ts h)

pub returns-in-Ok-clause-cause : goal.returns-in-Ok-clause-cause
returns-in-Ok-clause-cause g c = λ d ts h. if_err_map c.amount_found-amount.result _ _ (λ e x. found_cause _ _ _ d c.args.id.now c.args.key.now c.in-Ok.found e x) c.amount_found-amount.ensures.cause

pub returns-in-Ok-clause-truth : goal.returns-in-Ok-clause-truth
returns-in-Ok-clause-truth g c = λ d ts seg h none store sees.
    let before = reach_of g.S.Store g.M.MergeOperator g.T.BlockTransformer c.args.env.now in
    let after = reach_of g.S.Store g.M.MergeOperator g.T.BlockTransformer c.get.new.env in
    let policies = map (λ p. (goal.FilterPolicy-dyn g (p.vtable, p.value)).meaning p.value) c.args.laws.now.policies.items in
    if_err_map c.amount_found-amount.result _ _ (λ e x. found_truth (IsFaultSettled policies before after d) before.meaning d c.args.key.now ts c.in-Ok.found e (λ s f. tt) none
    (subst (λ (k : List ℕ). Sees before.meaning d (ts ++ (steps.Get k c.in-Ok.found ∷ []))) c.as_slice.ensures (c.in-Ok.ensures.checked d SerializableSnapshot ts seg h store sees)) x) c.amount_found-amount.ensures.cause

pub returns-in-Err-clause-left : goal.returns-in-Err-clause-left
returns-in-Err-clause-left g c = λ d ts h. (ts, subst (IsWithin d c.args.id.now SerializableSnapshot ts) (sym c.in-Err.ensures.same) h)

pub returns-in-Err-clause-cause : goal.returns-in-Err-clause-cause
returns-in-Err-clause-cause g c = λ d ts h. inl (inr (one_fault _ _ _ d c.args.core.now c.args.id.now ts c.in-Err.error h c.in-Err.ensures.cause))

pub returns-in-Err-clause-truth : goal.returns-in-Err-clause-truth
returns-in-Err-clause-truth g c = λ d ts seg h none store sees. inl (λ s settled. c.in-Err.ensures.undamaged d SerializableSnapshot ts s h settled)

pub returns-in-Ok-clause-counts : goal.returns-in-Ok-clause-counts
returns-in-Ok-clause-counts g c = ap (unblamed_if (told_in db_error c.amount_found-amount.result)) c.in-Ok.ensures.counts

pub returns-in-Err-clause-counts : goal.returns-in-Err-clause-counts
returns-in-Err-clause-counts g c = c.in-Err.ensures.counts
