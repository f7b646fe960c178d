use Rattle.std.proofs.Common.{◌++◌, ◌∷◌, [], ℕ, List, ap, inl, subst}
use Rattle.slate_types.specs.declared.config.IsolationLevel.TheVariants.{SerializableSnapshot}
use Rattle.slate_types.proofs.Exits.{on_err, on_ok}
use Rattle.slate_store.specs.Reach.{reach_of}
use Rattle.slate_txn.specs.declared.event.TranscriptStep.TheVariants as steps
use Rattle.slate_steps.specs.Attempts.{IsAttempt, IsFaultOn}
use Rattle.slate_steps.proofs.Reading.{if_err_map, if_ok_map}
use Rattle.slate_steps.specs.Reads.{told_in, unblamed_if}
use Rattle.slate_stock.specs.Running.{db_error}
use Rattle.slate_stock.proofs.AttemptCauses.{found_cause_on, found_truth_on}
use Rattle.slate_stock.proofs.on_pass.read_amount.Goals as goal

pub returns-in-Ok-clause-read : goal.returns-in-Ok-clause-read
returns-in-Ok-clause-read g c = λ from ts h.
    if_ok_map c.amount_found-amount.result _ _ (λ n is. record {
      answer = c.in-Ok.found;
      is = is;
      within = subst (λ (k : List ℕ). IsAttempt g.P.Parts.options from SerializableSnapshot (ts ++ (steps.Get k c.in-Ok.found ∷ [])) c.get.new.txn) c.as_slice.ensures (c.in-Ok.ensures.within from SerializableSnapshot ts h);
    }) c.amount_found-amount.ensures.amount

pub returns-in-Ok-clause-left : goal.returns-in-Ok-clause-left
returns-in-Ok-clause-left g c = λ from ts h. on_err c.amount_found-amount.result (_, c.in-Ok.ensures.within from SerializableSnapshot ts h)

pub returns-in-Ok-clause-sees : goal.returns-in-Ok-clause-sees
returns-in-Ok-clause-sees g c = λ from ts h holds v. on_ok c.amount_found-amount.result (c.in-Ok.ensures.checked from SerializableSnapshot ts h holds v)

pub returns-in-Ok-clause-cause : goal.returns-in-Ok-clause-cause
returns-in-Ok-clause-cause g c = λ from ts h.
    if_err_map c.amount_found-amount.result _ _ (λ e x. found_cause_on g.P.Parts.options _ _ _ from c.args.key.now ts c.get.new.txn c.in-Ok.found e
    (subst (λ (k : List ℕ). IsAttempt g.P.Parts.options from SerializableSnapshot (ts ++ (steps.Get k c.in-Ok.found ∷ [])) c.get.new.txn) c.as_slice.ensures (c.in-Ok.ensures.within from SerializableSnapshot ts h)) x) c.amount_found-amount.ensures.cause

pub returns-in-Ok-clause-truth : goal.returns-in-Ok-clause-truth
returns-in-Ok-clause-truth g c = λ from es ts h none holds v later legal.
    let before = reach_of g.S.Store g.M.MergeOperator g.T.BlockTransformer c.args.env.now in
    let after = reach_of g.S.Store g.M.MergeOperator g.T.BlockTransformer c.get.new.env in
    if_err_map c.amount_found-amount.result _ _ (λ e x. found_truth_on (IsFaultOn g.P.Parts.policies g.P.Parts.meaning c.get.new.txn.seen before after) g.P.Parts.options g.P.Parts.meaning from es c.args.key.now ts c.get.new.txn c.in-Ok.found e (λ s. tt) none
    (subst (λ (k : List ℕ). IsAttempt g.P.Parts.options from SerializableSnapshot (ts ++ (steps.Get k c.in-Ok.found ∷ [])) c.get.new.txn) c.as_slice.ensures (c.in-Ok.ensures.within from SerializableSnapshot ts h))
    later legal (c.in-Ok.ensures.checked from SerializableSnapshot ts h holds v) x) c.amount_found-amount.ensures.cause

pub returns-in-Ok-clause-more : goal.returns-in-Ok-clause-more
returns-in-Ok-clause-more g c = (c.get.ensures.more.0, c.get.ensures.more.2)

pub returns-in-Err-clause-left : goal.returns-in-Err-clause-left
returns-in-Err-clause-left g c = λ from ts h. (ts, c.in-Err.ensures.refused from SerializableSnapshot ts h)

pub returns-in-Err-clause-cause : goal.returns-in-Err-clause-cause
returns-in-Err-clause-cause g c = λ from ts h. inl (c.in-Err.ensures.cause from SerializableSnapshot ts h)

pub returns-in-Err-clause-truth : goal.returns-in-Err-clause-truth
returns-in-Err-clause-truth g c = λ from es ts h none holds v later legal. inl (λ s. c.in-Err.ensures.undamaged from SerializableSnapshot ts h s)

pub returns-in-Err-clause-more : goal.returns-in-Err-clause-more
returns-in-Err-clause-more g c = (c.get.ensures.more.0, c.get.ensures.more.2)

pub returns-in-Ok-clause-counts : goal.returns-in-Ok-clause-counts
returns-in-Ok-clause-counts g c = ap (unblamed_if (told_in db_error c.amount_found-amount.result)) c.in-Ok.ensures.counts

pub returns-in-Err-clause-counts : goal.returns-in-Err-clause-counts
returns-in-Err-clause-counts g c = c.in-Err.ensures.counts
