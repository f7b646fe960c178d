use Rattle.std.proofs.Common.{List, ℕ, [], ◌∷◌, ◌++◌, append-nil, append_assoc, subst, sym}
use Rattle.slate_types.proofs.Exits.{on_err_weaker, on_ok_weaker}
use Rattle.slate_txn.specs.declared.event.TranscriptStep.{TranscriptStep}
use Rattle.slate_txn.specs.declared.event.TranscriptStep.TheVariants as steps
use Rattle.slate_shared.specs.Passes.{Opened}
use Rattle.slate_steps.specs.Attempts.{IsAttempt}
use Rattle.slate_queue.specs.CallSteps.{own_steps}
use Rattle.slate_queue.specs.Commits.{put_of}
use Rattle.slate_queue.specs.Jobs.{new_job}
use Rattle.slate_queue.specs.Stored.{counter_key, job_bytes, job_key}
use Rattle.slate_queue.proofs.on_pass.adding.put_job.Goals as goal

pub returns-in-Ok-clause-taken : goal.returns-in-Ok-clause-taken
returns-in-Ok-clause-taken g c = λ from level ts h.
    let o = g.P.Parts.options in
    let first = steps.Own counter_key (put_of c.number_bytes.result) in
    let second = steps.Own (job_key c.args.new) (put_of (job_bytes (new_job c.args.payload.now))) in
    on_ok_weaker c.put_new.result
    (λ w. subst (λ (xs : List ℕ). IsAttempt o from level (ts ++ (steps.Own counter_key (put_of xs) ∷ second ∷ [])) c.put_new.new.txn) c.number_bytes.ensures
    (subst (λ (us : List TranscriptStep). IsAttempt o from level us c.put_new.new.txn) (append_assoc ts (first ∷ []) (second ∷ [])) w))
    (c.put_new.ensures.taken from level (ts ++ (first ∷ [])) (c.in-Ok.ensures.taken from level ts h))

pub returns-in-Ok-clause-part : goal.returns-in-Ok-clause-part
returns-in-Ok-clause-part g c = λ from level ts h.
    on_err_weaker c.put_new.result
    (λ same. ((counter_key, put_of c.number_bytes.result) ∷ [], subst (IsAttempt g.P.Parts.options from level (ts ++ own_steps ((counter_key, put_of c.number_bytes.result) ∷ []))) (sym same) (c.in-Ok.ensures.taken from level ts h)))
    c.put_new.ensures.same

pub returns-in-Err-clause-part : goal.returns-in-Err-clause-part
returns-in-Err-clause-part g c = λ from level ts h. (
  [],
  subst (λ (t : Opened). IsAttempt g.P.Parts.options from level (ts ++ []) t) (sym c.in-Err.ensures.same)
      (subst (λ (us : List TranscriptStep). IsAttempt g.P.Parts.options from level us c.args.txn.now) (sym (append-nil ts)) h),
)
