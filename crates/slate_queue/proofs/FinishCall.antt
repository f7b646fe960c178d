-- A whole finish.
use Rattle.std.proofs.Common.{◌≡◌, ◌≢◌, ◌⊎◌, inr, ℕ, ◌-◌, ◌^◌, ◌<◌, ℤ, List, [], ◌∷◌, length, Option, Some, None, Ok, Err, refl, sym, ap, subst, ◌∙◌, arith}
use Rattle.std.specs.Prelude.{IsSome}
use Rattle.slate_types.specs.declared.config.IsolationLevel.TheVariants.{SerializableSnapshot}
use Rattle.slate_types.specs.declared.error.SlateDBError.{SlateDBError}
use Rattle.slate_types.specs.declared.error.SlateDBError.TheVariants.{SequenceExhausted}
use Rattle.slate_types.specs.Outside.{IsFault, OnlyReads, Reach}
use Rattle.slate_types.proofs.Reaching.{reads_none, reads_then}
use Rattle.slate_filter.specs.Policy.{Policy}
use Rattle.slate_mem.specs.declared.WriteOp.{WriteOp}
use Rattle.slate_mem.specs.declared.WriteOp.TheVariants.{Delete}
use Rattle.slate_mem.specs.Batch.{batch_keys, kept_ops}
use Rattle.slate_mem.specs.KeyTests.{Segments}
use Rattle.slate_mem.proofs.BatchLaws.{keeps_its_keys}
use Rattle.slate_txn.specs.declared.event.TranscriptStep.{TranscriptStep}
use Rattle.slate_txn.specs.Alone.{own_of}
use Rattle.slate_txn.specs.State.{last_of}
use Rattle.slate_db.specs.Meaning.{rules_of}
use Rattle.slate_db.specs.Model.{CoreModel}
use Rattle.slate_db.specs.Segmented.{IsSegmented}
use Rattle.slate_db.specs.Sound.{IsKept}
use Rattle.slate_steps.specs.Steps.{HasCommitted, HasEnded, IsBeginError, newest}
use Rattle.slate_steps.proofs.StoreTruth.{checked_in}
use Rattle.slate_queue.specs.declared.error.QueueError.{QueueError}
use Rattle.slate_queue.specs.declared.error.QueueError.TheVariants as errors
use Rattle.slate_queue.specs.Stored.{job_key}
use Rattle.slate_queue.specs.Jobs as model
use Rattle.slate_queue.specs.Jobs.{Call, with_job}
use Rattle.slate_queue.specs.CallSteps.{FinishStops, Finishes}
use Rattle.slate_queue.specs.Calls.{Attempts, CallsAs, Commits, FinishRefuses, IsFinishOf}
use Rattle.slate_queue.proofs.CallLaws.{answered, has_seq, keeps_committed, may_perform, never_empty, not_begun, performed, stopped, uncommitted}
use Rattle.slate_queue.proofs.JobValues.{value_is}
use Rattle.slate_queue.proofs.CallSteps.{finish_job_is, finish_step_is, finish_stopped, one_stands}
use Rattle.slate_queue.proofs.Performing.{Performs}

pub finish_own : (id lease : ℕ) (ts : List TranscriptStep) → Finishes id lease ts → own_of ts ≡ (job_key id, Delete) ∷ []
finish_own id lease ts h = ap own_of h.steps

pub finish_some : (id lease : ℕ) (ts : List TranscriptStep) → Finishes id lease ts → own_of ts ≢ []
finish_some id lease ts h e = never_empty {A = List ℕ × WriteOp} (job_key id, Delete) [] (sym (finish_own id lease ts h) ∙ e)

pub finish_form : (id lease : ℕ) (ts : List TranscriptStep) → id < 2 ^ 64 → Finishes id lease ts → IsFinishOf id lease (kept_ops (own_of ts)) (batch_keys (own_of ts)) ts
finish_form id lease ts fits h = (
  record {
    id = id;
    fits = fits;
    row = h.row;
    job = h.job;
    stands = (value_is h.row.value h.job h.stands).stands;
    claimed = λ e. h.claimed (sym h.named ∙ e);
    by = record {
      whole = h.steps;
      kept = ap kept_ops (finish_own id lease ts h);
      keys = sym (keeps_its_keys (own_of ts));
    };
  },
  refl,
  h.named,
)

pub finish_commits : (id lease : ℕ) (tx : List ℕ) (ts : List TranscriptStep) (c d : CoreModel) (seq : ℕ) (now : ℤ) → id < 2 ^ 64 → Finishes id lease ts → HasCommitted c tx SerializableSnapshot ts (Some seq) now d → newest c ≢ 2 ^ 64 - 2 → Commits (IsFinishOf id lease) now c d
finish_commits id lease tx ts c d seq now fits h committed left = record { id = tx; steps = ts; seq = seq; committed = committed; is = finish_form id lease ts fits h; left = left }

pub finish_performs : (id lease : ℕ) (ts : List TranscriptStep) → id < 2 ^ 64 → Finishes id lease ts → Performs (Call.Finish id lease) model.Answer.Finished ts
finish_performs id lease ts fits h = record {
  tells = λ r cs n alone q stands. (with_job q id None, finish_step_is q id lease h.job (finish_job_is r cs n q id lease ts fits stands alone h) h.named h.claimed);
  places = λ r cs c q counts next ops stands alone.
      let is : q.job id ≡ Some h.job = finish_job_is r cs (last_of r.start_seq cs) q id lease ts fits stands alone h in (
        with_job q id None,
        finish_step_is q id lease h.job is h.named h.claimed,
        one_stands r cs c q id Delete None counts next (ops ∙ ap kept_ops (finish_own id lease ts h)) tt fits refl (subst IsSome (sym is) refl) stands,
      );
}

-- ---- the exits of the call

module _ (id lease : ℕ) (now : ℤ) (policies : List Policy) (seg : Segments) where
  pub finish_not_begun : (a : Reach) (c d : CoreModel) (error : SlateDBError) → d ≡ c → IsBeginError c error → CallsAs {T = Unit} (λ done. Commits (IsFinishOf id lease) now c d) (λ done. model.Answer.Finished) (Call.Finish id lease) (FinishRefuses id lease policies a a c d) policies seg a a c d (Err (errors.Db error))
  finish_not_begun a c d error same h =
      subst (λ (v : CoreModel). CallsAs {T = Unit} (λ done. Commits (IsFinishOf id lease) now c v) (λ done. model.Answer.Finished) (Call.Finish id lease) (FinishRefuses id lease policies a a c v) policies seg a a c v (Err (errors.Db error))) (sym same)
      (not_begun {T = Unit} (λ done. Commits (IsFinishOf id lease) now c c) (λ done. model.Answer.Finished) (Call.Finish id lease) (FinishRefuses id lease policies a a c c) policies seg a a c error (reads_none a) h)

  pub finish_stopped_call : (before after : Reach) (c d f : CoreModel) (tx : List ℕ) (e : QueueError) → id < 2 ^ 64 → OnlyReads before after → Attempts {T = Unit} (λ done. Finishes id lease) (FinishStops id lease) policies before after c tx d (Err e) →
      HasEnded c tx SerializableSnapshot f → CallsAs {T = Unit} (λ done. Commits (IsFinishOf id lease) now c f) (λ done. model.Answer.Finished) (Call.Finish id lease) (FinishRefuses id lease policies before after c f) policies seg before after c f (Err e)
  finish_stopped_call before after c d f tx e fits reads h ended =
      stopped {T = Unit} (λ done. Commits (IsFinishOf id lease) now c f) (λ done. model.Answer.Finished) (Call.Finish id lease) (FinishRefuses id lease policies before after c f) policies seg (FinishStops id lease) before after c d f tx e reads h.refused ended
      (λ s. s) (λ q ts stands sees s. finish_stopped (rules_of c.settings before.meaning) c.state.commits (newest c) q id lease e ts fits stands sees s)

  pub finish_uncommitted : (before middle after : Reach) (c d f : CoreModel) (tx : List ℕ) (done : Unit) (error : SlateDBError) → id < 2 ^ 64 → OnlyReads before middle → OnlyReads middle after →
      (h : Attempts {T = Unit} (λ done. Finishes id lease) (FinishStops id lease) policies before middle c tx d (Ok done)) → HasEnded c tx SerializableSnapshot f → IsFault middle after error ⊎ ((error ≡ SequenceExhausted) × (newest c ≡ 2 ^ 64 - 2)) →
      CallsAs {T = Unit} (λ done. Commits (IsFinishOf id lease) now c f) (λ done. model.Answer.Finished) (Call.Finish id lease) (FinishRefuses id lease policies before after c f) policies seg before after c f (Err (errors.Db error))
  finish_uncommitted before middle after c d f tx done error fits first later h ended why =
      uncommitted {T = Unit} (λ done. Commits (IsFinishOf id lease) now c f) (λ done. model.Answer.Finished) (Call.Finish id lease) (FinishRefuses id lease policies before after c f) policies seg (Finishes id lease) before middle after c d f tx error first (reads_then before middle after first later)
      h.done ended why (λ q ts stands sees finishes. may_perform before.meaning (Call.Finish id lease) model.Answer.Finished c ts refl (finish_performs id lease ts fits finishes).tells q stands sees)

  pub finish_answered : (before middle after : Reach) (c d f : CoreModel) (tx : List ℕ) (done : Unit) (n : Option ℕ) → id < 2 ^ 64 → OnlyReads before middle → OnlyReads middle after →
      (h : Attempts {T = Unit} (λ done. Finishes id lease) (FinishStops id lease) policies before middle c tx d (Ok done)) → HasCommitted c tx SerializableSnapshot h.done.steps n now f → newest c ≢ 2 ^ 64 - 2 → (IsKept before.meaning c → IsKept before.meaning f) → (IsSegmented seg c → IsSegmented seg f) →
      CallsAs {T = Unit} (λ done. Commits (IsFinishOf id lease) now c f) (λ done. model.Answer.Finished) (Call.Finish id lease) (FinishRefuses id lease policies before after c f) policies seg before after c f (Ok done)
  finish_answered before middle after c d f tx done n fits first later h committed left kept segmented =
      let made = has_seq c f tx h.done.steps n now (finish_some id lease h.done.steps h.done.is) committed in
      answered {T = Unit} (λ done. Commits (IsFinishOf id lease) now c f) (λ done. model.Answer.Finished) (Call.Finish id lease) (FinishRefuses id lease policies before after c f) policies seg (Finishes id lease) before middle after c d f tx done first later h.done
      (finish_commits id lease tx h.done.steps c f made.0 now fits h.done.is made.1 left)
      (keeps_committed policies seg before after c f tx h.done.steps (Some made.0) now (reads_then before middle after first later) made.1 kept segmented (λ s. h.done.sees seg (checked_in policies seg before middle c s))
      (record { serializable = refl; does = inr (inr (finish_form id lease h.done.steps fits h.done.is).0) })
      (let one : length (own_of h.done.steps) ≡ 1 = ap length (finish_own id lease h.done.steps h.done.is) in omega arith))
      (λ q stands sees. performed before.meaning (Call.Finish id lease) model.Answer.Finished c f tx h.done.steps made.0 now (finish_performs id lease h.done.steps fits h.done.is) made.1 q stands sees)
