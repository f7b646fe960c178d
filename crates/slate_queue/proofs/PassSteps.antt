-- Attempts within a transaction of a database that threads share, from what its reads and puts say.
use Rattle.std.proofs.Common.{◌≡◌, ◌⊎◌, inl, inr, ℕ, ◌+◌, ◌<◌, List, [], ◌∷◌, ◌++◌, Option, Some, None, Result, Ok, Err, refl, sym, ap, subst}
use Rattle.std.specs.Prelude.{IfOk, IfErr, OnErr, OnOk}
use Rattle.slate_types.specs.declared.config.IsolationLevel.TheVariants.{SerializableSnapshot}
use Rattle.slate_types.specs.declared.config.Options.{Options}
use Rattle.slate_types.specs.declared.error.SlateDBError.{SlateDBError}
use Rattle.slate_types.specs.declared.error.SlateDBError.TheVariants.{OutOfMemory}
use Rattle.slate_types.specs.declared.types.KeyValue.{KeyValue}
use Rattle.slate_types.specs.Outside.{IsFault, Reach}
use Rattle.slate_filter.specs.Policy.{Policy}
use Rattle.slate_mem.specs.declared.WriteOp.TheVariants.{Delete}
use Rattle.slate_mem.specs.Batch.{Ops}
use Rattle.slate_txn.specs.declared.event.Event.{Event}
use Rattle.slate_txn.specs.declared.event.TranscriptStep.{TranscriptStep}
use Rattle.slate_txn.specs.declared.event.TranscriptStep.TheVariants as steps
use Rattle.slate_db.specs.Meaning.{Meaning}
use Rattle.slate_shared.specs.Passes.{Opened}
use Rattle.slate_steps.specs.Attempts.{IsAttempt, IsReadErrorOn, IsStoreChecked, IsStoreTrue, IsVouchedThere}
use Rattle.slate_queue.specs.declared.error.QueueError.{QueueError}
use Rattle.slate_queue.specs.declared.error.QueueError.TheVariants as errors
use Rattle.slate_queue.specs.Stored.{counter_in, counter_key, job_key}
use Rattle.slate_queue.specs.Jobs.{last_number}
use Rattle.slate_queue.specs.Commits.{added}
use Rattle.slate_queue.specs.CallSteps.{AddStops, Adds, Counts, FinishStops, Finishes, counter_refusal, job_refusal, own_steps, value_of}
use Rattle.slate_queue.specs.OnPass.{AttemptsOn, IsReadRefusal}
use Rattle.slate_queue.specs.Standing.{job_in}
use Rattle.slate_queue.proofs.Attempting.{IsClaimedBy, claimed_by}
use Rattle.slate_queue.proofs.PassTruths.{begun_vouched}

module _ (o : Options) (m : Meaning) (policies : List Policy) (from : List Event) (before after : Reach) where
  pub memory_on : (seen : List Event) (e : QueueError) → e ≡ errors.Db OutOfMemory → IsReadRefusal o m policies before after seen e
  memory_on seen e is = record { error = OutOfMemory; is = is; undamaged = λ s. tt; cause = inl tt }

  -- the first read was refused
  pub refused_on : {T : Type 0} (means : T → List TranscriptStep → Type 0) (stops : QueueError → List TranscriptStep → Type 0) (t : Opened) (error : SlateDBError) → IsAttempt o from SerializableSnapshot [] t →
      (IsStoreTrue policies m t.seen before after → IsFault before after error) → IsReadErrorOn o policies before after t.seen error → AttemptsOn means stops o m policies from before after t (Err (errors.Db error))
  refused_on means stops t error attempt undamaged cause = record {
    done = tt;
    refused = record {
      steps = [];
      attempt = attempt;
      is = inr (record { error = error; is = refl; undamaged = undamaged; cause = cause });
      sees = λ s. begun_vouched o m from SerializableSnapshot t attempt;
    };
  }

  -- ---- an add

  pub counted_on : (t : Opened) (answer : Option KeyValue) (result : Result ℕ QueueError) → IsAttempt o from SerializableSnapshot (steps.Get counter_key answer ∷ []) t → (IsStoreChecked policies m t.seen before after → IsVouchedThere o m t) →
      IfOk result (λ new. (counter : ℕ) × (counter_in (value_of answer) ≡ Some counter) × (counter < last_number) × (new ≡ counter + 1)) →
      IfErr result (λ e. (e ≡ errors.Db OutOfMemory) ⊎ (counter_refusal (counter_in (value_of answer)) ≡ Some e)) → AttemptsOn Counts AddStops o m policies from before after t result
  counted_on t answer (Ok new) attempt sees h g = record {
    done = record { steps = steps.Get counter_key answer ∷ []; attempt = attempt; is = record { answer = answer; counter = h.0; read = h.1; left = h.2; is = h.3; steps = refl }; sees = sees };
    refused = tt;
  }
  counted_on t answer (Err e) attempt sees h g = record {
    done = tt;
    refused = record { steps = steps.Get counter_key answer ∷ []; attempt = attempt; is = by g; sees = sees };
  }
    where
      by : (e ≡ errors.Db OutOfMemory) ⊎ (counter_refusal (counter_in (value_of answer)) ≡ Some e) → AddStops e (steps.Get counter_key answer ∷ []) ⊎ IsReadRefusal o m policies before after t.seen e
      by (inl memory) = inr (memory_on t.seen e memory)
      by (inr refusal) = inl (record { answer = answer; refusal = refusal; steps = refl })

  pub add_refused_on : (payload : List ℕ) (t : Opened) (e : QueueError) → AttemptsOn Counts AddStops o m policies from before after t (Err e) → AttemptsOn (Adds payload) AddStops o m policies from before after t (Err e)
  add_refused_on payload t e h = record { done = tt; refused = h.refused }

  pub add_taken_on : (payload : List ℕ) (t u : Opened) (new : ℕ) → AttemptsOn Counts AddStops o m policies from before after t (Ok new) →
      ((ts : List TranscriptStep) → IsAttempt o from SerializableSnapshot ts t → IsAttempt o from SerializableSnapshot (ts ++ own_steps (added new payload)) u) → (IsVouchedThere o m t → IsVouchedThere o m u) → u.seen ≡ t.seen →
      AttemptsOn (Adds payload) AddStops o m policies from before after u (Ok new)
  add_taken_on payload t u new h more vouched seen = record {
    done = record {
      steps = h.done.steps ++ own_steps (added new payload);
      attempt = more h.done.steps h.done.attempt;
      is = record { first = h.done.steps; counts = h.done.is; steps = refl };
      sees = λ s. vouched (h.done.sees (subst (λ (es : List Event). IsStoreChecked policies m es before after) seen s));
    };
    refused = tt;
  }

  pub add_part_on : (payload : List ℕ) (t u : Opened) (new : ℕ) (e : QueueError) → AttemptsOn Counts AddStops o m policies from before after t (Ok new) → e ≡ errors.Db OutOfMemory →
      ((ts : List TranscriptStep) → IsAttempt o from SerializableSnapshot ts t → (some : Ops) × IsAttempt o from SerializableSnapshot (ts ++ own_steps some) u) → (IsVouchedThere o m t → IsVouchedThere o m u) → u.seen ≡ t.seen →
      AttemptsOn (Adds payload) AddStops o m policies from before after u (Err e)
  add_part_on payload t u new e h memory more vouched seen =
      let some : (some : Ops) × IsAttempt o from SerializableSnapshot (h.done.steps ++ own_steps some) u = more h.done.steps h.done.attempt in
      record {
        done = tt;
        refused = record {
          steps = h.done.steps ++ own_steps some.0;
          attempt = some.1;
          is = inr (memory_on u.seen e memory);
          sees = λ s. vouched (h.done.sees (subst (λ (es : List Event). IsStoreChecked policies m es before after) seen s));
        };
      }

  -- ---- a finish

  pub finish_refused_on : (job lease : ℕ) (k : List ℕ) (t : Opened) (answer : Option KeyValue) (e : QueueError) → k ≡ job_key job → IsAttempt o from SerializableSnapshot (steps.Get k answer ∷ []) t → (IsStoreChecked policies m t.seen before after → IsVouchedThere o m t) →
      (e ≡ errors.Db OutOfMemory) ⊎ (job_refusal job lease (job_in (value_of answer)) ≡ Some e) → AttemptsOn {T = Unit} (λ done. Finishes job lease) (FinishStops job lease) o m policies from before after t (Err e)
  finish_refused_on job lease k t answer e is attempt sees h = record {
    done = tt;
    refused = record { steps = steps.Get k answer ∷ []; attempt = attempt; is = by h; sees = sees };
  }
    where
      by : (e ≡ errors.Db OutOfMemory) ⊎ (job_refusal job lease (job_in (value_of answer)) ≡ Some e) → FinishStops job lease e (steps.Get k answer ∷ []) ⊎ IsReadRefusal o m policies before after t.seen e
      by (inl memory) = inr (memory_on t.seen e memory)
      by (inr refusal) = inl (record { answer = answer; refusal = refusal; steps = ap (λ (j : List ℕ). steps.Get j answer ∷ []) is })

  pub finish_deleted_on : (job lease : ℕ) (k : List ℕ) (t u : Opened) (answer : Option KeyValue) (result : Result Unit QueueError) → k ≡ job_key job → IsAttempt o from SerializableSnapshot (steps.Get k answer ∷ []) t → (IsStoreChecked policies m t.seen before after → IsVouchedThere o m t) →
      job_refusal job lease (job_in (value_of answer)) ≡ None → OnOk result (IsAttempt o from SerializableSnapshot (steps.Get k answer ∷ steps.Own k Delete ∷ []) u) → (IsVouchedThere o m t → IsVouchedThere o m u) → u.seen ≡ t.seen →
      OnErr result (u ≡ t) → IfErr result (λ e. e ≡ errors.Db OutOfMemory) → AttemptsOn (λ done. Finishes job lease) (FinishStops job lease) o m policies from before after u result
  finish_deleted_on job lease k t u answer (Ok done) is attempt sees named deleted vouched seen same memory =
      let found : IsClaimedBy lease answer = claimed_by job lease answer named in
      record {
        done = record {
          steps = steps.Get k answer ∷ steps.Own k Delete ∷ [];
          attempt = deleted;
          is = record {
            row = found.row;
            job = found.job;
            stands = found.stands;
            named = found.named;
            claimed = found.claimed;
            steps = λ i. steps.Get (is i) (found.is i) ∷ steps.Own (is i) Delete ∷ [];
          };
          sees = λ s. vouched (sees (subst (λ (es : List Event). IsStoreChecked policies m es before after) seen s));
        };
        refused = tt;
      }
  finish_deleted_on job lease k t u answer (Err e) is attempt sees named deleted vouched seen same memory = record {
    done = tt;
    refused = record {
      steps = steps.Get k answer ∷ [];
      attempt = subst (IsAttempt o from SerializableSnapshot (steps.Get k answer ∷ [])) (sym same) attempt;
      is = inr (memory_on u.seen e memory);
      sees = λ s. vouched (sees (subst (λ (es : List Event). IsStoreChecked policies m es before after) seen s));
    };
  }
