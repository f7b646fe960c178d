-- Attempts within a transaction, from what its reads and puts say.
use Rattle.std.proofs.Common.{◌≡◌, ◌⊎◌, inl, inr, ℕ, ◌+◌, ◌<◌, ◌≢◌, List, [], ◌∷◌, ◌++◌, Option, Some, None, Result, Ok, Err, refl, sym, ap, subst, Bool, true, false, cond, nat_eq, arith}
use Rattle.std.specs.Prelude.{IfOk, IfErr, OnErr, OnOk}
use Rattle.std.proofs.lemmas.Bool.Decides.{nat_tests}
use Rattle.slate_types.specs.declared.config.IsolationLevel.TheVariants.{SerializableSnapshot}
use Rattle.slate_types.specs.declared.error.SlateDBError.{SlateDBError}
use Rattle.slate_types.specs.declared.error.SlateDBError.TheVariants.{OutOfMemory}
use Rattle.slate_types.specs.declared.types.KeyValue.{KeyValue}
use Rattle.slate_types.specs.Outside.{IsFault, Reach}
use Rattle.slate_types.proofs.Reaching.{reads_none}
use Rattle.slate_filter.specs.Policy.{Policy}
use Rattle.slate_mem.specs.declared.WriteOp.TheVariants.{Delete}
use Rattle.slate_mem.specs.Batch.{Ops}
use Rattle.slate_mem.specs.KeyTests.{Segments}
use Rattle.slate_txn.specs.declared.event.TranscriptStep.{TranscriptStep}
use Rattle.slate_txn.specs.declared.event.TranscriptStep.TheVariants as steps
use Rattle.slate_db.specs.Model.{CoreModel}
use Rattle.slate_db.specs.Settled.{IsSettledIn}
use Rattle.slate_steps.specs.Reads.{IsChecked, IsReadError}
use Rattle.slate_steps.specs.Steps.{IsWithin, Sees}
use Rattle.slate_queue.specs.declared.error.QueueError.{QueueError}
use Rattle.slate_queue.specs.declared.error.QueueError.TheVariants as errors
use Rattle.slate_queue.specs.Stored.{Job, counter_in, counter_key, job_key}
use Rattle.slate_queue.specs.Jobs.{last_number}
use Rattle.slate_queue.specs.Commits.{added}
use Rattle.slate_queue.specs.CallSteps.{AddStops, Adds, Counts, FinishStops, Finishes, counter_refusal, job_refusal, own_steps, value_of}
use Rattle.slate_queue.specs.Calls.{Attempts, IsDbRefusal}
use Rattle.slate_queue.specs.Standing.{job_in}
use Rattle.slate_queue.proofs.CallLaws.{sees_more}

-- ---- a job that was claimed

none_some : {X : Type 0} {A : Type 0} (x : X) → Some x ≡ None → A
none_some x e = cc

pub record IsClaimedBy (lease : ℕ) (answer : Option KeyValue) : Type 0 where
  pub row : KeyValue
  pub is : answer ≡ Some row
  pub job : Job
  pub stands : job_in (Some row.value) ≡ Some (Some job)
  pub named : job.lease ≡ lease
  pub claimed : lease ≢ 0

pub claimed_by : (id lease : ℕ) (answer : Option KeyValue) → job_refusal id lease (job_in (value_of answer)) ≡ None → IsClaimedBy lease answer
claimed_by id lease None e = none_some (errors.NoJob id) e
claimed_by id lease (Some row) e = by (job_in (Some row.value)) refl e
  where
    by : (o : Option (Option Job)) → job_in (Some row.value) ≡ o → job_refusal id lease o ≡ None → IsClaimedBy lease (Some row)
    by None h f = none_some (errors.BadJob (job_key id)) f
    by (Some None) h f = none_some (errors.NoJob id) f
    by (Some (Some j)) h f = on (nat_eq j.lease lease) refl (nat_eq lease 0) refl f
      where
        on : (a : Bool) → nat_eq j.lease lease ≡ a → (b : Bool) → nat_eq lease 0 ≡ b → cond a (cond b (Some (errors.StaleLease j.lease)) None) (Some (errors.StaleLease j.lease)) ≡ None → IsClaimedBy lease (Some row)
        on true p true q g = none_some (errors.StaleLease j.lease) g
        on true p false q g = record { row = row; is = refl; job = j; stands = h; named = grind (arith, nat_tests); claimed = grind (arith, nat_tests) }
        on false p b q g = none_some (errors.StaleLease j.lease) g

module _ (policies : List Policy) (before after : Reach) (c : CoreModel) (id : List ℕ) where
  pub for_memory : (e : QueueError) → e ≡ errors.Db OutOfMemory → IsDbRefusal policies before after c id e
  for_memory e is = record { error = OutOfMemory; is = is; undamaged = λ g s. tt; cause = inl refl }

  -- the first read was refused
  pub read_refused : {T : Type 0} (means : T → List TranscriptStep → Type 0) (stops : QueueError → List TranscriptStep → Type 0) (d f : CoreModel) (error : SlateDBError) → IsWithin c id SerializableSnapshot [] d → f ≡ d →
      ((g : Segments) → IsSettledIn policies g before c → IsFault before after error) → IsReadError policies before after d error → Attempts means stops policies before after c id f (Err (errors.Db error))
  read_refused means stops d f error within same undamaged cause = record {
    done = tt;
    refused = record {
      steps = [];
      within = subst (IsWithin c id SerializableSnapshot []) (sym same) within;
      is = inr (record {
        error = error;
        is = refl;
        undamaged = undamaged;
        cause = inr (record { taken = []; core = d; within = within; from = before; upto = after; first = reads_none before; later = reads_none after; refused = cause });
      });
      sees = λ g s. tt;
    };
  }

  -- ---- an add

  pub counted : (d : CoreModel) (answer : Option KeyValue) (result : Result ℕ QueueError) → IsWithin c id SerializableSnapshot (steps.Get counter_key answer ∷ []) d →
      ((g : Segments) → IsChecked policies g before after c → Sees before.meaning c (steps.Get counter_key answer ∷ [])) →
      IfOk result (λ new. (counter : ℕ) × (counter_in (value_of answer) ≡ Some counter) × (counter < last_number) × (new ≡ counter + 1)) →
      IfErr result (λ e. (e ≡ errors.Db OutOfMemory) ⊎ (counter_refusal (counter_in (value_of answer)) ≡ Some e)) → Attempts Counts AddStops policies before after c id d result
  counted d answer (Ok new) within sees h g = record {
    done = record { steps = steps.Get counter_key answer ∷ []; within = within; is = record { answer = answer; counter = h.0; read = h.1; left = h.2; is = h.3; steps = refl }; sees = sees };
    refused = tt;
  }
  counted d answer (Err e) within sees h g = record {
    done = tt;
    refused = record { steps = steps.Get counter_key answer ∷ []; within = within; is = by g; sees = sees };
  }
    where
      by : (e ≡ errors.Db OutOfMemory) ⊎ (counter_refusal (counter_in (value_of answer)) ≡ Some e) → AddStops e (steps.Get counter_key answer ∷ []) ⊎ IsDbRefusal policies before after c id e
      by (inl memory) = inr (for_memory e memory)
      by (inr refusal) = inl (record { answer = answer; refusal = refusal; steps = refl })

  pub add_refused : (payload : List ℕ) (d : CoreModel) (e : QueueError) → Attempts Counts AddStops policies before after c id d (Err e) → Attempts (Adds payload) AddStops policies before after c id d (Err e)
  add_refused payload d e h = record { done = tt; refused = h.refused }

  pub add_taken : (payload : List ℕ) (d f : CoreModel) (new : ℕ) → Attempts Counts AddStops policies before after c id d (Ok new) →
      ((ts : List TranscriptStep) → IsWithin c id SerializableSnapshot ts d → IsWithin c id SerializableSnapshot (ts ++ own_steps (added new payload)) f) → Attempts (Adds payload) AddStops policies before after c id f (Ok new)
  add_taken payload d f new h more = record {
    done = record {
      steps = h.done.steps ++ own_steps (added new payload);
      within = more h.done.steps h.done.within;
      is = record { first = h.done.steps; counts = h.done.is; steps = refl };
      sees = λ g s. sees_more before.meaning c h.done.steps (added new payload) (h.done.sees g s);
    };
    refused = tt;
  }

  pub add_part : (payload : List ℕ) (d f : CoreModel) (new : ℕ) (e : QueueError) → Attempts Counts AddStops policies before after c id d (Ok new) → e ≡ errors.Db OutOfMemory →
      ((ts : List TranscriptStep) → IsWithin c id SerializableSnapshot ts d → (some : Ops) × IsWithin c id SerializableSnapshot (ts ++ own_steps some) f) → Attempts (Adds payload) AddStops policies before after c id f (Err e)
  add_part payload d f new e h memory more =
      let some : (some : Ops) × IsWithin c id SerializableSnapshot (h.done.steps ++ own_steps some) f = more h.done.steps h.done.within in
      record {
        done = tt;
        refused = record {
          steps = h.done.steps ++ own_steps some.0;
          within = some.1;
          is = inr (for_memory e memory);
          sees = λ g s. sees_more before.meaning c h.done.steps some.0 (h.done.sees g s);
        };
      }

  -- ---- a finish

  pub finish_refused : (job lease : ℕ) (k : List ℕ) (d : CoreModel) (answer : Option KeyValue) (e : QueueError) → k ≡ job_key job → IsWithin c id SerializableSnapshot (steps.Get k answer ∷ []) d →
      ((g : Segments) → IsChecked policies g before after c → Sees before.meaning c (steps.Get k answer ∷ [])) →
      (e ≡ errors.Db OutOfMemory) ⊎ (job_refusal job lease (job_in (value_of answer)) ≡ Some e) → Attempts {T = Unit} (λ done. Finishes job lease) (FinishStops job lease) policies before after c id d (Err e)
  finish_refused job lease k d answer e is within sees h = record {
    done = tt;
    refused = record { steps = steps.Get k answer ∷ []; within = within; is = by h; sees = sees };
  }
    where
      by : (e ≡ errors.Db OutOfMemory) ⊎ (job_refusal job lease (job_in (value_of answer)) ≡ Some e) → FinishStops job lease e (steps.Get k answer ∷ []) ⊎ IsDbRefusal policies before after c id e
      by (inl memory) = inr (for_memory e memory)
      by (inr refusal) = inl (record { answer = answer; refusal = refusal; steps = ap (λ (j : List ℕ). steps.Get j answer ∷ []) is })

  pub finish_deleted : (job lease : ℕ) (k : List ℕ) (d f : CoreModel) (answer : Option KeyValue) (result : Result Unit QueueError) → k ≡ job_key job → IsWithin c id SerializableSnapshot (steps.Get k answer ∷ []) d →
      ((g : Segments) → IsChecked policies g before after c → Sees before.meaning c (steps.Get k answer ∷ [])) → job_refusal job lease (job_in (value_of answer)) ≡ None →
      OnOk result (IsWithin c id SerializableSnapshot (steps.Get k answer ∷ steps.Own k Delete ∷ []) f) → OnErr result (f ≡ d) → IfErr result (λ e. e ≡ errors.Db OutOfMemory) →
      Attempts (λ done. Finishes job lease) (FinishStops job lease) policies before after c id f result
  finish_deleted job lease k d f answer (Ok done) is within sees named deleted same memory =
      let found : IsClaimedBy lease answer = claimed_by job lease answer named in
      record {
        done = record {
          steps = steps.Get k answer ∷ steps.Own k Delete ∷ [];
          within = deleted;
          is = record {
            row = found.row;
            job = found.job;
            stands = found.stands;
            named = found.named;
            claimed = found.claimed;
            steps = λ i. steps.Get (is i) (found.is i) ∷ steps.Own (is i) Delete ∷ [];
          };
          sees = λ g s. sees_more before.meaning c (steps.Get k answer ∷ []) ((k, Delete) ∷ []) (sees g s);
        };
        refused = tt;
      }
  finish_deleted job lease k d f answer (Err e) is within sees named deleted same memory = record {
    done = tt;
    refused = record { steps = steps.Get k answer ∷ []; within = subst (IsWithin c id SerializableSnapshot (steps.Get k answer ∷ [])) (sym same) within; is = inr (for_memory e memory); sees = sees };
  }
