-- The attempt of a claim in a database that threads share: its scan, and the put of the job that it takes.
use Rattle.std.proofs.Common.{◌≡◌, ◌⊎◌, inl, inr, ℕ, ◌+◌, ◌<◌, ◌≤◌, ℤ, List, [], ◌∷◌, ◌++◌, drop, Option, Some, None, Result, Ok, Err, refl, sym, ap, subst, ◌∙◌}
use Rattle.std.specs.Prelude.{IfOk, IfErr, count_by}
use Rattle.slate_types.specs.declared.config.IsolationLevel.{IsolationLevel}
use Rattle.slate_types.specs.declared.config.IsolationLevel.TheVariants.{SerializableSnapshot}
use Rattle.slate_types.specs.declared.config.Options.{Options}
use Rattle.slate_types.specs.declared.iter.IterationOrder.TheVariants.{Ascending}
use Rattle.slate_types.specs.declared.types.KeyValue.{KeyValue}
use Rattle.slate_types.specs.declared.types.RowEntry.{RowEntry}
use Rattle.slate_types.specs.Keys.{prefix_range}
use Rattle.slate_types.specs.Outside.{Objects, OnlyReads, Reach}
use Rattle.slate_types.proofs.Reaching.{fault_earlier}
use Rattle.slate_filter.specs.Policy.{Policy}
use Rattle.slate_txn.specs.declared.event.Event.{Event}
use Rattle.slate_txn.specs.declared.event.TranscriptStep.{TranscriptStep}
use Rattle.slate_txn.specs.declared.event.TranscriptStep.TheVariants as steps
use Rattle.slate_txn.specs.State.{Tx}
use Rattle.slate_txn.specs.Step.{is_scan}
use Rattle.slate_db.specs.declared.scan.TxnIterator.{TxnIterator}
use Rattle.slate_db.specs.Meaning.{Meaning}
use Rattle.slate_db.specs.Scans.{IsScanOf}
use Rattle.slate_steps.proofs.Between.{from_last}
use Rattle.slate_steps.proofs.StoreTruth.{checked_earlier, checked_of, earlier_checked_os, met_last}
use Rattle.slate_shared.specs.Passes.{Opened}
use Rattle.slate_shared.proofs.Lists.{prefix_self}
use Rattle.slate_steps.specs.Attempts.{IsAttempt, IsReadErrorOn, IsReadingOn, IsScanSinceOn, IsStoreChecked, IsStoreTrue, IsVouchedThere}
use Rattle.slate_queue.specs.declared.claiming.FreeJob.{FreeJob}
use Rattle.slate_queue.specs.declared.claims.Claim.{Claim}
use Rattle.slate_queue.specs.declared.error.QueueError.{QueueError}
use Rattle.slate_queue.specs.Stored.{Job, job_bytes, jobs_prefix}
use Rattle.slate_queue.specs.Jobs.{last_number}
use Rattle.slate_queue.specs.Commits.{put_of}
use Rattle.slate_queue.specs.CallSteps.{ClaimStops, MayClaim, Takes, nexts, own_steps, scan_of_jobs}
use Rattle.slate_queue.specs.OnPass.{AttemptsOn, IsReadRefusal, TookOn}
use Rattle.slate_queue.specs.PassWalks.{IsOpenTo, IsUnderWay, RaisesOn, ScanFailsOn, WalkHalts, WalksOn, WalksToOn}
use Rattle.slate_queue.specs.Walks.{FindStops, IsFound, MayFind, RaiseStops, raised}
use Rattle.slate_queue.proofs.Finding.{same_job, takes_of}
use Rattle.slate_queue.proofs.FormLaws.{is_read}
use Rattle.slate_queue.proofs.PassSteps.{memory_on}

-- t: the transaction behind the opening of its scan; middle: what was reached then
pub record HasOpenedOn (o : Options) (m : Meaning) (policies : List Policy) (from : List Event) (before middle : Reach) (t : Opened) (x : TxnIterator) : Type 0 where
  pub attempt : IsAttempt o from SerializableSnapshot (scan_of_jobs ∷ []) t
  pub rows : List RowEntry
  pub reading : (s : IsStoreChecked policies m t.seen before middle) → IsReadingOn s.os o m t x rows
  pub vouched : IsVouchedThere o m t
  pub since : IsScanSinceOn o before middle t.seen x
  pub meaning : before.meaning ≡ m
  pub reads : OnlyReads before middle

module _ (now : ℤ) (o : Options) (m : Meaning) (policies : List Policy) (from : List Event) (before middle after : Reach) (t u : Opened) (x : TxnIterator) (opened : HasOpenedOn o m policies from before middle t x) (later : OnlyReads middle after) where
  open_to : (s : IsStoreChecked policies m t.seen before after) → IsOpenTo o m t x middle after s.os opened.rows
  open_to s = record {
    meaning = opened.reads.meaning ∙ opened.meaning;
    met = met_last m s.os before middle after opened.reads later s.met;
    reading =
        subst (λ (os : Objects). IsReadingOn os o m t x opened.rows) (earlier_checked_os policies m t.seen t.seen before middle after (prefix_self t.seen) opened.reads later s)
        (opened.reading (checked_earlier policies m t.seen t.seen before middle after (prefix_self t.seen) opened.reads later s));
  }

  checked_there : u.seen ≡ t.seen → IsStoreChecked policies m u.seen before after → IsStoreChecked policies m t.seen before after
  checked_there seen s = subst (λ (es : List Event). IsStoreChecked policies m es before after) seen s

  true_there : u.seen ≡ t.seen → IsStoreTrue policies m u.seen before after → IsStoreTrue policies m t.seen before after
  true_there seen s = subst (λ (es : List Event). IsStoreTrue policies m es before after) seen s

  walked_on : (means : List TranscriptStep → Type 0) (us : List TranscriptStep) → WalksOn o m middle after t u x us → means (scan_of_jobs ∷ us) → TookOn o m policies from before after means u
  walked_on means us walks is = record {
    steps = scan_of_jobs ∷ us;
    attempt = walks.attempt from SerializableSnapshot (scan_of_jobs ∷ []) opened.attempt;
    is = is;
    sees = λ s. let there : IsStoreChecked policies m t.seen before after = checked_there walks.seen s in walks.sees there.os opened.rows (open_to there) opened.vouched;
  }

  failed_on : (us : List TranscriptStep) (q : QueueError) → ScanFailsOn o m middle after t u x us q → IsReadRefusal o m policies before after u.seen q
  failed_on us q h = record {
    error = h.error;
    is = h.is;
    undamaged = λ s.
        let there : IsStoreTrue policies m t.seen before after = true_there h.walks.seen s in
        fault_earlier before middle after h.error opened.reads.later
        (h.undamaged there.os opened.rows (open_to (checked_of policies m t.seen before after there)) (from_last there.os before middle after opened.reads later there.answers));
    cause = subst (λ (es : List Event). IsReadErrorOn o policies before after es h.error) (sym h.walks.seen) (h.cause before policies opened.reads opened.since);
  }

  pub found_on : (result : Result (Option FreeJob) QueueError) → IfOk result (WalksToOn now o m middle after t u x) → IfErr result (WalkHalts now o m middle after t u x) → AttemptsOn (MayFind now) (FindStops now) o m policies from before after u result
  found_on (Ok None) h g = record { done = walked_on (MayFind now None) (nexts h.0 ++ (steps.Next 0 None ∷ [])) h.2 (record { passed = h.0; passes = h.1; steps = refl }); refused = tt }
  found_on (Ok (Some j)) h g = record { done = walked_on (MayFind now (Some j)) (nexts (h.0 ++ (j.row ∷ []))) h.3 (h.2, (h.0, h.1, refl)); refused = tt }
  found_on (Err q) h (WalkHalts.bad passed kv passes bad walks) = record {
    done = tt;
    refused = walked_on (λ ts. FindStops now q ts ⊎ IsReadRefusal o m policies before after u.seen q) (nexts (passed ++ (kv ∷ []))) walks (inl (record { passed = passed; kv = kv; passes = passes; bad = bad; steps = refl }));
  }
  found_on (Err q) h (WalkHalts.fails kvs fails) = record {
    done = tt;
    refused = walked_on (λ ts. FindStops now q ts ⊎ IsReadRefusal o m policies before after u.seen q) (nexts kvs) fails.walks (inr (failed_on (nexts kvs) q fails));
  }

-- ---- the job that is taken

module _ (now : ℤ) (ms : ℕ) (o : Options) (m : Meaning) (policies : List Policy) (from : List Event) (before after : Reach) (t : Opened) where
  pub none_claimed_on : AttemptsOn (MayFind now) (FindStops now) o m policies from before after t (Ok None) → AttemptsOn (MayClaim now ms) (ClaimStops now) o m policies from before after t (Ok None)
  none_claimed_on h = record { done = record { steps = h.done.steps; attempt = h.done.attempt; is = h.done.is; sees = h.done.sees }; refused = tt }

  pub not_found_on : (q : QueueError) → AttemptsOn (MayFind now) (FindStops now) o m policies from before after t (Err q) → AttemptsOn (MayClaim now ms) (ClaimStops now) o m policies from before after t (Err q)
  not_found_on q h = record { done = tt; refused = record { steps = h.refused.steps; attempt = h.refused.attempt; is = by h.refused.is; sees = h.refused.sees } }
    where
      by : FindStops now q h.refused.steps ⊎ IsReadRefusal o m policies before after t.seen q → ClaimStops now q h.refused.steps ⊎ IsReadRefusal o m policies before after t.seen q
      by (inl s) = inl (ClaimStops.bad s.passed s.kv s.passes s.bad s.steps)
      by (inr s) = inr s

  pub not_raised_on : (u : Opened) (j : FreeJob) (q : QueueError) → AttemptsOn (MayFind now) (FindStops now) o m policies from before after t (Ok (Some j)) → u ≡ t → RaiseStops j q → AttemptsOn (MayClaim now ms) (ClaimStops now) o m policies from before after u (Err q)
  not_raised_on u j q h same stops = subst (λ (v : Opened). AttemptsOn (MayClaim now ms) (ClaimStops now) o m policies from before after v (Err q)) (sym same) (record {
    done = tt;
    refused = record { steps = h.done.steps; attempt = h.done.attempt; is = by stops; sees = h.done.sees };
  })
    where
      found : IsFound now j
      found = h.done.is.0

      by : RaiseStops j q → ClaimStops now q h.done.steps ⊎ IsReadRefusal o m policies before after t.seen q
      by (inl s) = inl (ClaimStops.spent j.row j.id found.job (takes_of now j h.done.steps h.done.is) (let l : j.lease ≡ found.job.lease = found.lease in let k : last_number ≤ j.lease = s.0 in subst (λ (n : ℕ). last_number ≤ n) l k) s.1)
      by (inr s) = inr (memory_on o m policies from before after t.seen q s)

  pub claimed_on : (u : Opened) (j : FreeJob) (claim : Claim) → AttemptsOn (MayFind now) (FindStops now) o m policies from before after t (Ok (Some j)) → RaisesOn now ms o m j t u claim → AttemptsOn (MayClaim now ms) (ClaimStops now) o m policies from before after u (Ok (Some claim))
  claimed_on u j claim h r = record {
    done = record {
      steps = h.done.steps ++ own_steps ((j.row.key, put_of (job_bytes (raised now ms j))) ∷ []);
      attempt = r.attempt from SerializableSnapshot h.done.steps h.done.attempt;
      is = record {
        kv = j.row;
        job = found.job;
        first = h.done.steps;
        takes = subst (λ (n : ℕ). Takes now j.row n found.job h.done.steps) (sym r.job) (takes_of now j h.done.steps h.done.is);
        left = subst (λ (n : ℕ). n < last_number) found.lease r.left;
        raised = r.lease ∙ ap (λ (n : ℕ). n + 1) found.lease;
        carries = r.payload ∙ ap (λ (k : Job). k.payload) (is_read j.row.value found.job found.row.stands).is;
        steps = ap (λ (k : Job). h.done.steps ++ own_steps ((j.row.key, put_of (job_bytes k)) ∷ [])) (same_job now ms j found);
      };
      sees = λ s. r.sees (h.done.sees (subst (λ (es : List Event). IsStoreChecked policies m es before after) r.seen s));
    };
    refused = tt;
  }
    where
      found : IsFound now j
      found = h.done.is.0

-- the same attempts, whose moment is written otherwise
pub finds_on_at : (o : Options) (m : Meaning) (policies : List Policy) (from : List Event) (before after : Reach) (t : Opened) (y z : ℤ) (result : Result (Option FreeJob) QueueError) → y ≡ z → AttemptsOn (MayFind y) (FindStops y) o m policies from before after t result → AttemptsOn (MayFind z) (FindStops z) o m policies from before after t result
finds_on_at o m policies from before after t y z result same h = subst (λ (now : ℤ). AttemptsOn (MayFind now) (FindStops now) o m policies from before after t result) same h

pub claims_on_at : (o : Options) (m : Meaning) (policies : List Policy) (from : List Event) (before after : Reach) (t : Opened) (ms : ℕ) (y z : ℤ) (result : Result (Option Claim) QueueError) → y ≡ z → AttemptsOn (MayClaim y ms) (ClaimStops y) o m policies from before after t result → AttemptsOn (MayClaim z ms) (ClaimStops z) o m policies from before after t result
claims_on_at o m policies from before after t ms y z result same h = subst (λ (now : ℤ). AttemptsOn (MayClaim now ms) (ClaimStops now) o m policies from before after t result) same h

pub raises_on_at : (y z : ℤ) (ms : ℕ) (o : Options) (m : Meaning) (j : FreeJob) (t u : Opened) (claim : Claim) → y ≡ z → RaisesOn y ms o m j t u claim → RaisesOn z ms o m j t u claim
raises_on_at y z ms o m j t u claim same h = subst (λ (now : ℤ). RaisesOn now ms o m j t u claim) same h

-- the steps with the lease's end as the model has it
pub raised_attempt : (o : Options) (from : List Event) (level : IsolationLevel) (ts : List TranscriptStep) (u : Opened) (row : KeyValue) (lease : ℕ) (y z : ℤ) → y ≡ z →
    IsAttempt o from level (ts ++ own_steps ((row.key, put_of (job_bytes (record { lease = lease; ends = y; payload = drop 16 row.value }))) ∷ [])) u →
    IsAttempt o from level (ts ++ own_steps ((row.key, put_of (job_bytes (record { lease = lease; ends = z; payload = drop 16 row.value }))) ∷ [])) u
raised_attempt o from level ts u row lease y z same h = subst (λ (ends : ℤ). IsAttempt o from level (ts ++ own_steps ((row.key, put_of (job_bytes (record { lease = lease; ends = ends; payload = drop 16 row.value }))) ∷ [])) u) same h

-- the scan that was opened first
pub opened_walks : (o : Options) (from : List Event) (t u : Opened) (x : TxnIterator) → IsAttempt o from SerializableSnapshot [] t → IsScanOf t.id (count_by is_scan t.tx.transcript) Ascending (prefix_range jobs_prefix) x → u.id ≡ t.id →
    IsAttempt o from SerializableSnapshot (scan_of_jobs ∷ []) u → IsUnderWay o u x
opened_walks o from t u x begun named same attempt = record {
  from = from;
  taken = [];
  attempt = attempt;
  named = named.named ∙ sym same;
  first = named.number ∙ ap (λ (k : Tx). count_by is_scan k.transcript) begun.is;
}
