-- The attempt of a claim: its scan, and the put of the job that it takes.
use Rattle.std.proofs.Common.{◌≡◌, ◌⊎◌, inl, inr, ℕ, ◌+◌, ◌<◌, ◌≤◌, ℤ, List, [], ◌∷◌, ◌++◌, Option, Some, None, Result, Ok, Err, refl, sym, ap, subst, ◌∙◌}
use Rattle.std.specs.Prelude.{IfOk, IfErr}
use Rattle.slate_types.specs.declared.config.IsolationLevel.TheVariants.{SerializableSnapshot}
use Rattle.slate_types.specs.declared.types.RowEntry.{RowEntry}
use Rattle.slate_types.specs.Outside.{Meaning, OnlyReads, Reach}
use Rattle.slate_types.proofs.Reaching.{fault_earlier, reads_none}
use Rattle.slate_filter.specs.Policy.{Policy}
use Rattle.slate_mem.specs.KeyTests.{Segments}
use Rattle.slate_txn.specs.declared.event.TranscriptStep.{TranscriptStep}
use Rattle.slate_txn.specs.declared.event.TranscriptStep.TheVariants as steps
use Rattle.slate_db.specs.declared.scan.TxnIterator.{TxnIterator}
use Rattle.slate_db.specs.Model.{CoreModel}
use Rattle.slate_db.specs.Scans.{id_of}
use Rattle.slate_steps.specs.Reads.{IsChecked, IsReading, IsScanSince}
use Rattle.slate_steps.specs.Steps.{IsWithin}
use Rattle.slate_steps.proofs.StoreTruth.{IsToldIn, checked_before, checked_told}
use Rattle.slate_queue.specs.declared.claiming.FreeJob.{FreeJob}
use Rattle.slate_queue.specs.declared.claims.Claim.{Claim}
use Rattle.slate_queue.specs.declared.error.QueueError.{QueueError}
use Rattle.slate_queue.specs.Stored.{Job, job_bytes}
use Rattle.slate_queue.specs.Jobs.{last_number, lease_end, leased}
use Rattle.slate_queue.specs.Commits.{put_of}
use Rattle.slate_queue.specs.CallSteps.{ClaimStops, MayClaim, Takes, nexts, own_steps, scan_of_jobs}
use Rattle.slate_queue.specs.Calls.{Attempts, IsDbRefusal, Took}
use Rattle.slate_queue.specs.Walks.{FindStops, IsFound, MayFind, RaiseStops, Raises, ScanFails, WalkStops, Walks, WalksTo, raised}
use Rattle.slate_queue.proofs.Attempting.{for_memory}
use Rattle.slate_queue.proofs.CallLaws.{sees_more}
use Rattle.slate_queue.proofs.FormLaws.{is_read}
use Rattle.slate_queue.proofs.WalkLaws.{walks_from}

-- d: the core before the scan, e: behind its opening; middle: what was reached then
pub record HasOpened (policies : List Policy) (before middle : Reach) (c d e : CoreModel) (id : List ℕ) (it : TxnIterator) : Type 0 where
  pub within_before : IsWithin c id SerializableSnapshot [] d
  pub within : IsWithin c id SerializableSnapshot (scan_of_jobs ∷ []) e
  pub named : id_of it ≡ id
  pub rows : List RowEntry
  pub reading : (g : Segments) (s : IsChecked policies g before middle c) → IsReading s.os before.meaning c (scan_of_jobs ∷ []) it rows
  pub since : IsScanSince before middle d it
  pub reads : OnlyReads before middle

module _ (now : ℤ) (policies : List Policy) (before middle after : Reach) (c d e f : CoreModel) (id : List ℕ) (it : TxnIterator) (opened : HasOpened policies before middle c d e id it) (later : OnlyReads middle after) where
  walked : (means : List TranscriptStep → Type 0) (us : List TranscriptStep) → Walks middle after e f it us → means (scan_of_jobs ∷ us) → Took policies before after c id means f
  walked means us walks is = record {
    steps = scan_of_jobs ∷ us;
    within = subst (λ (i : List ℕ). IsWithin c i SerializableSnapshot (scan_of_jobs ∷ us) f) opened.named
        (walks.within c SerializableSnapshot (scan_of_jobs ∷ []) (subst (λ (i : List ℕ). IsWithin c i SerializableSnapshot (scan_of_jobs ∷ []) e) (sym opened.named) opened.within));
    is = is;
    sees = λ g s.
        (walks_from before middle after e f it us opened.reads later walks).sees c (scan_of_jobs ∷ []) s.os opened.rows s.met
        (opened.reading g (checked_before policies g before middle after c opened.reads later s)) tt;
  }

  failed : (us : List TranscriptStep) (q : QueueError) → ScanFails middle after e f it us q → IsDbRefusal policies before after c id q
  failed us q h = record {
    error = h.error;
    is = h.is;
    undamaged = λ g s.
        let there : IsToldIn policies g before middle c = checked_told policies g before middle c s in
        fault_earlier before middle after h.error opened.reads.later
        (h.undamaged c (scan_of_jobs ∷ []) there.checked.os opened.rows (opened.reads.objects ∙ there.told)
        (subst (λ (m : Meaning). IsReading there.checked.os m c (scan_of_jobs ∷ []) it opened.rows) (sym opened.reads.meaning) (opened.reading g there.checked)));
    cause = inr (record {
      taken = [];
      core = d;
      within = opened.within_before;
      from = before;
      upto = after;
      first = reads_none before;
      later = reads_none after;
      refused = h.cause d before policies opened.reads opened.since;
    });
  }

  pub found_by : (result : Result (Option FreeJob) QueueError) → IfOk result (WalksTo now middle after e f it) → IfErr result (WalkStops now middle after e f it) → Attempts (MayFind now) (FindStops now) policies before after c id f result
  found_by (Ok None) h g = record { done = walked (MayFind now None) (nexts h.0 ++ (steps.Next 0 None ∷ [])) h.2 (record { passed = h.0; passes = h.1; steps = refl }); refused = tt }
  found_by (Ok (Some j)) h g = record { done = walked (MayFind now (Some j)) (nexts (h.0 ++ (j.row ∷ []))) h.3 (h.2, (h.0, h.1, refl)); refused = tt }
  found_by (Err q) h (WalkStops.bad passed kv passes bad walks) = record {
    done = tt;
    refused = walked (λ ts. FindStops now q ts ⊎ IsDbRefusal policies before after c id q) (nexts (passed ++ (kv ∷ []))) walks (inl (record { passed = passed; kv = kv; passes = passes; bad = bad; steps = refl }));
  }
  found_by (Err q) h (WalkStops.fails kvs fails) = record {
    done = tt;
    refused = walked (λ ts. FindStops now q ts ⊎ IsDbRefusal policies before after c id q) (nexts kvs) fails.walks (inr (failed (nexts kvs) q fails));
  }

-- ---- the job that is taken

pub same_job : (now : ℤ) (ms : ℕ) (j : FreeJob) (found : IsFound now j) → raised now ms j ≡ leased now ms found.job
same_job now ms j found = λ i. record { lease = found.lease i + 1; ends = lease_end now ms; payload = (ap (λ (k : Job). k.payload) (is_read j.row.value found.job found.row.stands).is) i }

pub takes_of : (now : ℤ) (j : FreeJob) (ts : List TranscriptStep) (h : MayFind now (Some j) ts) → Takes now j.row j.id h.0.job ts
takes_of now j ts h = record { passed = h.1.0; passes = h.1.1; row = h.0.row; steps = h.1.2 }

module _ (now : ℤ) (ms : ℕ) (policies : List Policy) (before after : Reach) (c d : CoreModel) (id : List ℕ) where
  pub none_claimed : Attempts (MayFind now) (FindStops now) policies before after c id d (Ok None) → Attempts (MayClaim now ms) (ClaimStops now) policies before after c id d (Ok None)
  none_claimed h = record { done = record { steps = h.done.steps; within = h.done.within; is = h.done.is; sees = h.done.sees }; refused = tt }

  pub not_found : (q : QueueError) → Attempts (MayFind now) (FindStops now) policies before after c id d (Err q) → Attempts (MayClaim now ms) (ClaimStops now) policies before after c id d (Err q)
  not_found q h = record { done = tt; refused = record { steps = h.refused.steps; within = h.refused.within; is = by h.refused.is; sees = h.refused.sees } }
    where
      by : FindStops now q h.refused.steps ⊎ IsDbRefusal policies before after c id q → ClaimStops now q h.refused.steps ⊎ IsDbRefusal policies before after c id q
      by (inl s) = inl (ClaimStops.bad s.passed s.kv s.passes s.bad s.steps)
      by (inr s) = inr s

  pub not_raised : (f : CoreModel) (j : FreeJob) (q : QueueError) → Attempts (MayFind now) (FindStops now) policies before after c id d (Ok (Some j)) → f ≡ d → RaiseStops j q → Attempts (MayClaim now ms) (ClaimStops now) policies before after c id f (Err q)
  not_raised f j q h same stops = record {
    done = tt;
    refused = record { steps = h.done.steps; within = subst (IsWithin c id SerializableSnapshot h.done.steps) (sym same) h.done.within; is = by stops; sees = h.done.sees };
  }
    where
      found : IsFound now j
      found = h.done.is.0

      by : RaiseStops j q → ClaimStops now q h.done.steps ⊎ IsDbRefusal policies before after c id q
      by (inl s) = inl (ClaimStops.spent j.row j.id found.job (takes_of now j h.done.steps h.done.is) (let l : j.lease ≡ found.job.lease = found.lease in let m : last_number ≤ j.lease = s.0 in subst (λ (n : ℕ). last_number ≤ n) l m) s.1)
      by (inr s) = inr (for_memory policies before after c id q s)

  pub claimed : (f : CoreModel) (j : FreeJob) (claim : Claim) → Attempts (MayFind now) (FindStops now) policies before after c id d (Ok (Some j)) → Raises now ms j d f id claim → Attempts (MayClaim now ms) (ClaimStops now) policies before after c id f (Ok (Some claim))
  claimed f j claim h r = record {
    done = record {
      steps = h.done.steps ++ own_steps ((j.row.key, put_of (job_bytes (raised now ms j))) ∷ []);
      within = r.within c SerializableSnapshot h.done.steps h.done.within;
      is = record {
        kv = j.row;
        job = found.job;
        first = h.done.steps;
        takes = subst (λ (n : ℕ). Takes now j.row n found.job h.done.steps) (sym r.job) (takes_of now j h.done.steps h.done.is);
        left = subst (λ (n : ℕ). n < last_number) found.lease r.left;
        raised = r.lease ∙ ap (λ (n : ℕ). n + 1) found.lease;
        carries = r.payload ∙ ap (λ (k : Job). k.payload) (is_read j.row.value found.job found.row.stands).is;
        steps = ap (λ (k : Job). h.done.steps ++ own_steps ((j.row.key, put_of (job_bytes k)) ∷ [])) (same_job now ms j found);
      };
      sees = λ g s. sees_more before.meaning c h.done.steps ((j.row.key, put_of (job_bytes (raised now ms j))) ∷ []) (h.done.sees g s);
    };
    refused = tt;
  }
    where
      found : IsFound now j
      found = h.done.is.0

-- the same attempts, whose moment is written otherwise
pub finds_at : (policies : List Policy) (before after : Reach) (c d : CoreModel) (id : List ℕ) (y z : ℤ) (result : Result (Option FreeJob) QueueError) → y ≡ z → Attempts (MayFind y) (FindStops y) policies before after c id d result → Attempts (MayFind z) (FindStops z) policies before after c id d result
finds_at policies before after c d id y z result same h = subst (λ (now : ℤ). Attempts (MayFind now) (FindStops now) policies before after c id d result) same h

pub claims_at : (policies : List Policy) (before after : Reach) (c d : CoreModel) (id : List ℕ) (ms : ℕ) (y z : ℤ) (result : Result (Option Claim) QueueError) → y ≡ z → Attempts (MayClaim y ms) (ClaimStops y) policies before after c id d result → Attempts (MayClaim z ms) (ClaimStops z) policies before after c id d result
claims_at policies before after c d id ms y z result same h = subst (λ (now : ℤ). Attempts (MayClaim now ms) (ClaimStops now) policies before after c id d result) same h

pub raises_at : (y z : ℤ) (ms : ℕ) (j : FreeJob) (d e : CoreModel) (id : List ℕ) (claim : Claim) → y ≡ z → Raises y ms j d e id claim → Raises z ms j d e id claim
raises_at y z ms j d e id claim same h = subst (λ (now : ℤ). Raises now ms j d e id claim) same h
