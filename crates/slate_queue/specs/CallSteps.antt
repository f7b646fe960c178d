-- The steps of calls on a queue within their transactions, and those of calls that stop.
--     value_of a      the bytes that a get was answered
--     own_steps ops, nexts kvs, scan_of_jobs      steps of operations of one's own; of a scan that hands out these rows; its opening
--     Counts id, Adds payload id, AddStops e      of an add: the read of the counter; it, and the puts; a read that stops it
--     HasLease value lease      the value is a job under this lease
--     Finishes id lease, FinishStops id lease e      of a finish
--     Takes now kv id job, Claims now ms claim, FindsNone now, MayClaim, ClaimStops now e      of a claim: the scan to its row; it, and the put; a scan to the end; a scan that stops it
use Rattle.std.specs.Prelude.{◌≡◌, ◌≢◌, ℕ, ◌+◌, ◌<◌, ◌≤◌, ◌^◌, ℤ, if◌then◌else◌, nat_eq, nat_le, List, [], ◌∷◌, ◌++◌, map, Option, Some, None, option_map}
use Rattle.std.specs.List.{AllByRecursion}
use Rattle.slate_types.specs.declared.iter.IterationOrder.TheVariants.{Ascending}
use Rattle.slate_types.specs.declared.types.KeyValue.{KeyValue}
use Rattle.slate_types.specs.Keys.{prefix_range}
use Rattle.slate_mem.specs.declared.WriteOp.TheVariants.{Delete}
use Rattle.slate_mem.specs.Batch.{Ops}
use Rattle.slate_txn.specs.declared.event.TranscriptStep.{TranscriptStep}
use Rattle.slate_txn.specs.declared.event.TranscriptStep.TheVariants as steps
use Rattle.slate_queue.specs.declared.claims.Claim.{Claim}
use Rattle.slate_queue.specs.declared.error.QueueError.{QueueError}
use Rattle.slate_queue.specs.declared.error.QueueError.TheVariants as errors
use Rattle.slate_queue.specs.declared.stored.LeaseHead.{LeaseHead}
use Rattle.slate_queue.specs.Forms.{head_of}
use Rattle.slate_queue.specs.Stored.{Job, counter_key, counter_in, job_bytes, job_key, jobs_prefix}
use Rattle.slate_queue.specs.Jobs.{last_number, leased}
use Rattle.slate_queue.specs.Commits.{IsPassed, added, put_of}
use Rattle.slate_queue.specs.FirstFree.{IsFreeRow}
use Rattle.slate_queue.specs.Standing.{job_in}

abbrev pub value_of : Option KeyValue → Option (List ℕ)
value_of a = option_map (λ kv. kv.value) a

abbrev pub own_steps : Ops → List TranscriptStep
own_steps ops = map (λ o. steps.Own o.0 o.1) ops

-- ---- of an add

abbrev pub counter_refusal : Option ℕ → Option QueueError
counter_refusal None = Some (errors.BadJob counter_key)
counter_refusal (Some counter) = if nat_le last_number counter then Some errors.IdsSpent else None

pub record Counts (id : ℕ) (ts : List TranscriptStep) : Type 0 where
  pub answer : Option KeyValue
  pub counter : ℕ
  pub read : counter_in (value_of answer) ≡ Some counter
  pub left : counter < last_number
  pub is : id ≡ counter + 1
  pub steps : ts ≡ steps.Get counter_key answer ∷ []

pub record Adds (payload : List ℕ) (id : ℕ) (ts : List TranscriptStep) : Type 0 where
  pub first : List TranscriptStep
  pub counts : Counts id first
  pub steps : ts ≡ first ++ own_steps (added id payload)

pub record AddStops (e : QueueError) (ts : List TranscriptStep) : Type 0 where
  pub answer : Option KeyValue
  pub refusal : counter_refusal (counter_in (value_of answer)) ≡ Some e
  pub steps : ts ≡ steps.Get counter_key answer ∷ []

-- ---- of a finish

abbrev pub HasLease : List ℕ → LeaseHead → Type 0
HasLease value lease = (job : Job) × (job_in (Some value) ≡ Some (Some job)) × (lease ≡ head_of job)

abbrev pub number_refusal : ℕ → ℕ → Option QueueError
number_refusal current lease =
    if nat_eq current lease then (if nat_eq lease 0 then Some (errors.StaleLease current) else None)
    else Some (errors.StaleLease current)

abbrev pub lease_refusal : ℕ → ℕ → Option Job → Option QueueError
lease_refusal id lease None = Some (errors.NoJob id)
lease_refusal id lease (Some j) = number_refusal j.lease lease

abbrev pub job_refusal : ℕ → ℕ → Option (Option Job) → Option QueueError
job_refusal id lease None = Some (errors.BadJob (job_key id))
job_refusal id lease (Some o) = lease_refusal id lease o

pub record Finishes (id lease : ℕ) (ts : List TranscriptStep) : Type 0 where
  pub row : KeyValue
  pub job : Job
  pub stands : job_in (Some row.value) ≡ Some (Some job)
  pub named : job.lease ≡ lease
  pub claimed : lease ≢ 0
  pub steps : ts ≡ steps.Get (job_key id) (Some row) ∷ steps.Own (job_key id) Delete ∷ []

pub record FinishStops (id lease : ℕ) (e : QueueError) (ts : List TranscriptStep) : Type 0 where
  pub answer : Option KeyValue
  pub refusal : job_refusal id lease (job_in (value_of answer)) ≡ Some e
  pub steps : ts ≡ steps.Get (job_key id) answer ∷ []

-- ---- of a claim

abbrev pub nexts : List KeyValue → List TranscriptStep
nexts kvs = map (λ kv. steps.Next 0 (Some kv)) kvs

abbrev pub scan_of_jobs : TranscriptStep
scan_of_jobs = steps.Scan Ascending (prefix_range jobs_prefix)

-- what a claim does at a row that it doesn't pass over
abbrev pub IsBadRow : KeyValue → QueueError → Type 0
IsBadRow kv e = (id : ℕ) × (id < 2 ^ 64) × (kv.key ≡ job_key id) × (job_in (Some kv.value) ≡ None) × (e ≡ errors.BadJob kv.key)

pub record Takes (now : ℤ) (kv : KeyValue) (id : ℕ) (job : Job) (ts : List TranscriptStep) : Type 0 where
  pub passed : List KeyValue
  pub passes : AllByRecursion (IsPassed now) passed
  pub row : IsFreeRow now kv id job
  pub steps : ts ≡ scan_of_jobs ∷ nexts (passed ++ (kv ∷ []))

pub record Claims (now : ℤ) (ms : ℕ) (claim : Claim) (ts : List TranscriptStep) : Type 0 where
  pub kv : KeyValue
  pub job : Job
  pub first : List TranscriptStep
  pub takes : Takes now kv claim.id job first
  pub left : job.lease < last_number
  pub raised : claim.lease ≡ job.lease + 1
  pub carries : claim.payload ≡ job.payload
  pub steps : ts ≡ first ++ own_steps ((kv.key, put_of (job_bytes (leased now ms job))) ∷ [])

pub record FindsNone (now : ℤ) (ts : List TranscriptStep) : Type 0 where
  pub passed : List KeyValue
  pub passes : AllByRecursion (IsPassed now) passed
  pub steps : ts ≡ scan_of_jobs ∷ (nexts passed ++ (steps.Next 0 None ∷ []))

abbrev pub MayClaim : ℤ → ℕ → Option Claim → List TranscriptStep → Type 0
MayClaim now ms None ts = FindsNone now ts
MayClaim now ms (Some claim) ts = Claims now ms claim ts

pub data ClaimStops (now : ℤ) (e : QueueError) (ts : List TranscriptStep) : Type 0 where
  bad : (passed : List KeyValue) (kv : KeyValue) → AllByRecursion (IsPassed now) passed → IsBadRow kv e → ts ≡ scan_of_jobs ∷ nexts (passed ++ (kv ∷ [])) → ClaimStops now e ts
  spent : (kv : KeyValue) (id : ℕ) (job : Job) → Takes now kv id job ts → last_number ≤ job.lease → e ≡ errors.LeasesSpent id → ClaimStops now e ts
