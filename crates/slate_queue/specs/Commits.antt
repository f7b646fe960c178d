-- Which commits are a queue's.
--     Writes reads changes ops tracked ts      a commit that read so, made the changes and tracks all its keys
--     added id payload      what an added job puts: the counter, and itself
--     IsAdd, IsClaim now, IsFinish      a commit of that batch and transcript adds a job, claims one at the moment, or finishes one
--     IsQueueCommit level now ops tracked ts      a serializable commit that does one of these
use Rattle.std.specs.Prelude.{◌≡◌, ◌≢◌, ◌⊎◌, ℕ, ℤ, ◌+◌, ◌<◌, ◌≤◌, ◌^◌, true, false, List, [], ◌∷◌, ◌++◌, map, length, Option, Some, option_map}
use Rattle.std.specs.List.{AllByRecursion}
use Rattle.slate_types.specs.declared.config.Ttl.TheVariants.{Default}
use Rattle.slate_types.specs.declared.config.IsolationLevel.{IsolationLevel}
use Rattle.slate_types.specs.declared.config.IsolationLevel.TheVariants.{SerializableSnapshot}
use Rattle.slate_types.specs.declared.iter.IterationOrder.TheVariants.{Ascending}
use Rattle.slate_types.specs.declared.types.KeyValue.{KeyValue}
use Rattle.slate_types.specs.Keys.{prefix_range}
use Rattle.slate_mem.specs.declared.WriteOp.{WriteOp}
use Rattle.slate_mem.specs.declared.WriteOp.TheVariants.{Put, Delete}
use Rattle.slate_mem.specs.Batch.{Ops, batch_keys, kept_ops}
use Rattle.slate_txn.specs.declared.event.TranscriptStep.{TranscriptStep}
use Rattle.slate_txn.specs.declared.event.TranscriptStep.TheVariants.{Get, Scan, Next, Own}
use Rattle.slate_queue.specs.Stored.{Job, counter_key, jobs_prefix, job_key, is_job_key, number_bytes, job_bytes, job_of, counter_in}
use Rattle.slate_queue.specs.Jobs.{is_free, leased, new_job, longest, last_number}

pub record Writes (reads : List TranscriptStep) (changes ops : Ops) (tracked : List (List ℕ)) (ts : List TranscriptStep) : Type 0 where
  pub whole : ts ≡ reads ++ map (λ (o : List ℕ × WriteOp). Own o.0 o.1) changes
  pub kept : ops ≡ kept_ops changes
  pub keys : tracked ≡ batch_keys ops

abbrev pub put_of : List ℕ → WriteOp
put_of value = Put value (record { ttl = Default })

abbrev pub added : ℕ → List ℕ → Ops
added id payload = (counter_key, put_of (number_bytes id)) ∷ (job_key id, put_of (job_bytes (new_job payload))) ∷ []

pub record IsAdd (ops : Ops) (tracked : List (List ℕ)) (ts : List TranscriptStep) : Type 0 where
  pub payload : List ℕ
  pub short : length payload ≤ longest
  pub counter : ℕ
  pub answer : Option KeyValue
  pub read : counter_in (option_map (λ kv. kv.value) answer) ≡ Some counter
  pub left : counter < last_number
  pub by : Writes (Get counter_key answer ∷ []) (added (counter + 1) payload) ops tracked ts

-- a row that a claim passes over: no job, or one that isn't free
abbrev pub IsPassed : ℤ → KeyValue → Type 0
IsPassed now kv = (is_job_key kv.key ≡ false) ⊎ ((is_job_key kv.key ≡ true) × ((j : Job) × (job_of kv.value ≡ Some j) × (is_free now j ≡ false)))

pub record IsClaim (now : ℤ) (ops : Ops) (tracked : List (List ℕ)) (ts : List TranscriptStep) : Type 0 where
  pub passed : List KeyValue
  pub passes : AllByRecursion (IsPassed now) passed
  pub id : ℕ
  pub of_id : id < 2 ^ 64
  pub row : KeyValue
  pub is_job : row.key ≡ job_key id
  pub job : Job
  pub stands : job_of row.value ≡ Some job
  pub free : is_free now job ≡ true
  pub left : job.lease < last_number
  pub ms : ℕ
  pub fits : ms < 2 ^ 64
  pub by : Writes (Scan Ascending (prefix_range jobs_prefix) ∷ map (λ kv. Next 0 (Some kv)) (passed ++ (row ∷ []))) ((row.key, put_of (job_bytes (leased now ms job))) ∷ []) ops tracked ts

pub record IsFinish (ops : Ops) (tracked : List (List ℕ)) (ts : List TranscriptStep) : Type 0 where
  pub id : ℕ
  pub fits : id < 2 ^ 64
  pub row : KeyValue
  pub job : Job
  pub stands : job_of row.value ≡ Some job
  pub claimed : job.lease ≢ 0
  pub by : Writes (Get (job_key id) (Some row) ∷ []) ((job_key id, Delete) ∷ []) ops tracked ts

pub record IsQueueCommit (level : IsolationLevel) (now : ℤ) (ops : Ops) (tracked : List (List ℕ)) (ts : List TranscriptStep) : Type 0 where
  pub serializable : level ≡ SerializableSnapshot
  pub does : IsAdd ops tracked ts ⊎ IsClaim now ops tracked ts ⊎ IsFinish ops tracked ts
