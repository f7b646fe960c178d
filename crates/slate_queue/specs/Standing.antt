-- The queue that stands behind commits.
--     value_from r cs n k      the bytes that stand at a key at a sequence
--     value_at r cs k      those behind all commits
--     longest_value      the longest value that a put stores
--     job_in o      what stands at a job's key is no job, or one; none where it is shorter than a job, or longer than a value
--     IsQueueIn value q      such bytes at each key are those of the queue
--     Stands r cs q      it stands behind these commits
use Rattle.std.specs.Prelude.{◌≡◌, ℕ, ◌-◌, ◌^◌, ◌<◌, ◌≤◌, Bool, true, false, nat_le, List, length, Option, Some, None, option_map, IsSome}
use Rattle.slate_types.specs.Rows.{operand}
use Rattle.slate_txn.specs.Reads.{state_at}
use Rattle.slate_txn.specs.State.{Rules, Commit, last_of}
use Rattle.slate_queue.specs.Stored.{Job, counter_key, counter_in, job_key, job_of}
use Rattle.slate_queue.specs.Jobs.{Queue, last_number}

abbrev pub value_from : Rules → List Commit → ℕ → List ℕ → Option (List ℕ)
value_from r cs n k = option_map operand (state_at r cs n k)

abbrev pub value_at : Rules → List Commit → List ℕ → Option (List ℕ)
value_at r cs k = value_from r cs (last_of r.start_seq cs) k

abbrev pub longest_value : ℕ
longest_value = 2 ^ 32 - 1

abbrev pub job_by : Bool → Option Job → Option (Option Job)
job_by true o = option_map Some o
job_by false o = None

abbrev pub job_in : Option (List ℕ) → Option (Option Job)
job_in None = Some None
job_in (Some value) = job_by (nat_le (length value) longest_value) (job_of value)

pub record IsQueueIn (value : List ℕ → Option (List ℕ)) (q : Queue) : Type 0 where
  pub counter : counter_in (value counter_key) ≡ Some q.counter
  pub jobs : (id : ℕ) → id < 2 ^ 64 → job_in (value (job_key id)) ≡ Some (q.job id)
  pub within : (id : ℕ) → IsSome (q.job id) → (1 ≤ id) × (id ≤ q.counter)
  pub fits : q.counter ≤ last_number

abbrev pub Stands : Rules → List Commit → Queue → Type 0
Stands r cs q = IsQueueIn (value_at r cs) q
