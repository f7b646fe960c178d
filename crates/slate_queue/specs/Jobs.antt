-- What a call does to a queue.
--     Queue      the counter, and the jobs that stand
--     is_free now j      a claim at the moment may take the job
--     first_free now q      the free job with the least id
--     leased now ms j      the job under its next lease
--     longest, last_number      the longest payload, and the last number of an id or a lease
--     Call, Answer      what is asked, and what is answered
--     queue_step q call      the queue behind the call and its answer, or why it is refused
use Rattle.std.specs.Prelude.{ℕ, zero, suc, ◌+◌, ◌-◌, ◌^◌, ℤ, pos, ◌+ℤ◌, int_le, int_lt, Bool, ◌||◌, if◌then◌else◌, nat_eq, nat_le, nat_lt, List, length, Option, Some, None, Result, Ok, Err}
use Rattle.slate_queue.specs.declared.error.QueueError.{QueueError}
use Rattle.slate_queue.specs.declared.error.QueueError.TheVariants as errors
use Rattle.slate_queue.specs.Stored.{Job}

pub record Queue : Type 0 where
  pub counter : ℕ
  pub job : ℕ → Option Job

abbrev pub no_jobs : Queue
no_jobs = record { counter = 0; job = λ id. None }

abbrev pub with_job : Queue → ℕ → Option Job → Queue
with_job q id j = record q { job = λ other. if nat_eq id other then j else q.job other }

-- its lease number is 0, or its lease has ended
abbrev pub is_free : ℤ → Job → Bool
is_free now j = nat_eq j.lease 0 || int_le j.ends now

abbrev pub free_or : ℤ → ℕ → Option Job → Option (ℕ × Job) → Option (ℕ × Job)
free_or now id None later = later
free_or now id (Some j) later = if is_free now j then Some (id, j) else later

-- among so many ids from one on
abbrev pub first_from : ℤ → (ℕ → Option Job) → ℕ → ℕ → Option (ℕ × Job)
first_from now job id zero = None
first_from now job id (suc n) = free_or now id (job id) (first_from now job (id + 1) n)

abbrev pub first_free : ℤ → Queue → Option (ℕ × Job)
first_free now q = first_from now q.job 1 q.counter

-- the last moment that there is
abbrev pub last_moment : ℤ
last_moment = pos (2 ^ 63 - 1)

abbrev pub lease_end : ℤ → ℕ → ℤ
lease_end now ms = if int_lt last_moment (now +ℤ pos ms) then last_moment else now +ℤ pos ms

abbrev pub leased : ℤ → ℕ → Job → Job
leased now ms j = record j { lease = j.lease + 1; ends = lease_end now ms }

abbrev pub new_job : List ℕ → Job
new_job payload = record { lease = 0; ends = pos 0; payload = payload }

pub data Call : Type 0 where
  Add : List ℕ → Call
  Claim : ℤ → ℕ → Call
  Finish : ℕ → ℕ → Call

pub data Answer : Type 0 where
  Added : ℕ → Answer
  Claimed : ℕ → ℕ → List ℕ → Answer
  NoneFree : Answer
  Finished : Answer

abbrev pub longest : ℕ
longest = 2 ^ 32 - 17

abbrev pub last_number : ℕ
last_number = 2 ^ 64 - 1

abbrev pub add_step : Queue → List ℕ → Result (Queue × Answer) QueueError
add_step q payload =
    if nat_lt longest (length payload) then Err (errors.PayloadTooLong (length payload))
    else if nat_le last_number q.counter then Err errors.IdsSpent
    else Ok (with_job (record q { counter = q.counter + 1 }) (q.counter + 1) (Some (new_job payload)), Added (q.counter + 1))

abbrev pub claim_step : Queue → ℤ → ℕ → Option (ℕ × Job) → Result (Queue × Answer) QueueError
claim_step q now ms None = Ok (q, NoneFree)
claim_step q now ms (Some f) =
    if nat_le last_number f.1.lease then Err (errors.LeasesSpent f.0)
    else Ok (with_job q f.0 (Some (leased now ms f.1)), Claimed f.0 (f.1.lease + 1) f.1.payload)

abbrev pub finish_step : Queue → ℕ → ℕ → Option Job → Result (Queue × Answer) QueueError
finish_step q id lease None = Err (errors.NoJob id)
finish_step q id lease (Some j) =
    if nat_eq j.lease lease then (if nat_eq lease 0 then Err (errors.StaleLease j.lease) else Ok (with_job q id None, Finished))
    else Err (errors.StaleLease j.lease)

abbrev pub queue_step : Queue → Call → Result (Queue × Answer) QueueError
queue_step q (Add payload) = add_step q payload
queue_step q (Claim now ms) = claim_step q now ms (first_free now q)
queue_step q (Finish id lease) = finish_step q id lease (q.job id)
