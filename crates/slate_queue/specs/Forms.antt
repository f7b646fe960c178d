-- How an audit reads the form of a queue's commit.
--     head_of j      a job's lease: its number and its end
--     put_value op      the value of a put under the default options
--     puts k v step, keeps_put k v o      a step that puts so, and a kept operation that does
--     deletes k step, keeps_delete k o      the same of a delete
--     next_of counter, next_id step      the next id behind a counter, and behind a read of it
--     is_new_job v      a job as it is added
--     adds_by, adds_in      the operations, keys and steps are those of an added job, of lists as long as its own, and of any
--     has_job_key k      the key of an id's job
--     opens_jobs step, is_of_jobs start end      a scan of all jobs, upwards
--     first_row step      the row that a step of the first scan was answered
--     is_held now v, is_passed now step      a job that isn't free, and a row that a claim passes over
--     frees now h, follows h k, raises now h k      a lease that is free, the next number behind one that isn't the last, and the next lease behind one that is free
--     is_leased now v w      a free job, and it under its next lease
--     IsRewritten w      a stored job is written as it is read
--     rewrites, rewrites_row, takes, claims_by, Claims      the operation, the key and the step are those of a claimed job, and behind its row
--     claim_steps, claims_all      the steps of a claim, and the test of them all
--     AreRewritten ops      what is known of the values that operations put
--     is_found step, is_claimed j, ends_job, finishes_by, finishes_in      the same of a finished job
--     IsQueueWork now ops tracked ts      a commit adds, claims or finishes a job
--     IsForeign es e      an audit of these events refuses so
use Rattle.std.specs.Prelude.{◌≡◌, ◌⊎◌, ℕ, ◌+◌, ◌-◌, ◌<◌, ◌^◌, ℤ, int_le, Bool, true, false, ◌&&◌, ◌||◌, not, if◌then◌else◌, nat_eq, nat_le, nat_lt, List, [], ◌∷◌, ◌++◌, length, take, Option, Some, None, IfSome, option_map, bytes_eq}
use Rattle.std.specs.List.{AllByRecursion, list_all}
use Rattle.std.specs.declared.ops.Bound.{Bound}
use Rattle.std.specs.declared.ops.Bound.TheVariants.{Included, Excluded, Unbounded}
use Rattle.slate_types.specs.declared.config.Ttl.{Ttl}
use Rattle.slate_types.specs.declared.config.Ttl.TheVariants.{Default, NoExpiry, ExpireAfter}
use Rattle.slate_types.specs.declared.error.SlateDBError.TheVariants.{OutOfMemory}
use Rattle.slate_types.specs.declared.iter.IterationOrder.TheVariants.{Ascending, Descending}
use Rattle.slate_types.specs.declared.types.KeyValue.{KeyValue}
use Rattle.slate_mem.specs.declared.WriteOp.{WriteOp}
use Rattle.slate_mem.specs.declared.WriteOp.TheVariants.{Put, Delete, Merge}
use Rattle.slate_mem.specs.Batch.{Ops}
use Rattle.slate_txn.specs.declared.event.Event.{Event}
use Rattle.slate_txn.specs.declared.event.TranscriptStep.{TranscriptStep}
use Rattle.slate_txn.specs.declared.event.TranscriptStep.TheVariants.{Get, Scan, Next, Seek, View, Own}
use Rattle.slate_txn.specs.Audited.{AreOfKind, IsFirstForeign}
use Rattle.slate_queue.specs.declared.error.QueueError.{QueueError}
use Rattle.slate_queue.specs.declared.error.QueueError.TheVariants.{Db, ForeignCommit}
use Rattle.slate_queue.specs.declared.stored.LeaseHead.{LeaseHead}
use Rattle.slate_queue.specs.Stored.{Job, counter_key, jobs_prefix, job_key, number_bytes, is_job_key, id_of, job_bytes, job_of, counter_in}
use Rattle.slate_queue.specs.Jobs.{is_free, leased, last_number}
use Rattle.slate_queue.specs.Commits.{put_of, IsAdd, IsClaim, IsFinish, IsQueueCommit}

abbrev pub head_of : Job → LeaseHead
head_of j = record { number = j.lease; ends = j.ends }

-- ---- puts and deletes

abbrev pub is_default : Ttl → Bool
is_default Default = true
is_default NoExpiry = false
is_default (ExpireAfter n) = false

abbrev pub put_value : WriteOp → Option (List ℕ)
put_value (Put v o) = if is_default o.ttl then Some v else None
put_value Delete = None
put_value (Merge v o) = None

abbrev pub is_just : List ℕ → Option (List ℕ) → Bool
is_just v None = false
is_just v (Some w) = bytes_eq w v

abbrev pub puts : List ℕ → List ℕ → TranscriptStep → Bool
puts k v (Own j op) = bytes_eq j k && is_just v (put_value op)
puts k v (Get j a) = false
puts k v (Scan o r) = false
puts k v (Next n a) = false
puts k v (Seek n j) = false
puts k v (View r) = false

abbrev pub keeps_put : List ℕ → List ℕ → List ℕ × WriteOp → Bool
keeps_put k v o = bytes_eq o.0 k && is_just v (put_value o.1)

abbrev pub is_delete : WriteOp → Bool
is_delete Delete = true
is_delete (Put v o) = false
is_delete (Merge v o) = false

abbrev pub deletes : List ℕ → TranscriptStep → Bool
deletes k (Own j op) = is_delete op && bytes_eq j k
deletes k (Get j a) = false
deletes k (Scan o r) = false
deletes k (Next n a) = false
deletes k (Seek n j) = false
deletes k (View r) = false

abbrev pub keeps_delete : List ℕ → List ℕ × WriteOp → Bool
keeps_delete k o = bytes_eq o.0 k && is_delete o.1

-- ---- an added job

abbrev pub next_of : Option ℕ → Option ℕ
next_of None = None
next_of (Some counter) = if nat_lt counter last_number then Some (counter + 1) else None

abbrev pub next_id : TranscriptStep → Option ℕ
next_id (Get k a) = if bytes_eq k counter_key then next_of (counter_in (option_map (λ kv. kv.value) a)) else None
next_id (Own k op) = None
next_id (Scan o r) = None
next_id (Next n a) = None
next_id (Seek n j) = None
next_id (View r) = None

abbrev pub no_lease : List ℕ
no_lease = 0 ∷ 0 ∷ 0 ∷ 0 ∷ 0 ∷ 0 ∷ 0 ∷ 0 ∷ 0 ∷ 0 ∷ 0 ∷ 0 ∷ 0 ∷ 0 ∷ 0 ∷ 0 ∷ []

abbrev pub is_new_job : List ℕ → Bool
is_new_job v = nat_le 16 (length v) && nat_le (length v) (2 ^ 32 - 1) && bytes_eq (take 16 v) no_lease

abbrev pub adds_job : ℕ → List ℕ → List ℕ → List ℕ → List ℕ × WriteOp → List ℕ × WriteOp → TranscriptStep → TranscriptStep → Bool
adds_job id v jk ck job counter first second =
    is_new_job v && bytes_eq jk (job_key id) && bytes_eq ck counter_key && keeps_put jk v job && keeps_put ck (number_bytes id) counter && puts ck (number_bytes id) first && puts jk v second

abbrev pub adds_by : Option ℕ → Option (List ℕ) → List ℕ → List ℕ → List ℕ × WriteOp → List ℕ × WriteOp → TranscriptStep → TranscriptStep → Bool
adds_by None v jk ck job counter first second = false
adds_by (Some id) None jk ck job counter first second = false
adds_by (Some id) (Some v) jk ck job counter first second = adds_job id v jk ck job counter first second

abbrev pub adds_keys : List (List ℕ) → List ℕ × WriteOp → List ℕ × WriteOp → TranscriptStep → TranscriptStep → TranscriptStep → Bool
adds_keys (jk ∷ ck ∷ []) job counter read first second = adds_by (next_id read) (put_value job.1) jk ck job counter first second
adds_keys _ job counter read first second = false

abbrev pub adds_ops : Ops → List (List ℕ) → TranscriptStep → TranscriptStep → TranscriptStep → Bool
adds_ops (job ∷ counter ∷ []) tracked read first second = adds_keys tracked job counter read first second
adds_ops _ tracked read first second = false

abbrev pub adds_in : List TranscriptStep → Ops → List (List ℕ) → Bool
adds_in (read ∷ first ∷ second ∷ []) ops tracked = adds_ops ops tracked read first second
adds_in _ ops tracked = false

-- ---- a claimed job

abbrev pub has_job_key : List ℕ → Bool
has_job_key k = bytes_eq k (job_key (id_of k))

abbrev pub is_of_jobs : Bound (List ℕ) → Bound (List ℕ) → Bool
is_of_jobs (Included a) (Excluded b) = bytes_eq a jobs_prefix && bytes_eq b (107 ∷ [])
is_of_jobs (Included a) (Included b) = false
is_of_jobs (Included a) Unbounded = false
is_of_jobs (Excluded a) end = false
is_of_jobs Unbounded end = false

abbrev pub opens_jobs : TranscriptStep → Bool
opens_jobs (Scan Ascending r) = is_of_jobs r.start r.end
opens_jobs (Scan Descending r) = false
opens_jobs (Get k a) = false
opens_jobs (Next n a) = false
opens_jobs (Seek n j) = false
opens_jobs (View r) = false
opens_jobs (Own k op) = false

abbrev pub first_row : TranscriptStep → Option KeyValue
first_row (Next n a) = if nat_eq n 0 then a else None
first_row (Get k a) = None
first_row (Own k op) = None
first_row (Scan o r) = None
first_row (Seek n j) = None
first_row (View r) = None

abbrev pub held_by : ℤ → Option Job → Bool
held_by now None = false
held_by now (Some j) = not (is_free now j)

abbrev pub is_held : ℤ → List ℕ → Bool
is_held now v = held_by now (job_of v)

abbrev pub passes : ℤ → Option KeyValue → Bool
passes now None = false
passes now (Some kv) = not (is_job_key kv.key) || is_held now kv.value

abbrev pub is_passed : ℤ → TranscriptStep → Bool
is_passed now step = passes now (first_row step)

abbrev pub frees : ℤ → LeaseHead → Bool
frees now h = nat_eq h.number 0 || int_le h.ends now

abbrev pub follows : LeaseHead → LeaseHead → Bool
follows h k = nat_lt h.number last_number && nat_eq k.number (h.number + 1)

abbrev pub raises : ℤ → LeaseHead → LeaseHead → Bool
raises now h k = frees now h && follows h k && int_le now k.ends

abbrev pub is_next_lease : ℤ → Option Job → Option Job → Bool
is_next_lease now None k = false
is_next_lease now (Some j) None = false
is_next_lease now (Some j) (Some k) = raises now (head_of j) (head_of k) && bytes_eq k.payload j.payload

abbrev pub is_leased : ℤ → List ℕ → List ℕ → Bool
is_leased now v w = is_next_lease now (job_of v) (job_of w)

abbrev pub IsRewritten : List ℕ → Type 0
IsRewritten w = (k : Job) → job_of w ≡ Some k → w ≡ job_bytes k

abbrev pub rewrites : List ℕ → List ℕ → List ℕ × WriteOp → TranscriptStep → Bool
rewrites key w job own = keeps_put key w job && puts key w own

abbrev pub rewrites_row : List ℕ → List ℕ → List ℕ → List ℕ × WriteOp → TranscriptStep → Bool
rewrites_row k key w job own = has_job_key k && bytes_eq key k && rewrites key w job own

abbrev pub takes : ℤ → KeyValue → Option (List ℕ) → List ℕ → List ℕ × WriteOp → TranscriptStep → Bool
takes now row None key job own = false
takes now row (Some w) key job own = is_leased now row.value w && rewrites_row row.key key w job own

abbrev pub claims_key : List (List ℕ) → ℤ → KeyValue → List ℕ × WriteOp → TranscriptStep → Bool
claims_key (key ∷ []) now row job own = takes now row (put_value job.1) key job own
claims_key _ now row job own = false

abbrev pub claims_op : Ops → List (List ℕ) → ℤ → KeyValue → TranscriptStep → Bool
claims_op (job ∷ []) tracked now row own = claims_key tracked now row job own
claims_op _ tracked now row own = false

abbrev pub claims_by : ℤ → Option KeyValue → Ops → List (List ℕ) → TranscriptStep → Bool
claims_by now None ops tracked own = false
claims_by now (Some row) ops tracked own = claims_op ops tracked now row own

-- what is known of the values that operations put
abbrev pub AreRewritten : Ops → Type 0
AreRewritten ops = AllByRecursion (λ (o : List ℕ × WriteOp). IfSome (put_value o.1) IsRewritten) ops

abbrev pub claims_all : ℤ → TranscriptStep → List TranscriptStep → TranscriptStep → TranscriptStep → Ops → List (List ℕ) → Bool
claims_all now scan passed last own ops tracked = opens_jobs scan && list_all (is_passed now) passed && claims_by now (first_row last) ops tracked own

abbrev pub claim_steps : TranscriptStep → List TranscriptStep → TranscriptStep → TranscriptStep → List TranscriptStep
claim_steps scan passed last own = scan ∷ ((passed ++ (last ∷ [])) ++ (own ∷ []))

pub record Claims (now : ℤ) (ops : Ops) (tracked : List (List ℕ)) (last own : TranscriptStep) : Type 0 where
  pub row : KeyValue
  pub answered : last ≡ Next 0 (Some row)
  pub id : ℕ
  pub of_id : id < 2 ^ 64
  pub is_job : row.key ≡ job_key id
  pub job : Job
  pub stands : job_of row.value ≡ Some job
  pub free : is_free now job ≡ true
  pub left : job.lease < last_number
  pub ms : ℕ
  pub fits : ms < 2 ^ 64
  pub kept : ops ≡ (row.key, put_of (job_bytes (leased now ms job))) ∷ []
  pub keys : tracked ≡ row.key ∷ []
  pub by : own ≡ Own row.key (put_of (job_bytes (leased now ms job)))

-- ---- a finished job

abbrev pub is_found : TranscriptStep → Bool
is_found (Get k (Some row)) = true
is_found (Get k None) = false
is_found (Own k op) = false
is_found (Scan o r) = false
is_found (Next n a) = false
is_found (Seek n j) = false
is_found (View r) = false

abbrev pub is_claimed : Option Job → Bool
is_claimed None = false
is_claimed (Some j) = not (nat_eq j.lease 0)

abbrev pub ends_job : List ℕ → KeyValue → List ℕ → List ℕ × WriteOp → TranscriptStep → Bool
ends_job k row key job own = has_job_key k && is_claimed (job_of row.value) && bytes_eq key k && keeps_delete k job && deletes k own

abbrev pub finishes_by : TranscriptStep → List ℕ → List ℕ × WriteOp → TranscriptStep → Bool
finishes_by (Get k (Some row)) key job own = ends_job k row key job own
finishes_by (Get k None) key job own = false
finishes_by (Own k op) key job own = false
finishes_by (Scan o r) key job own = false
finishes_by (Next n a) key job own = false
finishes_by (Seek n j) key job own = false
finishes_by (View r) key job own = false

abbrev pub finishes_key : List (List ℕ) → TranscriptStep → List ℕ × WriteOp → TranscriptStep → Bool
finishes_key (key ∷ []) read job own = finishes_by read key job own
finishes_key _ read job own = false

abbrev pub finishes_op : Ops → List (List ℕ) → TranscriptStep → TranscriptStep → Bool
finishes_op (job ∷ []) tracked read own = finishes_key tracked read job own
finishes_op _ tracked read own = false

abbrev pub finishes_in : List TranscriptStep → Ops → List (List ℕ) → Bool
finishes_in (read ∷ own ∷ []) ops tracked = finishes_op ops tracked read own
finishes_in _ ops tracked = false

-- ---- a commit

abbrev pub IsQueueWork : ℤ → Ops → List (List ℕ) → List TranscriptStep → Type 0
IsQueueWork now ops tracked ts = IsAdd ops tracked ts ⊎ IsClaim now ops tracked ts ⊎ IsFinish ops tracked ts

-- ---- an audit

abbrev pub IsForeign : List Event → QueueError → Type 0
IsForeign es e = (e ≡ Db OutOfMemory) ⊎ ((n : ℕ) × (e ≡ ForeignCommit n) × IsFirstForeign IsQueueCommit es n × (AreOfKind IsQueueCommit es → ⊥))
