-- A walk over the rows of the first scan of a transaction. before, after: what it reaches; d, e: the core before and after; x, y: the scan
--     Walks before after d e x us      the transaction took these steps, answered as a reader sees rows where the scan is
--     Walked before after d e x y us      so it did, and the scan goes on
--     ScanFails before after d e x us q      it took these steps, and then was refused so
--     IsFound now f      a row is the free job's
--     GoesTo, StopsAt      one step of a claim's walk
--     WalksTo, WalkStops      the whole walk, from its opening
--     MayFind, FindStops      the same with the opening, by the steps
--     raised now ms f, Raises, RaiseStops      the job under its next lease, and its put
use Rattle.std.specs.Prelude.{◌≡◌, ◌⊎◌, ℕ, ◌+◌, ◌<◌, ◌≤◌, ℤ, List, [], ◌∷◌, ◌++◌, length, drop, Option, Some, None}
use Rattle.std.specs.List.{AllByRecursion}
use Rattle.slate_types.specs.declared.config.IsolationLevel.{IsolationLevel}
use Rattle.slate_types.specs.declared.error.SlateDBError.{SlateDBError}
use Rattle.slate_types.specs.declared.error.SlateDBError.TheVariants.{OutOfMemory}
use Rattle.slate_types.specs.declared.types.KeyValue.{KeyValue}
use Rattle.slate_types.specs.declared.types.RowEntry.{RowEntry}
use Rattle.slate_types.specs.Outside.{IsFault, Objects, OnlyReads, Reach}
use Rattle.slate_filter.specs.Policy.{Policy}
use Rattle.slate_txn.specs.declared.event.TranscriptStep.{TranscriptStep}
use Rattle.slate_txn.specs.declared.event.TranscriptStep.TheVariants as steps
use Rattle.slate_db.specs.declared.scan.TxnIterator.{TxnIterator}
use Rattle.slate_db.specs.Model.{CoreModel}
use Rattle.slate_db.specs.Scans.{IsScanOf, id_of, number_of, scan_of}
use Rattle.slate_steps.specs.Reads.{IsMetBy, IsReadError, IsReading, IsScanSince}
use Rattle.slate_steps.specs.Steps.{IsWithin, Sees}
use Rattle.slate_queue.specs.declared.claiming.FreeJob.{FreeJob}
use Rattle.slate_queue.specs.declared.claiming.Step.{Step}
use Rattle.slate_queue.specs.declared.claiming.Step.TheVariants as step
use Rattle.slate_queue.specs.declared.error.QueueError.{QueueError}
use Rattle.slate_queue.specs.declared.error.QueueError.TheVariants as errors
use Rattle.slate_queue.specs.declared.claims.Claim.{Claim}
use Rattle.slate_queue.specs.Stored.{Job, job_bytes}
use Rattle.slate_queue.specs.Jobs.{last_number, lease_end}
use Rattle.slate_queue.specs.Commits.{IsPassed, put_of}
use Rattle.slate_queue.specs.CallSteps.{FindsNone, IsBadRow, nexts, own_steps, scan_of_jobs}
use Rattle.slate_queue.specs.FirstFree.{IsFreeRow}
use Rattle.slate_queue.specs.Standing.{longest_value}

pub record Walks (before after : Reach) (d e : CoreModel) (x : TxnIterator) (us : List TranscriptStep) : Type 0 where
  pub within : (c : CoreModel) (level : IsolationLevel) (ts : List TranscriptStep) → IsWithin c (id_of x) level ts d → IsWithin c (id_of x) level (ts ++ us) e
  pub sees : (c : CoreModel) (ts : List TranscriptStep) (os : Objects) (rows : List RowEntry) → IsMetBy before.meaning os before after → IsReading os before.meaning c ts x rows →
      Sees before.meaning c ts → Sees before.meaning c (ts ++ us)

pub record Walked (before after : Reach) (d e : CoreModel) (x y : TxnIterator) (us : List TranscriptStep) : Type 0 where
  pub walks : Walks before after d e x us
  pub reading : (c : CoreModel) (ts : List TranscriptStep) (os : Objects) (rows : List RowEntry) → IsMetBy before.meaning os before after → IsReading os before.meaning c ts x rows →
      (left : List RowEntry) × IsReading os before.meaning c (ts ++ us) y left
  pub since : (c : CoreModel) (from : Reach) → IsScanSince from before c x → IsScanSince from after c y
  pub named : IsScanOf (id_of x) (number_of x) (scan_of x).order (scan_of x).range y
  pub reads : OnlyReads before after

pub record ScanFails (before after : Reach) (d e : CoreModel) (x : TxnIterator) (us : List TranscriptStep) (q : QueueError) : Type 0 where
  pub walks : Walks before after d e x us
  pub error : SlateDBError
  pub is : q ≡ errors.Db error
  pub undamaged : (c : CoreModel) (ts : List TranscriptStep) (os : Objects) (rows : List RowEntry) → before.objects ≡ Some os → IsReading os before.meaning c ts x rows → IsFault before after error
  pub cause : (c : CoreModel) (from : Reach) (policies : List Policy) → OnlyReads from before → IsScanSince from before c x → IsReadError policies from after c error
  pub reads : OnlyReads before after

pub record IsFound (now : ℤ) (f : FreeJob) : Type 0 where
  pub job : Job
  pub row : IsFreeRow now f.row f.id job
  pub lease : f.lease ≡ job.lease
  pub short : length f.row.value ≤ longest_value

abbrev pub IsStepAt : ℤ → KeyValue → Step → Type 0
IsStepAt now row step.Passed = IsPassed now row
IsStepAt now row (step.Free f) = IsFound now f × (f.row ≡ row)
IsStepAt now row step.End = ⊥

-- ---- one step

abbrev pub GoesTo : ℤ → Reach → Reach → CoreModel → CoreModel → TxnIterator → TxnIterator → Step → Type 0
GoesTo now before after d e x y step.Passed = (kv : KeyValue) × IsPassed now kv × Walked before after d e x y (nexts (kv ∷ []))
GoesTo now before after d e x y (step.Free f) = IsFound now f × Walked before after d e x y (nexts (f.row ∷ []))
GoesTo now before after d e x y step.End = Walked before after d e x y (steps.Next 0 None ∷ [])

pub data StopsAt (before after : Reach) (d e : CoreModel) (x y : TxnIterator) (q : QueueError) : Type 0 where
  bad : (kv : KeyValue) → IsBadRow kv q → Walked before after d e x y (nexts (kv ∷ [])) → StopsAt before after d e x y q
  fails : (kvs : List KeyValue) → ScanFails before after d e x (nexts kvs) q → StopsAt before after d e x y q

-- ---- the whole walk

abbrev pub WalksTo : ℤ → Reach → Reach → CoreModel → CoreModel → TxnIterator → Option FreeJob → Type 0
WalksTo now before after d e x None = (passed : List KeyValue) × AllByRecursion (IsPassed now) passed × Walks before after d e x (nexts passed ++ (steps.Next 0 None ∷ []))
WalksTo now before after d e x (Some f) = (passed : List KeyValue) × AllByRecursion (IsPassed now) passed × IsFound now f × Walks before after d e x (nexts (passed ++ (f.row ∷ [])))

pub data WalkStops (now : ℤ) (before after : Reach) (d e : CoreModel) (x : TxnIterator) (q : QueueError) : Type 0 where
  bad : (passed : List KeyValue) (kv : KeyValue) → AllByRecursion (IsPassed now) passed → IsBadRow kv q → Walks before after d e x (nexts (passed ++ (kv ∷ []))) → WalkStops now before after d e x q
  fails : (kvs : List KeyValue) → ScanFails before after d e x (nexts kvs) q → WalkStops now before after d e x q

abbrev pub MayFind : ℤ → Option FreeJob → List TranscriptStep → Type 0
MayFind now None ts = FindsNone now ts
MayFind now (Some f) ts = IsFound now f × ((passed : List KeyValue) × AllByRecursion (IsPassed now) passed × (ts ≡ scan_of_jobs ∷ nexts (passed ++ (f.row ∷ []))))

pub record FindStops (now : ℤ) (e : QueueError) (ts : List TranscriptStep) : Type 0 where
  pub passed : List KeyValue
  pub kv : KeyValue
  pub passes : AllByRecursion (IsPassed now) passed
  pub bad : IsBadRow kv e
  pub steps : ts ≡ scan_of_jobs ∷ nexts (passed ++ (kv ∷ []))

-- ---- the put

abbrev pub raised : ℤ → ℕ → FreeJob → Job
raised now ms f = record { lease = f.lease + 1; ends = lease_end now ms; payload = drop 16 f.row.value }

pub record Raises (now : ℤ) (ms : ℕ) (f : FreeJob) (d e : CoreModel) (id : List ℕ) (claim : Claim) : Type 0 where
  pub job : claim.id ≡ f.id
  pub lease : claim.lease ≡ f.lease + 1
  pub left : f.lease < last_number
  pub payload : claim.payload ≡ drop 16 f.row.value
  pub within : (c : CoreModel) (level : IsolationLevel) (ts : List TranscriptStep) → IsWithin c id level ts d → IsWithin c id level (ts ++ own_steps ((f.row.key, put_of (job_bytes (raised now ms f))) ∷ [])) e

abbrev pub RaiseStops : FreeJob → QueueError → Type 0
RaiseStops f e = ((last_number ≤ f.lease) × (e ≡ errors.LeasesSpent f.id)) ⊎ (e ≡ errors.Db OutOfMemory)
