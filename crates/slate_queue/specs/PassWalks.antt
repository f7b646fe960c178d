-- A walk over the rows of the first scan of an attempt. before, after: what it reaches; t, u: the transaction before and after; x, y: the scan
--     IsUnderWay o t x      the transaction has taken serializable steps, and the first was the opening of the scan
--     IsOpenTo o m t x before after os rows      by these objects the scan has these rows left, and from here on they answer each read, or no section slips through
--     WalksOn o m before after t u x us      the transaction took these steps, answered as a reader sees rows where the scan is
--     WalkedOn o m before after t u x y us      so it did, and the scan goes on
--     ScanFailsOn o m before after t u x us q      it took these steps, and then was refused so
--     WalkGoes, HaltsOn      one step of a claim's walk
--     WalksToOn, WalkHalts      the whole walk, from its opening
--     RaisesOn      the job under its next lease, and its put
use Rattle.std.specs.Prelude.{◌≡◌, ℕ, ◌+◌, ◌<◌, ℤ, List, [], ◌∷◌, ◌++◌, drop, Option, Some, None}
use Rattle.std.specs.List.{AllByRecursion}
use Rattle.slate_types.specs.declared.config.IsolationLevel.{IsolationLevel}
use Rattle.slate_types.specs.declared.config.IsolationLevel.TheVariants.{SerializableSnapshot}
use Rattle.slate_types.specs.declared.config.Options.{Options}
use Rattle.slate_types.specs.declared.error.SlateDBError.{SlateDBError}
use Rattle.slate_types.specs.declared.types.KeyValue.{KeyValue}
use Rattle.slate_types.specs.declared.types.RowEntry.{RowEntry}
use Rattle.slate_types.specs.Outside.{IsFault, Objects, OnlyReads, Reach}
use Rattle.slate_filter.specs.Policy.{Policy}
use Rattle.slate_txn.specs.declared.event.Event.{Event}
use Rattle.slate_txn.specs.declared.event.TranscriptStep.{TranscriptStep}
use Rattle.slate_txn.specs.declared.event.TranscriptStep.TheVariants as steps
use Rattle.slate_db.specs.declared.scan.TxnIterator.{TxnIterator}
use Rattle.slate_db.specs.Answered.{AnswersFrom}
use Rattle.slate_db.specs.Meaning.{Meaning}
use Rattle.slate_db.specs.Scans.{IsScanOf, id_of, number_of, scan_of}
use Rattle.slate_shared.specs.Passes.{Opened}
use Rattle.slate_steps.specs.Attempts.{IsAttempt, IsReadErrorOn, IsReadingOn, IsScanSinceOn, IsVouchedThere}
use Rattle.slate_steps.specs.Reads.{IsMetBy}
use Rattle.slate_queue.specs.declared.claiming.FreeJob.{FreeJob}
use Rattle.slate_queue.specs.declared.claiming.Step.{Step}
use Rattle.slate_queue.specs.declared.claiming.Step.TheVariants as step
use Rattle.slate_queue.specs.declared.claims.Claim.{Claim}
use Rattle.slate_queue.specs.declared.error.QueueError.{QueueError}
use Rattle.slate_queue.specs.declared.error.QueueError.TheVariants as errors
use Rattle.slate_queue.specs.Stored.{job_bytes}
use Rattle.slate_queue.specs.Jobs.{last_number}
use Rattle.slate_queue.specs.Commits.{IsPassed, put_of}
use Rattle.slate_queue.specs.CallSteps.{IsBadRow, nexts, own_steps, scan_of_jobs}
use Rattle.slate_queue.specs.Walks.{IsFound, raised}

pub record IsUnderWay (o : Options) (t : Opened) (x : TxnIterator) : Type 0 where
  pub from : List Event
  pub taken : List TranscriptStep
  pub attempt : IsAttempt o from SerializableSnapshot (scan_of_jobs ∷ taken) t
  pub named : id_of x ≡ t.id
  pub first : number_of x ≡ 0

pub record IsOpenTo (o : Options) (m : Meaning) (t : Opened) (x : TxnIterator) (before after : Reach) (os : Objects) (rows : List RowEntry) : Type 0 where
  pub meaning : before.meaning ≡ m
  pub met : IsMetBy m os before after
  pub reading : IsReadingOn os o m t x rows

pub record WalksOn (o : Options) (m : Meaning) (before after : Reach) (t u : Opened) (x : TxnIterator) (us : List TranscriptStep) : Type 0 where
  pub attempt : (from : List Event) (level : IsolationLevel) (ts : List TranscriptStep) → IsAttempt o from level ts t → IsAttempt o from level (ts ++ us) u
  pub sees : (os : Objects) (rows : List RowEntry) → IsOpenTo o m t x before after os rows → IsVouchedThere o m t → IsVouchedThere o m u
  pub seen : u.seen ≡ t.seen

pub record WalkedOn (o : Options) (m : Meaning) (before after : Reach) (t u : Opened) (x y : TxnIterator) (us : List TranscriptStep) : Type 0 where
  pub walks : WalksOn o m before after t u x us
  pub reading : (os : Objects) (rows : List RowEntry) → IsOpenTo o m t x before after os rows → (left : List RowEntry) × IsReadingOn os o m u y left
  pub since : (from : Reach) → IsScanSinceOn o from before t.seen x → IsScanSinceOn o from after t.seen y
  pub named : IsScanOf (id_of x) (number_of x) (scan_of x).order (scan_of x).range y
  pub reads : OnlyReads before after

pub record ScanFailsOn (o : Options) (m : Meaning) (before after : Reach) (t u : Opened) (x : TxnIterator) (us : List TranscriptStep) (q : QueueError) : Type 0 where
  pub walks : WalksOn o m before after t u x us
  pub error : SlateDBError
  pub is : q ≡ errors.Db error
  pub undamaged : (os : Objects) (rows : List RowEntry) → IsOpenTo o m t x before after os rows → AnswersFrom os before after → IsFault before after error
  pub cause : (from : Reach) (policies : List Policy) → OnlyReads from before → IsScanSinceOn o from before t.seen x → IsReadErrorOn o policies from after t.seen error
  pub reads : OnlyReads before after

-- ---- one step

abbrev pub WalkGoes : ℤ → Options → Meaning → Reach → Reach → Opened → Opened → TxnIterator → TxnIterator → Step → Type 0
WalkGoes now o m before after t u x y step.Passed = (kv : KeyValue) × IsPassed now kv × WalkedOn o m before after t u x y (nexts (kv ∷ []))
WalkGoes now o m before after t u x y (step.Free f) = IsFound now f × WalkedOn o m before after t u x y (nexts (f.row ∷ []))
WalkGoes now o m before after t u x y step.End = WalkedOn o m before after t u x y (steps.Next 0 None ∷ [])

pub data HaltsOn (o : Options) (m : Meaning) (before after : Reach) (t u : Opened) (x y : TxnIterator) (q : QueueError) : Type 0 where
  bad : (kv : KeyValue) → IsBadRow kv q → WalkedOn o m before after t u x y (nexts (kv ∷ [])) → HaltsOn o m before after t u x y q
  fails : (kvs : List KeyValue) → ScanFailsOn o m before after t u x (nexts kvs) q → HaltsOn o m before after t u x y q

-- ---- the whole walk

abbrev pub WalksToOn : ℤ → Options → Meaning → Reach → Reach → Opened → Opened → TxnIterator → Option FreeJob → Type 0
WalksToOn now o m before after t u x None = (passed : List KeyValue) × AllByRecursion (IsPassed now) passed × WalksOn o m before after t u x (nexts passed ++ (steps.Next 0 None ∷ []))
WalksToOn now o m before after t u x (Some f) = (passed : List KeyValue) × AllByRecursion (IsPassed now) passed × IsFound now f × WalksOn o m before after t u x (nexts (passed ++ (f.row ∷ [])))

pub data WalkHalts (now : ℤ) (o : Options) (m : Meaning) (before after : Reach) (t u : Opened) (x : TxnIterator) (q : QueueError) : Type 0 where
  bad : (passed : List KeyValue) (kv : KeyValue) → AllByRecursion (IsPassed now) passed → IsBadRow kv q → WalksOn o m before after t u x (nexts (passed ++ (kv ∷ []))) → WalkHalts now o m before after t u x q
  fails : (kvs : List KeyValue) → ScanFailsOn o m before after t u x (nexts kvs) q → WalkHalts now o m before after t u x q

-- ---- the put

pub record RaisesOn (now : ℤ) (ms : ℕ) (o : Options) (m : Meaning) (f : FreeJob) (t u : Opened) (claim : Claim) : Type 0 where
  pub job : claim.id ≡ f.id
  pub lease : claim.lease ≡ f.lease + 1
  pub left : f.lease < last_number
  pub payload : claim.payload ≡ drop 16 f.row.value
  pub attempt : (from : List Event) (level : IsolationLevel) (ts : List TranscriptStep) → IsAttempt o from level ts t → IsAttempt o from level (ts ++ own_steps ((f.row.key, put_of (job_bytes (raised now ms f))) ∷ [])) u
  pub sees : IsVouchedThere o m t → IsVouchedThere o m u
  pub seen : u.seen ≡ t.seen
