-- How far a search has come. before, now: what it reaches; x, y: its scan, which began as x and is y now; c, d: the core, as it was then and now
--     HandsKeys os m b ts y keys rows      of the rows of a scan these keys were handed out, and the others are left; b, ts: the core before the transaction began, and its steps so far
--     IsWalking before now c d x y keys      the scan handed out these keys
--     HasWalked before now x keys      it handed out all that were left
--     IsLookup policies seg n f before after c d result      all that a search keeps and answers
use Rattle.std.specs.Prelude.{◌≡◌, ◌⊎◌, ℕ, ◌+◌, ◌≤◌, ◌<◌, List, ◌++◌, map, Result, IfErr, IfOk}
use Rattle.std.specs.Global.{Vec}
use Rattle.slate_types.specs.declared.config.IsolationLevel.{IsolationLevel}
use Rattle.slate_types.specs.declared.error.SlateDBError.{SlateDBError}
use Rattle.slate_types.specs.declared.types.RowEntry.{RowEntry}
use Rattle.slate_types.specs.Outside.{IsFault, Meaning, Objects, OnlyReads, Reach}
use Rattle.slate_filter.specs.Policy.{Policy}
use Rattle.slate_mem.specs.KeyTests.{Segments}
use Rattle.slate_txn.specs.declared.event.TranscriptStep.{TranscriptStep}
use Rattle.slate_db.specs.declared.scan.TxnIterator.{TxnIterator}
use Rattle.slate_db.specs.Load.{load, weight}
use Rattle.slate_db.specs.Model.{CoreModel}
use Rattle.slate_db.specs.Scans.{IsOpenScan, IsScanOf, id_of, number_of, scan_of}
use Rattle.slate_db.specs.SerialLaws.{IsVouchedCore}
use Rattle.slate_db.specs.Settled.{IsSettledIn}
use Rattle.slate_db.specs.Sound.{IsKept}
use Rattle.slate_steps.specs.Reads.{IsChecked, IsMetBy, IsReading, IsScanSince}
use Rattle.slate_steps.specs.Steps.{IsBeginError, IsWithin}
use Rattle.slate_index.specs.declared.error.IndexError.{IndexError}
use Rattle.slate_index.specs.declared.error.IndexError.TheVariants.{Db}
use Rattle.slate_index.specs.Calls.{HasLooked, IsAuditedCore, IsDbError, values_in}
use Rattle.slate_index.specs.Entries.{FieldsModel}
use Rattle.slate_index.specs.Finds.{Finds}
use Rattle.slate_index.specs.Journals.{AreChanges}

pub record HandsKeys (os : Objects) (m : Meaning) (b : CoreModel) (ts : List TranscriptStep) (y : TxnIterator) (keys : List (List ℕ)) (rows : List RowEntry) : Type 0 where
  pub first : List RowEntry
  pub rest : List RowEntry
  pub whole : rows ≡ first ++ rest
  pub handed : keys ≡ map (λ r. r.key) first
  pub left : IsReading os m b ts y rest

pub record IsWalking (before now : Reach) (c d : CoreModel) (x y : TxnIterator) (keys : List (List ℕ)) : Type 0 where
  pub steps : List TranscriptStep
  pub names : IsScanOf (id_of x) (number_of x) (scan_of x).order (scan_of x).range y
  pub opened : IsOpenScan d y
  pub within : (b : CoreModel) (level : IsolationLevel) (ts : List TranscriptStep) → IsWithin b (id_of x) level ts c → IsWithin b (id_of x) level (ts ++ steps) d
  pub hands : (os : Objects) (b : CoreModel) (ts : List TranscriptStep) (rows : List RowEntry) → IsMetBy before.meaning os before now → IsReading os before.meaning b ts x rows → HandsKeys os before.meaning b (ts ++ steps) y keys rows
  pub since : (b : CoreModel) (from : Reach) → IsScanSince from before b x → IsScanSince from now b y
  pub reads : OnlyReads before now

pub record HasWalked (before now : Reach) (x : TxnIterator) (keys : List (List ℕ)) : Type 0 where
  pub all : (os : Objects) (b : CoreModel) (ts : List TranscriptStep) (rows : List RowEntry) → IsMetBy before.meaning os before now → IsReading os before.meaning b ts x rows → keys ≡ map (λ r. r.key) rows

-- n, f: the number of the index and the field
pub record IsLookup (policies : List Policy) (seg : Segments) (n : ℕ) (f : List ℕ) (before after : Reach) (c d : CoreModel) (result : Result (Vec (List ℕ)) IndexError) : Type 0 where
  pub looked : HasLooked c d
  pub form : (fs : FieldsModel) → AreChanges fs c.events → AreChanges fs d.events
  pub found : (fs : FieldsModel) (g : Segments) → n < fs.count → IsChecked policies g before after c → IsAuditedCore fs before.meaning c → IfOk result (λ ids. Finds fs n f (values_in before.meaning c) ids.items)
  pub undamaged : (g : Segments) → IsSettledIn policies g before c → IfErr result (λ e. (x : SlateDBError) × (e ≡ Db x) × (IsBeginError c x ⊎ IsFault before after x))
  pub settled : IsSettledIn policies seg before c → IsSettledIn policies seg after d
  pub vouched : (m : Meaning) → IsVouchedCore m c → IsVouchedCore m d
  pub kept : (m : Meaning) → IsKept m c → IsKept m d
  pub cause : IfErr result (λ e. (x : SlateDBError) × (e ≡ Db x) × IsDbError policies before after c x)
  pub events : weight d ≤ weight c + 2
  pub rows : load d ≡ load c
  pub reads : OnlyReads before after
