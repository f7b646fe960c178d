-- How far a walk over a scan has come. before, now: what it reaches; x, y: its scan, which began as x and is y now; c, d: the core, as it was then and now
--     HandsRows os m b ts y handed rows      of the rows of a scan these were handed out, and the others are left; b, ts: the core before the transaction began, and its steps so far
--     IsRowWalk before now c d x y handed      the scan handed out these rows
--     HandsAllRows before x handed      it handed out all that were left
use Rattle.std.specs.Prelude.{◌≡◌, ℕ, List, ◌++◌, map, Option, Some}
use Rattle.slate_types.specs.declared.config.IsolationLevel.{IsolationLevel}
use Rattle.slate_types.specs.declared.types.KeyValue.{KeyValue}
use Rattle.slate_types.specs.declared.types.RowEntry.{RowEntry}
use Rattle.slate_types.specs.Outside.{Meaning, Objects, OnlyReads, Reach}
use Rattle.slate_types.specs.Rows.{key_value}
use Rattle.slate_txn.specs.declared.event.TranscriptStep.{TranscriptStep}
use Rattle.slate_db.specs.declared.scan.TxnIterator.{TxnIterator}
use Rattle.slate_db.specs.Model.{CoreModel}
use Rattle.slate_db.specs.Scans.{IsOpenScan, IsScanOf, id_of, number_of, scan_of}
use Rattle.slate_steps.specs.Reads.{IsReading, IsScanSince}
use Rattle.slate_steps.specs.Steps.{IsWithin}

pub record HandsRows (os : Objects) (m : Meaning) (b : CoreModel) (ts : List TranscriptStep) (y : TxnIterator) (handed : List KeyValue) (rows : List RowEntry) : Type 0 where
  pub first : List RowEntry
  pub rest : List RowEntry
  pub whole : rows ≡ first ++ rest
  pub are : handed ≡ map key_value first
  pub left : IsReading os m b ts y rest

pub record IsRowWalk (before now : Reach) (c d : CoreModel) (x y : TxnIterator) (handed : List KeyValue) : Type 0 where
  pub steps : List TranscriptStep
  pub names : IsScanOf (id_of x) (number_of x) (scan_of x).order (scan_of x).range y
  pub opened : IsOpenScan d y
  pub within : (b : CoreModel) (level : IsolationLevel) (ts : List TranscriptStep) → IsWithin b (id_of x) level ts c → IsWithin b (id_of x) level (ts ++ steps) d
  pub hands : (os : Objects) (b : CoreModel) (ts : List TranscriptStep) (rows : List RowEntry) → before.objects ≡ Some os → IsReading os before.meaning b ts x rows → HandsRows os before.meaning b (ts ++ steps) y handed rows
  pub since : (b : CoreModel) (from : Reach) → IsScanSince from before b x → IsScanSince from now b y
  pub reads : OnlyReads before now

pub record HandsAllRows (before : Reach) (x : TxnIterator) (handed : List KeyValue) : Type 0 where
  pub all : (os : Objects) (b : CoreModel) (ts : List TranscriptStep) (rows : List RowEntry) → before.objects ≡ Some os → IsReading os before.meaning b ts x rows → handed ≡ map key_value rows
