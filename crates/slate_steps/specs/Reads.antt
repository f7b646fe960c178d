-- What the reads of a transaction are refused for, and its open scans. before, after: what a call reaches
--     IsReadError policies before after c e      a get or a scan of the core is refused so: by a fault that came in it, for want of memory or of an operator, or by what its
--                                         reads show of the tables that the journal names
--     unblamed_if e counts      the counts without that of the part whose fault the error is, if there is one
--     told_in told result      the error of the database that a result tells, if it tells one
--     IsStillBy told before after result      the counts of faults are as they were, but for that of the part whose fault the refusal tells
--     IsReadFault policies before after c id level e      of several reads in one transaction on c the last is
--     IsUnslipped m os before after      the store tells its acts, and none of the reads between returned a section that isn't what stands there, and whose checksum fits
--     IsMetBy m os before after      the objects answered each read of the calls between, or so it is
--     IsChecked policies g before after c      so it is of objects which hold the tables that the core's journal names; policies and parts are lawful, and what is kept of the core holds
--     IsFaultSettled policies before after c x      where the core is settled, it is a fault
--     IsReading os m c ts it rows      by these objects a scan that the transaction opened has these rows left
--     IsScanSince from now c it      by the reads since its opening, which reached `from`, the scan may be refused as a scan of c is
use Rattle.std.specs.Prelude.{◌≡◌, ◌⊎◌, ◌++◌, ℕ, List, Option, Some, slice_get, None, Result, Ok, Err}
use Rattle.slate_types.specs.declared.config.IsolationLevel.{IsolationLevel}
use Rattle.slate_types.specs.declared.error.SlateDBError.{SlateDBError}
use Rattle.slate_types.specs.declared.filter_policy.FilterQuery.{FilterQuery}
use Rattle.slate_types.specs.declared.types.RowEntry.{RowEntry}
use Rattle.slate_types.specs.Outside.{Act, Counts, IsFault, Objects, OnlyReads, Reach, unblamed}
use Rattle.slate_types.specs.World.{Made}
use Rattle.slate_filter.specs.Policy.{Policy}
use Rattle.slate_mem.specs.KeyTests.{Segments}
use Rattle.slate_txn.specs.declared.event.TranscriptStep.{TranscriptStep}
use Rattle.slate_txn.specs.Alone.{scans_left}
use Rattle.slate_db.specs.declared.scan.TxnIterator.{TxnIterator}
use Rattle.slate_db.specs.Answered.{AnswersFrom}
use Rattle.slate_db.specs.Checked.{SlipsFrom}
use Rattle.slate_db.specs.Meaning.{Meaning, rules_of}
use Rattle.slate_db.specs.Model.{CoreModel}
use Rattle.slate_db.specs.Readable as gets
use Rattle.slate_db.specs.Scans.{IsRefusedByTables, IsScanError, LeavesIn, ScanRefuses, number_of, scan_of}
use Rattle.slate_db.specs.Settled.{IsSettled, IsSettledIn}
use Rattle.slate_steps.specs.Steps.{IsWithin, newest}

abbrev pub unblamed_if : Option SlateDBError → Counts → Counts
unblamed_if None counts = counts
unblamed_if (Some e) counts = unblamed e counts

-- told: the error of the database that a program's error tells, if it tells one
abbrev pub told_in : {A E : Type 0} → (E → Option SlateDBError) → Result A E → Option SlateDBError
told_in told (Ok a) = None
told_in told (Err e) = told e

abbrev pub IsStillBy : {A E : Type 0} → (E → Option SlateDBError) → Counts → Counts → Result A E → Type 0
IsStillBy told before after result = unblamed_if (told_in told result) after ≡ unblamed_if (told_in told result) before

pub data IsReadError (policies : List Policy) (before after : Reach) (c : CoreModel) (e : SlateDBError) : Type 0 where
  of_get : (id : List ℕ) (query : FilterQuery) → gets.IsReadError (record { policies = policies; query = query }) (gets.reader_at c.state id) before after c e → IsReadError policies before after c e
  of_scan : IsScanError policies before after c e → IsReadError policies before after c e

-- core: as it was read; from, upto: what the refused read reached
pub record IsReadFault (policies : List Policy) (before after : Reach) (c : CoreModel) (id : List ℕ) (level : IsolationLevel) (e : SlateDBError) : Type 0 where
  pub taken : List TranscriptStep
  pub core : CoreModel
  pub within : IsWithin c id level taken core
  pub from : Reach
  pub upto : Reach
  pub first : OnlyReads before from
  pub later : OnlyReads upto after
  pub refused : IsReadError policies from upto core e

pub record IsUnslipped (m : Meaning) (os : Objects) (before after : Reach) : Type 0 where
  pub known : List Act
  pub tells : before.acts ≡ Some known
  pub none : SlipsFrom m.encode os before.acts after.acts → ⊥

abbrev pub IsMetBy : Meaning → Objects → Reach → Reach → Type 0
IsMetBy m os before after = AnswersFrom os before after ⊎ IsUnslipped m os before after

pub record IsChecked (policies : List Policy) (g : Segments) (before after : Reach) (c : CoreModel) : Type 0 where
  pub os : Objects
  pub settled : IsSettled policies before.meaning g (Some os) c
  pub met : IsMetBy before.meaning os before after

abbrev pub IsFaultSettled : List Policy → Reach → Reach → CoreModel → SlateDBError → Type 0
IsFaultSettled policies before after c x = (g : Segments) → IsSettledIn policies g before c → IsFault before after x

pub record IsReading (os : Objects) (m : Meaning) (c : CoreModel) (ts : List TranscriptStep) (it : TxnIterator) (rows : List RowEntry) : Type 0 where
  pub left : slice_get (scans_left (rules_of c.settings m) c.state.commits (newest c) ts) (number_of it) ≡ Some ((scan_of it).order, rows)
  pub leaves : LeavesIn os m it rows

abbrev pub IsScanSince : Reach → Reach → CoreModel → TxnIterator → Type 0
IsScanSince from now c it = Made from now (λ reads. (later : List Act) (at : Option (List ℕ)) (e : SlateDBError) → ScanRefuses (scan_of it) from.meaning later at e → IsRefusedByTables from.meaning c (reads ++ later) at e)
