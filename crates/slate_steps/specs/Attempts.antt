-- One transaction of a database that threads share, by the steps that it took so far. o, m: the database's options and what its parts mean; from: what its pass had seen
-- before its begin
--     IsAttempt o from level ts t      t began at the newest sequence of a journal that begins so, and took these steps; it merged and marked nothing
--     IsVouchedThere o m t      the answers among its steps are those of a reader at its begin, by each legal journal that begins with what it has seen
--     IsStoreTrue policies m events before after      each read of the calls between was answered by objects that hold the tables of the journal, with their filters, and parts and policies are lawful
--     IsStoreChecked policies m events before after      each read of the calls between was answered so by objects which hold the tables of the journal, with their filters, or none slipped, and parts and policies are lawful
--     IsFaultOn policies m events before after x      where the store is true to the journal, it is a fault
--     SeesMore old new      a pass that has seen the journal further; SeesOnly: and has no place more of its own
--     HasCommittedBehind o t n now old new      a pass whose newest place has the commit of t, behind a journal with which nothing conflicts
--     HasEndedBehind t old new      a pass that has seen the end of t, without a commit, at the end of a journal
--     IsRefusedBehind o t old new e      a commit that conflicts, or finds no sequence left, behind the journal that the pass has seen
--     IsUnbegun old new e      nothing was begun, for want of memory, or since the journal has no place for two events; all of it is seen then
--     IsReadCore o m seen c      the core of a journal, in which a transaction that merges nothing stands open
--     IsReadErrorOn o policies before after seen e      a read is refused so: by a fault that came in it, or by what its reads show of the tables that the journal names
--     IsReadingOn os o m t it rows      by these objects a scan that the transaction opened has these rows left, by each such journal
--     IsScanSinceOn o from now seen it      by the reads since its opening, which reached `from`, the scan may be refused as one of that journal's core
use Rattle.std.specs.Prelude.{◌≡◌, ◌⊎◌, ℕ, ◌-◌, ◌^◌, false, List, [], ◌∷◌, ◌++◌, length, Option, None, ℤ}
use mathlib.Core.List.{IsPrefix}
use Rattle.slate_types.specs.declared.config.IsolationLevel.{IsolationLevel}
use Rattle.slate_types.specs.declared.config.Options.{Options}
use Rattle.slate_types.specs.declared.error.SlateDBError.{SlateDBError}
use Rattle.slate_types.specs.declared.error.SlateDBError.TheVariants.{LimitReached, OutOfMemory, SequenceExhausted}
use Rattle.slate_types.specs.declared.types.RowEntry.{RowEntry}
use Rattle.slate_types.specs.Outside.{IsFault, Objects, Reach}
use Rattle.slate_filter.specs.Policy.{Policy}
use Rattle.slate_mem.specs.Batch.{batch_keys, kept_ops}
use Rattle.slate_mem.specs.BatchModel.{holds_merge}
use Rattle.slate_table.specs.Filtered.{AreLawful}
use Rattle.slate_txn.specs.declared.event.Event.{Event}
use Rattle.slate_txn.specs.declared.event.Event.TheVariants as events
use Rattle.slate_txn.specs.declared.event.TranscriptStep.{TranscriptStep}
use Rattle.slate_txn.specs.Alone.{IsVouched, own_of}
use Rattle.slate_txn.specs.Conflict.{conflict}
use Rattle.slate_txn.specs.HandedOver.{IsConflict}
use Rattle.slate_txn.specs.Replay.{IsLegal, replay}
use Rattle.slate_txn.specs.Settings.{settings_of}
use Rattle.slate_txn.specs.State.{last_of}
use Rattle.slate_db.specs.declared.scan.TxnIterator.{TxnIterator}
use Rattle.slate_db.specs.Installs.{Holds, tables_of}
use Rattle.slate_db.specs.Log.{LIMIT}
use Rattle.slate_db.specs.Meaning.{IsLawfulMeaning, Meaning, rules_of}
use Rattle.slate_db.specs.Model.{CoreModel}
use Rattle.slate_db.specs.Readable.{AreFiltered}
use Rattle.slate_db.specs.Scans.{LeavesIn}
use Rattle.slate_shared.specs.KeyReads.{IsAnsweredBy, IsCoreOf}
use Rattle.slate_shared.specs.LockedModel.{IsFull}
use Rattle.slate_shared.specs.Passes.{Opened, PassModel}
use Rattle.slate_shared.specs.Scans.{IsLeftOf}
use Rattle.slate_steps.specs.Reads.{IsMetBy, IsReadError, IsScanSince}
use Rattle.slate_steps.specs.Steps.{IsNext, taking}

pub record IsAttempt (o : Options) (from : List Event) (level : IsolationLevel) (ts : List TranscriptStep) (t : Opened) : Type 0 where
  pub start : List Event
  pub known : IsPrefix from start
  pub begun : IsPrefix (start ++ (events.Begin t.id level t.tx.begin ∷ [])) t.seen
  pub newest : t.tx.begin ≡ last_of o.start_seq (replay start).commits
  pub is : t.tx ≡ taking t.tx.begin level ts
  pub plain : holds_merge (own_of ts) ≡ false

-- the journal as its pass copies it is such a one
pub record IsVouchedThere (o : Options) (m : Meaning) (t : Opened) : Type 0 where
  pub by_each : (es : List Event) → IsPrefix t.seen es → IsLegal o.start_seq es → IsVouched (rules_of (settings_of o) m) (replay es).commits t.tx

-- a premise of what a call promises of stored values; events: the journal that is seen after the call
abbrev pub IsStoreTrue : List Policy → Meaning → List Event → Reach → Reach → Type 0
IsStoreTrue policies m events before after = IsAnsweredBy policies m events [] before after

-- a premise of what is answered, also by a store that lies: damage is no answer, where its checksum doesn't fit; events: as above
pub record IsStoreChecked (policies : List Policy) (m : Meaning) (events : List Event) (before after : Reach) : Type 0 where
  pub os : Objects
  pub lawful : IsLawfulMeaning m
  pub lawful_policies : AreLawful policies
  pub filtered : AreFiltered m.encode policies (tables_of events)
  pub holds : Holds os (tables_of events)
  pub met : IsMetBy m os before after

abbrev pub IsFaultOn : List Policy → Meaning → List Event → Reach → Reach → SlateDBError → Type 0
IsFaultOn policies m events before after x = IsStoreTrue policies m events before after → IsFault before after x

pub record SeesMore (old new : PassModel) : Type 0 where
  pub table : new.table ≡ old.table
  pub parts : new.parts ≡ old.parts
  pub seen : IsPrefix old.seen new.seen

pub record SeesOnly (old new : PassModel) : Type 0 where
  pub more : SeesMore old new
  pub own : new.own ≡ old.own

-- the commit tracks all its keys
pub record HasCommittedBehind (o : Options) (t : Opened) (n : Option ℕ) (now : ℤ) (old new : PassModel) : Type 0 where
  pub more : SeesMore old new
  pub before : List Event
  pub seen : IsPrefix old.seen before
  pub known : IsPrefix t.seen before
  pub after : new.seen ≡ before ++ (events.Commit t.id n now (kept_ops t.tx.ops) (batch_keys t.tx.ops) t.tx.transcript ∷ [])
  pub own : new.own ≡ old.own ++ (length before ∷ [])
  pub next : IsNext (last_of o.start_seq (replay before).commits) t.tx.ops n
  pub free : conflict (replay before).commits t.tx ≡ None

pub record HasEndedBehind (t : Opened) (old new : PassModel) : Type 0 where
  pub only : SeesOnly old new
  pub before : List Event
  pub seen : IsPrefix old.seen before
  pub known : IsPrefix t.seen before
  pub after : new.seen ≡ before ++ (events.End t.id ∷ [])

pub record IsRefusedBehind (o : Options) (t : Opened) (old new : PassModel) (e : SlateDBError) : Type 0 where
  pub before : List Event
  pub seen : IsPrefix old.seen before
  pub known : IsPrefix t.seen before
  pub after : new.seen ≡ before ++ (events.End t.id ∷ [])
  pub is : IsConflict (conflict (replay before).commits t.tx) e ⊎ ((e ≡ SequenceExhausted) × (last_of o.start_seq (replay before).commits ≡ 2 ^ 64 - 2))

pub record IsUnbegun (old new : PassModel) (e : SlateDBError) : Type 0 where
  pub only : SeesOnly old new
  pub cause : (e ≡ OutOfMemory) ⊎ ((e ≡ LimitReached LIMIT) × IsFull 2 new.seen)

pub record IsReadCore (o : Options) (m : Meaning) (seen : List Event) (c : CoreModel) : Type 0 where
  pub reader : Opened
  pub plain : holds_merge reader.tx.ops ≡ false
  pub core : IsCoreOf o m reader seen c

abbrev pub IsReadErrorOn : Options → List Policy → Reach → Reach → List Event → SlateDBError → Type 0
IsReadErrorOn o policies before after seen e = IsFault before after e ⊎ ((c : CoreModel) × IsReadCore o before.meaning seen c × IsReadError policies before after c e)

pub record IsReadingOn (os : Objects) (o : Options) (m : Meaning) (t : Opened) (it : TxnIterator) (rows : List RowEntry) : Type 0 where
  pub left : (es : List Event) → IsPrefix t.seen es → IsLegal o.start_seq es → IsLeftOf o m (record t { seen = es }) it rows
  pub leaves : LeavesIn os m it rows

abbrev pub IsScanSinceOn : Options → Reach → Reach → List Event → TxnIterator → Type 0
IsScanSinceOn o from now seen it = (c : CoreModel) × IsReadCore o from.meaning seen c × IsScanSince from now c it
