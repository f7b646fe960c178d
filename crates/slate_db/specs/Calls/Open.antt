-- Calls that open a transaction or a snapshot, and that end one; the freeze; and the journal. old,
-- new: the core.
--     IsShortOfPlace n c e      want of memory, or of a place in the journal for so many events
--     with_event old new event      the old core, with the state of the new one, and its event
--     Begins level old new result      a transaction is opened: its id, and the sequence that it
--                reads at
--     TakesSnapshot old new result      so is a snapshot
--     Releases id old new      a snapshot is ended
--     RollsBack id old new      a transaction is ended without a commit
--     Freezes old new result      the active rows are moved behind those that wait for a flush
--     IsJournal c es      what holds of the journal of a core
use Rattle.std.specs.List.{AllByRecursion}
use Rattle.std.specs.Prelude.{◌≡◌, ◌≢◌, ◌⊎◌, ◌≤◌, ℕ, false, List, [], ◌∷◌, ◌++◌, Result, Err, IfErr, IfOk, IsOk, OnErr, OnOk}
use Rattle.slate_types.specs.declared.config.IsolationLevel.{IsolationLevel}
use Rattle.slate_types.specs.declared.error.SlateDBError.{SlateDBError}
use Rattle.slate_types.specs.declared.error.SlateDBError.TheVariants.{LimitReached, OutOfMemory}
use Rattle.slate_mem.specs.KeyTests.{Segments}
use Rattle.slate_txn.specs.declared.event.Event.{Event}
use Rattle.slate_txn.specs.declared.event.Event.TheVariants as events
use Rattle.slate_txn.specs.declared.line.Line.TheVariants as lines
use Rattle.slate_txn.specs.Alone.{own_of}
use Rattle.slate_txn.specs.Places.{IsQuiet}
use Rattle.slate_txn.specs.Reads.{up_to}
use Rattle.slate_txn.specs.Replay.{IsLegal}
use Rattle.slate_txn.specs.Reply.{Begun, Done, Frozen, SnapshotAt}
use Rattle.slate_txn.specs.State.{is_open, last_of}
use Rattle.slate_db.specs.Calls.Common.{IsModelStep}
use Rattle.slate_db.specs.Flushed.{NoPlace}
use Rattle.slate_db.specs.Frozen.{IsFrozen}
use Rattle.slate_db.specs.Installs.{Replays, installed}
use Rattle.slate_db.specs.Log.{LIMIT, ends_of}
use Rattle.slate_db.specs.Meaning.{IsLawfulMeaning, Meaning}
use Rattle.slate_db.specs.Model.{CoreModel}
use Rattle.slate_db.specs.Opened.{HasSnapshot, HasTransaction, StayOpen, StayOpenBut}
use Rattle.slate_db.specs.Segmented.{IsSegmented}
use Rattle.slate_db.specs.Sound.{FoldsToState, IsKept}
use Rattle.slate_db.specs.StoredState.{StoresState}
use Rattle.slate_db.specs.Vouched.{IsVouchedFor}

-- for want of memory, or of a place for so many events more in the journal
abbrev pub IsShortOfPlace : ℕ → CoreModel → SlateDBError → Type 0
IsShortOfPlace n c e = (e ≡ OutOfMemory) ⊎ ((e ≡ LimitReached LIMIT) × NoPlace n c)

abbrev pub with_event : CoreModel → CoreModel → Event → CoreModel
with_event old new event = record old {
  state = new.state;
  events = old.events ++ (event ∷ []);
  spare = new.spare;
}

-- vouched: of the new transaction; others: of those that were open
pub record Begins (level : IsolationLevel) (old new : CoreModel)
    (result : Result (List ℕ × ℕ) SlateDBError) : Type 0 where
  pub step : IfOk result (λ a. IsModelStep old new (lines.Begin a.0 level) (Begun a.0 a.1))
  pub event : IfOk result (λ a. new ≡ with_event old new (events.Begin a.0 level a.1))
  pub vouched : IfOk result (λ a. (m : Meaning) → IsVouchedFor m new a.0)
  pub others : OnOk result ((m : Meaning) (other : List ℕ) →
      IsVouchedFor m old other → IsVouchedFor m new other)
  pub segmented : OnOk result ((g : Segments) → IsSegmented g old → IsSegmented g new)
  pub kept : OnOk result ((m : Meaning) → IsKept m old → IsKept m new)
  pub same : OnErr result (new ≡ old)
  pub limit : NoPlace 2 old → result ≡ Err (LimitReached LIMIT)
  pub cause : IfErr result (IsShortOfPlace 2 old)
  pub «open» : IfOk result (λ a. HasTransaction new a.0)
  pub fresh : IfOk result (λ a. is_open old.state a.0 ≡ false)
  pub stay : StayOpen old new

pub record TakesSnapshot (old new : CoreModel)
    (result : Result (List ℕ × ℕ) SlateDBError) : Type 0 where
  pub step : IfOk result (λ a. IsModelStep old new (lines.Snapshot a.0) (SnapshotAt a.0 a.1))
  pub event : IfOk result (λ a. new ≡ with_event old new (events.Snapshot a.0 a.1))
  pub vouched : OnOk result ((m : Meaning) (other : List ℕ) →
      IsVouchedFor m old other → IsVouchedFor m new other)
  pub segmented : OnOk result ((g : Segments) → IsSegmented g old → IsSegmented g new)
  pub kept : OnOk result ((m : Meaning) → IsKept m old → IsKept m new)
  pub same : OnErr result (new ≡ old)
  pub limit : NoPlace 2 old → result ≡ Err (LimitReached LIMIT)
  pub cause : IfErr result (IsShortOfPlace 2 old)
  pub «open» : IfOk result (λ a. HasSnapshot new a.0)
  pub fresh : IfOk result (λ a. is_open old.state a.0 ≡ false)
  pub stay : StayOpen old new

-- ---- an end

pub record Releases (id : List ℕ) (old new : CoreModel) : Type 0 where
  pub step : IsModelStep old new (lines.Rollback id) Done
  pub event : new ≡ with_event old new (events.Release id)
  pub vouched : (m : Meaning) (other : List ℕ) → IsVouchedFor m old other → IsVouchedFor m new other
  pub segmented : (g : Segments) → IsSegmented g old → IsSegmented g new
  pub kept : (m : Meaning) → IsKept m old → IsKept m new
  pub stay : StayOpenBut id old new

pub record RollsBack (id : List ℕ) (old new : CoreModel) : Type 0 where
  pub step : IsModelStep old new (lines.Rollback id) Done
  pub event : new ≡ with_event old new (events.End id)
  pub others : (m : Meaning) (other : List ℕ) → other ≢ id →
      IsVouchedFor m old other → IsVouchedFor m new other
  pub segmented : (g : Segments) → IsSegmented g old → IsSegmented g new
  pub kept : (m : Meaning) → IsKept m old → IsKept m new
  pub stay : StayOpenBut id old new

-- ---- a freeze, and the journal

-- idle: without active rows it isn't refused
pub record Freezes (old new : CoreModel) (result : Result ℕ SlateDBError) : Type 0 where
  pub step : IfOk result (λ n. IsModelStep old new lines.Freeze (Frozen n))
  pub event : OnOk result (IsFrozen old new)
  pub quiet : OnOk result (IsQuiet new.events)
  pub idle : old.active ≡ [] → IsOk result
  pub vouched : OnOk result ((m : Meaning) (other : List ℕ) →
      IsVouchedFor m old other → IsVouchedFor m new other)
  pub kept : OnOk result ((m : Meaning) → IsKept m old → IsKept m new)
  pub same : OnErr result (new ≡ old)
  pub limit : old.active ≢ [] → NoPlace 1 old → result ≡ Err (LimitReached LIMIT)
  pub cause : IfErr result (IsShortOfPlace 1 old)
  pub stay : StayOpen old new

-- es: the events
pub record IsJournal (c : CoreModel) (es : List Event) : Type 0 where
  pub events : es ≡ c.events
  pub legal : IsLegal c.settings.start_seq c.events
  pub replays : Replays c.events c.state
  pub room : ends_of c.state ≤ c.spare
  pub flushed : up_to c.state.flushed c.state.commits ≡ up_to (installed c.events) c.state.commits
  pub floor : c.floor ≤ last_of c.settings.start_seq c.state.commits
  pub begins : AllByRecursion (λ p. c.floor ≤ p.1.begin) c.state.txns
  pub shows : AllByRecursion (λ p. c.floor ≤ p.1) c.state.snapshots
  pub own : AllByRecursion (λ p. p.1.ops ≡ own_of p.1.transcript) c.state.txns
  pub quiet : c.active ≡ [] → IsQuiet c.events
  pub folds : (m : Meaning) → IsLawfulMeaning m → IsKept m c → FoldsToState m c
  pub stored : (m : Meaning) → IsLawfulMeaning m → IsKept m c → StoresState m c
