-- Laws of the commits of a core's journal. Each statement is proved by a function of src/laws.rt.
--     JournalIsVouched m c      each commit in the core's journal was answered as a reader at its transaction's begin is
--     IsVouchedCore m c      so it is, and so was what each open transaction was answered so far
--     IsNoCommit e      the event isn't the commit of a transaction
--     StayVouched m old new, OthersStayVouched m id old new      what was vouched for stays so: each transaction, or each but one
--     IsVouchedCall m old new      a call, by what its clauses say of its events and of what stays vouched for
use Rattle.std.specs.Prelude.{◌≡◌, ◌≢◌, ℕ, List, [], ◌∷◌, ◌++◌, Option, Some, ⊤, ℤ}
use Rattle.slate_types.specs.Outside.{Reach}
use Rattle.slate_mem.specs.Batch.{Ops}
use Rattle.slate_txn.specs.declared.event.Event.{Event}
use Rattle.slate_txn.specs.declared.event.Event.TheVariants as events
use Rattle.slate_txn.specs.Named.{find_named}
use Rattle.slate_txn.specs.Replay.{IsLegal}
use Rattle.slate_txn.specs.State.{Tx, opening}
use Rattle.slate_txn.specs.Vouched.{AreAlone, AreVouched}
use Rattle.slate_db.specs.Committed.{IsCommitted}
use Rattle.slate_db.specs.Flushed.{Flushes, Layout}
use Rattle.slate_db.specs.Frozen.{IsFrozen}
use Rattle.slate_db.specs.Installs.{Replays}
use Rattle.slate_db.specs.Meaning.{Meaning, rules_of}
use Rattle.slate_db.specs.Model.{CoreModel}
use Rattle.slate_db.specs.Vouched.{IsVouchedFor}
use Rattle.slate_db.specs.Written.{IsWritten}

abbrev pub JournalIsVouched : Meaning → CoreModel → Type 0
JournalIsVouched m c = AreVouched (rules_of c.settings m) c.events

pub record IsVouchedCore (m : Meaning) (c : CoreModel) : Type 0 where
  pub journal : JournalIsVouched m c
  pub transactions : (id : List ℕ) → IsVouchedFor m c id

abbrev pub IsNoCommit : Event → Type 0
IsNoCommit (events.Commit id n now ops tracked ts) = ⊥
IsNoCommit _ = ⊤

abbrev pub StayVouched : Meaning → CoreModel → CoreModel → Type 0
StayVouched m old new = (id : List ℕ) → IsVouchedFor m old id → IsVouchedFor m new id

abbrev pub OthersStayVouched : Meaning → List ℕ → CoreModel → CoreModel → Type 0
OthersStayVouched m id old new = (other : List ℕ) → other ≢ id → IsVouchedFor m old other → IsVouchedFor m new other

-- silent: no event, as of a get, a scan, a put, a mark or a refused call; added: as a begin; ended: a rollback or a refused commit
pub data IsVouchedCall (m : Meaning) (old new : CoreModel) : Type 0 where
  silent : new.settings ≡ old.settings → new.events ≡ old.events → StayVouched m old new → IsVouchedCall m old new
  added : (e : Event) → IsNoCommit e → new.settings ≡ old.settings → new.events ≡ old.events ++ (e ∷ []) → StayVouched m old new → IsVouchedCall m old new
  ended : (id : List ℕ) → new.settings ≡ old.settings → new.events ≡ old.events ++ (events.End id ∷ []) → OthersStayVouched m id old new → IsVouchedCall m old new
  committed : (id : List ℕ) (n : Option ℕ) (now : ℤ) (t : Tx) → find_named id old.state.txns ≡ Some t → IsCommitted old new id n now t → OthersStayVouched m id old new → IsVouchedCall m old new

-- A new core is vouched for.
abbrev pub NewCoreIsVouched : Type 0
NewCoreIsVouched = (m : Meaning) (c : CoreModel) → c.state ≡ opening → c.events ≡ [] → IsVouchedCore m c

-- A journal stays vouched for at the commit of a transaction that is.
abbrev pub CommitsKeepItVouched : Type 0
CommitsKeepItVouched = (m : Meaning) (old new : CoreModel) (id : List ℕ) (n : Option ℕ) (now : ℤ) (t : Tx) →
    Replays old.events old.state → find_named id old.state.txns ≡ Some t → IsVouchedFor m old id → IsCommitted old new id n now t →
    JournalIsVouched m old → JournalIsVouched m new

-- It stays so at each event that isn't the commit of a transaction.
abbrev pub OtherEventsKeepItVouched : Type 0
OtherEventsKeepItVouched = (m : Meaning) (old new : CoreModel) (e : Event) → IsNoCommit e → new.settings ≡ old.settings → new.events ≡ old.events ++ (e ∷ []) →
    JournalIsVouched m old → JournalIsVouched m new

-- So a core stays vouched for at each call.
abbrev pub CallsKeepCoresVouched : Type 0
CallsKeepCoresVouched = (m : Meaning) (old new : CoreModel) → IsLegal old.settings.start_seq old.events → Replays old.events old.state → Replays new.events new.state →
    IsVouchedCall m old new → IsVouchedCore m old → IsVouchedCore m new

-- So it does at a batch, at a freeze, and at a flush behind its freeze.
abbrev pub WritesKeepCoresVouched : Type 0
WritesKeepCoresVouched = (m : Meaning) (old new : CoreModel) → IsVouchedCore m old →
    ((n : Option ℕ) (now : ℤ) (ops : Ops) → IsWritten old new n now ops → StayVouched m old new → IsVouchedCore m new)
    × (IsFrozen old new → IsVouchedCore m new)
    × ((layout : Layout) (before after : Reach) (n : ℕ) → Flushes layout before after old new n → IsVouchedCore m new)

-- In a journal that is legal and vouched for, each serializable commit stands at its own place, where whoever wrote since its begin what it read tracks it.
abbrev pub CommitsStandAtTheirPlaces : Type 0
CommitsStandAtTheirPlaces = (m : Meaning) (c : CoreModel) → IsLegal c.settings.start_seq c.events → JournalIsVouched m c → AreAlone (rules_of c.settings m) c.events
