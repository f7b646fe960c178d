-- One transaction on a core, by the steps that it took so far.
--     newest c      the newest sequence of a core
--     taking n level ts      a transaction that began at a sequence and took these steps; it marks nothing
--     with_transaction c id level ts spare      the core with that transaction open, and its begin in the journal
--     IsWithin c id level ts d      d is the core c in which one transaction was begun and took these steps, and nothing else was done
--     HasEnded c id level d      d is the core c in which one was begun and ended without a commit
--     IsNext n ops o      which sequence a commit has behind n: the next where there are operations
--     HasCommitted c id level ts n now d      d is the core c in which one was begun, took these steps, and was committed
--     Sees m c ts      the answers among the steps are those of a reader at the newest sequence, under the own operations before them
--     IsBeginError c e      what refuses a begin
use Rattle.std.specs.Prelude.{◌≡◌, ◌≢◌, ◌⊎◌, ℕ, ◌+◌, ◌≤◌, false, List, [], ◌∷◌, ◌++◌, length, Option, Some, None, ℤ}
use Rattle.slate_types.specs.declared.config.IsolationLevel.{IsolationLevel}
use Rattle.slate_types.specs.declared.error.SlateDBError.{SlateDBError}
use Rattle.slate_types.specs.declared.error.SlateDBError.TheVariants.{LimitReached, OutOfMemory}
use Rattle.slate_mem.specs.Batch.{Ops, batch_keys, kept_ops}
use Rattle.slate_txn.specs.declared.event.Event.TheVariants as events
use Rattle.slate_txn.specs.declared.event.TranscriptStep.{TranscriptStep}
use Rattle.slate_txn.specs.Alone.{IsAlone, own_of}
use Rattle.slate_txn.specs.Named.{set_named}
use Rattle.slate_txn.specs.Replay.{IsLegal, commit_made}
use Rattle.slate_txn.specs.State.{Tx, is_open, last_of}
use Rattle.slate_db.specs.Flushed.{NoPlace}
use Rattle.slate_db.specs.Installs.{Replays}
use Rattle.slate_db.specs.Load.{load}
use Rattle.slate_db.specs.Log.{LIMIT}
use Rattle.slate_db.specs.Meaning.{Meaning, rules_of}
use Rattle.slate_db.specs.Model.{CoreModel}
use Rattle.slate_db.specs.Sound.{IsKept}
use Rattle.slate_db.specs.Vouched.{IsVouchedFor}

abbrev pub newest : CoreModel → ℕ
newest c = last_of c.settings.start_seq c.state.commits

abbrev pub taking : ℕ → IsolationLevel → List TranscriptStep → Tx
taking n level ts = record { level = level; begin = n; ops = own_of ts; marked = []; unmarked = []; transcript = ts }

abbrev pub with_transaction : CoreModel → List ℕ → IsolationLevel → List TranscriptStep → ℕ → CoreModel
with_transaction c id level ts spare = record c {
  state = record c.state { txns = set_named id (taking (newest c) level ts) c.state.txns };
  events = c.events ++ (events.Begin id level (newest c) ∷ []);
  spare = spare;
}

-- c: the core before the begin
pub record IsWithin (c : CoreModel) (id : List ℕ) (level : IsolationLevel) (ts : List TranscriptStep) (d : CoreModel) : Type 0 where
  pub legal : IsLegal c.settings.start_seq c.events
  pub replays : Replays c.events c.state
  pub fresh : is_open c.state id ≡ false
  pub is : d ≡ with_transaction c id level ts d.spare
  pub kept : (m : Meaning) → IsKept m c → IsKept m d

pub record HasEnded (c : CoreModel) (id : List ℕ) (level : IsolationLevel) (d : CoreModel) : Type 0 where
  pub is : d ≡ record c { events = c.events ++ (events.Begin id level (newest c) ∷ events.End id ∷ []); spare = d.spare }
  pub kept : (m : Meaning) → IsKept m c → IsKept m d

abbrev pub IsNext : ℕ → Ops → Option ℕ → Type 0
IsNext n ops None = ops ≡ []
IsNext n ops (Some seq) = (seq ≡ n + 1) × (ops ≢ [])

-- the commit tracks all its keys
pub record HasCommitted (c : CoreModel) (id : List ℕ) (level : IsolationLevel) (ts : List TranscriptStep) (n : Option ℕ) (now : ℤ) (d : CoreModel) : Type 0 where
  pub legal : IsLegal c.settings.start_seq c.events
  pub replays : Replays c.events c.state
  pub fresh : is_open c.state id ≡ false
  pub is : d ≡ record c {
    state = record c.state { commits = c.state.commits ++ commit_made n now (kept_ops (own_of ts)) (batch_keys (own_of ts)) };
    events = c.events ++ (events.Begin id level (newest c) ∷ events.Commit id n now (kept_ops (own_of ts)) (batch_keys (own_of ts)) ts ∷ []);
    spare = d.spare;
    segments = d.segments;
    active = d.active;
  }
  pub next : IsNext (newest c) (own_of ts) n
  pub load : load d ≤ load c + length (own_of ts)
  pub others : (m : Meaning) (other : List ℕ) → IsVouchedFor m c other → IsVouchedFor m d other

abbrev pub Sees : Meaning → CoreModel → List TranscriptStep → Type 0
Sees m c ts = IsAlone (rules_of c.settings m) c.state.commits (newest c) ts

abbrev pub IsBeginError : CoreModel → SlateDBError → Type 0
IsBeginError c e = (e ≡ OutOfMemory) ⊎ ((e ≡ LimitReached LIMIT) × NoPlace 2 c)
