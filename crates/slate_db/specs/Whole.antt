-- What is true of every core.
--     BeginsWithin floor last p, ShowsWithin floor last p      an open transaction began between the floor and the newest sequence, and a snapshot shows one between them
--     Unseen      what contracts see in a core's parts, and not in the core
--     log_of c x, layers_of c x      a core's log and layers
--     AreTied c x      what ties the parts of a core: the open transactions are those of the journal, with the own operations of their transcripts, and the rows in memory those of commits above the last install
--     IsWhole c x      the parts are whole, and tied
use Rattle.std.specs.Prelude.{◌≡◌, ℕ, ◌≤◌, List, [], map}
use Rattle.std.specs.List.{AllByRecursion}
use Rattle.slate_read.specs.declared.sorted_run.SortedRun.{SortedRun}
use Rattle.slate_txn.specs.Alone.{own_of}
use Rattle.slate_txn.specs.Ids.{IsOfCount}
use Rattle.slate_txn.specs.Managers.{Manager, Snapshots}
use Rattle.slate_txn.specs.Places.{IsQuiet}
use Rattle.slate_txn.specs.Reads.{up_to}
use Rattle.slate_txn.specs.Replay.{replay}
use Rattle.slate_txn.specs.State.{Tx}
use Rattle.slate_db.specs.Installs.{tables_of, installed, as_begun, AreRunsOf}
use Rattle.slate_db.specs.Layers.{LayersModel, AreLayers}
use Rattle.slate_db.specs.Log.{LogModel, IsLog}
use Rattle.slate_db.specs.Managed.{IsManaged, IsShown}
use Rattle.slate_db.specs.Model.{CoreModel, memory}

abbrev pub BeginsWithin : ℕ → ℕ → List ℕ × Tx → Type 0
BeginsWithin floor last p = (floor ≤ p.1.begin) × (p.1.begin ≤ last)

abbrev pub ShowsWithin : ℕ → ℕ → List ℕ × ℕ → Type 0
ShowsWithin floor last p = (floor ≤ p.1) × (p.1 ≤ last)

pub record Unseen : Type 0 where
  pub last : ℕ
  pub ids : ℕ
  pub snapshot_ids : ℕ
  pub installs : ℕ
  pub ends : ℕ
  pub runs : List SortedRun
  pub for_freeze : ℕ
  pub manager : Manager
  pub snapshots : Snapshots

abbrev pub log_of : CoreModel → Unseen → LogModel
log_of c x = record { start = c.settings.start_seq; last = x.last; flushed = c.state.flushed; ids = x.ids; snapshot_ids = x.snapshot_ids; installs = x.installs; ends = x.ends; commits = c.state.commits; events = c.events; spare = c.spare }

abbrev pub layers_of : CoreModel → Unseen → LayersModel
layers_of c x = record { active = c.active; frozen = c.frozen; runs = x.runs; floor = c.floor; for_freeze = x.for_freeze }

pub record AreTied (c : CoreModel) (x : Unseen) : Type 0 where
  pub txns : (replay c.events).txns ≡ map as_begun c.state.txns
  pub snapshots : (replay c.events).snapshots ≡ c.state.snapshots
  pub shown : IsShown x.snapshots x.snapshot_ids c.state.snapshots
  pub named : AllByRecursion (λ p. IsOfCount x.ids p.0) c.state.txns
  pub floor_within : c.floor ≤ x.last
  pub begins : AllByRecursion (λ p. BeginsWithin c.floor x.last p) c.state.txns
  pub shows : AllByRecursion (ShowsWithin c.floor x.last) c.state.snapshots
  pub own : AllByRecursion (λ p. p.1.ops ≡ own_of p.1.transcript) c.state.txns
  pub all_installed : c.active ≡ [] → c.frozen ≡ [] → up_to (installed c.events) c.state.commits ≡ c.state.commits
  pub runs : AreRunsOf (tables_of c.events) x.runs
  pub quiet : c.active ≡ [] → IsQuiet c.events
  pub manager : IsManaged x.manager x.ids x.last c.state.commits c.state.txns
  pub rows_within : AllByRecursion (λ rows. AllByRecursion (λ r. r.seq ≤ x.last) rows) (memory c)

pub record IsWhole (c : CoreModel) (x : Unseen) : Type 0 where
  pub log : IsLog (log_of c x)
  pub layers : AreLayers (layers_of c x)
  pub tied : AreTied c x
