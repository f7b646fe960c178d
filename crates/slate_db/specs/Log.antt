-- The log of a core: its journal, and what is counted of it.
--     LIMIT      the journal's events, with one more for whatever is open, are no more than these
--     Rising n cs      each sequence is above those before
--     AreFine ops      no operation is refused by itself
--     IsWhollyKept ops      what a batch is that becomes a commit
--     LogModel      what contracts see of a log
--     ends_of s      what is open in a state, of which each will end
--     IsIdOf ids shown id      one of so many ids of transactions, or of so many of snapshots
--     held_by l      the journal's events, with one more for whatever is open
--     IsLog l      what is true of every log; no commit lies between the last install and the last flush
--     HasPlace more l      room was made for so many events more beside the ends, and the journal has a place for them
--     with_begin, with_snapshot, with_end, with_release, with_freeze, with_write, with_commit, with_install, with_install_through, with_flush      the log after each
--     MayCommit l id n ops tracked ts      a commit that a log may take
use Rattle.std.specs.Prelude.{◌≡◌, ◌⊎◌, ℕ, ◌+◌, ◌-◌, ◌^◌, ◌≤◌, ◌<◌, List, [], ◌∷◌, ◌++◌, length, Option, None, unwrap_or, IsSome, ℤ}
use Rattle.std.specs.List.{AllByRecursion}
use Rattle.slate_types.specs.declared.config.IsolationLevel.{IsolationLevel}
use Rattle.slate_types.specs.declared.types.Ulid.{Ulid}
use Rattle.slate_mem.specs.Batch.{Ops, batch_keys, kept_ops}
use Rattle.slate_mem.specs.Refusals.{op_refusal}
use Rattle.slate_txn.specs.declared.event.Event.{Event}
use Rattle.slate_txn.specs.declared.event.Event.TheVariants as events
use Rattle.slate_txn.specs.Ids.{id_of, snapshot_id, IsOfCount, IsSnapshotOf}
use Rattle.slate_txn.specs.Reads.{up_to}
use Rattle.slate_txn.specs.declared.event.TranscriptStep.{TranscriptStep}
use Rattle.slate_txn.specs.Named.{find_named}
use Rattle.slate_txn.specs.Replay.{replay, used_from, IsLegal, commit_made, IsNextOrNone, AreKept, AreKeysOf, HasNoConflict}
use Rattle.slate_txn.specs.State.{Commit, State, last_of}
use Rattle.slate_db.specs.Installs.{runs_of, installed, NumberedFrom}

abbrev pub LIMIT : ℕ
LIMIT = 9223372036854775807

abbrev pub Rising : ℕ → List Commit → Type 0
Rising n [] = Unit {0}
Rising n (c ∷ cs) = (n < c.seq) × Rising c.seq cs

-- no operation is refused by itself: keys are keys, and values are short
abbrev pub AreFine : Ops → Type 0
AreFine ops = AllByRecursion (λ o. op_refusal o.0 o.1 ≡ None) ops

pub record IsWhollyKept (ops : Ops) : Type 0 where
  pub some : 0 < length ops
  pub kept : kept_ops ops ≡ ops
  pub fine : AreFine ops

-- start: where sequences start; last: the newest sequence; flushed: the newest one at the last flush; ids, snapshot_ids, installs: how many ids of
-- transactions and of snapshots were given, and installs made; ends: how many are open; spare: how many more events the journal takes without memory
pub record LogModel : Type 0 where
  pub start : ℕ
  pub last : ℕ
  pub flushed : ℕ
  pub ids : ℕ
  pub snapshot_ids : ℕ
  pub installs : ℕ
  pub ends : ℕ
  pub commits : List Commit
  pub events : List Event
  pub spare : ℕ

abbrev pub ends_of : State → ℕ
ends_of s = length s.txns + length s.snapshots

abbrev pub IsIdOf : ℕ → ℕ → List ℕ → Type 0
IsIdOf ids shown id = IsOfCount ids id ⊎ IsSnapshotOf shown id

abbrev pub held_by : LogModel → ℕ
held_by l = length l.events + l.ends

pub record IsLog (l : LogModel) : Type 0 where
  pub legal : IsLegal l.start l.events
  pub replays : (replay l.events).commits ≡ l.commits
  pub last : l.last ≡ last_of l.start l.commits
  pub last_fits : l.last ≤ 2 ^ 64 - 2
  pub rising : Rising l.start l.commits
  pub fine : AllByRecursion (λ x. AreFine x.ops) l.commits
  pub used : AllByRecursion (IsIdOf l.ids l.snapshot_ids) (used_from [] l.events)
  pub counted : l.ids ≤ length l.events
  pub snapshots_counted : l.snapshot_ids ≤ length l.events
  pub installed_within : installed l.events ≤ l.last
  pub flushed_within : l.flushed ≤ l.last
  pub flushed_through : up_to l.flushed l.commits ≡ up_to (installed l.events) l.commits
  pub numbered : NumberedFrom 1 (runs_of l.events)
  pub installs : l.installs ≡ length (runs_of l.events)
  pub installs_within : l.installs ≤ length l.events
  pub ends : l.ends ≡ ends_of (replay l.events)
  pub room : l.ends ≤ l.spare
  pub bound : length l.events + l.ends ≤ LIMIT

pub record HasPlace (more : ℕ) (l : LogModel) : Type 0 where
  pub room : l.ends + more ≤ l.spare
  pub place : length l.events + l.ends + more ≤ LIMIT

-- each with the room that is left

abbrev pub with_begin : LogModel → IsolationLevel → ℕ → LogModel
with_begin l level spare = record l { ids = l.ids + 1; ends = l.ends + 1; events = l.events ++ (events.Begin (id_of (l.ids + 1)) level l.last ∷ []); spare = spare }

abbrev pub with_snapshot : LogModel → ℕ → LogModel
with_snapshot l spare = record l { snapshot_ids = l.snapshot_ids + 1; ends = l.ends + 1; events = l.events ++ (events.Snapshot (snapshot_id (l.snapshot_ids + 1)) l.last ∷ []); spare = spare }

abbrev pub with_end : LogModel → List ℕ → ℕ → LogModel
with_end l id spare = record l { ends = l.ends - 1; events = l.events ++ (events.End id ∷ []); spare = spare }

abbrev pub with_release : LogModel → List ℕ → ℕ → LogModel
with_release l id spare = record l { ends = l.ends - 1; events = l.events ++ (events.Release id ∷ []); spare = spare }

abbrev pub with_freeze : LogModel → ℕ → LogModel
with_freeze l spare = record l { events = l.events ++ (events.Freeze ∷ []); spare = spare }

abbrev pub with_write : LogModel → ℤ → Ops → ℕ → LogModel
with_write l now ops spare = record l {
  last = l.last + 1;
  commits = l.commits ++ (record { seq = l.last + 1; now = now; ops = ops; tracked = batch_keys ops } ∷ []);
  events = l.events ++ (events.Write (l.last + 1) now ops ∷ []);
  spare = spare;
}

-- a commit of a transaction, with a sequence where it has operations
abbrev pub with_commit : LogModel → List ℕ → Option ℕ → ℤ → Ops → List (List ℕ) → List TranscriptStep → ℕ → LogModel
with_commit l id n now ops tracked ts spare = record l {
  last = unwrap_or n l.last;
  ends = l.ends - 1;
  commits = l.commits ++ commit_made n now ops tracked;
  events = l.events ++ (events.Commit id n now ops tracked ts ∷ []);
  spare = spare;
}

-- a commit that a log may take
pub record MayCommit (l : LogModel) (id : List ℕ) (n : Option ℕ) (ops : Ops) (tracked : List (List ℕ)) (ts : List TranscriptStep) : Type 0 where
  pub held : IsSome (find_named id (replay l.events).txns)
  pub next : IsNextOrNone l.start (replay l.events) n ops
  pub kept : AreKept ops
  pub fine : AreFine ops
  pub keys : AreKeysOf ops tracked
  pub free : HasNoConflict (replay l.events) (find_named id (replay l.events).txns) tracked ts
  pub fits : unwrap_or n l.last ≤ 2 ^ 64 - 2

abbrev pub with_install_through : LogModel → ℕ → List (Ulid × List ℕ) → ℕ → LogModel
with_install_through l through ts spare = record l { flushed = through; installs = l.installs + 1; events = l.events ++ (events.Install through ts ∷ []); spare = spare }

abbrev pub with_install : LogModel → List (Ulid × List ℕ) → ℕ → LogModel
with_install l ts spare = record l { flushed = l.last; installs = l.installs + 1; events = l.events ++ (events.Install l.last ts ∷ []); spare = spare }

-- where nothing is to be installed
abbrev pub with_flush : LogModel → LogModel
with_flush l = record l { flushed = l.last }
