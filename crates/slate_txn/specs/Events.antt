-- The events that a line adds to a journal, where its name is an id.
--     as_replayed s      what of a state its journal knows: of an open transaction its level and begin, and no moment
--     line_events tables s l a      those of a line that was answered so on the state; `tables` are what a flush puts
--     all_events r tables s ls      those of lines, one after another
-- Each freeze and each flush finds rows here. Where one finds none, it adds no event: then `flushed` alone differs.
use Rattle.std.specs.Prelude.{ℕ, List, [], ◌∷◌, ◌++◌, map, Option, Some, None, ℤ, pos}
use Rattle.slate_types.specs.declared.types.Ulid.{Ulid}
use Rattle.slate_mem.specs.Batch.{Ops, kept_ops}
use Rattle.slate_txn.specs.declared.line.Line.{Line}
use Rattle.slate_txn.specs.declared.line.Line.TheVariants as lines
use Rattle.slate_txn.specs.declared.event.Event.{Event}
use Rattle.slate_txn.specs.declared.event.Event.TheVariants as events
use Rattle.slate_txn.specs.Named.{find_named}
use Rattle.slate_txn.specs.State.{Rules, Tx, State, begun}
use Rattle.slate_txn.specs.Conflict.{tracked_writes}
use Rattle.slate_txn.specs.Reply.{Reply, Done, Refused, Begun, SnapshotAt, Committed, Written, Flushed}
use Rattle.slate_txn.specs.Step.{step}

abbrev pub bare : Tx → Tx
bare t = begun t.level t.begin

abbrev pub bare_txns : List (List ℕ × Tx) → List (List ℕ × Tx)
bare_txns ps = map (λ p. (p.0, bare p.1)) ps

abbrev pub as_replayed : State → State
as_replayed s = record s { txns = bare_txns s.txns; now = pos 0 }

abbrev pub begin_events : Line → Reply → List Event
begin_events (lines.Begin name level) (Begun _ start) = events.Begin name level start ∷ []
begin_events (lines.Snapshot name) (SnapshotAt _ n) = events.Snapshot name n ∷ []
begin_events _ _ = []

-- a commit that is refused ends its transaction
abbrev pub commit_events : List ℕ → ℤ → Option Tx → Reply → List Event
commit_events name now None a = []
commit_events name now (Some t) (Committed n) = events.Commit name n now (kept_ops t.ops) (tracked_writes t) t.transcript ∷ []
commit_events name now (Some t) (Refused e) = events.End name ∷ []
commit_events name now (Some t) _ = []

abbrev pub rollback_events : List ℕ → Option Tx → Reply → List Event
rollback_events name (Some t) Done = events.End name ∷ []
rollback_events name None Done = events.Release name ∷ []
rollback_events name t _ = []

abbrev pub write_events : ℤ → Ops → Reply → List Event
write_events now ops (Written (Some n)) = events.Write n now (kept_ops ops) ∷ []
write_events now ops _ = []

abbrev pub flush_events : List (Ulid × List ℕ) → Reply → List Event
flush_events tables (Flushed n) = events.Freeze ∷ events.Install n tables ∷ []
flush_events tables _ = []

abbrev pub line_events : List (Ulid × List ℕ) → State → Line → Reply → List Event
line_events tables s (lines.Begin name level) a = begin_events (lines.Begin name level) a
line_events tables s (lines.Snapshot name) a = begin_events (lines.Snapshot name) a
line_events tables s (lines.Commit name) a = commit_events name s.now (find_named name s.txns) a
line_events tables s (lines.Rollback name) a = rollback_events name (find_named name s.txns) a
line_events tables s (lines.Write ops) a = write_events s.now ops a
line_events tables s lines.Freeze a = events.Freeze ∷ []
line_events tables s lines.Flush a = flush_events tables a
line_events tables s _ a = []

abbrev pub all_events : Rules → List (Ulid × List ℕ) → State → List Line → List Event
all_events r tables s [] = []
all_events r tables s (l ∷ ls) = line_events tables s l (step r s l).1 ++ all_events r tables (step r s l).0 ls
