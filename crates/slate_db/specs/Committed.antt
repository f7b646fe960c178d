-- What a commit of a transaction makes, and what a refused one leaves.
--     without_txn s id      the state without the open transaction
--     after_commit c id n now t rows spare      the core after the commit, but for the prefixes that it records; rows: the active rows after it
--     IsCommitted old new id n now t      the commit's rows are in memory where it has a sequence, and an event says so; the transaction is closed
--     IsNextOf last ops n, IsFull last conflicting ops e      which sequence a commit has; that none is left
--     rows_at c default n now ops rows, put_at c default n now ops y      the active rows with the commit's rows, where it has a sequence; the layers
--     recorded_at g n ops recorded      the recorded prefixes with the commit's, where it has a sequence
--     IsEnded old new id      the transaction is closed, an event says so, and nothing else is changed
use Rattle.std.specs.Prelude.{◌≡◌, ◌≢◌, ℕ, ◌+◌, ◌-◌, ◌^◌, ◌<◌, List, [], ◌∷◌, ◌++◌, Option, Some, None, ℤ}
use Rattle.slate_types.specs.declared.error.SlateDBError.{SlateDBError}
use Rattle.slate_types.specs.declared.error.SlateDBError.TheVariants.{SequenceExhausted}
use Rattle.slate_types.specs.Fold.{Combine}
use Rattle.slate_types.specs.Keys.{keys_set}
use Rattle.slate_mem.specs.Batch.{Ops, kept_ops}
use Rattle.slate_mem.specs.CommitRows.{commit_rows}
use Rattle.slate_mem.specs.KeyTests.{Segments, prefixes}
use Rattle.slate_mem.specs.Table.{put_rows}
use Rattle.slate_txn.specs.declared.event.Event.TheVariants as events
use Rattle.slate_txn.specs.Conflict.{tracked_writes}
use Rattle.slate_txn.specs.Named.{without}
use Rattle.slate_txn.specs.Replay.{commit_made}
use Rattle.slate_txn.specs.State.{State, Tx}
use Rattle.slate_db.specs.Layers.{LayersModel}
use Rattle.slate_db.specs.Model.{CoreModel, Rows}

abbrev pub without_txn : State → List ℕ → State
without_txn s id = record s { txns = without id s.txns }

abbrev pub after_commit : CoreModel → List ℕ → Option ℕ → ℤ → Tx → Rows → ℕ → CoreModel
after_commit c id n now t rows spare = record c {
  state = record c.state { commits = c.state.commits ++ commit_made n now (kept_ops t.ops) (tracked_writes t); txns = without id c.state.txns };
  events = c.events ++ (events.Commit id n now (kept_ops t.ops) (tracked_writes t) t.transcript ∷ []);
  spare = spare;
  active = rows;
}

abbrev pub IsCommitted : CoreModel → CoreModel → List ℕ → Option ℕ → ℤ → Tx → Type 0
IsCommitted old new id None now t = (t.ops ≡ []) × (new ≡ after_commit old id None now t old.active new.spare)
IsCommitted old new id (Some n) now t = new ≡ record (after_commit old id (Some n) now t new.active new.spare) { segments = new.segments }

abbrev pub IsEnded : CoreModel → CoreModel → List ℕ → Type 0
IsEnded old new id = new ≡ record old { state = without_txn old.state id; events = old.events ++ (events.End id ∷ []); spare = new.spare }

-- a commit with operations has the sequence behind the last, and one without has none
abbrev pub IsNextOf : ℕ → Ops → Option ℕ → Type 0
IsNextOf last ops None = ops ≡ []
IsNextOf last ops (Some n) = (n ≡ last + 1) × (last < 2 ^ 64 - 2) × (ops ≢ [])

-- no sequence is left
abbrev pub IsFull : ℕ → Option ℕ → Ops → SlateDBError → Type 0
IsFull last conflicting ops e = (e ≡ SequenceExhausted) × (last ≡ 2 ^ 64 - 2) × (conflicting ≡ None) × (ops ≢ [])

abbrev pub rows_at : (List ℕ → Combine) → Option ℕ → Option ℕ → ℤ → Ops → Rows → Rows
rows_at c default_millis None now ops rows = rows
rows_at c default_millis (Some n) now ops rows = put_rows rows (commit_rows c default_millis n now (kept_ops ops))

abbrev pub recorded_at : Segments → Option ℕ → Ops → List (List ℕ) → List (List ℕ)
recorded_at g None ops recorded = recorded
recorded_at g (Some n) ops recorded = keys_set (recorded ++ prefixes g ops)

abbrev pub put_at : (List ℕ → Combine) → Option ℕ → Option ℕ → ℤ → Ops → LayersModel → LayersModel
put_at c default_millis n now ops y = record y { active = rows_at c default_millis n now ops y.active }
