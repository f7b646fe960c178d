-- What a journal's commits have seen.
--     VouchedAt r s e      a commit's transaction is open, and its transcript is so at its begin
--     AreVouched r es      so is each commit of a journal
--     TracksReads cs begin rs      whoever wrote a key that was read since the begin tracks it
--     AloneAt r s e, AreAlone r es      a serializable commit's transcript is so at its own place, just before it; each of a journal that has `TracksReads` is
-- Commits outside transactions track all of their keys. A transaction may take keys of its batch out of what it tracks.
use Rattle.std.specs.Prelude.{ℕ, ◌<◌, List, [], ◌∷◌, Option, Some, None, IsTrue, ⊤}
use Rattle.std.specs.List.{AllByRecursion}
use Rattle.slate_types.specs.declared.config.IsolationLevel.{IsolationLevel}
use Rattle.slate_types.specs.declared.config.IsolationLevel.TheVariants.{Snapshot, SerializableSnapshot}
use Rattle.slate_types.specs.Keys.{among}
use Rattle.slate_mem.specs.Batch.{batch_keys}
use Rattle.slate_txn.specs.declared.event.Event.{Event}
use Rattle.slate_txn.specs.declared.event.Event.TheVariants as events
use Rattle.slate_txn.specs.declared.event.TranscriptStep.{TranscriptStep}
use Rattle.slate_txn.specs.Named.{find_named}
use Rattle.slate_txn.specs.State.{Rules, Commit, Tx, State, opening, last}
use Rattle.slate_txn.specs.Tracking.{Reading, is_read, reads_of}
use Rattle.slate_txn.specs.Replay.{apply}
use Rattle.slate_txn.specs.Alone.{IsAlone}

abbrev pub VouchedBy : Rules → State → Option Tx → List TranscriptStep → Type 0
VouchedBy r s None ts = ⊥
VouchedBy r s (Some t) ts = IsAlone r s.commits t.begin ts

abbrev pub VouchedAt : Rules → State → Event → Type 0
VouchedAt r s (events.Commit id n now ops tracked ts) = VouchedBy r s (find_named id s.txns) ts
VouchedAt r s _ = ⊤

abbrev pub AreVouchedFrom : Rules → State → List Event → Type 0
AreVouchedFrom r s [] = ⊤
AreVouchedFrom r s (e ∷ es) = VouchedAt r s e × AreVouchedFrom r (apply s e) es

abbrev pub AreVouched : Rules → List Event → Type 0
AreVouched r es = AreVouchedFrom r opening es

-- a commit after the begin tracks each key that it writes and that was read
abbrev pub TracksReads : List Commit → ℕ → Reading → Type 0
TracksReads cs begin rs = AllByRecursion (λ c. begin < c.seq → (k : List ℕ) → IsTrue (among k (batch_keys c.ops)) → IsTrue (is_read rs k) → IsTrue (among k c.tracked)) cs

-- of the transaction that commits, where it is serializable and all that it read is tracked
abbrev pub AloneWhere : Rules → State → IsolationLevel → ℕ → List TranscriptStep → Type 0
AloneWhere r s Snapshot begin ts = ⊤
AloneWhere r s SerializableSnapshot begin ts = TracksReads s.commits begin (reads_of ts) → IsAlone r s.commits (last r s) ts

abbrev pub AloneBy : Rules → State → Option Tx → List TranscriptStep → Type 0
AloneBy r s None ts = ⊥
AloneBy r s (Some t) ts = AloneWhere r s t.level t.begin ts

abbrev pub AloneAt : Rules → State → Event → Type 0
AloneAt r s (events.Commit id n now ops tracked ts) = AloneBy r s (find_named id s.txns) ts
AloneAt r s _ = ⊤

abbrev pub AreAloneFrom : Rules → State → List Event → Type 0
AreAloneFrom r s [] = ⊤
AreAloneFrom r s (e ∷ es) = AloneAt r s e × AreAloneFrom r (apply s e) es

abbrev pub AreAlone : Rules → List Event → Type 0
AreAlone r es = AreAloneFrom r opening es
