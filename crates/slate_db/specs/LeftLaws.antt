-- Laws of what open scans have left. Each statement is proved by a function of src/laws.rt.
--     IsLeft m c it rows      the scan's transaction is open, and of the list that its opening fixed these rows are left
--     Spares n s      a step of the scan's transaction is no next and no seek of its n-th scan
--     PassesBy id l      a line that opens a name, ends another one than this, or stores
--     AreJournaled old new      the old journal replays to its state, and the new one is legal, as `journal` says of each core
--     IsBeside it old new      a call that isn't on the scan and doesn't end its transaction, by what its clauses say
use Rattle.std.specs.Prelude.{◌≡◌, ◌≢◌, ℕ, List, [], ◌∷◌, Option, IsSome, ⊤, ℤ}
use Rattle.slate_types.specs.declared.types.RowEntry.{RowEntry}
use Rattle.slate_mem.specs.declared.WriteOp.{WriteOp}
use Rattle.slate_mem.specs.Batch.{Ops}
use Rattle.slate_txn.specs.declared.event.TranscriptStep.{TranscriptStep}
use Rattle.slate_txn.specs.declared.event.TranscriptStep.TheVariants as steps
use Rattle.slate_txn.specs.declared.line.Line.{Line}
use Rattle.slate_txn.specs.declared.line.Line.TheVariants as lines
use Rattle.slate_txn.specs.Named.{find_named}
use Rattle.slate_txn.specs.Replay.{IsLegal}
use Rattle.slate_txn.specs.Reply.{Reply}
use Rattle.slate_txn.specs.State.{Rules, Tx}
use Rattle.slate_txn.specs.Step.{noted, step, with_marks, with_op, with_unmarks}
use Rattle.slate_db.specs.declared.scan.TxnIterator.{TxnIterator}
use Rattle.slate_db.specs.Committed.{IsCommitted, IsEnded}
use Rattle.slate_db.specs.Installs.{Replays}
use Rattle.slate_db.specs.Meaning.{Meaning}
use Rattle.slate_db.specs.Model.{CoreModel}
use Rattle.slate_db.specs.Operated.{operated}
use Rattle.slate_db.specs.Scans.{HasLeft, IsOpenScan, id_of, number_of}
use Rattle.slate_db.specs.Written.{IsWritten}

pub record IsLeft (m : Meaning) (c : CoreModel) (it : TxnIterator) (rows : List RowEntry) : Type 0 where
  pub is_open : IsSome (find_named (id_of it) c.state.txns)
  pub left : HasLeft m c it rows

abbrev pub Spares : ℕ → TranscriptStep → Type 0
Spares n (steps.Next i a) = i ≢ n
Spares n (steps.Seek i k) = i ≢ n
Spares n _ = ⊤

abbrev pub PassesBy : List ℕ → Line → Type 0
PassesBy id (lines.Begin name level) = ⊤
PassesBy id (lines.Snapshot name) = ⊤
PassesBy id (lines.Rollback name) = name ≢ id
PassesBy id lines.Freeze = ⊤
PassesBy id lines.Flush = ⊤
PassesBy id _ = ⊥

pub record AreJournaled (old new : CoreModel) : Type 0 where
  pub replays : Replays old.events old.state
  pub legal : IsLegal new.settings.start_seq new.events

-- silent: a refused call; stepped: by the clause `step` of a begin, a snapshot, a release, a rollback, a freeze or a flush; recorded: a get, a scan, or
-- a next or a seek of another scan; taken: a put, a delete or a merge; ended: a refused commit
pub data IsBeside (it : TxnIterator) (old new : CoreModel) : Type 0 where
  silent : new.settings ≡ old.settings → new.state.commits ≡ old.state.commits → new.state.txns ≡ old.state.txns → IsBeside it old new
  stepped : (r : Rules) (l : Line) (a : Reply) → PassesBy (id_of it) l → new.settings ≡ old.settings → step r old.state l ≡ (new.state, a) → IsBeside it old new
  recorded : (id : List ℕ) (s : TranscriptStep) → (id ≡ id_of it → Spares (number_of it) s) → new ≡ record old { state = noted old.state id (s ∷ []) } → IsBeside it old new
  taken : (id k : List ℕ) (op : WriteOp) → new ≡ operated old id (with_op k op) → IsBeside it old new
  marked : (id : List ℕ) (ks : List (List ℕ)) → new ≡ operated old id (with_marks ks) → IsBeside it old new
  unmarked : (id : List ℕ) (ks : List (List ℕ)) → new ≡ operated old id (with_unmarks ks) → IsBeside it old new
  ended : (id : List ℕ) → id ≢ id_of it → IsEnded old new id → IsBeside it old new
  committed : (id : List ℕ) (n : Option ℕ) (now : ℤ) (t : Tx) → id ≢ id_of it → AreJournaled old new → IsCommitted old new id n now t → IsBeside it old new
  written : (n : Option ℕ) (now : ℤ) (ops : Ops) → AreJournaled old new → IsWritten old new n now ops → IsBeside it old new

-- What a scan has left goes on at each call beside it.
abbrev pub CallsBesideKeepWhatIsLeft : Type 0
CallsBesideKeepWhatIsLeft = (m : Meaning) (old new : CoreModel) (it : TxnIterator) (rows : List RowEntry) → IsBeside it old new → IsLeft m old it rows → IsLeft m new it rows

-- Steps of any transcript end no transaction.
abbrev pub StepsEndNothing : Type 0
StepsEndNothing = (old new : CoreModel) (id other : List ℕ) (ts : List TranscriptStep) → new ≡ record old { state = noted old.state other ts } →
    IsSome (find_named id old.state.txns) → IsSome (find_named id new.state.txns)

-- A scan that has rows left, or their end, is an open one.
abbrev pub WhatIsLeftIsOpen : Type 0
WhatIsLeftIsOpen = (m : Meaning) (c : CoreModel) (it : TxnIterator) (rows : List RowEntry) → IsLeft m c it rows → IsOpenScan c it
