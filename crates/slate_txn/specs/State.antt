-- The model's state: the commits in order, and what is open, under names of a script or under ids.
--     last r s      the last commit's sequence, or where sequences start
--     is_open s name      a transaction or a snapshot has the name
--     combine_at r k      what the operator does at the key
--     NamesStandOnce s      no name stands twice, and none is both a transaction's and a snapshot's
-- The read keys and scanned ranges of an open transaction are `reads` of its transcript, in `Conflict`: there is no second record of them.
-- `flushed` is the last sequence at the last flush, and 0 before the first. A flush that finds no rows sets it too, but adds no event to a journal,
-- so that it may be above the `flushed` of the journal's replay; no commit lies between the two.
use Rattle.std.specs.Prelude.{◌≡◌, ℕ, Bool, ◌||◌, ◌⊎◌, List, [], ◌∷◌, Option, None, is_some, ℤ, pos}
use Rattle.slate_types.specs.declared.config.IsolationLevel.{IsolationLevel}
use Rattle.slate_types.specs.Fold.{Combine, operator_at}
use Rattle.slate_mem.specs.Batch.{Ops}
use Rattle.slate_mem.specs.KeyTests.{Segments}
use Rattle.slate_txn.specs.declared.event.TranscriptStep.{TranscriptStep}
use Rattle.slate_txn.specs.Named.{find_named, StandOnce}

-- What of the options enters a reply: the operator, and the length of a key's segment prefix, each where there is one.
pub record Rules : Type 0 where
  pub default_millis : Option ℕ
  pub start_seq : ℕ
  pub combine : Option (List ℕ → Combine)
  pub segment : Segments

-- `ops` are the kept operations, keys rising
pub record Commit : Type 0 where
  pub seq : ℕ
  pub now : ℤ
  pub ops : Ops
  pub tracked : List (List ℕ)

-- `ops` are the own operations, oldest first; what it has read is `reads` of its transcript
pub record Tx : Type 0 where
  pub level : IsolationLevel
  pub begin : ℕ
  pub ops : Ops
  pub marked : List (List ℕ)
  pub unmarked : List (List ℕ)
  pub transcript : List TranscriptStep

pub record State : Type 0 where
  pub commits : List Commit
  pub txns : List (List ℕ × Tx)
  pub snapshots : List (List ℕ × ℕ)
  pub now : ℤ
  pub flushed : ℕ

abbrev pub opening : State
opening = record { commits = []; txns = []; snapshots = []; now = pos 0; flushed = 0 }

abbrev pub begun : IsolationLevel → ℕ → Tx
begun level n = record { level = level; begin = n; ops = []; marked = []; unmarked = []; transcript = [] }

abbrev pub last_of : ℕ → List Commit → ℕ
last_of n [] = n
last_of n (c ∷ cs) = last_of c.seq cs

abbrev pub last : Rules → State → ℕ
last r s = last_of r.start_seq s.commits

abbrev pub is_open : State → List ℕ → Bool
is_open s name = is_some (find_named name s.txns) || is_some (find_named name s.snapshots)

-- A snapshot's name is no transaction's.
abbrev pub IsApart : State → List ℕ → Type 0
IsApart s name = (find_named name s.txns ≡ None) ⊎ (find_named name s.snapshots ≡ None)

abbrev pub NamesStandOnce : State → Type 0
NamesStandOnce s = StandOnce s.txns × StandOnce s.snapshots × ((name : List ℕ) → IsApart s name)

abbrev pub combine_at : Rules → List ℕ → Combine
combine_at r k = operator_at r.combine k
