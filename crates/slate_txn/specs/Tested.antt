-- What a transaction commits that conflicts with nothing.
--     tracked_of ops unmarked      the keys of operations, less the unmarked ones
--     CommitsAs t b tracked ts      the batch of its operations, its tracked writes and its transcript
--     IsUntracked m id t, IsTracked m id t      a manager has the transaction open, and tracks nothing of it yet; it tracks the tracked writes
use Rattle.std.specs.Prelude.{◌≡◌, ℕ, not, filter, List, Some}
use Rattle.slate_types.specs.Keys.{among}
use Rattle.slate_mem.specs.Batch.{Ops, batch_keys}
use Rattle.slate_mem.specs.BatchModel.{BatchModel, IsBatchOf}
use Rattle.slate_txn.specs.declared.event.TranscriptStep.{TranscriptStep}
use Rattle.slate_txn.specs.Conflict.{tracked_writes}
use Rattle.slate_txn.specs.Managers.{Active, Manager, untracked}
use Rattle.slate_txn.specs.Named.{find_named}
use Rattle.slate_txn.specs.State.{Tx}

abbrev pub tracked_of : Ops → List (List ℕ) → List (List ℕ)
tracked_of ops unmarked = filter (λ k. not (among k unmarked)) (batch_keys ops)

pub record CommitsAs (t : Tx) (b : BatchModel) (tracked : List (List ℕ)) (ts : List TranscriptStep) : Type 0 where
  pub batch : IsBatchOf t.ops b
  pub keys : tracked ≡ tracked_writes t
  pub steps : ts ≡ t.transcript

abbrev pub IsUntracked : Manager → List ℕ → Tx → Type 0
IsUntracked m id t = find_named id m.active ≡ Some (untracked t.begin)

pub record IsTracked (m : Manager) (id : List ℕ) (t : Tx) : Type 0 where
  pub active : Active
  pub found : find_named id m.active ≡ Some active
  pub writes : active.writes ≡ tracked_writes t
