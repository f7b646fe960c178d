-- What is open in a core.
--     HasTransaction c id, HasSnapshot c id      an open transaction, an open snapshot has this id
--     HasScan c id n      one of them has it, and the transaction opened more than n scans
--     StaysOpen old new id      what was open under this id is open still
--     StayOpen old new, StayOpenBut ended old new      so is all that was open, or all that has another id
use Rattle.std.specs.Prelude.{◌≡◌, ◌≢◌, ℕ, ◌<◌, List, count_by, Some, IsSome}
use Rattle.slate_txn.specs.Named.{find_named}
use Rattle.slate_txn.specs.State.{Tx}
use Rattle.slate_txn.specs.Step.{is_scan, reader}
use Rattle.slate_db.specs.Model.{CoreModel}

abbrev pub HasTransaction : CoreModel → List ℕ → Type 0
HasTransaction c id = IsSome (find_named id c.state.txns)

abbrev pub HasSnapshot : CoreModel → List ℕ → Type 0
HasSnapshot c id = IsSome (find_named id c.state.snapshots)

abbrev pub HasScan : CoreModel → List ℕ → ℕ → Type 0
HasScan c id n = IsSome (reader c.state id) × ((t : Tx) → find_named id c.state.txns ≡ Some t → n < count_by is_scan t.transcript)

pub record StaysOpen (old new : CoreModel) (id : List ℕ) : Type 0 where
  pub transaction : HasTransaction old id → HasTransaction new id
  pub snapshot : HasSnapshot old id → HasSnapshot new id
  pub reads : IsSome (reader old.state id) → IsSome (reader new.state id)
  pub scans : (n : ℕ) → HasScan old id n → HasScan new id n

abbrev pub StayOpen : CoreModel → CoreModel → Type 0
StayOpen old new = (id : List ℕ) → StaysOpen old new id

abbrev pub StayOpenBut : List ℕ → CoreModel → CoreModel → Type 0
StayOpenBut ended old new = (id : List ℕ) → id ≢ ended → StaysOpen old new id
