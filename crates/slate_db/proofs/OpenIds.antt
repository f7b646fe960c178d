-- From what the calls of a core say of open ids to what the next calls need.
use Rattle.std.proofs.Common.{◌≡◌, ℕ, true, ◌||◌, List, Option, Some, None, is_some, refl}
use Rattle.std.specs.Prelude.{IsSome}
use Rattle.slate_txn.specs.Named.{find_named}
use Rattle.slate_txn.specs.State.{State, Tx, is_open}
use Rattle.slate_txn.specs.Step.{reader, reader_or_snapshot}
use Rattle.slate_db.specs.Model.{CoreModel}
use Rattle.slate_db.specs.Opened.{HasSnapshot, HasTransaction}

-- what `Core::is_open` tells
pub open_reads : (s : State) (id : List ℕ) → is_open s id ≡ true → IsSome (reader s id)
open_reads s id = by (find_named id s.txns) (find_named id s.snapshots)
  where
    by : (a : Option Tx) (b : Option ℕ) → (is_some a || is_some b) ≡ true → IsSome (reader_or_snapshot a b)
    by (Some t) b h = refl
    by None (Some n) h = refl
    by None None h = cc

pub transaction_reads : (c : CoreModel) (id : List ℕ) → HasTransaction c id → IsSome (reader c.state id)
transaction_reads c id = by (find_named id c.state.txns) (find_named id c.state.snapshots)
  where
    by : (a : Option Tx) (b : Option ℕ) → IsSome a → IsSome (reader_or_snapshot a b)
    by (Some t) b h = refl
    by None b h = cc

pub snapshot_reads : (c : CoreModel) (id : List ℕ) → HasSnapshot c id → IsSome (reader c.state id)
snapshot_reads c id = by (find_named id c.state.txns) (find_named id c.state.snapshots)
  where
    by : (a : Option Tx) (b : Option ℕ) → IsSome b → IsSome (reader_or_snapshot a b)
    by (Some t) b h = refl
    by None (Some n) h = refl
    by None None h = cc
