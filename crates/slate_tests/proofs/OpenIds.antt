-- What an id that is open reads.
use Rattle.std.proofs.Common.{◌≡◌, ℕ, true, ◌||◌, List, Option, Some, None, is_some, refl}
use Rattle.std.specs.Prelude.{IsSome}
use Rattle.slate_txn.specs.Named.{find_named}
use Rattle.slate_txn.specs.State.{State, Tx, is_open}
use Rattle.slate_txn.specs.Step.{reader, reader_or_snapshot}

pub open_reads : (s : State) (id : List ℕ) → is_open s id ≡ true → IsSome (reader s id)
open_reads s id = by (find_named id s.txns) (find_named id s.snapshots)
  where
    by : (a : Option Tx) (b : Option ℕ) → (is_some a || is_some b) ≡ true → IsSome (reader_or_snapshot a b)
    by (Some t) b h = refl
    by None (Some n) h = refl
    by None None h = cc
