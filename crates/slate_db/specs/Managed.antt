-- What ties the managers of transactions and of snapshots to the journal's state.
--     as_untracked p      an open transaction as the manager has it: nothing of it is tracked before its commit
--     IsManaged m ids last cs ps      the manager stands for the commits, has the newest sequence and the number of ids, and has open what is open
--     IsShown m ids ps      the manager of snapshots has the number of ids, of which what is open has one each, and has open what is open
use Rattle.std.specs.Prelude.{◌≡◌, ℕ, List, map}
use Rattle.std.specs.List.{AllByRecursion}
use Rattle.slate_txn.specs.Ids.{IsSnapshotOf}
use Rattle.slate_txn.specs.Managers.{Active, Manager, Snapshots, StandsFor, untracked}
use Rattle.slate_txn.specs.State.{Commit, Tx}

abbrev pub as_untracked : List ℕ × Tx → List ℕ × Active
as_untracked p = (p.0, untracked p.1.begin)

pub record IsManaged (m : Manager) (ids last : ℕ) (cs : List Commit) (ps : List (List ℕ × Tx)) : Type 0 where
  pub stands : StandsFor m cs
  pub newest : m.last ≡ last
  pub counted : m.ids ≡ ids
  pub opened : m.active ≡ map as_untracked ps

pub record IsShown (m : Snapshots) (ids : ℕ) (ps : List (List ℕ × ℕ)) : Type 0 where
  pub counted : m.ids ≡ ids
  pub opened : m.active ≡ ps
  pub named : AllByRecursion (λ p. IsSnapshotOf ids p.0) ps
