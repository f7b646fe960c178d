-- What a transaction hands over at its commit is what the model's conflict takes.
use Rattle.std.proofs.Common.{◌≡◌, ℕ, List, ◌++◌, filter, not, Option, Some, None, refl, ap, ◌∙◌}
use Rattle.std.specs.Prelude.{Result, Ok, Err, IfOk}
use Rattle.slate_types.specs.Keys.{among}
use Rattle.slate_mem.specs.Batch.{batch_keys}
use Rattle.slate_mem.specs.BatchModel.{BatchModel, IsBatchOf}
use Rattle.slate_mem.proofs.BatchLaws.{keeps_its_keys}
use Rattle.slate_txn.specs.Conflict.{conflict, conflict_of, reads_at, tracked_writes}
use Rattle.slate_txn.specs.HandedOver.{HandsOver}
use Rattle.slate_txn.specs.Managers.{Active, Manager}
use Rattle.slate_txn.specs.Named.{find_named}
use Rattle.slate_txn.specs.State.{Commit, Tx}
use Rattle.slate_txn.specs.Tested.{IsTracked, tracked_of}
use Rattle.slate_txn.specs.Tracking.{Reading}

-- unmarked: the list that is handed over
pub writes_are : (s t : Tx) (b : BatchModel) (unmarked : List (List ℕ)) → s ≡ t → IsBatchOf s.ops b → unmarked ≡ s.unmarked → tracked_of b.ops unmarked ≡ tracked_writes t
writes_are s t b unmarked is batch us =
    (let keys = ap batch_keys batch.0 ∙ keeps_its_keys s.ops in λ i. filter (λ k. not (among k (us i))) (keys i)) ∙ ap tracked_writes is

pub conflict_is : (cs : List Commit) (s t : Tx) (b : BatchModel) (unmarked : List (List ℕ)) (rs : Reading) → s ≡ t → IsBatchOf s.ops b → unmarked ≡ s.unmarked → rs ≡ reads_at s.level s.transcript →
    conflict_of cs s.begin (tracked_of b.ops unmarked ++ s.marked) rs ≡ conflict cs t
conflict_is cs s t b unmarked rs is batch us reading =
    (let ws = writes_are s s b unmarked refl batch us in λ i. conflict_of cs s.begin (ws i ++ s.marked) (reading i)) ∙ ap (conflict cs) is

pub tracked_by : (m : Manager) (id : List ℕ) (t : Tx) (n : ℕ) (ws ms : List (List ℕ)) (rs : Reading) → ws ≡ tracked_writes t → HandsOver n ws ms rs (find_named id m.active) → IsTracked m id t
tracked_by m id t n ws ms rs is h = by (find_named id m.active) refl h
  where
    by : (o : Option Active) → find_named id m.active ≡ o → HandsOver n ws ms rs o → IsTracked m id t
    by None e h = absurd h
    by (Some a) e h = record { active = a; found = e; writes = h.1 ∙ is }
