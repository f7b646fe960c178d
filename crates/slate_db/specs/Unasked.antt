-- When a write or a commit asks no operator, whatever it answers.
--     IsUnasked conflicting last ops refusal      what is to become a commit conflicts, has no operations, finds no sequence left, or a test refuses it
--     IsUnaskedWrite combine g c now b      so it is of a batch, or the journal has no place for its event
--     IsUnaskedCommit combine g c now t      so it is of a transaction
use Rattle.std.specs.Prelude.{◌≡◌, ◌⊎◌, ℕ, ◌-◌, ◌^◌, [], Option, None, Some, ℤ}
use Rattle.slate_types.specs.declared.error.SlateDBError.{SlateDBError}
use Rattle.slate_mem.specs.Batch.{Ops}
use Rattle.slate_mem.specs.BatchModel.{BatchModel}
use Rattle.slate_mem.specs.KeyTests.{Segments}
use Rattle.slate_txn.specs.Conflict.{conflict}
use Rattle.slate_txn.specs.State.{Tx, last_of}
use Rattle.slate_db.specs.BatchTests.{batch_refusal, test_refusal}
use Rattle.slate_db.specs.Flushed.{NoPlace}
use Rattle.slate_db.specs.Model.{CoreModel}

pub data IsUnasked (conflicting : Option ℕ) (last : ℕ) (ops : Ops) (refusal : Option SlateDBError) : Type 0 where
  conflicts : (n : ℕ) → conflicting ≡ Some n → IsUnasked conflicting last ops refusal
  empty : ops ≡ [] → IsUnasked conflicting last ops refusal
  exhausted : last ≡ 2 ^ 64 - 2 → IsUnasked conflicting last ops refusal
  refused : (e : SlateDBError) → refusal ≡ Some e → IsUnasked conflicting last ops refusal

abbrev pub IsUnaskedWrite : {C : Type 0} → Option C → Segments → CoreModel → ℤ → BatchModel → Type 0
IsUnaskedWrite combine g c now b =
    IsUnasked None (last_of c.settings.start_seq c.state.commits) b.ops (batch_refusal combine g c.segments c.settings.default_millis now b) ⊎ NoPlace 1 c

abbrev pub IsUnaskedCommit : {C : Type 0} → Option C → Segments → CoreModel → ℤ → Tx → Type 0
IsUnaskedCommit combine g c now t =
    IsUnasked (conflict c.state.commits t) (last_of c.settings.start_seq c.state.commits) t.ops (test_refusal combine g c.segments c.settings.default_millis now t.ops)
