-- An operation in an open transaction. id: the transaction; line: the model's line; f: what becomes
-- of the transaction; old, new: the core.
--     Operates id line f refusal old new result      a put or a delete, which is refused for this
--                by itself
--     Merges m id line f refusal same_env old new result      a merge, by parts of this meaning;
--                same_env: the environment is as it was
--     Marks id line f old new result      marks, which nothing but want of memory refuses
use Rattle.std.specs.Prelude.{◌≡◌, ◌⊎◌, ℕ, List, Option, None, Some, Result, Err, IfErr, IsOkUnless, IsSome, OnErr, OnOk}
use Rattle.slate_types.specs.declared.error.SlateDBError.{SlateDBError}
use Rattle.slate_types.specs.declared.error.SlateDBError.TheVariants.{MergeOperatorMissing, OutOfMemory}
use Rattle.slate_mem.specs.KeyTests.{Segments}
use Rattle.slate_txn.specs.declared.line.Line.{Line}
use Rattle.slate_txn.specs.Reply.{Done, Refused}
use Rattle.slate_txn.specs.State.{Tx}
use Rattle.slate_txn.specs.Step as model
use Rattle.slate_db.specs.Calls.Common.{IsModelStep}
use Rattle.slate_db.specs.Meaning.{Meaning, rules_in}
use Rattle.slate_db.specs.Model.{CoreModel}
use Rattle.slate_db.specs.Opened.{StayOpen}
use Rattle.slate_db.specs.Operated.{operated}
use Rattle.slate_db.specs.Sound.{IsKept}
use Rattle.slate_db.specs.Vouched.{IsVouchedFor}

-- test: it is refused for this, and for nothing else but want of memory
pub record Operates {A : Type 0} (id : List ℕ) (line : Line) (f : Tx → Tx)
    (refusal : Option SlateDBError) (old new : CoreModel)
    (result : Result A SlateDBError) : Type 0 where
  pub step : OnOk result (IsModelStep old new line Done)
  pub refused : IfErr result (λ e. (e ≡ OutOfMemory) ⊎ IsModelStep old old line (Refused e))
  pub taken : OnOk result (new ≡ operated old id f)
  pub test : (e : SlateDBError) → refusal ≡ Some e → result ≡ Err e
  pub cause : IfErr result (λ e. (e ≡ OutOfMemory) ⊎ (refusal ≡ Some e))
  pub kept : (m : Meaning) → IsKept m old → IsKept m new
  pub vouched : (m : Meaning) (other : List ℕ) → IsVouchedFor m old other → IsVouchedFor m new other
  pub same : OnErr result (new ≡ old)
  pub stay : StayOpen old new

-- missing: without an operator it is refused before all else
pub record Merges {A : Type 0} (m : Meaning) (id : List ℕ) (line : Line) (f : Tx → Tx)
    (refusal : Option SlateDBError) (same_env : Type 0) (old new : CoreModel)
    (result : Result A SlateDBError) : Type 0 where
  pub step : OnOk result ((g : Segments) →
      model.step (rules_in old.settings m g) old.state line ≡ (new.state, Done))
  pub refused : IfErr result (λ e. (e ≡ OutOfMemory) ⊎ ((g : Segments) →
      model.step (rules_in old.settings m g) old.state line ≡ (old.state, Refused e)))
  pub taken : OnOk result (new ≡ operated old id f)
  pub missing : m.combine ≡ None → result ≡ Err MergeOperatorMissing
  pub test : (e : SlateDBError) → IsSome m.combine → refusal ≡ Some e → result ≡ Err e
  pub cause : IfErr result (λ e. (e ≡ OutOfMemory)
      ⊎ ((e ≡ MergeOperatorMissing) × (m.combine ≡ None)) ⊎ (refusal ≡ Some e))
  pub kept : IsKept m old → IsKept m new
  pub vouched : (m : Meaning) (other : List ℕ) → IsVouchedFor m old other → IsVouchedFor m new other
  pub same : OnErr result (new ≡ old)
  pub outside : same_env
  pub stay : StayOpen old new

pub record Marks {A : Type 0} (id : List ℕ) (line : Line) (f : Tx → Tx) (old new : CoreModel)
    (result : Result A SlateDBError) : Type 0 where
  pub step : OnOk result (IsModelStep old new line Done)
  pub taken : OnOk result (new ≡ operated old id f)
  pub cause : IsOkUnless result OutOfMemory
  pub vouched : (m : Meaning) (other : List ℕ) → IsVouchedFor m old other → IsVouchedFor m new other
  pub kept : (m : Meaning) → IsKept m old → IsKept m new
  pub same : OnErr result (new ≡ old)
  pub stay : StayOpen old new
