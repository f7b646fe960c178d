-- A commit of an open transaction. d: what it is given; id, t: the transaction; before, after: what
-- it reaches; old, new: the core.
--     commit_verdict_of conflicting last ops tested      the first of a commit's tests that refuses
--                it: a conflict; then, where it has operations, no sequence left, and what its
--                batch is refused for
--     commit_verdict d c t      so it is of a transaction
--     AsksNobody refusal ops      one refuses, or there is no merge: then no operator is asked
--     commit_step d c id      the model's step of its line
--     CommitsLine d id old new reply      the model answers it so
--     CommitsOpen d id t before after old new result      what a commit ensures
--     IsPreparedFor m g c now t prepared      the transaction's batch was prepared so, for these
--                parts
--     CommitsPrepared id now prepared old new result      what the commit of such a transaction
--                ensures
use Rattle.std.specs.Prelude.{◌≡◌, ◌≢◌, ◌⊎◌, ℕ, ◌+◌, ◌-◌, ◌^◌, ◌≤◌, ◌==◌, ℤ, false, List, [], ◌∷◌, length, Option, Result, IsSome, IfOk, IfErr, OnErr, option_map}
use Rattle.slate_types.specs.declared.error.SlateDBError.{SlateDBError}
use Rattle.slate_types.specs.declared.error.SlateDBError.TheVariants.{OutOfMemory, SequenceExhausted, TransactionConflict}
use Rattle.slate_types.specs.Outside.{IsFault, Reach}
use Rattle.slate_mem.specs.Batch.{Ops}
use Rattle.slate_mem.specs.BatchModel.{holds_merge}
use Rattle.slate_mem.specs.Refusals.{first_refusal, when}
use Rattle.slate_mem.specs.KeyTests.{Segments}
use Rattle.slate_txn.specs.Conflict.{conflict}
use Rattle.slate_txn.specs.declared.line.Line.TheVariants as lines
use Rattle.slate_txn.specs.Refusals.{unless_empty}
use Rattle.slate_txn.specs.Reply.{Reply, Committed, Refused}
use Rattle.slate_txn.specs.State.{State, Tx, last_of}
use Rattle.slate_txn.specs.Step.{step}
use Rattle.slate_db.specs.declared.prepared.Prepared.{Prepared}
use Rattle.slate_db.specs.BatchTests.{test_refusal}
use Rattle.slate_db.specs.Calls.Common.{AsksOperator, Decides, Given, IsTransaction, Keeps, rules_under}
use Rattle.slate_db.specs.Committed.{IsCommitted, IsEnded}
use Rattle.slate_db.specs.Load as size
use Rattle.slate_db.specs.Meaning.{Meaning}
use Rattle.slate_db.specs.Model.{CoreModel, at}
use Rattle.slate_db.specs.Opened.{StayOpenBut}
use Rattle.slate_db.specs.Prepared.{IsDecided, IsPrepared, own_batch, prepared_for}
use Rattle.slate_db.specs.Segmented.{IsSegmented}
use Rattle.slate_db.specs.Sound.{IsKept, IsOperable}
use Rattle.slate_db.specs.Vouched.{IsVouchedFor}

abbrev pub commit_verdict_of : Option ℕ → ℕ → Ops → Option SlateDBError → Option SlateDBError
commit_verdict_of conflicting last ops tested = first_refusal (
    option_map TransactionConflict conflicting ∷
    unless_empty ops (when (last == 2 ^ 64 - 2) SequenceExhausted ∷ tested ∷ []))

abbrev pub commit_verdict : Given → CoreModel → Tx → Option SlateDBError
commit_verdict d c t = commit_verdict_of (conflict c.state.commits t)
    (last_of c.settings.start_seq c.state.commits) t.ops (test_refusal d.meaning.combine d.segments
    c.segments c.settings.default_millis d.now t.ops)

abbrev pub AsksNobody : Option SlateDBError → Ops → Type 0
AsksNobody refusal ops = IsSome refusal ⊎ (holds_merge ops ≡ false)

abbrev pub commit_step : Given → CoreModel → List ℕ → State × Reply
commit_step d c id = step (rules_under d c) (at d.now c.state) (lines.Commit id)

abbrev pub CommitsLine : Given → List ℕ → CoreModel → CoreModel → Reply → Type 0
CommitsLine d id old new reply = commit_step d old id ≡ (at d.now new.state, reply)

-- answer: refused just by the verdict, but for faults and want of memory; step, refused: as the
-- model answers
pub record CommitsOpen (d : Given) (id : List ℕ) (t : Tx) (before after : Reach) (old new : CoreModel)
    (result : Result (Option ℕ) SlateDBError) : Type 0 where
  pub answer : Decides (commit_verdict d old t) (IsFault before after) result
  pub step : IsSegmented d.segments old → IfOk result (λ n. CommitsLine d id old new (Committed n))
  pub refused : IsOperable d.meaning old → IsSegmented d.segments old →
      IfErr result (λ e. IsFault before after e ⊎ CommitsLine d id old new (Refused e))
  pub event : IfOk result (λ n. IsCommitted old new id n d.now t)
  pub ended : OnErr result (IsEnded old new id)
  pub keeps : Keeps d old new result
  pub others : (m : Meaning) (other : List ℕ) → other ≢ id →
      IsVouchedFor m old other → IsVouchedFor m new other
  pub grows : size.load new ≤ size.load old + length t.ops
  pub stay : StayOpenBut id old new
  pub asks : AsksOperator before after result

-- ---- of a transaction whose batch was prepared, so that no operator is called

abbrev pub IsPreparedFor : Meaning → Segments → CoreModel → ℤ → Tx → Prepared → Type 0
IsPreparedFor m g c now t prepared =
    IsPrepared (prepared_for m.combine g c.settings.default_millis now (own_batch t.ops)) prepared

-- kept, segmented, decided: for the parts that it was prepared with
pub record CommitsPrepared (id : List ℕ) (now : ℤ) (prepared : Prepared) (old new : CoreModel)
    (result : Result (Option ℕ) SlateDBError) : Type 0 where
  pub event : (t : Tx) → IsTransaction old id t → IfOk result (λ n. IsCommitted old new id n now t)
  pub ended : OnErr result (IsEnded old new id)
  pub others : (m : Meaning) (other : List ℕ) → other ≢ id →
      IsVouchedFor m old other → IsVouchedFor m new other
  pub kept : (m : Meaning) (g : Segments) (t : Tx) → IsTransaction old id t →
      IsPreparedFor m g old now t prepared → IsKept m old → IsKept m new
  pub kept_refused : OnErr result ((m : Meaning) → IsKept m old → IsKept m new)
  pub segmented : (m : Meaning) (g : Segments) (t : Tx) → IsTransaction old id t →
      IsPreparedFor m g old now t prepared → IsSegmented g old → IsSegmented g new
  pub segmented_refused : OnErr result ((g : Segments) → IsSegmented g old → IsSegmented g new)
  pub load : (t : Tx) → IsTransaction old id t → size.load new ≤ size.load old + length t.ops
  pub decided : (m : Meaning) (g : Segments) (t : Tx) → IsTransaction old id t →
      IsPreparedFor m g old now t prepared → IsDecided (λ e. e ≡ OutOfMemory)
      m.combine g old.settings now old.segments old.state.commits t result
  pub stay : StayOpenBut id old new
