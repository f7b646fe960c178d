-- A write: a batch that commits by itself. d: what it is given; b: the batch; before, after: what
-- it reaches; old, new: the core.
--     newest c      the core's last sequence
--     refusal_of d c b      what the batch is refused for, by the segment prefixes that the core
--                recorded
--     write_verdict_of last ops tested full      the first of a write's tests that refuses it,
--                where it has operations: no sequence left, what its batch is refused for, no place
--                in the journal
--     write_verdict d c b      so it is of a batch
--     NeedsNoOperator verdict b      one refuses, or the batch keeps no operation, or it never took
--                a merge
--     write_step d ops c      the model's step of the line of these operations
--     WritesAs d b old new reply      the model answers the line of the batch so
--     WritesBatch d b before after operator_alone same_env old new result      what a write ensures
--     IsPreparedAs m g c now b prepared      the batch was prepared so, for these parts
--     WritesPrepared prepared now old new result      what the write of such a batch ensures
use Rattle.std.specs.Prelude.{◌≡◌, ◌≢◌, ◌⊎◌, ℕ, ◌+◌, ◌-◌, ◌^◌, ◌≤◌, ◌==◌, ℤ, nat_lt, Bool, false, List, [], ◌∷◌, length, Option, Result, Err, IfErr, IfOk, IsOk, IsSome, OnErr, OnOk}
use Rattle.slate_types.specs.declared.error.SlateDBError.{SlateDBError}
use Rattle.slate_types.specs.declared.error.SlateDBError.TheVariants.{LimitReached, OutOfMemory, SequenceExhausted}
use Rattle.slate_types.specs.Outside.{IsFault, Reach}
use Rattle.slate_mem.specs.Batch.{Ops}
use Rattle.slate_mem.specs.BatchModel.{BatchModel, IsBatchOf}
use Rattle.slate_mem.specs.KeyTests.{Segments}
use Rattle.slate_mem.specs.Refusals.{first_refusal, when}
use Rattle.slate_txn.specs.declared.line.Line.TheVariants as lines
use Rattle.slate_txn.specs.Refusals.{unless_empty}
use Rattle.slate_txn.specs.Reply.{Reply, Refused, Written}
use Rattle.slate_txn.specs.State.{State, last_of}
use Rattle.slate_txn.specs.Step as model
use Rattle.slate_db.specs.declared.prepared.Prepared.{Prepared}
use Rattle.slate_db.specs.BatchTests.{batch_refusal}
use Rattle.slate_db.specs.Calls.Common.{AsksOperator, Decides, Given, Keeps, rules_under}
use Rattle.slate_db.specs.Flushed.{NoPlace}
use Rattle.slate_db.specs.Load as size
use Rattle.slate_db.specs.Log.{LIMIT, AreFine}
use Rattle.slate_db.specs.Meaning.{Meaning}
use Rattle.slate_db.specs.Model.{CoreModel, IsSame, at}
use Rattle.slate_db.specs.Opened.{StayOpen}
use Rattle.slate_db.specs.Prepared.{IsAccepted, IsPrepared, prepared_for}
use Rattle.slate_db.specs.Segmented.{IsSegmented}
use Rattle.slate_db.specs.Sound.{IsKept}
use Rattle.slate_db.specs.Vouched.{IsVouchedFor}
use Rattle.slate_db.specs.Written.{IsWritten}

abbrev pub newest : CoreModel → ℕ
newest c = last_of c.settings.start_seq c.state.commits

abbrev pub refusal_of : Given → CoreModel → BatchModel → Option SlateDBError
refusal_of d c b =
    batch_refusal d.meaning.combine d.segments c.segments c.settings.default_millis d.now b

abbrev pub write_verdict_of : ℕ → Ops → Option SlateDBError → Bool → Option SlateDBError
write_verdict_of last ops tested full = first_refusal (unless_empty ops (
    when (last == 2 ^ 64 - 2) SequenceExhausted ∷ tested ∷ when full (LimitReached LIMIT) ∷ []))

abbrev pub write_verdict : Given → CoreModel → BatchModel → Option SlateDBError
write_verdict d c b =
    write_verdict_of (newest c) b.ops (refusal_of d c b) (nat_lt LIMIT (size.weight c + 1))

abbrev pub NeedsNoOperator : Option SlateDBError → BatchModel → Type 0
NeedsNoOperator verdict b = IsSome verdict ⊎ (b.ops ≡ []) ⊎ (b.held_merge ≡ false)

abbrev pub write_step : Given → Ops → CoreModel → State × Reply
write_step d ops c = model.step (rules_under d c) (at d.now c.state) (lines.Write ops)

abbrev pub WritesAs : Given → BatchModel → CoreModel → CoreModel → Reply → Type 0
WritesAs d b old new reply = (ops : Ops) → IsBatchOf ops b → AreFine ops →
    write_step d ops old ≡ (at d.now new.state, reply)

-- operator_alone, same_env: of the environment the operator alone changed, or nothing. answer: it
-- is refused just by the verdict, but for faults and want of memory; idle, exhausted: an empty
-- batch never, and at the last sequence for that alone; step, refused: as the model answers
pub record WritesBatch (d : Given) (b : BatchModel) (before after : Reach)
    (operator_alone same_env : Type 0) (old new : CoreModel)
    (result : Result (Option ℕ) SlateDBError) : Type 0 where
  pub answer : Decides (write_verdict d old b) (IsFault before after) result
  pub idle : b.ops ≡ [] → IsOk result
  pub exhausted : b.ops ≢ [] → newest old ≡ 2 ^ 64 - 2 → result ≡ Err SequenceExhausted
  pub step : IsSegmented d.segments old → IfOk result (λ n. WritesAs d b old new (Written n))
  pub refused : IsSegmented d.segments old → IfErr result (λ e. IsFault before after e
      ⊎ (e ≡ LimitReached LIMIT) ⊎ WritesAs d b old old (Refused e))
  pub event : IfOk result (λ n. IsWritten old new n d.now b.ops)
  pub vouched : OnOk result ((m : Meaning) (other : List ℕ) →
      IsVouchedFor m old other → IsVouchedFor m new other)
  pub keeps : Keeps d old new result
  pub grows : (ops : Ops) → IsBatchOf ops b →
      OnOk result (size.load new ≤ size.load old + length ops)
  pub same : OnErr result (IsSame old new)
  pub stay : StayOpen old new
  pub outside : operator_alone
  pub asks : AsksOperator before after result
  pub unasked : NeedsNoOperator (write_verdict d old b) b → same_env

-- ---- of a batch that was prepared, so that no operator is called

abbrev pub IsPreparedAs : Meaning → Segments → CoreModel → ℤ → BatchModel → Prepared → Type 0
IsPreparedAs m g c now b prepared =
    IsPrepared (prepared_for m.combine g c.settings.default_millis now b) prepared

-- kept, segmented, accepted: for the parts that it was prepared with
pub record WritesPrepared (prepared : Prepared) (now : ℤ) (old new : CoreModel)
    (result : Result (Option ℕ) SlateDBError) : Type 0 where
  pub event : IfOk result (λ n. IsWritten old new n now prepared.ops)
  pub vouched : OnOk result ((m : Meaning) (other : List ℕ) →
      IsVouchedFor m old other → IsVouchedFor m new other)
  pub kept : (m : Meaning) (g : Segments) (b : BatchModel) → IsPreparedAs m g old now b prepared →
      OnOk result (IsKept m old → IsKept m new)
  pub segmented : (m : Meaning) (g : Segments) (b : BatchModel) →
      IsPreparedAs m g old now b prepared → OnOk result (IsSegmented g old → IsSegmented g new)
  pub load : OnOk result (size.load new ≤ size.load old + length prepared.ops)
  pub same : OnErr result (IsSame old new)
  pub accepted : (m : Meaning) (g : Segments) (b : BatchModel) →
      IsPreparedAs m g old now b prepared → IsAccepted (λ e. e ≡ OutOfMemory)
      m.combine g old.settings now old.segments old.state.commits (NoPlace 1 old) b result
  pub stay : StayOpen old new
