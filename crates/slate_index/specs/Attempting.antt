-- A change of a record on a database that threads share, by one attempt. o, m, policies: the database's options, what its parts mean, and its policies of filters; before, after: what is
-- reached; old, pass: the pass before the call and behind it; from: the journal that it had seen before
--     values_begun o m seen n      the value of each key in the state at a sequence, by a journal
--     IsRefusedAtBegin o m fs id new from seen e      the change is refused so by the state at the newest sequence of a journal between these
--     IsStepError o policies fs id new from before after t e      what refuses the steps of an attempt that has come so far
--     IsTurnedBack o fs id new old pass e      the commit of all steps was refused: another one conflicts, or no sequence is left
--     IsLeftThere o old pass e      nothing was done; or nothing begun, as the refusal says; or one attempt began and ended without a commit
--     HasTakenThere o m policies fs id new from before after t      all steps were taken
--     IsStoppedThere o m policies fs id new from before after t e      some were, and then the change was refused
--     ChangesBehind o m policies fs id new now before after old pass n      the newest place of the pass has a commit of this number, which changes the record from the value that it read
--     IsChangeErrorThere o policies fs id new before after old pass e      what refuses the change
--     IsPlainlyRefused o m policies fs id new before after old pass e      the same where what was read is checked; over a store that is true, what it reads refuses no read
--     IsChangeAttempt o m policies fs id new now before after old pass result      all that an attempt keeps and answers
use Rattle.std.specs.Prelude.{◌≡◌, ◌⊎◌, ℕ, List, ◌∷◌, Option, Some, None, Result, IfErr, IfOk, OnErr, ℤ}
use mathlib.Core.List.{IsPrefix}
use Rattle.slate_types.specs.declared.config.IsolationLevel.TheVariants.{SerializableSnapshot}
use Rattle.slate_types.specs.declared.config.Options.{Options}
use Rattle.slate_types.specs.declared.error.SlateDBError.{SlateDBError}
use Rattle.slate_types.specs.declared.types.KeyValue.{KeyValue}
use Rattle.slate_types.specs.Outside.{IsFault, OnlyReads, Reach}
use Rattle.slate_filter.specs.Policy.{Policy}
use Rattle.slate_mem.specs.Batch.{batch_keys, kept_ops}
use Rattle.slate_txn.specs.declared.event.Event.{Event}
use Rattle.slate_txn.specs.declared.event.TranscriptStep.{TranscriptStep}
use Rattle.slate_txn.specs.declared.event.TranscriptStep.TheVariants.{Get}
use Rattle.slate_txn.specs.Replay.{IsLegal, replay}
use Rattle.slate_txn.specs.Settings.{settings_of}
use Rattle.slate_txn.specs.State.{last_of}
use Rattle.slate_db.specs.Meaning.{Meaning, rules_of}
use Rattle.slate_shared.specs.Passes.{Opened, PassModel}
use Rattle.slate_steps.specs.Attempts.{HasCommittedBehind, HasEndedBehind, IsAttempt, IsFaultOn, IsReadErrorOn, IsRefusedBehind, IsStoreChecked, IsUnbegun, IsVouchedThere, SeesMore, SeesOnly}
use Rattle.slate_index.specs.declared.error.IndexError.{IndexError}
use Rattle.slate_index.specs.declared.error.IndexError.TheVariants.{Db}
use Rattle.slate_index.specs.Calls.{change_steps}
use Rattle.slate_index.specs.Changes.{Values}
use Rattle.slate_index.specs.Commits.{IsChange, value_of}
use Rattle.slate_index.specs.Entries.{FieldsModel, record_key}
use Rattle.slate_index.specs.Journals.{values_at}
use Rattle.slate_index.specs.Refusals.{change_refusal, delete_refusal, put_refusal}

abbrev pub values_begun : Options → Meaning → List Event → ℕ → Values
values_begun o m seen n = values_at (rules_of (settings_of o) m) (replay seen).commits n

-- start: the journal at the begin
pub record IsRefusedAtBegin (o : Options) (m : Meaning) (fs : FieldsModel) (id : List ℕ) (new : Option (List ℕ)) (from seen : List Event) (e : IndexError) : Type 0 where
  pub start : List Event
  pub known : IsPrefix from start
  pub later : IsPrefix start seen
  pub refused : change_refusal fs id (values_begun o m seen (last_of o.start_seq (replay start).commits) (record_key id)) new ≡ Some e

pub data IsStepError (o : Options) (policies : List Policy) (fs : FieldsModel) (id : List ℕ) (new : Option (List ℕ)) (from : List Event) (before after : Reach) (t : Opened) (e : IndexError) : Type 0 where
  absent : (answer : Option KeyValue) (us : List TranscriptStep) → IsAttempt o from SerializableSnapshot (Get (record_key id) answer ∷ us) t → new ≡ None → delete_refusal id (value_of answer) ≡ Some e →
      IsStepError o policies fs id new from before after t e
  reads : (x : SlateDBError) → e ≡ Db x → IsReadErrorOn o policies before after t.seen x → IsStepError o policies fs id new from before after t e
  faults : (x : SlateDBError) → e ≡ Db x → IsFault before after x → IsStepError o policies fs id new from before after t e

pub record IsTurnedBack (o : Options) (fs : FieldsModel) (id : List ℕ) (new : Option (List ℕ)) (old pass : PassModel) (e : SlateDBError) : Type 0 where
  pub t : Opened
  pub answer : Option KeyValue
  pub attempt : IsAttempt o old.seen SerializableSnapshot (change_steps fs id answer new) t
  pub refused : IsRefusedBehind o t old pass e

abbrev pub IsLeftThere : Options → PassModel → PassModel → IndexError → Type 0
IsLeftThere o old pass e = (pass ≡ old) ⊎ ((x : SlateDBError) × (e ≡ Db x) × IsUnbegun old pass x) ⊎ ((t : Opened) × (ts : List TranscriptStep) × IsAttempt o old.seen SerializableSnapshot ts t × HasEndedBehind t old pass)

-- ---- its steps

pub record HasTakenThere (o : Options) (m : Meaning) (policies : List Policy) (fs : FieldsModel) (id : List ℕ) (new : Option (List ℕ)) (from : List Event) (before after : Reach) (t : Opened) : Type 0 where
  pub answer : Option KeyValue
  pub attempt : IsAttempt o from SerializableSnapshot (change_steps fs id answer new) t
  pub passes : change_refusal fs id (value_of answer) new ≡ None
  pub sees : IsStoreChecked policies m t.seen before after → IsVouchedThere o m t

-- es: the journal as the pass may see it behind the end
pub record IsStoppedThere (o : Options) (m : Meaning) (policies : List Policy) (fs : FieldsModel) (id : List ℕ) (new : Option (List ℕ)) (from : List Event) (before after : Reach) (t : Opened) (e : IndexError) : Type 0 where
  pub steps : List TranscriptStep
  pub attempt : IsAttempt o from SerializableSnapshot steps t
  pub cause : IsStepError o policies fs id new from before after t e
  pub checked : IsStoreChecked policies m t.seen before after → (es : List Event) → IsPrefix t.seen es → IsLegal o.start_seq es →
      IsRefusedAtBegin o m fs id new from es e ⊎ ((x : SlateDBError) × (e ≡ Db x) × IsFaultOn policies m t.seen before after x)

-- ---- the call

-- vouched, read: where what was read is checked
pub record ChangesBehind (o : Options) (m : Meaning) (policies : List Policy) (fs : FieldsModel) (id : List ℕ) (new : Option (List ℕ)) (now : ℤ) (before after : Reach) (old pass : PassModel) (n : ℕ) : Type 0 where
  pub t : Opened
  pub answer : Option KeyValue
  pub attempt : IsAttempt o old.seen SerializableSnapshot (change_steps fs id answer new) t
  pub committed : HasCommittedBehind o t (Some n) now old pass
  pub change : IsChange fs SerializableSnapshot (kept_ops t.tx.ops) (batch_keys t.tx.ops) t.tx.transcript
  pub passes : change_refusal fs id (value_of answer) new ≡ None
  pub legal : IsLegal o.start_seq pass.seen
  pub vouched : IsStoreChecked policies m pass.seen before after → IsVouchedThere o m (record t { seen = pass.seen })
  pub read : IsStoreChecked policies m pass.seen before after → value_of answer ≡ values_begun o m pass.seen t.tx.begin (record_key id)

pub data IsChangeErrorThere (o : Options) (policies : List Policy) (fs : FieldsModel) (id : List ℕ) (new : Option (List ℕ)) (before after : Reach) (old pass : PassModel) (e : IndexError) : Type 0 where
  of_value : (v : List ℕ) → new ≡ Some v → put_refusal fs v ≡ Some e → IsChangeErrorThere o policies fs id new before after old pass e
  begins : (x : SlateDBError) → e ≡ Db x → IsUnbegun old pass x → IsChangeErrorThere o policies fs id new before after old pass e
  stops : (t : Opened) (ts : List TranscriptStep) → IsAttempt o old.seen SerializableSnapshot ts t → IsPrefix t.seen pass.seen → IsStepError o policies fs id new old.seen before after t e →
      IsChangeErrorThere o policies fs id new before after old pass e
  turned_back : (x : SlateDBError) → e ≡ Db x → IsTurnedBack o fs id new old pass x → IsChangeErrorThere o policies fs id new before after old pass e
  of_fault : (x : SlateDBError) → e ≡ Db x → IsFault before after x → IsChangeErrorThere o policies fs id new before after old pass e

abbrev pub IsPlainlyRefused : Options → Meaning → List Policy → FieldsModel → List ℕ → Option (List ℕ) → Reach → Reach → PassModel → PassModel → IndexError → Type 0
IsPlainlyRefused o m policies fs id new before after old pass e =
    IsRefusedAtBegin o m fs id new old.seen pass.seen e
    ⊎ ((x : SlateDBError) × (e ≡ Db x) × (IsUnbegun old pass x ⊎ IsTurnedBack o fs id new old pass x ⊎ IsFaultOn policies m pass.seen before after x))

pub record IsChangeAttempt (o : Options) (m : Meaning) (policies : List Policy) (fs : FieldsModel) (id : List ℕ) (new : Option (List ℕ)) (now : ℤ) (before after : Reach) (old pass : PassModel) (result : Result ℕ IndexError) : Type 0 where
  pub changes : IfOk result (ChangesBehind o m policies fs id new now before after old pass)
  pub only : OnErr result (SeesOnly old pass)
  pub left : IfErr result (IsLeftThere o old pass)
  pub more : SeesMore old pass
  pub checked : IsStoreChecked policies m pass.seen before after → IfErr result (IsPlainlyRefused o m policies fs id new before after old pass)
  pub cause : IfErr result (IsChangeErrorThere o policies fs id new before after old pass)
  pub reads : OnlyReads before after
