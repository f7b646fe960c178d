-- Calls on a queue in a database that threads share, one attempt each. o, m: the database's options and what its parts mean; policies: those of its filters; before, after: what the call
-- reaches; old, new: its pass before and after it; t: the transaction of its attempt; from: what the pass had seen before it
--     StandsBehind o m es q      the queue stands behind a journal
--     StepsTo call a value, StepsToCommit call value      by the model's step, on each queue that has these values: this answer; an answer that has a commit
--     IsRefusedWith call e value, FindsNoneIn now ms value      the same: a refusal, and a bad job names a value of a wrong length; a claim that finds none
--     IsBadValue value k      what stands at the key of a job or of the counter has a wrong length
--     EndsOn takes o m policies before after old new      an attempt took all these steps and ended without a commit; where what was read is checked, its answers are a reader's at its begin
--     FindsNoneOn now ms      so did a claim whose scan of all jobs found no free one, and none was free then
--     StopsOn call stops e      so did one whose reads refuse the call so, and the call is refused so there
--     AtStart o m means old new      of the values where the call's attempt began, behind what the pass had seen, this is true, by the journal that it has seen then
--     LeavesOn o old new      the pass has no place more of its own, and nothing was done, or a transaction was begun and ended without a commit
--     RefusesOn o old new e      so does a refusal; or nothing was begun, as it says
--     IsUncommitted takes o old new error      the commit of an attempt that took all steps was refused: it conflicts, or no sequence is left
--     TookOn means t, IsReadRefusal e, AttemptsOn means stops t result      an attempt within its transaction: its steps, and why it is refused
--     AnswersOn call a t before seen      a commit behind a journal, where what was read is checked: what it read is what a reader at its begin reads, and a vouched journal stays one; the answer
--                is the step's at the start of the attempt, and, where the journal is a queue's, that on the queue just before the commit, and behind it stands what the step makes of that
--     CommitsOn form call a now      the pass's newest place has this attempt's commit, of this form, and a queue's journal stays one
--     EndsClaim now ms answer      what a claim leaves
--     IsStepRefusal, IsRefusalOn first stops      why a call is refused: where the store was true; whatever the store answered
--     CallsOn ends call first stops takes result      a whole call
--     IsTooLong payload e, NoneFirst e      what refuses an add before it begins, and what a claim or a finish: nothing
--     AddsOn payload now, FinishesOn id lease now, ClaimsOn now ms      each of them
use Rattle.std.specs.Prelude.{Err, IfErr, IfOk, IsSome, List, None, Ok, Option, Result, Some, length, ℕ, ℤ, ◌<◌, ◌≡◌, ◌⊎◌}
use mathlib.Core.List.{IsPrefix}
use Rattle.slate_types.specs.declared.config.IsolationLevel.TheVariants.{SerializableSnapshot}
use Rattle.slate_types.specs.declared.config.Options.{Options}
use Rattle.slate_types.specs.declared.error.SlateDBError.{SlateDBError}
use Rattle.slate_types.specs.Outside.{IsFault, OnlyReads, Reach}
use Rattle.slate_filter.specs.Policy.{Policy}
use Rattle.slate_mem.specs.Batch.{batch_keys, kept_ops}
use Rattle.slate_txn.specs.declared.event.Event.{Event}
use Rattle.slate_txn.specs.declared.event.TranscriptStep.{TranscriptStep}
use Rattle.slate_txn.specs.Audited.{AreOfKind}
use Rattle.slate_txn.specs.Replay.{IsLegal, replay}
use Rattle.slate_txn.specs.Settings.{settings_of}
use Rattle.slate_txn.specs.Vouched.{AreVouched}
use Rattle.slate_db.specs.Meaning.{Meaning, rules_of}
use Rattle.slate_shared.specs.Passes.{Opened, PassModel}
use Rattle.slate_steps.specs.Attempts.{HasCommittedBehind, HasEndedBehind, IsAttempt, IsReadErrorOn, IsRefusedBehind, IsStoreChecked, IsStoreTrue, IsUnbegun, IsVouchedThere, SeesOnly}
use Rattle.slate_queue.specs.declared.claims.Claim.{Claim}
use Rattle.slate_queue.specs.declared.error.QueueError.{QueueError}
use Rattle.slate_queue.specs.declared.error.QueueError.TheVariants as errors
use Rattle.slate_queue.specs.Stored.{counter_key, counter_in, job_key}
use Rattle.slate_queue.specs.Jobs.{Answer, Call, Queue, longest, queue_step}
use Rattle.slate_queue.specs.Commits.{IsQueueCommit}
use Rattle.slate_queue.specs.CallSteps.{AddStops, Adds, ClaimStops, Claims, FindsNone, FinishStops, Finishes}
use Rattle.slate_queue.specs.Calls.{Form, IsAddOf, IsClaimOf, IsFinishOf, claim_answer}
use Rattle.slate_queue.specs.Script.{keys_of}
use Rattle.slate_queue.specs.Standing.{IsQueueIn, Stands, job_in, value_from}

-- ---- by the model's step

abbrev pub StandsBehind : Options → Meaning → List Event → Queue → Type 0
StandsBehind o m es q = Stands (rules_of (settings_of o) m) (replay es).commits q

abbrev pub StepsTo : Call → Answer → (List ℕ → Option (List ℕ)) → Type 0
StepsTo call a value = (q : Queue) → IsQueueIn value q → (p : Queue) × (queue_step q call ≡ Ok (p, a))

abbrev pub StepsToCommit : Call → (List ℕ → Option (List ℕ)) → Type 0
StepsToCommit call value = (a : Answer) × IsSome (keys_of a) × StepsTo call a value

pub data IsBadValue (value : List ℕ → Option (List ℕ)) (k : List ℕ) : Type 0 where
  of_counter : k ≡ counter_key → counter_in (value k) ≡ None → IsBadValue value k
  of_job : (id : ℕ) → k ≡ job_key id → job_in (value k) ≡ None → IsBadValue value k

pub record IsRefusedWith (call : Call) (e : QueueError) (value : List ℕ → Option (List ℕ)) : Type 0 where
  pub step : (q : Queue) → IsQueueIn value q → queue_step q call ≡ Err e
  pub bad : (k : List ℕ) → e ≡ errors.BadJob k → IsBadValue value k

abbrev pub FindsNoneIn : ℤ → ℕ → (List ℕ → Option (List ℕ)) → Type 0
FindsNoneIn now ms value = (q : Queue) → IsQueueIn value q → queue_step q (Call.Claim now ms) ≡ Ok (q, Answer.NoneFree)

-- ---- where the attempt began, and what it leaves where it commits nothing

pub record AtStart (o : Options) (m : Meaning) (means : (List ℕ → Option (List ℕ)) → Type 0) (old new : PassModel) : Type 0 where
  pub txn : Opened
  pub steps : List TranscriptStep
  pub attempt : IsAttempt o old.seen SerializableSnapshot steps txn
  pub known : IsPrefix txn.seen new.seen
  pub is : means (value_from (rules_of (settings_of o) m) (replay new.seen).commits txn.tx.begin)

pub record EndsOn (takes : List TranscriptStep → Type 0) (o : Options) (m : Meaning) (policies : List Policy) (before after : Reach) (old new : PassModel) : Type 0 where
  pub txn : Opened
  pub steps : List TranscriptStep
  pub attempt : IsAttempt o old.seen SerializableSnapshot steps txn
  pub all : takes steps
  pub ended : HasEndedBehind txn old new
  pub legal : IsLegal o.start_seq new.seen
  pub vouched : IsStoreChecked policies m new.seen before after → IsVouchedThere o m (record txn { seen = new.seen })

pub record FindsNoneOn (now : ℤ) (ms : ℕ) (o : Options) (m : Meaning) (policies : List Policy) (before after : Reach) (old new : PassModel) : Type 0 where
  pub ends : EndsOn (FindsNone now) o m policies before after old new
  pub none : IsStoreChecked policies m new.seen before after → FindsNoneIn now ms (value_from (rules_of (settings_of o) m) (replay new.seen).commits ends.txn.tx.begin)

pub record StopsOn (call : Call) (stops : QueueError → List TranscriptStep → Type 0) (o : Options) (m : Meaning) (policies : List Policy) (before after : Reach) (old new : PassModel) (e : QueueError) : Type 0 where
  pub ends : EndsOn (stops e) o m policies before after old new
  pub refused : IsStoreChecked policies m new.seen before after → IsRefusedWith call e (value_from (rules_of (settings_of o) m) (replay new.seen).commits ends.txn.tx.begin)

pub record LeavesOn (o : Options) (old new : PassModel) : Type 0 where
  pub only : SeesOnly old new
  pub ended : (new ≡ old) ⊎ ((t : Opened) × (ts : List TranscriptStep) × IsAttempt o old.seen SerializableSnapshot ts t × HasEndedBehind t old new)

abbrev pub RefusesOn : Options → PassModel → PassModel → QueueError → Type 0
RefusesOn o old new e = LeavesOn o old new ⊎ ((error : SlateDBError) × (e ≡ errors.Db error) × IsUnbegun old new error)

pub record IsUncommitted (takes : List TranscriptStep → Type 0) (o : Options) (old new : PassModel) (error : SlateDBError) : Type 0 where
  pub txn : Opened
  pub steps : List TranscriptStep
  pub attempt : IsAttempt o old.seen SerializableSnapshot steps txn
  pub all : takes steps
  pub refused : IsRefusedBehind o txn old new error
  pub legal : IsLegal o.start_seq new.seen

-- ---- attempts within a transaction

pub record TookOn (o : Options) (m : Meaning) (policies : List Policy) (from : List Event) (before after : Reach) (means : List TranscriptStep → Type 0) (t : Opened) : Type 0 where
  pub steps : List TranscriptStep
  pub attempt : IsAttempt o from SerializableSnapshot steps t
  pub is : means steps
  pub sees : IsStoreChecked policies m t.seen before after → IsVouchedThere o m t

pub record IsReadRefusal (o : Options) (m : Meaning) (policies : List Policy) (before after : Reach) (seen : List Event) (e : QueueError) : Type 0 where
  pub error : SlateDBError
  pub is : e ≡ errors.Db error
  pub undamaged : IsStoreTrue policies m seen before after → IsFault before after error
  pub cause : IsReadErrorOn o policies before after seen error

pub record AttemptsOn {T : Type 0} (means : T → List TranscriptStep → Type 0) (stops : QueueError → List TranscriptStep → Type 0) (o : Options) (m : Meaning) (policies : List Policy) (from : List Event) (before after : Reach) (t : Opened) (result : Result T QueueError) : Type 0 where
  pub done : IfOk result (λ a. TookOn o m policies from before after (means a) t)
  pub refused : IfErr result (λ e. TookOn o m policies from before after (λ ts. stops e ts ⊎ IsReadRefusal o m policies before after t.seen e) t)

-- ---- a commit

pub record AnswersOn (call : Call) (a : Answer) (o : Options) (m : Meaning) (t : Opened) (before seen : List Event) : Type 0 where
  pub vouched : IsVouchedThere o m (record t { seen = seen })
  pub journal : AreVouched (rules_of (settings_of o) m) before → AreVouched (rules_of (settings_of o) m) seen
  pub begun : StepsTo call a (value_from (rules_of (settings_of o) m) (replay seen).commits t.tx.begin)
  pub placed : AreOfKind IsQueueCommit before → (q : Queue) → StandsBehind o m before q → (p : Queue) × (queue_step q call ≡ Ok (p, a)) × StandsBehind o m seen p

pub record CommitsOn (form : Form) (call : Call) (a : Answer) (now : ℤ) (o : Options) (m : Meaning) (policies : List Policy) (before after : Reach) (old new : PassModel) : Type 0 where
  pub txn : Opened
  pub steps : List TranscriptStep
  pub seq : ℕ
  pub attempt : IsAttempt o old.seen SerializableSnapshot steps txn
  pub committed : HasCommittedBehind o txn (Some seq) now old new
  pub is : form (kept_ops txn.tx.ops) (batch_keys txn.tx.ops) txn.tx.transcript
  pub legal : IsLegal o.start_seq new.seen
  pub queue : AreOfKind IsQueueCommit committed.before → AreOfKind IsQueueCommit new.seen
  pub answers : IsStoreChecked policies m new.seen before after → AnswersOn call a o m txn committed.before new.seen

-- ---- whole calls

abbrev pub EndsClaim : ℤ → ℕ → Options → Meaning → List Policy → Reach → Reach → PassModel → PassModel → Option Claim → Type 0
EndsClaim now ms o m policies before after old new None = FindsNoneOn now ms o m policies before after old new
EndsClaim now ms o m policies before after old new (Some claim) = CommitsOn (IsClaimOf now ms claim) (Call.Claim now ms) (claim_answer (Some claim)) now o m policies before after old new

pub data IsStepRefusal (call : Call) (takes : List TranscriptStep → Type 0) (o : Options) (m : Meaning) (before after : Reach) (old new : PassModel) (e : QueueError) : Type 0 where
  by_call : ((q : Queue) → queue_step q call ≡ Err e) → IsStepRefusal call takes o m before after old new e
  by_step : AtStart o m (IsRefusedWith call e) old new → IsStepRefusal call takes o m before after old new e
  by_fault : (error : SlateDBError) → e ≡ errors.Db error → IsFault before after error → IsStepRefusal call takes o m before after old new e
  by_commit : (error : SlateDBError) → e ≡ errors.Db error → (u : IsUncommitted takes o old new error) → IsVouchedThere o m (record u.txn { seen = new.seen }) →
      StepsToCommit call (value_from (rules_of (settings_of o) m) (replay new.seen).commits u.txn.tx.begin) → IsStepRefusal call takes o m before after old new e
  at_begin : (error : SlateDBError) → e ≡ errors.Db error → IsUnbegun old new error → IsStepRefusal call takes o m before after old new e

-- first: the call's own refusals before it begins; stops: those by the steps that it took; takes: all its steps
pub data IsRefusalOn (call : Call) (first : QueueError → Type 0) (stops : QueueError → List TranscriptStep → Type 0) (takes : List TranscriptStep → Type 0) (o : Options) (m : Meaning) (policies : List Policy) (before after : Reach) (old new : PassModel) (e : QueueError) : Type 0 where
  at_once : first e → new ≡ old → after ≡ before → IsRefusalOn call first stops takes o m policies before after old new e
  by_steps : StopsOn call stops o m policies before after old new e → IsRefusalOn call first stops takes o m policies before after old new e
  at_begin : (error : SlateDBError) → e ≡ errors.Db error → IsUnbegun old new error → IsRefusalOn call first stops takes o m policies before after old new e
  at_read : (error : SlateDBError) → e ≡ errors.Db error → (seen : List Event) → IsPrefix seen new.seen → IsReadErrorOn o policies before after seen error → IsRefusalOn call first stops takes o m policies before after old new e
  at_commit : (error : SlateDBError) → e ≡ errors.Db error → IsUncommitted takes o old new error → IsRefusalOn call first stops takes o m policies before after old new e
  by_fault : (error : SlateDBError) → e ≡ errors.Db error → IsFault before after error → IsRefusalOn call first stops takes o m policies before after old new e

pub record CallsOn {T : Type 0} (ends : T → Type 0) (call : Call) (first : QueueError → Type 0) (stops : QueueError → List TranscriptStep → Type 0) (takes : List TranscriptStep → Type 0) (o : Options) (m : Meaning) (policies : List Policy) (before after : Reach) (old new : PassModel) (result : Result T QueueError) : Type 0 where
  pub done : IfOk result ends
  pub refused : IfErr result (RefusesOn o old new)
  pub step : IsStoreTrue policies m new.seen before after → IfErr result (IsStepRefusal call takes o m before after old new)
  pub cause : IfErr result (IsRefusalOn call first stops takes o m policies before after old new)
  pub reads : OnlyReads before after

abbrev pub IsTooLong : List ℕ → QueueError → Type 0
IsTooLong payload e = (longest < length payload) × (e ≡ errors.PayloadTooLong (length payload))

abbrev pub NoneFirst : QueueError → Type 0
NoneFirst e = ⊥

abbrev pub AddsOn : List ℕ → ℤ → Options → Meaning → List Policy → Reach → Reach → PassModel → PassModel → Result ℕ QueueError → Type 0
AddsOn payload now o m policies before after old new result =
    CallsOn (λ id. CommitsOn (IsAddOf payload id) (Call.Add payload) (Answer.Added id) now o m policies before after old new) (Call.Add payload) (IsTooLong payload) AddStops (λ ts. (id : ℕ) × Adds payload id ts)
    o m policies before after old new result

abbrev pub FinishesOn : ℕ → ℕ → ℤ → Options → Meaning → List Policy → Reach → Reach → PassModel → PassModel → Result (Unit {0}) QueueError → Type 0
FinishesOn id lease now o m policies before after old new result =
    CallsOn {T = Unit} (λ done. CommitsOn (IsFinishOf id lease) (Call.Finish id lease) Answer.Finished now o m policies before after old new) (Call.Finish id lease) NoneFirst (FinishStops id lease) (Finishes id lease)
    o m policies before after old new result

abbrev pub ClaimsOn : ℤ → ℕ → Options → Meaning → List Policy → Reach → Reach → PassModel → PassModel → Result (Option Claim) QueueError → Type 0
ClaimsOn now ms o m policies before after old new result =
    CallsOn (EndsClaim now ms o m policies before after old new) (Call.Claim now ms) NoneFirst (ClaimStops now) (λ ts. (claim : Claim) × Claims now ms claim ts)
    o m policies before after old new result
