-- What calls on a queue in a core do. policies: those of the call; before, after: what it reaches; c, d: the core before and after it
--     StandsIn m c q      the queue stands in the core
--     Commits form now c d      one commit of this form was made at the moment, and nothing else was
--     Leaves c d      nothing was changed, or a transaction was begun and ended without a commit
--     IsAddOf payload id, IsClaimOf ms claim, IsFinishOf id lease      a commit adds this job under this id; claims so; finishes it under this lease
--     Took policies before after c id means d      d is c in which a transaction was begun and took steps of which this is true; where what was read is checked, its answers are those of a reader at the newest sequence
--     Stops takes policies before after c d      d is c in which a transaction was begun, took all these steps and ended without a commit; its answers are such
--     db_error e      the error of the database that a refusal tells, if it tells one
--     IsDbRefusal policies before after c id e      a fault or want of memory, where the core is settled; of several reads the last is refused so
--     Attempts means stops policies before after c id d result      an attempt within a transaction: its steps, by its result
--     StepRefuses, StepsAs      by the model's step: what an answer is, and why a call is refused
--     IsRefusal      by its steps: why a call is refused
--     Keeps      what a call keeps: what is kept of the rows, that the core is settled and vouched for, and that its commits are a queue's; and how much it grows
--     CallsAs ends answer call own      a whole call
--     AddRefuses payload, ClaimRefuses now, FinishRefuses id lease      what refuses one before it begins, or by what its attempt read
use Rattle.std.specs.Prelude.{◌≡◌, ◌≢◌, ◌⊎◌, ℕ, ◌+◌, ◌-◌, ◌≤◌, ◌<◌, ◌^◌, ℤ, List, length, Option, Some, None, IsSome, Result, Ok, Err, IfOk, IfErr, OnErr}
use Rattle.slate_types.specs.declared.config.IsolationLevel.TheVariants.{SerializableSnapshot}
use Rattle.slate_types.specs.declared.error.SlateDBError.{SlateDBError}
use Rattle.slate_types.specs.declared.error.SlateDBError.TheVariants.{LimitReached, OutOfMemory, SequenceExhausted}
use Rattle.slate_types.specs.Outside.{IsFault, OnlyReads, Reach}
use Rattle.slate_filter.specs.Policy.{Policy}
use Rattle.slate_mem.specs.Batch.{Ops, batch_keys, kept_ops}
use Rattle.slate_mem.specs.KeyTests.{Segments}
use Rattle.slate_txn.specs.declared.event.TranscriptStep.{TranscriptStep}
use Rattle.slate_txn.specs.Alone.{own_of}
use Rattle.slate_txn.specs.Audited.{AreOfKind}
use Rattle.slate_db.specs.Flushed.{NoPlace}
use Rattle.slate_db.specs.Load.{load, weight}
use Rattle.slate_db.specs.Log.{LIMIT}
use Rattle.slate_db.specs.Meaning.{Meaning, rules_of}
use Rattle.slate_db.specs.Model.{CoreModel}
use Rattle.slate_db.specs.SerialLaws.{IsVouchedCore}
use Rattle.slate_db.specs.Settled.{IsSettledIn}
use Rattle.slate_db.specs.Sound.{IsKept}
use Rattle.slate_steps.specs.Reads.{IsChecked, IsReadFault}
use Rattle.slate_steps.specs.Steps.{HasCommitted, HasEnded, IsBeginError, IsWithin, Sees, newest}
use Rattle.slate_queue.specs.declared.claims.Claim.{Claim}
use Rattle.slate_queue.specs.declared.error.QueueError.{QueueError}
use Rattle.slate_queue.specs.declared.error.QueueError.TheVariants as errors
use Rattle.slate_queue.specs.Jobs as model
use Rattle.slate_queue.specs.Jobs.{Queue, Call, longest, queue_step}
use Rattle.slate_queue.specs.Commits.{IsAdd, IsClaim, IsFinish, IsQueueCommit}
use Rattle.slate_queue.specs.CallSteps.{AddStops, ClaimStops, FindsNone, FinishStops}
use Rattle.slate_queue.specs.Script.{keys_of}
use Rattle.slate_queue.specs.Standing.{Stands}

abbrev pub StandsIn : Meaning → CoreModel → Queue → Type 0
StandsIn m c q = Stands (rules_of c.settings m) c.state.commits q

-- ---- commits

abbrev pub Form : Type 1
Form = Ops → List (List ℕ) → List TranscriptStep → Type 0

pub record Commits (form : Form) (now : ℤ) (c d : CoreModel) : Type 0 where
  pub id : List ℕ
  pub steps : List TranscriptStep
  pub seq : ℕ
  pub committed : HasCommitted c id SerializableSnapshot steps (Some seq) now d
  pub is : form (kept_ops (own_of steps)) (batch_keys (own_of steps)) steps
  pub left : newest c ≢ 2 ^ 64 - 2

abbrev pub Leaves : CoreModel → CoreModel → Type 0
Leaves c d = (d ≡ c) ⊎ ((id : List ℕ) × HasEnded c id SerializableSnapshot d)

abbrev pub IsAddOf : List ℕ → ℕ → Form
IsAddOf payload id ops tracked ts = (add : IsAdd ops tracked ts) × (add.payload ≡ payload) × (add.counter + 1 ≡ id)

abbrev pub IsClaimOf : ℤ → ℕ → Claim → Form
IsClaimOf now ms claim ops tracked ts =
    (take : IsClaim now ops tracked ts) × (take.id ≡ claim.id) × (take.job.lease + 1 ≡ claim.lease) × (take.job.payload ≡ claim.payload) × (take.ms ≡ ms)

abbrev pub IsFinishOf : ℕ → ℕ → Form
IsFinishOf id lease ops tracked ts = (end : IsFinish ops tracked ts) × (end.id ≡ id) × (end.job.lease ≡ lease)

-- ---- attempts within a transaction

pub record Took (policies : List Policy) (before after : Reach) (c : CoreModel) (id : List ℕ) (means : List TranscriptStep → Type 0) (d : CoreModel) : Type 0 where
  pub steps : List TranscriptStep
  pub within : IsWithin c id SerializableSnapshot steps d
  pub is : means steps
  pub sees : (g : Segments) → IsChecked policies g before after c → Sees before.meaning c steps

pub record Stops (takes : List TranscriptStep → Type 0) (policies : List Policy) (before after : Reach) (c d : CoreModel) : Type 0 where
  pub id : List ℕ
  pub steps : List TranscriptStep
  pub all : takes steps
  pub ended : HasEnded c id SerializableSnapshot d
  pub sees : (g : Segments) → IsChecked policies g before after c → Sees before.meaning c steps

-- what a claim leaves, by its answer
abbrev pub ClaimEnds : ℤ → ℕ → List Policy → Reach → Reach → CoreModel → CoreModel → Option Claim → Type 0
ClaimEnds now ms policies before after c d None = Stops (FindsNone now) policies before after c d
ClaimEnds now ms policies before after c d (Some claim) = Commits (IsClaimOf now ms claim) now c d

abbrev pub db_error : QueueError → Option SlateDBError
db_error (errors.Db error) = Some error
db_error _ = None

pub record IsDbRefusal (policies : List Policy) (before after : Reach) (c : CoreModel) (id : List ℕ) (e : QueueError) : Type 0 where
  pub error : SlateDBError
  pub is : e ≡ errors.Db error
  pub undamaged : (g : Segments) → IsSettledIn policies g before c → IsFault before after error
  pub cause : (error ≡ OutOfMemory) ⊎ IsReadFault policies before after c id SerializableSnapshot error

pub record Attempts {T : Type 0} (means : T → List TranscriptStep → Type 0) (stops : QueueError → List TranscriptStep → Type 0) (policies : List Policy) (before after : Reach) (c : CoreModel) (id : List ℕ) (d : CoreModel) (result : Result T QueueError) : Type 0 where
  pub done : IfOk result (λ a. Took policies before after c id (means a) d)
  pub refused : IfErr result (λ e. Took policies before after c id (λ ts. stops e ts ⊎ IsDbRefusal policies before after c id e) d)

-- ---- whole calls

pub data StepRefuses (q : Queue) (call : Call) (before after : Reach) (c : CoreModel) (e : QueueError) : Type 0 where
  by_step : queue_step q call ≡ Err e → StepRefuses q call before after c e
  by_fault : (error : SlateDBError) → e ≡ errors.Db error → IsFault before after error → StepRefuses q call before after c e
  by_end : (p : Queue) (a : model.Answer) → queue_step q call ≡ Ok (p, a) → IsSome (keys_of a) → e ≡ errors.Db SequenceExhausted → newest c ≡ 2 ^ 64 - 2 → StepRefuses q call before after c e
  by_limit : e ≡ errors.Db (LimitReached LIMIT) → NoPlace 2 c → StepRefuses q call before after c e

pub record StepsAs {T : Type 0} (answer : T → model.Answer) (q : Queue) (call : Call) (before after : Reach) (c d : CoreModel) (result : Result T QueueError) : Type 0 where
  pub done : IfOk result (λ a. (p : Queue) × (queue_step q call ≡ Ok (p, answer a)) × StandsIn before.meaning d p)
  pub refused : IfErr result (λ e. StandsIn before.meaning d q × StepRefuses q call before after c e)

-- own: the call's own refusals, by the steps that it took
pub data IsRefusal (own : QueueError → Type 0) (policies : List Policy) (before after : Reach) (c : CoreModel) (e : QueueError) : Type 0 where
  by_call : own e → IsRefusal own policies before after c e
  at_begin : (error : SlateDBError) → e ≡ errors.Db error → IsBeginError c error → IsRefusal own policies before after c e
  at_read : (id : List ℕ) → IsDbRefusal policies before after c id e → IsRefusal own policies before after c e
  at_commit : e ≡ errors.Db SequenceExhausted → newest c ≡ 2 ^ 64 - 2 → IsRefusal own policies before after c e
  by_fault : (error : SlateDBError) → e ≡ errors.Db error → IsFault before after error → IsRefusal own policies before after c e

-- seg: by which keys have segments
pub record Keeps (policies : List Policy) (seg : Segments) (before after : Reach) (c d : CoreModel) : Type 0 where
  pub kept : IsKept before.meaning c → IsKept before.meaning d
  pub settled : IsSettledIn policies seg before c → IsSettledIn policies seg after d
  pub vouched : IsSettledIn policies seg before c → IsVouchedCore before.meaning c → IsVouchedCore before.meaning d
  pub queue : AreOfKind IsQueueCommit c.events → AreOfKind IsQueueCommit d.events
  pub grows : (weight d ≤ weight c + 2) × (load d ≤ load c + 2)

pub record CallsAs {T : Type 0} (ends : T → Type 0) (answer : T → model.Answer) (call : Call) (own : QueueError → Type 0) (policies : List Policy) (seg : Segments) (before after : Reach) (c d : CoreModel) (result : Result T QueueError) : Type 0 where
  pub done : IfOk result ends
  pub refused : OnErr result (Leaves c d)
  pub steps : (g : Segments) (q : Queue) → IsSettledIn policies g before c → StandsIn before.meaning c q → StepsAs answer q call before after c d result
  pub checked : (g : Segments) (q : Queue) → IsChecked policies g before after c → StandsIn before.meaning c q → IfOk result (λ a. (p : Queue) × (queue_step q call ≡ Ok (p, answer a)) × StandsIn before.meaning d p)
  pub cause : IfErr result (IsRefusal own policies before after c)
  pub keeps : Keeps policies seg before after c d
  pub reads : OnlyReads before after

abbrev pub AddRefuses : List ℕ → List Policy → Reach → Reach → CoreModel → CoreModel → QueueError → Type 0
AddRefuses payload policies before after c d e = ((longest < length payload) × (e ≡ errors.PayloadTooLong (length payload)) × (d ≡ c)) ⊎ Stops (AddStops e) policies before after c d

abbrev pub ClaimRefuses : ℤ → List Policy → Reach → Reach → CoreModel → CoreModel → QueueError → Type 0
ClaimRefuses now policies before after c d e = Stops (ClaimStops now e) policies before after c d

abbrev pub FinishRefuses : ℕ → ℕ → List Policy → Reach → Reach → CoreModel → CoreModel → QueueError → Type 0
FinishRefuses id lease policies before after c d e = Stops (FinishStops id lease e) policies before after c d

abbrev pub claim_answer : Option Claim → model.Answer
claim_answer None = model.Answer.NoneFree
claim_answer (Some claim) = model.Answer.Claimed claim.id claim.lease claim.payload
