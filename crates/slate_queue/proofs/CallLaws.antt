-- A call on a queue, by its steps and by how its transaction ended.
use Rattle.std.proofs.Common.{◌≡◌, ◌≢◌, ◌⊎◌, inl, inr, ℕ, ◌+◌, ◌-◌, ◌^◌, ◌≤◌, ℤ, List, [], ◌∷◌, ◌++◌, ◌∙◌, length, Option, Some, None, Ok, Err, refl, sym, ap, subst, arith}
use Rattle.std.specs.Prelude.{IsSome}
use Rattle.slate_types.specs.declared.config.IsolationLevel.TheVariants.{SerializableSnapshot}
use Rattle.slate_types.specs.declared.error.SlateDBError.{SlateDBError}
use Rattle.slate_types.specs.declared.error.SlateDBError.TheVariants.{SequenceExhausted}
use Rattle.slate_types.specs.Outside.{IsFault, Objects, OnlyReads, Reach}
use Rattle.slate_types.proofs.Reaching.{fault_earlier, reads_then}
use Rattle.slate_filter.specs.Policy.{Policy}
use Rattle.slate_mem.specs.KeyTests.{Segments}
use Rattle.slate_mem.specs.Batch.{Ops, batch_keys, kept_ops}
use Rattle.slate_txn.specs.declared.event.TranscriptStep.{TranscriptStep}
use Rattle.slate_txn.specs.Alone.{own_of}
use Rattle.slate_txn.specs.Laws as txn
use Rattle.slate_txn.specs.State.{Commit, opening}
use Rattle.slate_txn.proofs.SequenceLaws.{legal_counts}
use Rattle.slate_db.specs.Meaning.{Meaning, rules_of}
use Rattle.slate_db.specs.Model.{CoreModel}
use Rattle.slate_db.specs.Load.{load, weight}
use Rattle.slate_db.specs.Segmented.{IsSegmented}
use Rattle.slate_db.specs.Settled.{IsSettled, IsSettledIn}
use Rattle.slate_db.specs.Sound.{IsKept}
use Rattle.slate_steps.specs.Reads.{unblamed_if}
use Rattle.slate_steps.specs.Steps.{HasCommitted, HasEnded, IsBeginError, Sees, newest}
use Rattle.slate_steps.proofs.StoreTruth.{checked_before, checked_in}
use Rattle.slate_steps.proofs.Settling.{committed_kind, committed_settled, committed_vouched, committed_weight, ended_kind, ended_load, ended_settled, ended_vouched, ended_weight}
use Rattle.slate_queue.specs.declared.error.QueueError.{QueueError}
use Rattle.slate_queue.specs.declared.error.QueueError.TheVariants as errors
use Rattle.slate_queue.specs.Jobs as model
use Rattle.slate_queue.specs.Jobs.{Queue, Call, queue_step}
use Rattle.slate_queue.specs.Commits.{IsQueueCommit}
use Rattle.slate_queue.specs.CallSteps.{own_steps}
use Rattle.slate_queue.specs.Calls.{CallsAs, IsDbRefusal, Keeps, IsRefusal, StandsIn, StepRefuses, Stops, Took}
use Rattle.slate_queue.specs.Script.{keys_of}
use Rattle.slate_queue.specs.Standing.{Stands}
use Rattle.slate_queue.proofs.CallSteps.{own_more_alone}
use Rattle.slate_queue.proofs.Performing.{Performs, Tells}

-- ---- steps more

pub sees_more : (m : Meaning) (c : CoreModel) (ts : List TranscriptStep) (some : Ops) → Sees m c ts → Sees m c (ts ++ own_steps some)
sees_more m c ts some h = own_more_alone (rules_of c.settings m) c.state.commits (newest c) ts some h

-- ---- what stays

pub counts_in : (c : CoreModel) (id : List ℕ) (ts : List TranscriptStep) (n : Option ℕ) (now : ℤ) (d : CoreModel) → HasCommitted c id SerializableSnapshot ts n now d → txn.Counts c.settings.start_seq c.state.commits
counts_in c id ts n now d h = subst (txn.Counts c.settings.start_seq) h.replays.commits (legal_counts c.settings.start_seq c.events opening [] tt h.legal)

pub ended_stands : (m : Meaning) (c d : CoreModel) (id : List ℕ) (q : Queue) → HasEnded c id SerializableSnapshot d → StandsIn m c q → StandsIn m d q
ended_stands m c d id q h s = subst (λ (v : CoreModel). StandsIn m v q) (sym h.is) s

-- a commit that reaches nothing outside passes over no failure
pub still_behind : (o : Option SlateDBError) (before middle after : Reach) → after ≡ middle → middle.faults ≡ before.faults → unblamed_if o after.faults ≡ unblamed_if o before.faults
still_behind o before middle after same counts = ap (λ (x : Reach). unblamed_if o x.faults) same ∙ ap (unblamed_if o) counts

-- ---- what is kept

settled_after : (policies : List Policy) (seg : Segments) (before after : Reach) (d : CoreModel) → OnlyReads before after → IsSettled policies before.meaning seg before.objects d → IsSettledIn policies seg after d
settled_after policies seg before after d reads h = subst (λ (m : Meaning). IsSettled policies m seg after.objects d) (sym reads.meaning) (subst (λ (o : Option Objects). IsSettled policies before.meaning seg o d) (sym reads.objects) h)

pub keeps_same : (policies : List Policy) (seg : Segments) (before after : Reach) (c : CoreModel) → OnlyReads before after → Keeps policies seg before after c c
keeps_same policies seg before after c reads = record {
  kept = λ h. h;
  settled = settled_after policies seg before after c reads;
  vouched = λ s h. h;
  queue = λ h. h;
  grows = (omega arith, omega arith);
}

pub keeps_ended : (policies : List Policy) (seg : Segments) (before after : Reach) (c d : CoreModel) (id : List ℕ) → OnlyReads before after → HasEnded c id SerializableSnapshot d → Keeps policies seg before after c d
keeps_ended policies seg before after c d id reads h = record {
  kept = h.kept before.meaning;
  settled = λ s. settled_after policies seg before after d reads (ended_settled policies before.meaning seg before.objects c d id SerializableSnapshot h s);
  vouched = λ s v. ended_vouched before.meaning c d id SerializableSnapshot h v;
  queue = ended_kind IsQueueCommit c d id SerializableSnapshot h;
  grows = (let w : weight d ≡ weight c + 2 = ended_weight c d id SerializableSnapshot h in omega arith, let l : load d ≡ load c = ended_load c d id SerializableSnapshot h in omega arith);
}

pub keeps_committed : (policies : List Policy) (seg : Segments) (before after : Reach) (c d : CoreModel) (id : List ℕ) (ts : List TranscriptStep) (n : Option ℕ) (now : ℤ) → OnlyReads before after → HasCommitted c id SerializableSnapshot ts n now d →
    (IsKept before.meaning c → IsKept before.meaning d) → (IsSegmented seg c → IsSegmented seg d) → (IsSettledIn policies seg before c → Sees before.meaning c ts) →
    IsQueueCommit SerializableSnapshot now (kept_ops (own_of ts)) (batch_keys (own_of ts)) ts → length (own_of ts) ≤ 2 → Keeps policies seg before after c d
keeps_committed policies seg before after c d id ts n now reads h kept segmented sees of_kind few = record {
  kept = kept;
  settled = λ s. settled_after policies seg before after d reads (committed_settled policies before.meaning seg before.objects c d id SerializableSnapshot ts n now h kept segmented s);
  vouched = λ s v. committed_vouched c d id SerializableSnapshot ts n now h before.meaning (sees s) v;
  queue = committed_kind IsQueueCommit c d id SerializableSnapshot ts n now h of_kind;
  grows = (let w : weight d ≡ weight c + 2 = committed_weight c d id SerializableSnapshot ts n now h in omega arith, let l : load d ≤ load c + length (own_of ts) = h.load in omega arith);
}

module _ {T : Type 0} (ends : T → Type 0) (answer : T → model.Answer) (call : Call) (own : QueueError → Type 0) (policies : List Policy) (seg : Segments) where
  -- refused before anything is done
  pub untouched : (before after : Reach) (c : CoreModel) (e : QueueError) → OnlyReads before after → own e → ((q : Queue) → queue_step q call ≡ Err e) → CallsAs ends answer call own policies seg before after c c (Err e)
  untouched before after c e reads is step = record {
    done = tt;
    refused = inl refl;
    steps = λ g q settled stands. record { done = tt; refused = (stands, StepRefuses.by_step (step q)) };
    checked = λ g q store stands. tt;
    cause = IsRefusal.by_call is;
    keeps = keeps_same policies seg before after c reads;
    reads = reads;
  }

  pub not_begun : (before after : Reach) (c : CoreModel) (error : SlateDBError) → OnlyReads before after → IsBeginError c error → CallsAs ends answer call own policies seg before after c c (Err (errors.Db error))
  not_begun before after c error reads h = record {
    done = tt;
    refused = inl refl;
    steps = λ g q settled stands. record { done = tt; refused = (stands, by q h) };
    checked = λ g q store stands. tt;
    cause = IsRefusal.at_begin error refl h;
    keeps = keeps_same policies seg before after c reads;
    reads = reads;
  }
    where
      by : (q : Queue) → IsBeginError c error → StepRefuses q call before after c (errors.Db error)
      by q (inl memory) = StepRefuses.by_fault error refl (subst (IsFault before after) (sym memory) tt)
      by q (inr limit) = StepRefuses.by_limit (ap errors.Db limit.0) limit.1

  -- rolled back
  pub stopped : (stops : QueueError → List TranscriptStep → Type 0) (before after : Reach) (c d f : CoreModel) (id : List ℕ) (e : QueueError) → OnlyReads before after →
      Took policies before after c id (λ ts. stops e ts ⊎ IsDbRefusal policies before after c id e) d → HasEnded c id SerializableSnapshot f → (Stops (stops e) policies before after c f → own e) →
      ((q : Queue) (ts : List TranscriptStep) → StandsIn before.meaning c q → Sees before.meaning c ts → stops e ts → queue_step q call ≡ Err e) → CallsAs ends answer call own policies seg before after c f (Err e)
  stopped stops before after c d f id e reads took ended owns steps = record {
    done = tt;
    refused = inr (id, ended);
    steps = λ g q settled stands. record { done = tt; refused = (ended_stands before.meaning c f id q ended stands, by g q settled stands took.is) };
    checked = λ g q store stands. tt;
    cause = cause_by took.is;
    keeps = keeps_ended policies seg before after c f id reads ended;
    reads = reads;
  }
    where
      by : (g : Segments) (q : Queue) → IsSettledIn policies g before c → StandsIn before.meaning c q → stops e took.steps ⊎ IsDbRefusal policies before after c id e → StepRefuses q call before after c e
      by g q settled stands (inl h) = StepRefuses.by_step (steps q took.steps stands (took.sees g (checked_in policies g before after c settled)) h)
      by g q settled stands (inr h) = StepRefuses.by_fault h.error h.is (h.undamaged g settled)

      cause_by : stops e took.steps ⊎ IsDbRefusal policies before after c id e → IsRefusal own policies before after c e
      cause_by (inl h) = IsRefusal.by_call (owns (record { id = id; steps = took.steps; all = h; ended = ended; sees = took.sees }))
      cause_by (inr h) = IsRefusal.at_read id h

  -- its commit was refused
  pub uncommitted : (means : List TranscriptStep → Type 0) (before middle after : Reach) (c d f : CoreModel) (id : List ℕ) (error : SlateDBError) → OnlyReads before middle → OnlyReads before after →
      Took policies before middle c id means d → HasEnded c id SerializableSnapshot f → IsFault middle after error ⊎ ((error ≡ SequenceExhausted) × (newest c ≡ 2 ^ 64 - 2)) →
      ((q : Queue) (ts : List TranscriptStep) → StandsIn before.meaning c q → Sees before.meaning c ts → means ts → (p : Queue) × (a : model.Answer) × (queue_step q call ≡ Ok (p, a)) × IsSome (keys_of a)) →
      CallsAs ends answer call own policies seg before after c f (Err (errors.Db error))
  uncommitted means before middle after c d f id error first reads took ended why steps = record {
    done = tt;
    refused = inr (id, ended);
    steps = λ g q settled stands. record { done = tt; refused = (ended_stands before.meaning c f id q ended stands, by q (steps q took.steps stands (took.sees g (checked_in policies g before middle c settled)) took.is) why) };
    checked = λ g q store stands. tt;
    cause = cause_by why;
    keeps = keeps_ended policies seg before after c f id reads ended;
    reads = reads;
  }
    where
      by : (q : Queue) → (p : Queue) × (a : model.Answer) × (queue_step q call ≡ Ok (p, a)) × IsSome (keys_of a) → IsFault middle after error ⊎ ((error ≡ SequenceExhausted) × (newest c ≡ 2 ^ 64 - 2)) → StepRefuses q call before after c (errors.Db error)
      by q step (inl fault) = StepRefuses.by_fault error refl (fault_earlier before middle after error first.later fault)
      by q step (inr full) = StepRefuses.by_end step.0 step.1 step.2 step.3 (ap errors.Db full.0) full.1

      cause_by : IsFault middle after error ⊎ ((error ≡ SequenceExhausted) × (newest c ≡ 2 ^ 64 - 2)) → IsRefusal own policies before after c (errors.Db error)
      cause_by (inl fault) = IsRefusal.by_fault error refl (fault_earlier before middle after error first.later fault)
      cause_by (inr full) = IsRefusal.at_commit (ap errors.Db full.0) full.1

  -- done
  pub answered : (means : List TranscriptStep → Type 0) (before middle after : Reach) (c d f : CoreModel) (id : List ℕ) (a : T) → OnlyReads before middle → OnlyReads middle after → (took : Took policies before middle c id means d) → ends a → Keeps policies seg before after c f →
      ((q : Queue) → StandsIn before.meaning c q → Sees before.meaning c took.steps → (p : Queue) × (queue_step q call ≡ Ok (p, answer a)) × StandsIn before.meaning f p) → CallsAs ends answer call own policies seg before after c f (Ok a)
  answered means before middle after c d f id a first later took end keeps steps = record {
    done = end;
    refused = tt;
    steps = λ g q settled stands. record { done = steps q stands (took.sees g (checked_in policies g before middle c settled)); refused = tt };
    checked = λ g q store stands. steps q stands (took.sees g (checked_before policies g before middle after c first later store));
    cause = tt;
    keeps = keeps;
    reads = reads_then before middle after first later;
  }

-- ---- a commit of operations has a sequence

pub has_seq : (c d : CoreModel) (id : List ℕ) (ts : List TranscriptStep) (n : Option ℕ) (now : ℤ) → own_of ts ≢ [] → HasCommitted c id SerializableSnapshot ts n now d → (seq : ℕ) × HasCommitted c id SerializableSnapshot ts (Some seq) now d
has_seq c d id ts None now some h = absurd (some h.next)
has_seq c d id ts (Some seq) now some h = (seq, h)

pub never_empty : {A X : Type 0} (x : A) (xs : List A) → x ∷ xs ≡ [] → X
never_empty x xs e = cc

-- the commit that was made
abbrev pub commit_of : List TranscriptStep → ℕ → ℤ → Commit
commit_of ts seq now = record { seq = seq; now = now; ops = kept_ops (own_of ts); tracked = batch_keys (own_of ts) }

pub committed_in : (m : Meaning) (c d : CoreModel) (id : List ℕ) (ts : List TranscriptStep) (seq : ℕ) (now : ℤ) (p : Queue) → HasCommitted c id SerializableSnapshot ts (Some seq) now d →
    Stands (rules_of c.settings m) (c.state.commits ++ (commit_of ts seq now ∷ [])) p → StandsIn m d p
committed_in m c d id ts seq now p h s = subst (λ (v : CoreModel). StandsIn m v p) (sym h.is) s

pub performed : (m : Meaning) (call : Call) (a : model.Answer) (c d : CoreModel) (id : List ℕ) (ts : List TranscriptStep) (seq : ℕ) (now : ℤ) → Performs call a ts → HasCommitted c id SerializableSnapshot ts (Some seq) now d →
    (q : Queue) → StandsIn m c q → Sees m c ts → (p : Queue) × (queue_step q call ≡ Ok (p, a)) × StandsIn m d p
performed m call a c d id ts seq now h committed q stands sees =
    let made = h.places (rules_of c.settings m) c.state.commits (commit_of ts seq now) q (counts_in c id ts (Some seq) now d committed) committed.next.0 refl stands sees in
    (made.0, made.1, committed_in m c d id ts seq now made.0 committed made.2)

-- whether or not it was committed
pub may_perform : (m : Meaning) (call : Call) (a : model.Answer) (c : CoreModel) (ts : List TranscriptStep) → IsSome (keys_of a) → Tells call a ts → (q : Queue) → StandsIn m c q → Sees m c ts →
    (p : Queue) × (b : model.Answer) × (queue_step q call ≡ Ok (p, b)) × IsSome (keys_of b)
may_perform m call a c ts some tells q stands sees =
    let made = tells (rules_of c.settings m) c.state.commits (newest c) sees q stands in
    (made.0, a, made.1, some)

-- ---- of the call that commits

pub committed_at : (c d : CoreModel) (id : List ℕ) (ts : List TranscriptStep) (n : Option ℕ) (y z : ℤ) → y ≡ z → HasCommitted c id SerializableSnapshot ts n y d → HasCommitted c id SerializableSnapshot ts n z d
committed_at c d id ts n y z same h = subst (λ (now : ℤ). HasCommitted c id SerializableSnapshot ts n now d) same h

pub not_exhausted : {X E : Type 0} (n : X) (a b : E) → (Ok n ≡ Err a) ⊎ (Ok n ≡ Err b) → ⊥
not_exhausted n a b (inl e) = cc
not_exhausted n a b (inr e) = cc

-- the meaning of the parts is the same before and behind reads
pub kept_before : (before middle : Reach) (c d : CoreModel) → OnlyReads before middle → (IsKept middle.meaning c → IsKept middle.meaning d) → IsKept before.meaning c → IsKept before.meaning d
kept_before before middle c d reads kept h = subst (λ (m : Meaning). IsKept m d) reads.meaning (kept (subst (λ (m : Meaning). IsKept m c) (sym reads.meaning) h))
