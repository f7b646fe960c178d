-- A whole add.
use Rattle.std.proofs.Common.{◌≡◌, ◌≢◌, ◌⊎◌, inl, inr, ℕ, ◌+◌, ◌-◌, ◌^◌, ◌<◌, ◌≤◌, ℤ, List, [], ◌∷◌, ◌++◌, length, Option, Some, Ok, Err, refl, sym, ap, subst, ◌∙◌, arith}
use Rattle.slate_types.specs.declared.config.IsolationLevel.TheVariants.{SerializableSnapshot}
use Rattle.slate_types.specs.declared.error.SlateDBError.{SlateDBError}
use Rattle.slate_types.specs.declared.error.SlateDBError.TheVariants.{SequenceExhausted}
use Rattle.slate_types.specs.Outside.{IsFault, OnlyReads, Reach}
use Rattle.slate_types.proofs.Reaching.{reads_none, reads_then}
use Rattle.slate_filter.specs.Policy.{Policy}
use Rattle.slate_mem.specs.Batch.{batch_keys, kept_ops}
use Rattle.slate_mem.specs.KeyTests.{Segments}
use Rattle.slate_mem.proofs.BatchLaws.{keeps_its_keys}
use Rattle.slate_txn.specs.declared.event.TranscriptStep.{TranscriptStep}
use Rattle.slate_txn.specs.declared.event.TranscriptStep.TheVariants as steps
use Rattle.slate_txn.specs.Alone.{own_of}
use Rattle.slate_txn.specs.State.{last_of}
use Rattle.slate_db.specs.Meaning.{rules_of}
use Rattle.slate_db.specs.Model.{CoreModel}
use Rattle.slate_db.specs.Segmented.{IsSegmented}
use Rattle.slate_db.specs.Sound.{IsKept}
use Rattle.slate_steps.specs.Steps.{HasCommitted, HasEnded, IsBeginError, newest}
use Rattle.slate_steps.proofs.StoreTruth.{checked_in}
use Rattle.slate_queue.specs.declared.error.QueueError.{QueueError}
use Rattle.slate_queue.specs.declared.error.QueueError.TheVariants as errors
use Rattle.slate_queue.specs.Stored.{counter_key}
use Rattle.slate_queue.specs.Jobs as model
use Rattle.slate_queue.specs.Jobs.{Call, longest}
use Rattle.slate_queue.specs.Commits.{added}
use Rattle.slate_queue.specs.CallSteps.{AddStops, Adds, own_steps}
use Rattle.slate_queue.specs.Calls.{AddRefuses, Attempts, CallsAs, Commits, IsAddOf}
use Rattle.slate_queue.proofs.CallLaws.{answered, has_seq, keeps_committed, may_perform, not_begun, performed, stopped, uncommitted, untouched}
use Rattle.slate_queue.proofs.CallSteps.{add_counter, add_stands, add_step, add_stopped, after_add, too_long}
use Rattle.slate_queue.proofs.Performing.{Performs}

steps_are : (payload : List ℕ) (id : ℕ) (ts : List TranscriptStep) → (h : Adds payload id ts) → ts ≡ steps.Get counter_key h.counts.answer ∷ own_steps (added id payload)
steps_are payload id ts h = h.steps ∙ ap (λ us. us ++ own_steps (added id payload)) h.counts.steps

pub add_own : (payload : List ℕ) (id : ℕ) (ts : List TranscriptStep) → Adds payload id ts → own_of ts ≡ added id payload
add_own payload id ts h = ap own_of (steps_are payload id ts h)

pub add_some : (payload : List ℕ) (id : ℕ) (ts : List TranscriptStep) → Adds payload id ts → own_of ts ≢ []
add_some payload id ts h e = no (sym (add_own payload id ts h) ∙ e)
  where
    no : added id payload ≡ [] → ⊥
    no g = cc

pub add_form : (payload : List ℕ) (id : ℕ) (ts : List TranscriptStep) → length payload ≤ longest → Adds payload id ts → IsAddOf payload id (kept_ops (own_of ts)) (batch_keys (own_of ts)) ts
add_form payload id ts short h = (
  record {
    payload = payload;
    short = short;
    counter = h.counts.counter;
    answer = h.counts.answer;
    read = h.counts.read;
    left = h.counts.left;
    by = record {
      whole = steps_are payload id ts h ∙ ap (λ (n : ℕ). steps.Get counter_key h.counts.answer ∷ own_steps (added n payload)) h.counts.is;
      kept = ap kept_ops (add_own payload id ts h ∙ ap (λ (n : ℕ). added n payload) h.counts.is);
      keys = sym (keeps_its_keys (own_of ts));
    };
  },
  refl,
  sym h.counts.is,
)

pub add_commits : (payload : List ℕ) (id : ℕ) (tx : List ℕ) (ts : List TranscriptStep) (c d : CoreModel) (seq : ℕ) (now : ℤ) → length payload ≤ longest → Adds payload id ts → HasCommitted c tx SerializableSnapshot ts (Some seq) now d → newest c ≢ 2 ^ 64 - 2 → Commits (IsAddOf payload id) now c d
add_commits payload id tx ts c d seq now short h committed left = record { id = tx; steps = ts; seq = seq; committed = committed; is = add_form payload id ts short h; left = left }

pub add_performs : (payload : List ℕ) (id : ℕ) (ts : List TranscriptStep) → length payload ≤ longest → Adds payload id ts → Performs (Call.Add payload) (model.Answer.Added id) ts
add_performs payload id ts short h = record {
  tells = λ r cs n alone q stands. (after_add q payload, add_step q payload id short (add_counter r cs n q payload id ts stands alone h));
  places = λ r cs c q counts next ops stands alone.
      let counter : (q.counter < model.last_number) × (id ≡ q.counter + 1) = add_counter r cs (last_of r.start_seq cs) q payload id ts stands alone h in (
        after_add q payload,
        add_step q payload id short counter,
        add_stands r cs c q payload counts next (ops ∙ ap kept_ops (add_own payload id ts h ∙ ap (λ (n : ℕ). added n payload) counter.1)) counter.0 short stands,
      );
}

-- ---- the exits of the call

module _ (payload : List ℕ) (now : ℤ) (policies : List Policy) (seg : Segments) where
  pub add_too_long : (a : Reach) (c : CoreModel) (n : ℕ) → n ≡ length payload → longest < n →
      CallsAs (λ id. Commits (IsAddOf payload id) now c c) model.Answer.Added (Call.Add payload) (AddRefuses payload policies a a c c) policies seg a a c c (Err (errors.PayloadTooLong n))
  add_too_long a c n is above =
      let long : longest < length payload = subst (λ (m : ℕ). longest < m) is above in
      subst (λ (m : ℕ). CallsAs (λ id. Commits (IsAddOf payload id) now c c) model.Answer.Added (Call.Add payload) (AddRefuses payload policies a a c c) policies seg a a c c (Err (errors.PayloadTooLong m))) (sym is)
      (untouched (λ id. Commits (IsAddOf payload id) now c c) model.Answer.Added (Call.Add payload) (AddRefuses payload policies a a c c) policies seg a a c (errors.PayloadTooLong (length payload)) (reads_none a)
      (inl (long, refl, refl)) (λ q. too_long q payload long))

  pub add_not_begun : (a : Reach) (c d : CoreModel) (error : SlateDBError) → d ≡ c → IsBeginError c error →
      CallsAs (λ id. Commits (IsAddOf payload id) now c d) model.Answer.Added (Call.Add payload) (AddRefuses payload policies a a c d) policies seg a a c d (Err (errors.Db error))
  add_not_begun a c d error same h =
      subst (λ (v : CoreModel). CallsAs (λ id. Commits (IsAddOf payload id) now c v) model.Answer.Added (Call.Add payload) (AddRefuses payload policies a a c v) policies seg a a c v (Err (errors.Db error))) (sym same)
      (not_begun (λ id. Commits (IsAddOf payload id) now c c) model.Answer.Added (Call.Add payload) (AddRefuses payload policies a a c c) policies seg a a c error (reads_none a) h)

  pub add_stopped_call : (before after : Reach) (c d f : CoreModel) (id : List ℕ) (e : QueueError) → length payload ≤ longest → OnlyReads before after → Attempts (Adds payload) AddStops policies before after c id d (Err e) →
      HasEnded c id SerializableSnapshot f → CallsAs (λ new. Commits (IsAddOf payload new) now c f) model.Answer.Added (Call.Add payload) (AddRefuses payload policies before after c f) policies seg before after c f (Err e)
  add_stopped_call before after c d f id e short reads h ended =
      stopped (λ new. Commits (IsAddOf payload new) now c f) model.Answer.Added (Call.Add payload) (AddRefuses payload policies before after c f) policies seg AddStops before after c d f id e reads h.refused ended
      (λ s. inr s) (λ q ts stands sees s. add_stopped (rules_of c.settings before.meaning) c.state.commits (newest c) q payload e ts short stands sees s)

  pub add_uncommitted : (before middle after : Reach) (c d f : CoreModel) (id : List ℕ) (new : ℕ) (error : SlateDBError) → length payload ≤ longest → OnlyReads before middle → OnlyReads middle after →
      (h : Attempts (Adds payload) AddStops policies before middle c id d (Ok new)) → HasEnded c id SerializableSnapshot f → IsFault middle after error ⊎ ((error ≡ SequenceExhausted) × (newest c ≡ 2 ^ 64 - 2)) →
      CallsAs (λ i. Commits (IsAddOf payload i) now c f) model.Answer.Added (Call.Add payload) (AddRefuses payload policies before after c f) policies seg before after c f (Err (errors.Db error))
  add_uncommitted before middle after c d f id new error short first later h ended why =
      uncommitted (λ i. Commits (IsAddOf payload i) now c f) model.Answer.Added (Call.Add payload) (AddRefuses payload policies before after c f) policies seg (Adds payload new) before middle after c d f id error first (reads_then before middle after first later)
      h.done ended why (λ q ts stands sees adds. may_perform before.meaning (Call.Add payload) (model.Answer.Added new) c ts refl (add_performs payload new ts short adds).tells q stands sees)

  pub add_answered : (before middle after : Reach) (c d f : CoreModel) (id : List ℕ) (new : ℕ) (n : Option ℕ) → length payload ≤ longest → OnlyReads before middle → OnlyReads middle after →
      (h : Attempts (Adds payload) AddStops policies before middle c id d (Ok new)) → HasCommitted c id SerializableSnapshot h.done.steps n now f → newest c ≢ 2 ^ 64 - 2 → (IsKept before.meaning c → IsKept before.meaning f) → (IsSegmented seg c → IsSegmented seg f) →
      CallsAs (λ i. Commits (IsAddOf payload i) now c f) model.Answer.Added (Call.Add payload) (AddRefuses payload policies before after c f) policies seg before after c f (Ok new)
  add_answered before middle after c d f id new n short first later h committed left kept segmented =
      let made = has_seq c f id h.done.steps n now (add_some payload new h.done.steps h.done.is) committed in
      answered (λ i. Commits (IsAddOf payload i) now c f) model.Answer.Added (Call.Add payload) (AddRefuses payload policies before after c f) policies seg (Adds payload new) before middle after c d f id new first later h.done
      (add_commits payload new id h.done.steps c f made.0 now short h.done.is made.1 left)
      (keeps_committed policies seg before after c f id h.done.steps (Some made.0) now (reads_then before middle after first later) made.1 kept segmented (λ s. h.done.sees seg (checked_in policies seg before middle c s))
      (record { serializable = refl; does = inl (add_form payload new h.done.steps short h.done.is).0 })
      (let two : length (own_of h.done.steps) ≡ 2 = ap length (add_own payload new h.done.steps h.done.is) in omega arith))
      (λ q stands sees. performed before.meaning (Call.Add payload) (model.Answer.Added new) c f id h.done.steps made.0 now (add_performs payload new h.done.steps short h.done.is) made.1 q stands sees)
