-- A call on a queue in a database that threads share, by the steps of its attempt and by how that ended.
use Rattle.std.proofs.Common.{◌≡◌, ◌≢◌, ◌⊎◌, inl, inr, ℕ, ◌^◌, ◌<◌, ◌≤◌, ℤ, Bool, true, false, cond, nat_eq, nat_le, List, [], length, Option, Some, None, Ok, Err, refl, sym, ap, subst, ◌∙◌, SFits, w64}
use Rattle.std.specs.Prelude.{IsSome}
use mathlib.Core.List.{IsPrefix}
use Rattle.slate_types.specs.declared.config.IsolationLevel.TheVariants.{SerializableSnapshot}
use Rattle.slate_types.specs.declared.config.Options.{Options}
use Rattle.slate_types.specs.declared.error.SlateDBError.{SlateDBError}
use Rattle.slate_types.specs.Outside.{IsFault, OnlyReads, Reach}
use Rattle.slate_types.proofs.Reaching.{fault_earlier, reads_none, reads_then}
use Rattle.slate_filter.specs.Policy.{Policy}
use Rattle.slate_mem.specs.Batch.{batch_keys, kept_ops}
use Rattle.slate_txn.specs.declared.event.TranscriptStep.{TranscriptStep}
use Rattle.slate_txn.specs.Alone.{IsAlone, own_of}
use Rattle.slate_txn.specs.Replay.{IsLegal, replay}
use Rattle.slate_txn.specs.Settings.{settings_of}
use Rattle.slate_txn.specs.State.{Commit, Rules, Tx}
use Rattle.slate_db.specs.Meaning.{Meaning, rules_of}
use Rattle.slate_shared.specs.Passes.{Opened, PassModel}
use Rattle.slate_shared.proofs.Lists.{prefix_self}
use Rattle.slate_steps.specs.Attempts.{HasCommittedBehind, HasEndedBehind, IsAttempt, IsRefusedBehind, IsStoreChecked, IsStoreTrue, IsUnbegun, IsVouchedThere, SeesOnly}
use Rattle.slate_steps.proofs.StoreTruth.{checked_earlier, checked_of}
use Rattle.slate_queue.specs.declared.claims.Claim.{Claim}
use Rattle.slate_queue.specs.declared.error.QueueError.{QueueError}
use Rattle.slate_queue.specs.declared.error.QueueError.TheVariants as errors
use Rattle.slate_queue.specs.Stored.{Job, counter_in, counter_key, job_key}
use Rattle.slate_queue.specs.Jobs as model
use Rattle.slate_queue.specs.Jobs.{Call, Queue, last_number, longest, queue_step}
use Rattle.slate_queue.specs.Commits.{IsQueueCommit}
use Rattle.slate_queue.specs.CallSteps.{AddStops, Adds, ClaimStops, Claims, FinishStops, Finishes, MayClaim, counter_refusal, job_refusal, value_of}
use Rattle.slate_queue.specs.Calls.{Form, IsAddOf, IsClaimOf, IsFinishOf, claim_answer}
use Rattle.slate_queue.specs.OnPass.{AddsOn, AttemptsOn, CallsOn, ClaimsOn, CommitsOn, EndsClaim, FinishesOn, IsBadValue, IsReadRefusal, IsRefusalOn, IsRefusedWith, IsStepRefusal, IsTooLong, IsUncommitted, LeavesOn, NoneFirst, TookOn}
use Rattle.slate_queue.specs.Script.{keys_of}
use Rattle.slate_queue.specs.Standing.{job_in, value_from}
use Rattle.slate_queue.proofs.AddCall.{add_form, add_performs, add_some}
use Rattle.slate_queue.proofs.CallSteps.{add_stopped, claim_stopped, finish_stopped, handed_stands, none_step_is, too_long}
use Rattle.slate_queue.proofs.ClaimCall.{claim_form, claim_performs, claim_some, claim_tells}
use Rattle.slate_queue.proofs.FinishCall.{finish_form, finish_performs, finish_some}
use Rattle.slate_queue.proofs.PassPlace.{answers_on, queue_more}
use Rattle.slate_queue.proofs.Performing.{Performs, Tells}
use Rattle.slate_queue.proofs.PassTruths.{alone_there, true_earlier}
use Rattle.slate_queue.proofs.Stands.{value_seen}

sees_none : (old new : PassModel) → new ≡ old → SeesOnly old new
sees_none old new same = subst (SeesOnly old) (sym same) (record { more = record { table = refl; parts = refl; seen = prefix_self old.seen }; own = refl })

leaves_same : (o : Options) (old new : PassModel) → new ≡ old → LeavesOn o old new
leaves_same o old new same = record { only = sees_none old new same; ended = inl same }

-- b: the pass when the transaction was begun
pub leaves_from : (o : Options) (t : Opened) (ts : List TranscriptStep) (a b c : PassModel) → IsAttempt o a.seen SerializableSnapshot ts t → b ≡ a → HasEndedBehind t b c → LeavesOn o a c
leaves_from o t ts a b c attempt same h =
    let ended : HasEndedBehind t a c = subst (λ (p : PassModel). HasEndedBehind t p c) same h in
    record { only = ended.only; ended = inr (t, ts, attempt, ended) }

pub ended_from : (t : Opened) (a b c : PassModel) → b ≡ a → HasEndedBehind t b c → HasEndedBehind t a c
ended_from t a b c same h = subst (λ (p : PassModel). HasEndedBehind t p c) same h

pub pass_ended : (t : Opened) (a b : PassModel) → HasEndedBehind t a b → (b.table ≡ a.table) × (b.parts ≡ a.parts)
pass_ended t a b h = (h.only.more.table, h.only.more.parts)

-- ---- a whole call, whichever it is

module _ {T : Type 0} (ends : T → Type 0) (call : Call) (first : QueueError → Type 0) (stops : QueueError → List TranscriptStep → Type 0) (takes : List TranscriptStep → Type 0) (o : Options) (m : Meaning) (policies : List Policy) (old new : PassModel) where
  -- refused before anything is done
  pub untouched_on : (a : Reach) (e : QueueError) → new ≡ old → first e → ((q : Queue) → queue_step q call ≡ Err e) → CallsOn ends call first stops takes o m policies a a old new (Err e)
  untouched_on a e same is step = record {
    done = tt;
    refused = inl (leaves_same o old new same);
    step = λ s. IsStepRefusal.by_call step;
    cause = IsRefusalOn.at_once is same refl;
    reads = reads_none a;
  }

  pub not_begun_on : (a : Reach) (error : SlateDBError) → IsUnbegun old new error → CallsOn ends call first stops takes o m policies a a old new (Err (errors.Db error))
  not_begun_on a error none = record {
    done = tt;
    refused = inr (error, refl, none);
    step = λ s. IsStepRefusal.at_begin error refl none;
    cause = IsRefusalOn.at_begin error refl none;
    reads = reads_none a;
  }

  -- rolled back
  pub stopped_on : (before after : Reach) (t : Opened) (e : QueueError) → OnlyReads before after →
      TookOn o m policies old.seen before after (λ ts. stops e ts ⊎ IsReadRefusal o m policies before after t.seen e) t → HasEndedBehind t old new → IsPrefix t.seen new.seen → IsLegal o.start_seq new.seen →
      (IsVouchedThere o m t → IsVouchedThere o m (record t { seen = new.seen })) →
      ((r : Rules) (cs : List Commit) (n : ℕ) (ts : List TranscriptStep) → IsAlone r cs n ts → stops e ts → IsRefusedWith call e (value_from r cs n)) → CallsOn ends call first stops takes o m policies before after old new (Err e)
  stopped_on before after t e reads took ended known legal vouched refuses = record {
    done = tt;
    refused = inl (record { only = ended.only; ended = inr (t, took.steps, took.attempt, ended) });
    step = λ s. by (true_earlier policies m t.seen new.seen before after after known reads (reads_none after) s) took.is;
    cause = cause_by took.is;
    reads = reads;
  }
    where
      there : IsStoreChecked policies m new.seen before after → IsVouchedThere o m t
      there s = took.sees (checked_earlier policies m t.seen new.seen before after after known reads (reads_none after) s)

      by : IsStoreTrue policies m t.seen before after → stops e took.steps ⊎ IsReadRefusal o m policies before after t.seen e → IsStepRefusal call takes o m before after old new e
      by s (inl h) = IsStepRefusal.by_step (record {
        txn = t;
        steps = took.steps;
        attempt = took.attempt;
        known = known;
        is = refuses (rules_of (settings_of o) m) (replay new.seen).commits t.tx.begin took.steps
            (alone_there o m old.seen SerializableSnapshot took.steps t new.seen took.attempt (took.sees (checked_of policies m t.seen before after s)) known legal) h;
      })
      by s (inr h) = IsStepRefusal.by_fault h.error h.is (h.undamaged s)

      cause_by : stops e took.steps ⊎ IsReadRefusal o m policies before after t.seen e → IsRefusalOn call first stops takes o m policies before after old new e
      cause_by (inl h) = IsRefusalOn.by_steps (record {
        ends = record { txn = t; steps = took.steps; attempt = took.attempt; all = h; ended = ended; legal = legal; vouched = λ s. vouched (there s) };
        refused = λ s.
            refuses (rules_of (settings_of o) m) (replay new.seen).commits t.tx.begin took.steps
            (alone_there o m old.seen SerializableSnapshot took.steps t new.seen took.attempt (there s) known legal) h;
      })
      cause_by (inr h) = IsRefusalOn.at_read h.error h.is t.seen known h.cause

  -- its commit was refused
  pub uncommitted_on : (means : List TranscriptStep → Type 0) (a : model.Answer) (before middle after : Reach) (t : Opened) (error : SlateDBError) → OnlyReads before middle → OnlyReads middle after → (took : TookOn o m policies old.seen before middle means t) →
      takes took.steps → IsSome (keys_of a) → Tells call a took.steps → LeavesOn o old new → IsPrefix t.seen new.seen → IsLegal o.start_seq new.seen → (IsVouchedThere o m t → IsVouchedThere o m (record t { seen = new.seen })) →
      IsFault middle after error ⊎ IsRefusedBehind o t old new error → CallsOn ends call first stops takes o m policies before after old new (Err (errors.Db error))
  uncommitted_on means a before middle after t error begun later took all some tells left known legal vouched (inl fault) = record {
    done = tt;
    refused = inl left;
    step = λ s. IsStepRefusal.by_fault error refl (fault_earlier before middle after error begun.later fault);
    cause = IsRefusalOn.by_fault error refl (fault_earlier before middle after error begun.later fault);
    reads = reads_then before middle after begun later;
  }
  uncommitted_on means a before middle after t error begun later took all some tells left known legal vouched (inr refused) =
      let turned_back : IsUncommitted takes o old new error = record { txn = t; steps = took.steps; attempt = took.attempt; all = all; refused = refused; legal = legal } in
      record {
        done = tt;
        refused = inl left;
        step = λ s.
            let v : IsVouchedThere o m t = took.sees (checked_earlier policies m t.seen new.seen before middle after known begun later (checked_of policies m new.seen before after s)) in
            IsStepRefusal.by_commit error refl turned_back (vouched v)
            (a, some, tells (rules_of (settings_of o) m) (replay new.seen).commits t.tx.begin (alone_there o m old.seen SerializableSnapshot took.steps t new.seen took.attempt v known legal));
        cause = IsRefusalOn.at_commit error refl turned_back;
        reads = reads_then before middle after begun later;
      }

  -- done
  pub answered_on : (before after : Reach) (a : T) → OnlyReads before after → ends a → CallsOn ends call first stops takes o m policies before after old new (Ok a)
  answered_on before after a reads end = record { done = end; refused = tt; step = λ s. tt; cause = tt; reads = reads }

-- ---- the pass before its transaction was begun

pub committed_from : (o : Options) (t : Opened) (n : Option ℕ) (now : ℤ) (a b c : PassModel) → b ≡ a → HasCommittedBehind o t n now b c → HasCommittedBehind o t n now a c
committed_from o t n now a b c same h = subst (λ (p : PassModel). HasCommittedBehind o t n now p c) same h

pub refused_from : (o : Options) (t : Opened) (fault : Type 0) (e : SlateDBError) (a b c : PassModel) → b ≡ a → fault ⊎ IsRefusedBehind o t b c e → fault ⊎ IsRefusedBehind o t a c e
refused_from o t fault e a b c same h = subst (λ (p : PassModel). fault ⊎ IsRefusedBehind o t p c e) same h

pub pass_unbegun : (a b : PassModel) (e : SlateDBError) → IsUnbegun a b e → (b.table ≡ a.table) × (b.parts ≡ a.parts)
pass_unbegun a b e h = (h.only.more.table, h.only.more.parts)

pub pass_left : (o : Options) (a b : PassModel) → LeavesOn o a b → (b.table ≡ a.table) × (b.parts ≡ a.parts)
pass_left o a b h = (h.only.more.table, h.only.more.parts)

pub pass_committed : (o : Options) (t : Opened) (n : Option ℕ) (now : ℤ) (a b : PassModel) → HasCommittedBehind o t n now a b → (b.table ≡ a.table) × (b.parts ≡ a.parts)
pass_committed o t n now a b h = (h.more.table, h.more.parts)

-- ---- a commit

has_seq_on : (o : Options) (t : Opened) (n : Option ℕ) (now : ℤ) (old new : PassModel) → t.tx.ops ≢ [] → HasCommittedBehind o t n now old new → (seq : ℕ) × HasCommittedBehind o t (Some seq) now old new
has_seq_on o t None now old new some h = absurd (some h.next)
has_seq_on o t (Some seq) now old new some h = (seq, h)

pub commits_on : (form : Form) (call : Call) (a : model.Answer) (o : Options) (m : Meaning) (policies : List Policy) (before middle after : Reach) (old new : PassModel) (means : List TranscriptStep → Type 0) (t : Opened) (n : Option ℕ) (y now : ℤ) → y ≡ now →
    OnlyReads before middle → OnlyReads middle after → (took : TookOn o m policies old.seen before middle means t) → own_of took.steps ≢ [] → form (kept_ops (own_of took.steps)) (batch_keys (own_of took.steps)) took.steps →
    IsQueueCommit SerializableSnapshot now (kept_ops (own_of took.steps)) (batch_keys (own_of took.steps)) took.steps → Performs call a took.steps → HasCommittedBehind o t n y old new → IsPrefix t.seen new.seen → IsLegal o.start_seq new.seen →
    (IsVouchedThere o m t → IsVouchedThere o m (record t { seen = new.seen })) → CommitsOn form call a now o m policies before after old new
commits_on form call a o m policies before middle after old new means t n y now moment first later took some is kind performs committed known legal vouched =
    let made = has_seq_on o t n now old new (λ e. some (sym (ap (λ (x : Tx). x.ops) took.attempt.is) ∙ e)) (subst (λ (z : ℤ). HasCommittedBehind o t n z old new) moment committed) in
    record {
      txn = t;
      steps = took.steps;
      seq = made.0;
      attempt = took.attempt;
      committed = made.1;
      is = subst (λ (x : Tx). form (kept_ops x.ops) (batch_keys x.ops) x.transcript) (sym took.attempt.is) is;
      legal = legal;
      queue = queue_more o m old.seen took.steps t took.attempt made.0 now old new made.1 legal (subst (λ (x : Tx). IsQueueCommit SerializableSnapshot now (kept_ops x.ops) (batch_keys x.ops) x.transcript) (sym took.attempt.is) kind);
      answers = λ s.
          let v : IsVouchedThere o m t = took.sees (checked_earlier policies m t.seen new.seen before middle after known first later s) in
          answers_on o m old.seen took.steps t took.attempt made.0 now old new made.1 legal call a performs v (vouched v) (alone_there o m old.seen SerializableSnapshot took.steps t new.seen took.attempt v known legal);
    }

-- ---- refusals by what was read

no_bad : {A : Type 0} (k : List ℕ) (e : QueueError) → e ≡ errors.BadJob k → (b : QueueError) → Some b ≡ Some e → (b ≡ errors.BadJob k → A) → A
no_bad k e is b h f = f (both b e h ∙ is)
  where
    both : (x y : QueueError) → Some x ≡ Some y → x ≡ y
    both x y g = cc

none_bad : {A : Type 0} (e : QueueError) → None ≡ Some e → A
none_bad e h = cc

same_key : (j k : List ℕ) → errors.BadJob j ≡ errors.BadJob k → j ≡ k
same_key j k h = cc

not_spent_ids : {A : Type 0} (k : List ℕ) → errors.IdsSpent ≡ errors.BadJob k → A
not_spent_ids k h = cc

not_spent_leases : {A : Type 0} (id : ℕ) (k : List ℕ) → errors.LeasesSpent id ≡ errors.BadJob k → A
not_spent_leases id k h = cc

not_missing : {A : Type 0} (id : ℕ) (k : List ℕ) → errors.NoJob id ≡ errors.BadJob k → A
not_missing id k h = cc

not_stale : {A : Type 0} (n : ℕ) (k : List ℕ) → errors.StaleLease n ≡ errors.BadJob k → A
not_stale n k h = cc

pub add_refusal : (payload : List ℕ) → length payload ≤ longest → (e : QueueError) (r : Rules) (cs : List Commit) (n : ℕ) (ts : List TranscriptStep) → IsAlone r cs n ts → AddStops e ts → IsRefusedWith (Call.Add payload) e (value_from r cs n)
add_refusal payload short e r cs n ts alone stops = record {
  step = λ q stands. add_stopped r cs n q payload e ts short stands alone stops;
  bad = λ k is. by k is (counter_in (value_of stops.answer)) refl stops.refusal;
}
  where
    read : value_of stops.answer ≡ value_from r cs n counter_key
    read = value_seen r cs n counter_key stops.answer (subst (IsAlone r cs n) stops.steps alone).0

    by : (k : List ℕ) → e ≡ errors.BadJob k → (c : Option ℕ) → counter_in (value_of stops.answer) ≡ c → counter_refusal c ≡ Some e → IsBadValue (value_from r cs n) k
    by k is None none h = no_bad k e is (errors.BadJob counter_key) h
        (λ g. let key : counter_key ≡ k = same_key counter_key k g in IsBadValue.of_counter (sym key) (ap (λ (j : List ℕ). counter_in (value_from r cs n j)) (sym key) ∙ sym (ap counter_in read) ∙ none))
    by k is (Some c) some h = on (nat_le last_number c) h
      where
        on : (b : Bool) → cond b (Some errors.IdsSpent) None ≡ Some e → IsBadValue (value_from r cs n) k
        on true g = no_bad k e is errors.IdsSpent g (λ f. not_spent_ids k f)
        on false g = none_bad e g

pub finish_refusal : (id lease : ℕ) → id < 2 ^ 64 → (e : QueueError) (r : Rules) (cs : List Commit) (n : ℕ) (ts : List TranscriptStep) → IsAlone r cs n ts → FinishStops id lease e ts → IsRefusedWith (Call.Finish id lease) e (value_from r cs n)
finish_refusal id lease fits e r cs n ts alone stops = record {
  step = λ q stands. finish_stopped r cs n q id lease e ts fits stands alone stops;
  bad = λ k is. by k is (job_in (value_of stops.answer)) refl stops.refusal;
}
  where
    read : value_of stops.answer ≡ value_from r cs n (job_key id)
    read = value_seen r cs n (job_key id) stops.answer (subst (IsAlone r cs n) stops.steps alone).0

    by : (k : List ℕ) → e ≡ errors.BadJob k → (j : Option (Option Job)) → job_in (value_of stops.answer) ≡ j → job_refusal id lease j ≡ Some e → IsBadValue (value_from r cs n) k
    by k is None none h = no_bad k e is (errors.BadJob (job_key id)) h
        (λ g. let key : job_key id ≡ k = same_key (job_key id) k g in IsBadValue.of_job id (sym key) (ap (λ (j : List ℕ). job_in (value_from r cs n j)) (sym key) ∙ sym (ap job_in read) ∙ none))
    by k is (Some None) some h = no_bad k e is (errors.NoJob id) h (λ f. not_missing id k f)
    by k is (Some (Some j)) some h = on (nat_eq j.lease lease) (nat_eq lease 0) h
      where
        on : (a b : Bool) → cond a (cond b (Some (errors.StaleLease j.lease)) None) (Some (errors.StaleLease j.lease)) ≡ Some e → IsBadValue (value_from r cs n) k
        on true true g = no_bad k e is (errors.StaleLease j.lease) g (λ f. not_stale j.lease k f)
        on true false g = none_bad e g
        on false b g = no_bad k e is (errors.StaleLease j.lease) g (λ f. not_stale j.lease k f)

pub claim_refusal : (now : ℤ) (ms : ℕ) (e : QueueError) (r : Rules) (cs : List Commit) (n : ℕ) (ts : List TranscriptStep) → IsAlone r cs n ts → ClaimStops now e ts → IsRefusedWith (Call.Claim now ms) e (value_from r cs n)
claim_refusal now ms e r cs n ts alone stops = record {
  step = λ q stands. claim_stopped r cs n q now ms e ts stands alone stops;
  bad = λ k is. by k is stops;
}
  where
    by : (k : List ℕ) → e ≡ errors.BadJob k → ClaimStops now e ts → IsBadValue (value_from r cs n) k
    by k is (ClaimStops.bad passed kv passes bad steps) =
        let key : kv.key ≡ k = same_key kv.key k (sym bad.4 ∙ is) in
        IsBadValue.of_job bad.0 (sym key ∙ bad.2) (ap (λ (j : List ℕ). job_in (value_from r cs n j)) (sym key) ∙ ap job_in (handed_stands r cs n passed kv ts alone steps) ∙ bad.3)
    by k is (ClaimStops.spent kv id job takes spent eq) = not_spent_leases id k (sym eq ∙ is)

-- ---- an add

module _ (payload : List ℕ) (now : ℤ) (o : Options) (m : Meaning) (policies : List Policy) (old new : PassModel) where
  abbrev adds : List TranscriptStep → Type 0
  adds ts = (id : ℕ) × Adds payload id ts

  abbrev ends_add : Reach → Reach → ℕ → Type 0
  ends_add before after id = CommitsOn (IsAddOf payload id) (Call.Add payload) (model.Answer.Added id) now o m policies before after old new

  pub add_too_long_on : (a : Reach) (n : ℕ) → new ≡ old → n ≡ length payload → longest < n → AddsOn payload now o m policies a a old new (Err (errors.PayloadTooLong n))
  add_too_long_on a n same is above =
      let long : longest < length payload = subst (λ (k : ℕ). longest < k) is above in
      subst (λ (k : ℕ). AddsOn payload now o m policies a a old new (Err (errors.PayloadTooLong k))) (sym is)
      (untouched_on (ends_add a a) (Call.Add payload) (IsTooLong payload) AddStops adds o m policies old new a (errors.PayloadTooLong (length payload)) same (long, refl) (λ q. too_long q payload long))

  pub add_not_begun_on : (a : Reach) (error : SlateDBError) → IsUnbegun old new error →
      AddsOn payload now o m policies a a old new (Err (errors.Db error))
  add_not_begun_on a error none = not_begun_on (ends_add a a) (Call.Add payload) (IsTooLong payload) AddStops adds o m policies old new a error none

  pub add_stopped_on : (before after : Reach) (t : Opened) (e : QueueError) → length payload ≤ longest → OnlyReads before after → AttemptsOn (Adds payload) AddStops o m policies old.seen before after t (Err e) → HasEndedBehind t old new →
      IsPrefix t.seen new.seen → IsLegal o.start_seq new.seen → (IsVouchedThere o m t → IsVouchedThere o m (record t { seen = new.seen })) → AddsOn payload now o m policies before after old new (Err e)
  add_stopped_on before after t e short reads h ended known legal vouched =
      stopped_on (ends_add before after) (Call.Add payload) (IsTooLong payload) AddStops adds o m policies old new before after t e reads h.refused ended known legal vouched
      (λ r cs n ts alone s. add_refusal payload short e r cs n ts alone s)

  pub add_uncommitted_on : (before middle after : Reach) (t : Opened) (id : ℕ) (error : SlateDBError) → length payload ≤ longest → OnlyReads before middle → OnlyReads middle after → (h : AttemptsOn (Adds payload) AddStops o m policies old.seen before middle t (Ok id)) →
      LeavesOn o old new → IsPrefix t.seen new.seen → IsLegal o.start_seq new.seen → (IsVouchedThere o m t → IsVouchedThere o m (record t { seen = new.seen })) → IsFault middle after error ⊎ IsRefusedBehind o t old new error → AddsOn payload now o m policies before after old new (Err (errors.Db error))
  add_uncommitted_on before middle after t id error short first later h left known legal vouched why =
      uncommitted_on (ends_add before after) (Call.Add payload) (IsTooLong payload) AddStops adds o m policies old new (Adds payload id) (model.Answer.Added id) before middle after t error first later h.done
      (id, h.done.is) refl (add_performs payload id h.done.steps short h.done.is).tells left known legal vouched why

  pub add_answered_on : (before middle after : Reach) (t : Opened) (id : ℕ) (n : Option ℕ) (y : ℤ) → y ≡ now → length payload ≤ longest → OnlyReads before middle → OnlyReads middle after → AttemptsOn (Adds payload) AddStops o m policies old.seen before middle t (Ok id) →
      HasCommittedBehind o t n y old new → IsPrefix t.seen new.seen → IsLegal o.start_seq new.seen → (IsVouchedThere o m t → IsVouchedThere o m (record t { seen = new.seen })) → AddsOn payload now o m policies before after old new (Ok id)
  add_answered_on before middle after t id n y moment short first later h committed known legal vouched =
      let form = add_form payload id h.done.steps short h.done.is in
      answered_on (ends_add before after) (Call.Add payload) (IsTooLong payload) AddStops adds o m policies old new before after id (reads_then before middle after first later)
      (commits_on (IsAddOf payload id) (Call.Add payload) (model.Answer.Added id) o m policies before middle after old new (Adds payload id) t n y now moment first later h.done (add_some payload id h.done.steps h.done.is) form
      (record { serializable = refl; does = inl form.0 }) (add_performs payload id h.done.steps short h.done.is) committed known legal vouched)

-- ---- a finish

module _ (id lease : ℕ) (now : ℤ) (o : Options) (m : Meaning) (policies : List Policy) (old new : PassModel) where
  abbrev ends_finish : Reach → Reach → Unit {0} → Type 0
  ends_finish before after done = CommitsOn (IsFinishOf id lease) (Call.Finish id lease) model.Answer.Finished now o m policies before after old new

  pub finish_not_begun_on : (a : Reach) (error : SlateDBError) → IsUnbegun old new error →
      FinishesOn id lease now o m policies a a old new (Err (errors.Db error))
  finish_not_begun_on a error none = not_begun_on {T = Unit} (ends_finish a a) (Call.Finish id lease) NoneFirst (FinishStops id lease) (Finishes id lease) o m policies old new a error none

  pub finish_stopped_on : (before after : Reach) (t : Opened) (e : QueueError) → id < 2 ^ 64 → OnlyReads before after → AttemptsOn {T = Unit} (λ done. Finishes id lease) (FinishStops id lease) o m policies old.seen before after t (Err e) → HasEndedBehind t old new →
      IsPrefix t.seen new.seen → IsLegal o.start_seq new.seen → (IsVouchedThere o m t → IsVouchedThere o m (record t { seen = new.seen })) → FinishesOn id lease now o m policies before after old new (Err e)
  finish_stopped_on before after t e fits reads h ended known legal vouched =
      stopped_on {T = Unit} (ends_finish before after) (Call.Finish id lease) NoneFirst (FinishStops id lease) (Finishes id lease) o m policies old new before after t e reads h.refused ended known legal vouched
      (λ r cs n ts alone s. finish_refusal id lease fits e r cs n ts alone s)

  pub finish_uncommitted_on : (before middle after : Reach) (t : Opened) (done : Unit) (error : SlateDBError) → id < 2 ^ 64 → OnlyReads before middle → OnlyReads middle after → (h : AttemptsOn {T = Unit} (λ done. Finishes id lease) (FinishStops id lease) o m policies old.seen before middle t (Ok done)) →
      LeavesOn o old new → IsPrefix t.seen new.seen → IsLegal o.start_seq new.seen → (IsVouchedThere o m t → IsVouchedThere o m (record t { seen = new.seen })) → IsFault middle after error ⊎ IsRefusedBehind o t old new error → FinishesOn id lease now o m policies before after old new (Err (errors.Db error))
  finish_uncommitted_on before middle after t done error fits first later h left known legal vouched why =
      uncommitted_on {T = Unit} (ends_finish before after) (Call.Finish id lease) NoneFirst (FinishStops id lease) (Finishes id lease) o m policies old new (Finishes id lease) model.Answer.Finished before middle after t error first later h.done
      h.done.is refl (finish_performs id lease h.done.steps fits h.done.is).tells left known legal vouched why

  pub finish_answered_on : (before middle after : Reach) (t : Opened) (done : Unit) (n : Option ℕ) (y : ℤ) → y ≡ now → id < 2 ^ 64 → OnlyReads before middle → OnlyReads middle after → AttemptsOn {T = Unit} (λ done. Finishes id lease) (FinishStops id lease) o m policies old.seen before middle t (Ok done) →
      HasCommittedBehind o t n y old new → IsPrefix t.seen new.seen → IsLegal o.start_seq new.seen → (IsVouchedThere o m t → IsVouchedThere o m (record t { seen = new.seen })) → FinishesOn id lease now o m policies before after old new (Ok done)
  finish_answered_on before middle after t done n y moment fits first later h committed known legal vouched =
      let form = finish_form id lease h.done.steps fits h.done.is in
      answered_on {T = Unit} (ends_finish before after) (Call.Finish id lease) NoneFirst (FinishStops id lease) (Finishes id lease) o m policies old new before after done (reads_then before middle after first later)
      (commits_on (IsFinishOf id lease) (Call.Finish id lease) model.Answer.Finished o m policies before middle after old new (Finishes id lease) t n y now moment first later h.done (finish_some id lease h.done.steps h.done.is) form
      (record { serializable = refl; does = inr (inr form.0) }) (finish_performs id lease h.done.steps fits h.done.is) committed known legal vouched)

-- ---- a claim

module _ (now : ℤ) (ms : ℕ) (o : Options) (m : Meaning) (policies : List Policy) (old new : PassModel) where
  abbrev claims : List TranscriptStep → Type 0
  claims ts = (claim : Claim) × Claims now ms claim ts

  pub claim_not_begun_on : (a : Reach) (error : SlateDBError) → IsUnbegun old new error →
      ClaimsOn now ms o m policies a a old new (Err (errors.Db error))
  claim_not_begun_on a error none = not_begun_on (EndsClaim now ms o m policies a a old new) (Call.Claim now ms) NoneFirst (ClaimStops now) claims o m policies old new a error none

  pub claim_stopped_on : (before after : Reach) (t : Opened) (e : QueueError) → OnlyReads before after → AttemptsOn (MayClaim now ms) (ClaimStops now) o m policies old.seen before after t (Err e) → HasEndedBehind t old new →
      IsPrefix t.seen new.seen → IsLegal o.start_seq new.seen → (IsVouchedThere o m t → IsVouchedThere o m (record t { seen = new.seen })) → ClaimsOn now ms o m policies before after old new (Err e)
  claim_stopped_on before after t e reads h ended known legal vouched =
      stopped_on (EndsClaim now ms o m policies before after old new) (Call.Claim now ms) NoneFirst (ClaimStops now) claims o m policies old new before after t e reads h.refused ended known legal vouched
      (λ r cs n ts alone s. claim_refusal now ms e r cs n ts alone s)

  pub claim_uncommitted_on : (before middle after : Reach) (t : Opened) (claim : Claim) (error : SlateDBError) → OnlyReads before middle → OnlyReads middle after → (h : AttemptsOn (MayClaim now ms) (ClaimStops now) o m policies old.seen before middle t (Ok (Some claim))) →
      LeavesOn o old new → IsPrefix t.seen new.seen → IsLegal o.start_seq new.seen → (IsVouchedThere o m t → IsVouchedThere o m (record t { seen = new.seen })) → IsFault middle after error ⊎ IsRefusedBehind o t old new error → ClaimsOn now ms o m policies before after old new (Err (errors.Db error))
  claim_uncommitted_on before middle after t claim error first later h left known legal vouched why =
      uncommitted_on (EndsClaim now ms o m policies before after old new) (Call.Claim now ms) NoneFirst (ClaimStops now) claims o m policies old new (Claims now ms claim) (claim_answer (Some claim)) before middle after t error first later h.done
      (claim, h.done.is) refl (claim_tells now ms claim h.done.steps h.done.is) left known legal vouched why

  pub claim_answered_on : (before middle after : Reach) (t : Opened) (claim : Claim) (n : Option ℕ) (y : ℤ) → y ≡ now → SFits w64 now → ms < 2 ^ 64 → OnlyReads before middle → OnlyReads middle after → AttemptsOn (MayClaim now ms) (ClaimStops now) o m policies old.seen before middle t (Ok (Some claim)) →
      HasCommittedBehind o t n y old new → IsPrefix t.seen new.seen → IsLegal o.start_seq new.seen → (IsVouchedThere o m t → IsVouchedThere o m (record t { seen = new.seen })) → ClaimsOn now ms o m policies before after old new (Ok (Some claim))
  claim_answered_on before middle after t claim n y moment within fits first later h committed known legal vouched =
      let form = claim_form now ms claim h.done.steps h.done.is fits in
      answered_on (EndsClaim now ms o m policies before after old new) (Call.Claim now ms) NoneFirst (ClaimStops now) claims o m policies old new before after (Some claim) (reads_then before middle after first later)
      (commits_on (IsClaimOf now ms claim) (Call.Claim now ms) (claim_answer (Some claim)) o m policies before middle after old new (Claims now ms claim) t n y now moment first later h.done (claim_some now ms claim h.done.steps h.done.is) form
      (record { serializable = refl; does = inr (inl form.0) }) (claim_performs now ms claim h.done.steps h.done.is within) committed known legal vouched)

  pub claim_none_on : (before after : Reach) (t : Opened) → OnlyReads before after → AttemptsOn (MayClaim now ms) (ClaimStops now) o m policies old.seen before after t (Ok None) → HasEndedBehind t old new → IsPrefix t.seen new.seen → IsLegal o.start_seq new.seen →
      (IsVouchedThere o m t → IsVouchedThere o m (record t { seen = new.seen })) → ClaimsOn now ms o m policies before after old new (Ok None)
  claim_none_on before after t reads h ended known legal vouched =
      answered_on (EndsClaim now ms o m policies before after old new) (Call.Claim now ms) NoneFirst (ClaimStops now) claims o m policies old new before after None reads (record {
        ends = record { txn = t; steps = h.done.steps; attempt = h.done.attempt; all = h.done.is; ended = ended; legal = legal; vouched = λ s. vouched (there s) };
        none = λ s q stands.
            none_step_is (rules_of (settings_of o) m) (replay new.seen).commits t.tx.begin q now ms h.done.steps stands
            (alone_there o m old.seen SerializableSnapshot h.done.steps t new.seen h.done.attempt (there s) known legal) h.done.is;
      })
    where
      there : IsStoreChecked policies m new.seen before after → IsVouchedThere o m t
      there s = h.done.sees (checked_earlier policies m t.seen new.seen before after after known reads (reads_none after) s)
