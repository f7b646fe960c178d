-- A change of a record on a database that threads share: what its attempt takes, reads, commits and leaves.
use Rattle.std.proofs.Common.{◌≡◌, ℕ, ◌+◌, ◌<◌, ◌⊎◌, inl, inr, List, [], ◌∷◌, ◌++◌, Option, Some, None, option_map, Result, Ok, Err, ℤ, refl, sym, ap, subst, ◌∙◌, append-nil, append_assoc, add-one, get_or, length, take}
use Rattle.std.proofs.Math.Seq.{take-suc}
use Rattle.std.specs.Prelude.{IfSome}
use mathlib.Core.List.{IsPrefix}
use Rattle.slate_types.specs.declared.config.IsolationLevel.{IsolationLevel}
use Rattle.slate_types.specs.declared.config.IsolationLevel.TheVariants.{SerializableSnapshot}
use Rattle.slate_types.specs.declared.config.Options.{Options}
use Rattle.slate_types.specs.declared.error.SlateDBError.{SlateDBError}
use Rattle.slate_types.specs.declared.error.SlateDBError.TheVariants.{OutOfMemory}
use Rattle.slate_types.specs.declared.types.KeyValue.{KeyValue}
use Rattle.slate_types.specs.declared.types.RowEntry.{RowEntry}
use Rattle.slate_types.specs.Fold.{shown}
use Rattle.slate_types.specs.Outside.{IsFault, OnlyReads, Reach}
use Rattle.slate_types.specs.Rows.{key_value, operand}
use Rattle.slate_types.proofs.Reaching.{fault_earlier, reads_none}
use Rattle.slate_filter.specs.Policy.{Policy}
use Rattle.slate_mem.specs.declared.WriteOp.{WriteOp}
use Rattle.slate_mem.specs.Batch.{Ops, batch_keys, kept_ops}
use Rattle.slate_mem.proofs.BatchLaws.{keeps_its_keys}
use Rattle.slate_txn.specs.declared.event.Event.{Event}
use Rattle.slate_txn.specs.declared.event.Event.TheVariants as events
use Rattle.slate_txn.specs.declared.event.TranscriptStep.{TranscriptStep}
use Rattle.slate_txn.specs.declared.event.TranscriptStep.TheVariants.{Get, Own}
use Rattle.slate_txn.specs.Alone.{IsAlone, IsVouched}
use Rattle.slate_txn.specs.Reads.{key_rows, seen, state_at, up_to}
use Rattle.slate_txn.specs.Replay.{IsLegal, replay}
use Rattle.slate_txn.specs.Settings.{settings_of}
use Rattle.slate_txn.specs.State.{Commit, Rules, Tx, combine_at, last_of}
use Rattle.slate_db.specs.Meaning.{Meaning, rules_of}
use Rattle.slate_shared.specs.Passes.{Opened, PassModel}
use Rattle.slate_steps.specs.Attempts.{HasCommittedBehind, HasEndedBehind, IsAttempt, IsFaultOn, IsReadErrorOn, IsRefusedBehind, IsStoreChecked, IsUnbegun, IsVouchedThere, SeesOnly}
use Rattle.slate_steps.proofs.StoreTruth.{checked_earlier, store_within}
use Rattle.slate_index.specs.declared.error.IndexError.{IndexError}
use Rattle.slate_index.specs.declared.error.IndexError.TheVariants.{Db}
use Rattle.slate_index.specs.Attempting.{HasTakenThere, IsChangeAttempt, IsChangeErrorThere, IsPlainlyRefused, IsRefusedAtBegin, IsStoppedThere, IsTurnedBack, absent, begins, faults, of_fault, of_value, reads, stops, turned_back, values_begun}
use Rattle.slate_index.specs.Calls.{change_steps}
use Rattle.slate_index.specs.Changes.{change_puts}
use Rattle.slate_index.specs.Commits.{IsChange, IsPlainName, change_ops, own_steps, value_of}
use Rattle.slate_index.specs.Entries.{FieldsModel, record_key}
use Rattle.slate_index.specs.Journals.{values_at}
use Rattle.slate_index.specs.Refusals.{change_refusal, delete_refusal, put_refusal}
use Rattle.slate_index.specs.Shown.{steps_of}
use Rattle.slate_index.proofs.Changing.{own_is}
use Rattle.slate_index.proofs.ShownLaws.{steps_again}

-- ---- beginnings of a journal

prefix_itself : (xs : List Event) → IsPrefix xs xs
prefix_itself xs = ([], append-nil xs)

prefix_on : (xs ys zs : List Event) → IsPrefix xs ys → IsPrefix ys zs → IsPrefix xs zs
prefix_on xs ys zs p q = (p.0 ++ q.0, sym (append_assoc xs p.0 q.0) ∙ (ap (λ (l : List Event). l ++ q.0) p.1 ∙ q.1))

prefix_part : (xs more zs : List Event) → IsPrefix (xs ++ more) zs → IsPrefix xs zs
prefix_part xs more zs p = (more ++ p.0, sym (append_assoc xs more p.0) ∙ p.1)

-- ---- what is read

value_seen : (r : Rules) (cs : List Commit) (n : ℕ) (k : List ℕ) (answer : Option KeyValue) → answer ≡ option_map key_value (seen r cs n [] k) → value_of answer ≡ values_at r cs n k
value_seen r cs n k answer e =
    ap value_of (e ∙ ap (λ rs. option_map key_value (shown (combine_at r k) rs)) (append-nil (key_rows r k (up_to n cs))))
    ∙ by (state_at r cs n k)
  where
    by : (o : Option RowEntry) → value_of (option_map key_value o) ≡ option_map operand o
    by None = refl
    by (Some row) = refl

value_begun : (o : Options) (m : Meaning) (es : List Event) (tx : Tx) (k : List ℕ) (answer : Option KeyValue) (us : List TranscriptStep) → tx.transcript ≡ Get k answer ∷ us →
    IsVouched (rules_of (settings_of o) m) (replay es).commits tx → value_of answer ≡ values_begun o m es tx.begin k
value_begun o m es tx k answer us is h =
    let all : IsAlone (rules_of (settings_of o) m) (replay es).commits tx.begin (Get k answer ∷ us) = subst (λ (ts : List TranscriptStep). IsAlone (rules_of (settings_of o) m) (replay es).commits tx.begin ts) is h in
    value_seen (rules_of (settings_of o) m) (replay es).commits tx.begin k answer all.0

-- nothing was read yet
pub vouched_none : (o : Options) (m : Meaning) (from : List Event) (t : Opened) → IsAttempt o from SerializableSnapshot [] t → IsVouchedThere o m t
vouched_none o m from t h = record { by_each = λ es longer legal. subst (λ (ts : List TranscriptStep). IsAlone (rules_of (settings_of o) m) (replay es).commits t.tx.begin ts) (sym (ap (λ (x : Tx). x.transcript) h.is)) tt }

-- ---- operations

steps_last : (xs : Ops) (x : List ℕ × WriteOp) → steps_of (xs ++ (x ∷ [])) ≡ steps_of xs ++ (Own x.0 x.1 ∷ [])
steps_last [] x = refl
steps_last (y ∷ xs) x = ap (λ zs. Own y.0 y.1 ∷ zs) (steps_last xs x)

taken_more : (os : Ops) (i : ℕ) (x d : List ℕ × WriteOp) → i < length os → x ≡ get_or os i d → steps_of (take i os) ++ (Own x.0 x.1 ∷ []) ≡ steps_of (take (i + 1) os)
taken_more os i x d here is =
    let also : take (i + 1) os ≡ take i os ++ (get_or os i d ∷ []) = rw (add-one, take-suc os i d) in
    sym (steps_last (take i os) x) ∙ ap (λ (y : List ℕ × WriteOp). steps_of (take i os ++ (y ∷ []))) is ∙ ap steps_of (sym also)

-- one of them more
pub attempt_more : (o : Options) (from : List Event) (level : IsolationLevel) (ts : List TranscriptStep) (os : Ops) (i : ℕ) (x d : List ℕ × WriteOp) (t : Opened) → i < length os → x ≡ get_or os i d →
    IsAttempt o from level ((ts ++ steps_of (take i os)) ++ (Own x.0 x.1 ∷ [])) t → IsAttempt o from level (ts ++ steps_of (take (i + 1) os)) t
attempt_more o from level ts os i x d t here is h =
    subst (λ (us : List TranscriptStep). IsAttempt o from level us t) (append_assoc ts (steps_of (take i os)) (Own x.0 x.1 ∷ []) ∙ ap (λ us. ts ++ us) (taken_more os i x d here is)) h

-- ---- the steps

module _ (o : Options) (m : Meaning) (policies : List Policy) (fs : FieldsModel) (id : List ℕ) (new : Option (List ℕ)) (from : List Event) (before after : Reach) (t : Opened) where
  memory_there : (ts : List TranscriptStep) (e : IndexError) → IsAttempt o from SerializableSnapshot ts t → e ≡ Db OutOfMemory → IsStoppedThere o m policies fs id new from before after t e
  memory_there ts e attempt is = record {
    steps = ts;
    attempt = attempt;
    cause = faults OutOfMemory is tt;
    checked = λ h es longer legal. inr (OutOfMemory, is, λ s. tt);
  }

  -- before the read
  pub key_there : (e : IndexError) → IsAttempt o from SerializableSnapshot [] t → e ≡ Db OutOfMemory → IsStoppedThere o m policies fs id new from before after t e
  key_there e attempt is = memory_there [] e attempt is

  -- the read is refused
  pub read_there : (x : SlateDBError) → IsAttempt o from SerializableSnapshot [] t → IsReadErrorOn o policies before after t.seen x → IsFaultOn policies m t.seen before after x →
      IsStoppedThere o m policies fs id new from before after t (Db x)
  read_there x attempt error undamaged = record {
    steps = [];
    attempt = attempt;
    cause = reads x refl error;
    checked = λ h es longer legal. inr (x, refl, undamaged);
  }

  -- what the change does is refused
  pub change_there : (row : Option KeyValue) (e : IndexError) → (IsStoreChecked policies m t.seen before after → IsVouchedThere o m t) →
      (us : List TranscriptStep) × IsAttempt o from SerializableSnapshot ((Get (record_key id) row ∷ []) ++ us) t →
      ((new ≡ None) × (delete_refusal id (value_of row) ≡ Some e)) ⊎ (e ≡ Db OutOfMemory) → IsStoppedThere o m policies fs id new from before after t e
  change_there row e sees still (inr memory) = memory_there ((Get (record_key id) row ∷ []) ++ still.0) e still.1 memory
  change_there row e sees still (inl (none, is)) = record {
    steps = (Get (record_key id) row ∷ []) ++ still.0;
    attempt = still.1;
    cause = absent row still.0 still.1 none is;
    checked = λ h es longer legal. inl (record {
      start = still.1.start;
      known = still.1.known;
      later = prefix_on still.1.start t.seen es (prefix_part still.1.start (events.Begin t.id SerializableSnapshot t.tx.begin ∷ []) t.seen still.1.begun) longer;
      refused = ap (λ v. change_refusal fs id v new) (sym (there es ((sees h).by_each es longer legal))) ∙ here;
    });
  }
    where
      here : change_refusal fs id (value_of row) new ≡ Some e
      here = ap (change_refusal fs id (value_of row)) none ∙ is

      there : (es : List Event) → IsVouched (rules_of (settings_of o) m) (replay es).commits t.tx → value_of row ≡ values_begun o m es (last_of o.start_seq (replay still.1.start).commits) (record_key id)
      there es h = value_begun o m es t.tx (record_key id) row still.0 (ap (λ (x : Tx). x.transcript) still.1.is) h ∙ ap (λ (n : ℕ). values_begun o m es n (record_key id)) still.1.newest

  -- all of it is done
  pub all_there : (row : Option KeyValue) → IfSome new (λ v. put_refusal fs v ≡ None) → (new ≡ None → delete_refusal id (value_of row) ≡ None) → (IsStoreChecked policies m t.seen before after → IsVouchedThere o m t) →
      IsAttempt o from SerializableSnapshot ((Get (record_key id) row ∷ []) ++ steps_of (change_ops (change_puts fs id (value_of row) new))) t → HasTakenThere o m policies fs id new from before after t
  all_there row accepted stands sees attempt = record {
    answer = row;
    attempt = subst (λ us. IsAttempt o from SerializableSnapshot (Get (record_key id) row ∷ us) t) (steps_again (change_puts fs id (value_of row) new)) attempt;
    passes = by new refl accepted;
    sees = sees;
  }
    where
      by : (p : Option (List ℕ)) → new ≡ p → IfSome p (λ v. put_refusal fs v ≡ None) → change_refusal fs id (value_of row) new ≡ None
      by None is h = ap (change_refusal fs id (value_of row)) is ∙ stands is
      by (Some v) is h = ap (change_refusal fs id (value_of row)) is ∙ h

-- ---- the pass is as it was while the transaction takes its steps

pub committed_over : (o : Options) (t : Opened) (n : Option ℕ) (y z : ℤ) (mid old pass : PassModel) → y ≡ z → mid ≡ old → HasCommittedBehind o t n y mid pass → HasCommittedBehind o t n z old pass
committed_over o t n y z mid old pass moment same h = subst (λ (p : PassModel). HasCommittedBehind o t n z p pass) same (subst (λ (now : ℤ). HasCommittedBehind o t n now mid pass) moment h)

pub refused_over : (o : Options) (t : Opened) (mid old pass : PassModel) (before after : Reach) (e : SlateDBError) → mid ≡ old → IsFault before after e ⊎ IsRefusedBehind o t mid pass e → IsFault before after e ⊎ IsRefusedBehind o t old pass e
refused_over o t mid old pass before after e same h = subst (λ (p : PassModel). IsFault before after e ⊎ IsRefusedBehind o t p pass e) same h

pub ended_over : (t : Opened) (mid old pass : PassModel) → mid ≡ old → HasEndedBehind t mid pass → HasEndedBehind t old pass
ended_over t mid old pass same h = subst (λ (p : PassModel). HasEndedBehind t p pass) same h

-- ---- how the call ends

sees_itself : (p : PassModel) → SeesOnly p p
sees_itself p = record { more = record { table = refl; parts = refl; seen = prefix_itself p.seen }; own = refl }

-- before a transaction began
not_there : (o : Options) (m : Meaning) (policies : List Policy) (fs : FieldsModel) (id : List ℕ) (new : Option (List ℕ)) (now : ℤ) (r : Reach) (old : PassModel) (e : IndexError) →
    (((v : List ℕ) × (new ≡ Some v) × (put_refusal fs v ≡ Some e)) ⊎ ((x : SlateDBError) × (e ≡ Db x) × IsUnbegun old old x)) →
    IsChangeAttempt o m policies fs id new now r r old old (Err e)
not_there o m policies fs id new now r old e why = record {
  changes = tt;
  only = sees_itself old;
  left = inl refl;
  more = (sees_itself old).more;
  checked = λ h. plainly why;
  cause = by why;
  reads = reads_none r;
}
  where
    plainly : (((v : List ℕ) × (new ≡ Some v) × (put_refusal fs v ≡ Some e)) ⊎ ((x : SlateDBError) × (e ≡ Db x) × IsUnbegun old old x)) → IsPlainlyRefused o m policies fs id new r r old old e
    plainly (inl (v, is, refused)) = inl (record {
      start = old.seen;
      known = prefix_itself old.seen;
      later = prefix_itself old.seen;
      refused = ap (change_refusal fs id (values_begun o m old.seen (last_of o.start_seq (replay old.seen).commits) (record_key id))) is ∙ refused;
    })
    plainly (inr (x, is, error)) = inr (x, is, inl error)

    by : (((v : List ℕ) × (new ≡ Some v) × (put_refusal fs v ≡ Some e)) ⊎ ((x : SlateDBError) × (e ≡ Db x) × IsUnbegun old old x)) → IsChangeErrorThere o policies fs id new r r old old e
    by (inl (v, is, refused)) = of_value v is refused
    by (inr (x, is, error)) = begins x is error

-- the value is refused
pub untried_there : (o : Options) (m : Meaning) (policies : List Policy) (fs : FieldsModel) (id v : List ℕ) (now : ℤ) (r : Reach) (old : PassModel) (e : IndexError) → (put_refusal fs v ≡ Some e) ⊎ (e ≡ Db OutOfMemory) →
    IsChangeAttempt o m policies fs id (Some v) now r r old old (Err e)
untried_there o m policies fs id v now r old e (inl is) = not_there o m policies fs id (Some v) now r old e (inl (v, refl, is))
untried_there o m policies fs id v now r old e (inr memory) = not_there o m policies fs id (Some v) now r old e (inr (OutOfMemory, memory, record { only = sees_itself old; cause = inl refl }))

pub first_there : {A B : Type 0} (x e f : IndexError) → (◌≡◌ {A = Result A IndexError} (Err x) (Err e)) ⊎ (◌≡◌ {A = Result A IndexError} (Err x) (Err f)) →
    (◌≡◌ {A = Result B IndexError} (Err x) (Err e)) ⊎ (◌≡◌ {A = Result B IndexError} (Err x) (Err f))
first_there x e f (inl is) = inl (ap Err (let same : x ≡ e = cc in same))
first_there x e f (inr is) = inr (ap Err (let same : x ≡ f = cc in same))

-- no transaction begins
pub none_there : (o : Options) (m : Meaning) (policies : List Policy) (fs : FieldsModel) (id : List ℕ) (new : Option (List ℕ)) (now : ℤ) (r : Reach) (old pass : PassModel) (x : SlateDBError) → IsUnbegun old pass x →
    IsChangeAttempt o m policies fs id new now r r old pass (Err (Db x))
none_there o m policies fs id new now r old pass x none = record {
  changes = tt;
  only = none.only;
  left = inr (inl (x, refl, none));
  more = none.only.more;
  checked = λ h. inr (x, refl, inl none);
  cause = begins x refl none;
  reads = reads_none r;
}

module _ (o : Options) (m : Meaning) (policies : List Policy) (fs : FieldsModel) (id : List ℕ) (new : Option (List ℕ)) (now : ℤ) (before after : Reach) (old pass : PassModel) (t : Opened) where
  -- it stopped, and was rolled back
  pub left_there : (e : IndexError) → IsStoppedThere o m policies fs id new old.seen before after t e → HasEndedBehind t old pass → IsPrefix t.seen pass.seen → IsLegal o.start_seq pass.seen → OnlyReads before after →
      IsChangeAttempt o m policies fs id new now before after old pass (Err e)
  left_there e stopped ended known legal asked = record {
    changes = tt;
    only = ended.only;
    left = inr (inr (t, stopped.steps, stopped.attempt, ended));
    more = ended.only.more;
    checked = λ h. plainly (stopped.checked (checked_earlier policies m t.seen pass.seen before after after known asked (reads_none after) h) pass.seen known legal);
    cause = stops t stopped.steps stopped.attempt known stopped.cause;
    reads = asked;
  }
    where
      plainly : IsRefusedAtBegin o m fs id new old.seen pass.seen e ⊎ ((x : SlateDBError) × (e ≡ Db x) × IsFaultOn policies m t.seen before after x) → IsPlainlyRefused o m policies fs id new before after old pass e
      plainly (inl h) = inl h
      plainly (inr (x, is, fault)) = inr (x, is, inr (inr (λ s. fault (store_within policies m pass.seen t.seen before before after after s known (reads_none before) asked (reads_none after)))))

  module _ (mid : Reach) (taken : HasTakenThere o m policies fs id new old.seen before mid t) (still : after ≡ mid) (first : OnlyReads before mid) where
    asks : OnlyReads before after
    asks = subst (OnlyReads before) (sym still) first

    -- its commit is refused
    pub turned_there : (x : SlateDBError) → HasEndedBehind t old pass → IsFault mid after x ⊎ IsRefusedBehind o t old pass x → IsChangeAttempt o m policies fs id new now before after old pass (Err (Db x))
    turned_there x ended why = record {
      changes = tt;
      only = ended.only;
      left = inr (inr (t, change_steps fs id taken.answer new, taken.attempt, ended));
      more = ended.only.more;
      checked = λ h. plainly why;
      cause = by why;
      reads = asks;
    }
      where
        turned : IsRefusedBehind o t old pass x → IsTurnedBack o fs id new old pass x
        turned refused = record { t = t; answer = taken.answer; attempt = taken.attempt; refused = refused }

        plainly : IsFault mid after x ⊎ IsRefusedBehind o t old pass x → IsPlainlyRefused o m policies fs id new before after old pass (Db x)
        plainly (inl fault) = inr (x, refl, inr (inr (λ s. fault_earlier before mid after x first.later fault)))
        plainly (inr refused) = inr (x, refl, inr (inl (turned refused)))

        by : IsFault mid after x ⊎ IsRefusedBehind o t old pass x → IsChangeErrorThere o policies fs id new before after old pass (Db x)
        by (inl fault) = of_fault x refl (fault_earlier before mid after x first.later fault)
        by (inr refused) = turned_back x refl (turned refused)

    -- it is committed
    pub changed_there : (n : ℕ) → IsPlainName id → HasCommittedBehind o t (Some n) now old pass → IsPrefix t.seen pass.seen → IsLegal o.start_seq pass.seen → (IsVouchedThere o m t → IsVouchedThere o m (record t { seen = pass.seen })) →
        IsChangeAttempt o m policies fs id new now before after old pass (Ok n)
    changed_there n name committed known legal vouched = record {
      changes = record {
        t = t;
        answer = taken.answer;
        attempt = taken.attempt;
        committed = committed;
        change = is_change;
        passes = taken.passes;
        legal = legal;
        vouched = vouched_so;
        read = λ h. value_begun o m pass.seen t.tx (record_key id) taken.answer (own_steps ps) transcript ((vouched_so h).by_each pass.seen (prefix_itself pass.seen) legal);
      };
      only = tt;
      left = tt;
      more = committed.more;
      checked = λ h. tt;
      cause = tt;
      reads = asks;
    }
      where
        ps : List (List ℕ × Option (List ℕ))
        ps = change_puts fs id (value_of taken.answer) new

        transcript : t.tx.transcript ≡ change_steps fs id taken.answer new
        transcript = ap (λ (x : Tx). x.transcript) taken.attempt.is

        vouched_so : IsStoreChecked policies m pass.seen before after → IsVouchedThere o m (record t { seen = pass.seen })
        vouched_so h = vouched (taken.sees (checked_earlier policies m t.seen pass.seen before mid mid known first (reads_none mid) (subst (IsStoreChecked policies m pass.seen before) still h)))

        is_change : IsChange fs SerializableSnapshot (kept_ops t.tx.ops) (batch_keys t.tx.ops) t.tx.transcript
        is_change = record {
          serializable = refl;
          id = id;
          name = name;
          answer = taken.answer;
          new = new;
          whole = transcript;
          kept = ap (λ (x : Tx). kept_ops x.ops) taken.attempt.is ∙ ap kept_ops (own_is ps);
          keys = sym (keeps_its_keys t.tx.ops);
        }
