-- A change of a record on a core: what its transaction takes, reads, commits and leaves.
use Rattle.std.proofs.Common.{◌≡◌, ℕ, zero, suc, ◌+◌, ◌-◌, ◌^◌, ◌<◌, ◌≤◌, ◌⊎◌, inl, inr, Bool, true, false, cond, not, List, [], ◌∷◌, ◌++◌, filter, length, length-append, Option, Some, None, Result, Ok, Err, ℤ, refl, sym, ap, subst, ◌∙◌, arith}
use Rattle.std.proofs.lemmas.List.{length-map}
use Rattle.slate_types.specs.declared.config.IsolationLevel.{IsolationLevel}
use Rattle.slate_types.specs.declared.config.IsolationLevel.TheVariants.{SerializableSnapshot}
use Rattle.slate_types.specs.declared.error.SlateDBError.{SlateDBError}
use Rattle.slate_types.specs.declared.error.SlateDBError.TheVariants.{OutOfMemory, SequenceExhausted}
use Rattle.slate_types.specs.declared.types.KeyValue.{KeyValue}
use Rattle.slate_types.specs.Keys.{among}
use Rattle.slate_types.specs.Outside.{IsFault, Meaning, OnlyReads, Reach}
use Rattle.slate_types.proofs.Reaching.{fault_earlier, reads_none, reads_then}
use Rattle.slate_filter.specs.Policy.{Policy}
use Rattle.slate_mem.specs.Batch.{Ops, batch_keys, kept_ops}
use Rattle.slate_mem.specs.KeyTests.{Segments}
use Rattle.slate_mem.proofs.BatchLaws.{keeps_its_keys}
use Rattle.slate_txn.specs.declared.event.TranscriptStep.{TranscriptStep}
use Rattle.slate_txn.specs.declared.event.TranscriptStep.TheVariants.{Get}
use Rattle.slate_txn.specs.Alone.{AloneFrom, own_of}
use Rattle.slate_txn.specs.Laws.{Counts}
use Rattle.slate_txn.specs.State.{Commit, Rules, last_of, opening}
use Rattle.slate_txn.proofs.Growing.{last_more}
use Rattle.slate_txn.proofs.SequenceLaws.{counts_more, legal_counts}
use Rattle.slate_db.specs.Load.{load, weight}
use Rattle.slate_db.specs.Meaning.{rules_of}
use Rattle.slate_db.specs.Model.{CoreModel}
use Rattle.slate_db.specs.Segmented.{IsSegmented}
use Rattle.slate_db.specs.Sound.{IsKept}
use Rattle.slate_steps.specs.Reads.{IsChecked, IsFaultSettled}
use Rattle.slate_steps.specs.Steps.{HasCommitted, HasEnded, IsBeginError, IsWithin, Sees, newest}
use Rattle.slate_steps.proofs.Settling.{committed_kind, committed_settled, committed_vouched, committed_weight, ended_kind, ended_load, ended_settled, ended_vouched, ended_weight}
use Rattle.slate_steps.proofs.StoreTruth.{checked_before, checked_in}
use Rattle.slate_index.specs.declared.error.IndexError.{IndexError}
use Rattle.slate_index.specs.declared.error.IndexError.TheVariants.{Db}
use Rattle.slate_index.specs.Calls.{IsChangeCall, IsChangeError, IsDbError, Steps, begins, change_steps, faults, full, greatest, of_db, refused, values_in}
use Rattle.slate_index.specs.Changes.{changed, change_puts, deletes, entry_puts}
use Rattle.slate_index.specs.Commits.{IsChange, IsPlainName, change_ops, op_of, own_steps, value_of}
use Rattle.slate_index.specs.Entries.{FieldsModel, entries_below, entries_if, entry_key, entry_where, longest_field, record_key}
use Rattle.slate_index.specs.Journals.{change_kind, values_at}
use Rattle.slate_index.specs.Refusals.{change_refusal, put_refusal}
use Rattle.slate_index.specs.Taken.{HasTaken, IsStopped}
use Rattle.slate_index.proofs.Behind.{settled_on}
use Rattle.slate_index.proofs.CommitLaws.{after_change, value_read, values, values_here}
use Rattle.std.specs.Prelude.{nat_le}

-- ---- its operations

pub own_is : (ps : List (List ℕ × Option (List ℕ))) → own_of (own_steps ps) ≡ change_ops ps
own_is [] = refl
own_is (p ∷ ps) = ap (λ os. (p.0, op_of p.1) ∷ os) (own_is ps)

alone_own : (r : Rules) (cs : List Commit) (n : ℕ) (ops : Ops) (ps : List (List ℕ × Option (List ℕ))) → AloneFrom r cs n ops [] (own_steps ps)
alone_own r cs n ops [] = tt
alone_own r cs n ops (p ∷ ps) = alone_own r cs n (ops ++ ((p.0, op_of p.1) ∷ [])) ps

-- own steps behind a read are as they should be
pub sees_own : (m : Meaning) (c : CoreModel) (fs : FieldsModel) (id : List ℕ) (answer : Option KeyValue) (new : Option (List ℕ)) → Sees m c (Get (record_key id) answer ∷ []) → Sees m c (change_steps fs id answer new)
sees_own m c fs id answer new h = (h.0, alone_own (rules_of c.settings m) c.state.commits (newest c) [] (change_puts fs id (value_of answer) new))

fewer : {X : Type 0} (t : X → Bool) (xs : List X) → length (filter t xs) ≤ length xs
fewer t [] = omega arith
fewer t (x ∷ xs) = by (t x) (fewer t xs)
  where
    by : (b : Bool) → length (filter t xs) ≤ length xs → length (cond b (x ∷ filter t xs) (filter t xs)) ≤ suc (length xs)
    by true h = omega arith
    by false h = omega arith

one_at_most : (n : ℕ) (id : List ℕ) (o : Option (List ℕ)) → length (entry_where n id o) ≤ 1
one_at_most n id None = omega arith
one_at_most n id (Some f) = by (nat_le (length f) longest_field)
  where
    by : (b : Bool) → length (cond b (entry_key n f id ∷ []) []) ≤ 1
    by true = omega arith
    by false = omega arith

few_below : (fs : FieldsModel) (n : ℕ) (id v : List ℕ) → length (entries_below fs n id v) ≤ n
few_below fs zero id v = omega arith
few_below fs (suc n) id v =
    let before : length (entries_below fs n id v) ≤ n = few_below fs n id v in
    let this : length (entry_where n id (fs.field n v)) ≤ 1 = one_at_most n id (fs.field n v) in
    let sum : length (entries_below fs n id v ++ entry_where n id (fs.field n v)) ≡ length (entries_below fs n id v) + length (entry_where n id (fs.field n v)) = length-append (entries_below fs n id v) (entry_where n id (fs.field n v)) in
    omega (arith, before, this, sum)

few_entries : (fs : FieldsModel) (id : List ℕ) (o : Option (List ℕ)) → length (entries_if fs id o) ≤ fs.count
few_entries fs id None = omega arith
few_entries fs id (Some v) = few_below fs fs.count id v

few_ops : (fs : FieldsModel) (id : List ℕ) (old new : Option (List ℕ)) → fs.count ≤ 8 → length (change_ops (change_puts fs id old new)) ≤ 17
few_ops fs id old new few =
    let gone : List (List ℕ) = filter (λ k. not (among k (entries_if fs id new))) (entries_if fs id old) in
    let puts : List (List ℕ × Option (List ℕ)) = (record_key id, new) ∷ entry_puts (entries_if fs id new) in
    let olds : length gone ≤ length (entries_if fs id old) = fewer (λ k. not (among k (entries_if fs id new))) (entries_if fs id old) in
    let a : length (entries_if fs id old) ≤ fs.count = few_entries fs id old in
    let b : length (entries_if fs id new) ≤ fs.count = few_entries fs id new in
    let d : length (deletes gone) ≡ length gone = length-map gone (λ k. (k, None)) in
    let e : length (entry_puts (entries_if fs id new)) ≡ length (entries_if fs id new) = length-map (entries_if fs id new) (λ k. (k, Some [])) in
    let sum : length (deletes gone ++ puts) ≡ length (deletes gone) + length puts = length-append (deletes gone) puts in
    let all : length (change_ops (deletes gone ++ puts)) ≡ length (deletes gone ++ puts) = length-map (deletes gone ++ puts) (λ p. (p.0, op_of p.1)) in
    omega (arith, few, olds, a, b, d, e, sum, all)

-- ---- what stands in a core

same_le : (a b : ℕ) → a ≡ b → a ≤ b
same_le a b e = omega arith

module _ (m : Meaning) (c : CoreModel) (counts : Counts c.settings.start_seq c.state.commits) where
  abbrev r : Rules
  r = rules_of c.settings m

  pub in_core : (k : List ℕ) → values_in m c k ≡ values r c.state.commits k
  in_core k = values_here r c.state.commits (newest c) k counts (same_le (newest c) (newest c) refl)

  pub read_value : (fs : FieldsModel) (id : List ℕ) (answer : Option KeyValue) (new : Option (List ℕ)) → Sees m c (change_steps fs id answer new) → value_of answer ≡ values_in m c (record_key id)
  read_value fs id answer new sees = value_read r c.state.commits (record_key id) answer counts sees.0 ∙ sym (in_core (record_key id))

  -- a commit of puts and deletes behind all others
  pub put_behind : (d : CoreModel) (x : Commit) (ps : List (List ℕ × Option (List ℕ))) → d.settings ≡ c.settings → d.state.commits ≡ c.state.commits ++ (x ∷ []) → x.seq ≡ newest c + 1 → x.ops ≡ kept_ops (change_ops ps) →
      (k : List ℕ) → values_in m d k ≡ changed (values_in m c) ps k
  put_behind d x ps settings commits next ops k =
      (λ i. values_at (rules_of (settings i) m) (commits i) (last_of (settings i).start_seq (commits i)) k)
      ∙ values_here r (c.state.commits ++ (x ∷ [])) (last_of c.settings.start_seq (c.state.commits ++ (x ∷ []))) k (counts_more c.settings.start_seq c.state.commits x counts next) (same_le (last_of c.settings.start_seq (c.state.commits ++ (x ∷ []))) (last_of c.settings.start_seq (c.state.commits ++ (x ∷ []))) refl)
      ∙ after_change r c.state.commits x ps k counts next ops
      ∙ (λ i. changed (λ j. sym (in_core j) i) ps k)

pub within_counts : (c d : CoreModel) (tx : List ℕ) (level : IsolationLevel) (ts : List TranscriptStep) → IsWithin c tx level ts d → Counts c.settings.start_seq c.state.commits
within_counts c d tx level ts h = subst (Counts c.settings.start_seq) h.replays.commits (legal_counts c.settings.start_seq c.events opening [] tt h.legal)

pub legal_core : (c d : CoreModel) (tx : List ℕ) (level : IsolationLevel) (ts : List TranscriptStep) (n : Option ℕ) (now : ℤ) → HasCommitted c tx level ts n now d → Counts c.settings.start_seq c.state.commits
legal_core c d tx level ts n now h = subst (Counts c.settings.start_seq) h.replays.commits (legal_counts c.settings.start_seq c.events opening [] tt h.legal)

pub committed_at : (c d : CoreModel) (tx : List ℕ) (ts : List TranscriptStep) (y z : ℤ) (n : Option ℕ) → y ≡ z → HasCommitted c tx SerializableSnapshot ts n y d → HasCommitted c tx SerializableSnapshot ts n z d
committed_at c d tx ts y z n same h = subst (λ (now : ℤ). HasCommitted c tx SerializableSnapshot ts n now d) same h

pub never_full : {A : Type 0} (r : Result A SlateDBError) (x : A) → r ≡ Ok x → (r ≡ Err SequenceExhausted) ⊎ (r ≡ Err OutOfMemory) → ⊥
never_full r x is (inl last) = cc
never_full r x is (inr wanting) = cc

-- ---- how the call ends

-- the database refuses, or a fault came, before anything was done
pub not_begun : (policies : List Policy) (seg : Segments) (fs : FieldsModel) (id : List ℕ) (new : Option (List ℕ)) (now : ℤ) (r : Reach) (c d : CoreModel) (e : IndexError) → d ≡ c → IsChangeError policies fs id new r r c e →
    ((change_refusal fs id None new ≡ Some e) × ((o : Option (List ℕ)) → change_refusal fs id o new ≡ Some e)) ⊎ ((x : SlateDBError) × (e ≡ Db x) × (IsBeginError c x ⊎ IsFault r r x)) →
    IsChangeCall policies seg fs id new now r r c d (Err e)
not_begun policies seg fs id new now r c d e same cause settled = subst (λ v. IsChangeCall policies seg fs id new now r r c v (Err e)) (sym same) (record {
  changes = tt;
  next = tt;
  left = inl refl;
  form = λ h. h;
  steps = λ g h. by settled;
  settled = λ h. h;
  vouched = λ g h v. v;
  kept = λ h. h;
  cause = cause;
  events = omega arith;
  rows = omega arith;
  reads = reads_none r;
})
  where
    by : ((change_refusal fs id None new ≡ Some e) × ((o : Option (List ℕ)) → change_refusal fs id o new ≡ Some e)) ⊎ ((x : SlateDBError) × (e ≡ Db x) × (IsBeginError c x ⊎ IsFault r r x)) → Steps (IsFaultSettled policies r r c) fs id new r.meaning c c (Err e)
    by (inl told) = inl (told.1 (values_in r.meaning c (record_key id)))
    by (inr (x, is, inl unbegun)) = inr (inr (x, is, inl unbegun))
    by (inr (x, is, inr fault)) = inr (inr (x, is, inr (λ g h. fault)))

-- the value is refused
pub not_tried : (policies : List Policy) (seg : Segments) (fs : FieldsModel) (id v : List ℕ) (now : ℤ) (r : Reach) (c : CoreModel) (e : IndexError) → (put_refusal fs v ≡ Some e) ⊎ (e ≡ Db OutOfMemory) → IsChangeCall policies seg fs id (Some v) now r r c c (Err e)
not_tried policies seg fs id v now r c e (inl is) = not_begun policies seg fs id (Some v) now r c c e refl (refused None is) (inl (is, λ o. is))
not_tried policies seg fs id v now r c e (inr memory) = not_begun policies seg fs id (Some v) now r c c e refl (of_db OutOfMemory memory (faults tt)) (inr (OutOfMemory, memory, inr tt))

-- no transaction begins
pub none_begun : (policies : List Policy) (seg : Segments) (fs : FieldsModel) (id : List ℕ) (new : Option (List ℕ)) (now : ℤ) (r : Reach) (c d : CoreModel) (x : SlateDBError) → d ≡ c → IsBeginError c x → IsChangeCall policies seg fs id new now r r c d (Err (Db x))
none_begun policies seg fs id new now r c d x same error = not_begun policies seg fs id new now r c d (Db x) same (of_db x refl (begins error)) (inr (x, refl, inl error))

pub taken_upto : (policies : List Policy) (before mid after : Reach) (fs : FieldsModel) (id : List ℕ) (new : Option (List ℕ)) (c d : CoreModel) (tx : List ℕ) → OnlyReads before mid → OnlyReads mid after → HasTaken policies before mid fs id new c tx d →
    HasTaken policies before after fs id new c tx d
taken_upto policies before mid after fs id new c d tx first later h = record { answer = h.answer; within = h.within; passes = h.passes; sees = λ g store. h.sees g (checked_before policies g before mid after c first later store) }

module _ (policies : List Policy) (seg : Segments) (fs : FieldsModel) (id : List ℕ) (new : Option (List ℕ)) (now : ℤ) (before mid after : Reach) (c d e : CoreModel) (tx : List ℕ) where
  -- it stopped, and was rolled back
  pub rolled_back : (x : IndexError) → IsStopped policies before after fs id new c tx d x → HasEnded c tx SerializableSnapshot e → OnlyReads before after → IsChangeCall policies seg fs id new now before after c e (Err x)
  rolled_back x stopped ended reads = record {
    changes = tt;
    next = tt;
    left = inr (tx, ended);
    form = ended_kind (change_kind fs) c e tx SerializableSnapshot ended;
    steps = λ g h. by (stopped.checked g h);
    settled = λ h. settled_on policies seg before after e reads (ended_settled policies before.meaning seg before.objects c e tx SerializableSnapshot ended h);
    vouched = λ g h v. ended_vouched before.meaning c e tx SerializableSnapshot ended v;
    kept = ended.kept before.meaning;
    cause = stopped.cause;
    events = let more : weight e ≡ weight c + 2 = ended_weight c e tx SerializableSnapshot ended in omega (arith, more);
    rows = let same : load e ≡ load c = ended_load c e tx SerializableSnapshot ended in omega (arith, same);
    reads = reads;
  }
    where
      by : (change_refusal fs id (values_in before.meaning c (record_key id)) new ≡ Some x) ⊎ ((y : SlateDBError) × (x ≡ Db y) × IsFaultSettled policies before after c y) → Steps (IsFaultSettled policies before after c) fs id new before.meaning c e (Err x)
      by (inl told) = inl told
      by (inr (y, is, fault)) = inr (inr (y, is, inr fault))

  passes : (m : Meaning) (counts : Counts c.settings.start_seq c.state.commits) (answer : Option KeyValue) → Sees m c (change_steps fs id answer new) → change_refusal fs id (value_of answer) new ≡ None → change_refusal fs id (values_in m c (record_key id)) new ≡ None
  passes m counts answer sees h = ap (λ o. change_refusal fs id o new) (sym (read_value m c counts fs id answer new sees)) ∙ h

  -- its commit is refused
  pub not_committed : (x : SlateDBError) → Counts c.settings.start_seq c.state.commits → (taken : HasTaken policies before after fs id new c tx d) → HasEnded c tx SerializableSnapshot e → OnlyReads before mid → OnlyReads mid after →
      IsFault mid after x ⊎ ((x ≡ SequenceExhausted) × (newest c ≡ 2 ^ 64 - 2)) → IsChangeCall policies seg fs id new now before after c e (Err (Db x))
  not_committed x counts taken ended first later cause = record {
    changes = tt;
    next = tt;
    left = inr (tx, ended);
    form = ended_kind (change_kind fs) c e tx SerializableSnapshot ended;
    steps = λ g h. by g h cause;
    settled = λ h. settled_on policies seg before after e (reads_then before mid after first later) (ended_settled policies before.meaning seg before.objects c e tx SerializableSnapshot ended h);
    vouched = λ g h v. ended_vouched before.meaning c e tx SerializableSnapshot ended v;
    kept = ended.kept before.meaning;
    cause = of_db x refl (why cause);
    events = let more : weight e ≡ weight c + 2 = ended_weight c e tx SerializableSnapshot ended in omega (arith, more);
    rows = let same : load e ≡ load c = ended_load c e tx SerializableSnapshot ended in omega (arith, same);
    reads = reads_then before mid after first later;
  }
    where
      why : IsFault mid after x ⊎ ((x ≡ SequenceExhausted) × (newest c ≡ 2 ^ 64 - 2)) → IsDbError policies before after c x
      why (inl fault) = faults (fault_earlier before mid after x first.later fault)
      why (inr (is, last)) = full is last

      by : (g : Segments) → IsChecked policies g before after c → IsFault mid after x ⊎ ((x ≡ SequenceExhausted) × (newest c ≡ 2 ^ 64 - 2)) → Steps (IsFaultSettled policies before after c) fs id new before.meaning c e (Err (Db x))
      by g h (inl fault) = inr (inr (x, refl, inr (λ s k. fault_earlier before mid after x first.later fault)))
      by g h (inr (is, last)) = inr (inl (ap Db is, last, passes before.meaning counts taken.answer (taken.sees g h) taken.passes))

  -- it is committed
  pub has_changed : (n : ℕ) → fs.count ≤ 8 → IsPlainName id → (taken : HasTaken policies before after fs id new c tx d) → HasCommitted c tx SerializableSnapshot (change_steps fs id taken.answer new) (Some n) now e → OnlyReads before mid → OnlyReads mid after →
      (IsKept mid.meaning c → IsKept mid.meaning e) → (IsSegmented seg c → IsSegmented seg e) → newest c < greatest → IsChangeCall policies seg fs id new now before after c e (Ok n)
  has_changed n few name taken committed first later kept segmented room = record {
    changes = record { tx = tx; answer = taken.answer; committed = committed };
    next = (room, ap (λ (v : CoreModel). newest v) committed.is ∙ last_more c.settings.start_seq c.state.commits (record { seq = n; now = now; ops = kept_ops (own_of ts); tracked = batch_keys (own_of ts) }) ∙ committed.next.0);
    left = tt;
    form = committed_kind (change_kind fs) c e tx SerializableSnapshot ts (Some n) now committed is_change;
    steps = λ g h. (
      passes before.meaning counts taken.answer (taken.sees g h) taken.passes,
      λ k. after_all before.meaning k ∙ ap (λ o. changed (values_in before.meaning c) (change_puts fs id o new) k) (read_value before.meaning c counts fs id taken.answer new (taken.sees g h)),
    );
    settled = λ h. settled_on policies seg before after e (reads_then before mid after first later)
        (committed_settled policies before.meaning seg before.objects c e tx SerializableSnapshot ts (Some n) now committed kept_so segmented h);
    vouched = λ g h v. committed_vouched c e tx SerializableSnapshot ts (Some n) now committed before.meaning (taken.sees g (checked_in policies g before after c h)) v;
    kept = kept_so;
    cause = tt;
    events = let more : weight e ≡ weight c + 2 = committed_weight c e tx SerializableSnapshot ts (Some n) now committed in omega (arith, more);
    rows =
        let own : length (own_of (own_steps ps)) ≡ length (change_ops ps) = ap length (own_is ps) in
        let few_of : length (change_ops ps) ≤ 17 = few_ops fs id (value_of taken.answer) new few in
        let more : load e ≤ load c + length (own_of (own_steps ps)) = committed.load in
        omega (arith, own, few_of, more);
    reads = reads_then before mid after first later;
  }
    where
      ps : List (List ℕ × Option (List ℕ))
      ps = change_puts fs id (value_of taken.answer) new

      ts : List TranscriptStep
      ts = change_steps fs id taken.answer new

      kept_so : IsKept before.meaning c → IsKept before.meaning e
      kept_so = subst (λ (m : Meaning). IsKept m c → IsKept m e) first.meaning kept

      counts : Counts c.settings.start_seq c.state.commits
      counts = legal_core c e tx SerializableSnapshot ts (Some n) now committed

      is_change : IsChange fs SerializableSnapshot (kept_ops (own_of ts)) (batch_keys (own_of ts)) ts
      is_change = record {
        serializable = refl;
        id = id;
        name = name;
        answer = taken.answer;
        new = new;
        whole = refl;
        kept = ap kept_ops (own_is ps);
        keys = sym (keeps_its_keys (own_of ts));
      }

      after_all : (m : Meaning) (k : List ℕ) → values_in m e k ≡ changed (values_in m c) ps k
      after_all m k = put_behind m c counts e (record { seq = n; now = now; ops = kept_ops (own_of ts); tracked = batch_keys (own_of ts) }) ps
          (ap (λ (v : CoreModel). v.settings) committed.is) (ap (λ (v : CoreModel). v.state.commits) committed.is) committed.next.0 (ap kept_ops (own_is ps)) k
