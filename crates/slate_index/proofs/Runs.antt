-- A run goes on as the plain map of records does.
use Rattle.std.proofs.Common.{◌≡◌, ℕ, zero, suc, ◌+◌, ◌-◌, ◌^◌, ◌<◌, ◌≤◌, ◌⊎◌, inl, inr, Bool, true, false, cond, List, length, bytes_eq, Option, Some, None, option_map, Ok, Err, ℤ, refl, sym, ap, subst, ◌∙◌, arith}
use Rattle.std.specs.Prelude.{Result, nat_le, nat_lt}
use Rattle.std.specs.Global.{Vec}
use Rattle.std.specs.Option.{option_or}
use Rattle.std.proofs.lemmas.Bool.Decides.{nat_tests}
use Rattle.slate_types.specs.declared.error.SlateDBError.{SlateDBError}
use Rattle.slate_types.specs.declared.error.SlateDBError.TheVariants as errors
use Rattle.slate_types.specs.Outside.{IsFault, Meaning, Reach}
use Rattle.slate_types.proofs.Reaching.{reads_none}
use Rattle.slate_filter.specs.Policy.{Policy}
use Rattle.slate_mem.specs.Refusals.{when}
use Rattle.slate_store.specs.Run.{IsProgramError}
use Rattle.slate_mem.specs.KeyTests.{Segments}
use Rattle.slate_txn.specs.Replay.{IsLegal}
use Rattle.slate_txn.specs.State.{last_of}
use Rattle.slate_db.specs.Flushed.{NoPlace}
use Rattle.slate_db.specs.Load.{weight}
use Rattle.slate_db.specs.Log.{LIMIT}
use Rattle.slate_db.specs.Model.{CoreModel}
use Rattle.slate_db.specs.SerialLaws.{IsVouchedCore}
use Rattle.slate_db.specs.Settled.{IsSettledIn}
use Rattle.slate_steps.specs.Reads.{IsFaultSettled}
use Rattle.slate_steps.specs.Steps.{IsBeginError}
use Rattle.slate_steps.proofs.StoreTruth.{checked_in}
use Rattle.slate_steps.proofs.Settling.{ended_weight}
use Rattle.slate_index.specs.declared.error.IndexError.{IndexError}
use Rattle.slate_index.specs.declared.error.IndexError.TheVariants.{Db, FieldTooLong}
use Rattle.slate_index.specs.Calls.{HasLooked, IsChangeCall, IsChangeError, IsDbError, IsLeft, Steps, begins, faults, full, greatest, of_db, reads, refused, values_in}
use Rattle.slate_index.specs.Commits.{value_of}
use Rattle.slate_index.specs.Entries.{FieldsModel, longest_field, record_key}
use Rattle.slate_index.specs.Looking.{IsLookup}
use Rattle.slate_index.specs.Refusals.{change_refusal, too_long, too_long_at, too_long_below}
use Rattle.slate_index.specs.Running.{IsRunError, IsRunning, IsSomeDbError, StandsFor, is_limit}
use Rattle.slate_index.specs.Script.{Records, Reply, Run, committed, found, last_seq, record_at, with_change}
use Rattle.slate_index.specs.Words.{has_reply}
use Rattle.slate_index.proofs.Following.{at_record}
use Rattle.slate_index.proofs.ErrorKinds.{fault_ends, read_ends}
use Rattle.slate_index.proofs.Records.{at_change, found_alike, once_change}

-- ---- a core that was left as it was

-- but for its journal
module _ (m : Meaning) (c d : CoreModel) (r : Run) (same : d.state ≡ c.state) (settings : d.settings ≡ c.settings) where
  pub still_stands : StandsFor m c r → StandsFor m d r
  still_stands h = record {
    once = h.once;
    records = λ id. (λ i. values_in m (record d { state = same i; settings = settings i }) (record_key id)) ∙ h.records id;
    last = (λ i. last_of (settings i).start_seq (same i).commits) ∙ h.last;
  }

left_state : (c d : CoreModel) → IsLeft c d → (d.state ≡ c.state) × (d.settings ≡ c.settings)
left_state c d (inl same) = (ap (λ (v : CoreModel). v.state) same, ap (λ (v : CoreModel). v.settings) same)
left_state c d (inr (tx, ended)) = (ap (λ (v : CoreModel). v.state) ended.is, ap (λ (v : CoreModel). v.settings) ended.is)

pub looked_state : (c d : CoreModel) → HasLooked c d → (d.state ≡ c.state) × (d.settings ≡ c.settings)
looked_state c d (inl same) = (ap (λ (v : CoreModel). v.state) same, ap (λ (v : CoreModel). v.settings) same)
looked_state c d (inr (tx, ended)) = (ap (λ (v : CoreModel). v.state) ended.is, ap (λ (v : CoreModel). v.settings) ended.is)

no_lighter : (c d : CoreModel) → IsLeft c d → weight c ≤ weight d
no_lighter c d (inl same) = let is : weight d ≡ weight c = ap (λ (v : CoreModel). weight v) same in omega (arith, is)
no_lighter c d (inr (tx, ended)) = let is : weight d ≡ weight c + 2 = ended_weight c d tx _ ended in omega (arith, is)

looked_no_lighter : (c d : CoreModel) → HasLooked c d → weight c ≤ weight d
looked_no_lighter c d (inl same) = let is : weight d ≡ weight c = ap (λ (v : CoreModel). weight v) same in omega (arith, is)
looked_no_lighter c d (inr (tx, ended)) = let is : weight d ≡ weight c + 2 = ended_weight c d tx _ ended in omega (arith, is)

-- ---- numbers

below_last : (n : ℕ) → n < greatest → nat_le last_seq n ≡ false
below_last n h = grind (arith, nat_tests)

at_last : (n : ℕ) → n ≡ greatest → nat_le last_seq n ≡ true
at_last n h = grind (arith, nat_tests)

-- ---- what ends a run

unsaid_field : (n : ℕ) (e : Option (List ℕ)) (x : SlateDBError) → too_long_at n e ≡ Some (Db x) → ⊥
unsaid_field n None x e = cc
unsaid_field n (Some f) x e = at (nat_le (length f) longest_field) e
  where
    at : (b : Bool) → cond b None (Some (FieldTooLong n (length f))) ≡ Some (Db x) → ⊥
    at true e = cc
    at false e = cc

unsaid_below : (fs : FieldsModel) (v : List ℕ) (x : SlateDBError) (n : ℕ) → too_long_below fs n v ≡ Some (Db x) → ⊥
unsaid_below fs v x zero e = cc
unsaid_below fs v x (suc n) e = at (too_long_below fs n v) refl e (unsaid_below fs v x n)
  where
    at : (p : Option IndexError) → too_long_below fs n v ≡ p → option_or p (too_long_at n (fs.field n v)) ≡ Some (Db x) → (too_long_below fs n v ≡ Some (Db x) → ⊥) → ⊥
    at None is e before = unsaid_field n (fs.field n v) x e
    at (Some y) is e before = before (is ∙ e)

refusal_said : (fs : FieldsModel) (id : List ℕ) (o new : Option (List ℕ)) (x : SlateDBError) → change_refusal fs id o new ≡ Some (Db x) → has_reply x ≡ true
refusal_said fs id None None x h = cc
refusal_said fs id (Some v) None x h = cc
refusal_said fs id o (Some v) x h = by (too_long fs v) refl (nat_lt (2 ^ 32 - 1) (length v)) h
  where
    one : (y : SlateDBError) → Some (Db y) ≡ Some (Db x) → y ≡ x
    one y e = cc

    by : (p : Option IndexError) → too_long fs v ≡ p → (b : Bool) → option_or p (option_map Db (when b (errors.ValueTooLong (length v)))) ≡ Some (Db x) → has_reply x ≡ true
    by (Some y) is b e = absurd (unsaid_below fs v x fs.count (is ∙ e))
    by None is false e = cc
    by None is true e = ap has_reply (sym (one (errors.ValueTooLong (length v)) e))

said_or : {A : Type 0} (x : SlateDBError) → has_reply x ≡ true → has_reply x ≡ false → A
said_or x a b = let clash : true ≡ false = sym a ∙ b in cc

begin_or : (before after : Reach) (c : CoreModel) (x : SlateDBError) → IsBeginError c x ⊎ IsFault before after x → IsFault before after x ⊎ (is_limit x ≡ true)
begin_or before after c x (inr fault) = inl fault
begin_or before after c x (inl (inl memory)) = inl (subst (IsFault before after) (sym memory) tt)
begin_or before after c x (inl (inr (limit, lacks))) = inr (ap is_limit limit)

begin_unsaid : (before after : Reach) (c : CoreModel) (x : SlateDBError) → IsBeginError c x ⊎ IsFault before after x → has_reply x ≡ false
begin_unsaid before after c x (inr fault) = (fault_ends before.faults after.faults x fault).unsaid
begin_unsaid before after c x (inl (inl memory)) = ap has_reply memory
begin_unsaid before after c x (inl (inr (limit, lacks))) = ap has_reply limit

pub run_ends : (policies : List Policy) (before after : Reach) (c d : CoreModel) (x : SlateDBError) → IsDbError policies before after c x → has_reply x ≡ false → weight c ≤ weight d →
    (IsSettledIn policies None before c → IsBeginError c x ⊎ IsFault before after x) → IsRunError policies before after c d x
run_ends policies before after c d x db unsaid heavier settled = by db
  where
    some : IsSomeDbError policies before after x
    some = record { from = before; upto = after; core = c; first = reads_none before; later = reads_none after; refused = db }

    plain : IsProgramError x → (is_limit x ≡ true → NoPlace 2 d) → IsRunError policies before after c d x
    plain apart limit = record { apart = apart; settled = λ h. begin_or before after c x (settled h); limit = limit; cause = some }

    no_limit : is_limit x ≡ false → is_limit x ≡ true → NoPlace 2 d
    no_limit a b = let clash : true ≡ false = sym b ∙ a in cc

    by : IsDbError policies before after c x → IsRunError policies before after c d x
    by (begins (inl memory)) = plain (subst IsProgramError (sym memory) tt) (no_limit (ap is_limit memory))
    by (begins (inr (limit, lacks))) = plain (subst IsProgramError (sym limit) tt) (λ _. let less : LIMIT < weight c + 2 = lacks in omega (arith, less, heavier))
    by (reads tx level fault) = let e = read_ends policies fault.from fault.upto fault.core x fault.refused in plain e.apart (no_limit e.unlimited)
    by (full is last) = said_or x (ap has_reply is) unsaid
    by (faults fault) = let e = fault_ends before.faults after.faults x fault in plain e.apart (no_limit e.unlimited)

-- ---- a change

settled_steps : (policies : List Policy) (g : Segments) (fs : FieldsModel) (id : List ℕ) (new : Option (List ℕ)) (before after : Reach) (c d : CoreModel) (r : Result ℕ IndexError) → IsSettledIn policies g before c →
    Steps (IsFaultSettled policies before after c) fs id new before.meaning c d r → Steps (IsFault before after) fs id new before.meaning c d r
settled_steps policies g fs id new before after c d (Ok n) settled h = h
settled_steps policies g fs id new before after c d (Err e) settled (inl told) = inl told
settled_steps policies g fs id new before after c d (Err e) settled (inr (inl last)) = inr (inl last)
settled_steps policies g fs id new before after c d (Err e) settled (inr (inr (x, is, inl begun))) = inr (inr (x, is, inl begun))
settled_steps policies g fs id new before after c d (Err e) settled (inr (inr (x, is, inr fault))) = inr (inr (x, is, inr (fault g settled)))

module _ (policies : List Policy) (fs : FieldsModel) (id : List ℕ) (new : Option (List ℕ)) (now : ℤ) (before after : Reach) (c d : CoreModel) where
  pub change_ends : (x : SlateDBError) → IsChangeCall policies None fs id new now before after c d (Err (Db x)) → has_reply x ≡ false → IsRunError policies before after c d x
  change_ends x call unsaid = by call.cause
    where
      settled : IsSettledIn policies None before c → IsBeginError c x ⊎ IsFault before after x
      settled h = at (settled_steps policies None fs id new before after c d (Err (Db x)) h (call.steps None (checked_in policies None before after c h)))
        where
          one : (y : SlateDBError) → Db x ≡ Db y → y ≡ x
          one y e = cc

          at : Steps (IsFault before after) fs id new before.meaning c d (Err (Db x)) → IsBeginError c x ⊎ IsFault before after x
          at (inl told) = said_or x (refusal_said fs id (values_in before.meaning c (record_key id)) new x told) unsaid
          at (inr (inl (is, last, none))) = said_or x (ap has_reply (sym (one errors.SequenceExhausted is))) unsaid
          at (inr (inr (y, is, why))) = subst (λ z. IsBeginError c z ⊎ IsFault before after z) (one y is) why

      by : IsChangeError policies fs id new before after c (Db x) → IsRunError policies before after c d x
      by (refused answer is) = said_or x (refusal_said fs id (value_of answer) new x is) unsaid
      by (of_db y is db) = run_ends policies before after c d x (subst (IsDbError policies before after c) (one y is) db) unsaid (no_lighter c d call.left) settled
        where
          one : (y : SlateDBError) → Db x ≡ Db y → y ≡ x
          one y e = cc

  module _ (r : Run) (h : IsRunning policies fs before c r) where
    refusal_is : (o : Option IndexError) → change_refusal fs id (values_in before.meaning c (record_key id)) new ≡ o → (rs : Records) → committed r (change_refusal fs id (record_at r.records id) new) rs ≡ committed r o rs
    refusal_is o e rs = ap (λ x. committed r x rs) (ap (λ v. change_refusal fs id v new) (sym (h.stands.records id)) ∙ e)

    -- it was made
    pub change_made : (n : ℕ) → IsChangeCall policies None fs id new now before after c d (Ok n) →
        (committed r (change_refusal fs id (record_at r.records id) new) (with_change id new r.records) ≡ (record { records = with_change id new r.records; last = r.last + 1 }, Reply.Done))
        × IsRunning policies fs after d (record { records = with_change id new r.records; last = r.last + 1 })
    change_made n call = (
      refusal_is None steps.0 (with_change id new r.records)
          ∙ ap (λ b. cond b (r, Reply.Refused (Db errors.SequenceExhausted)) (record { records = with_change id new r.records; last = r.last + 1 }, Reply.Done))
          (below_last r.last (subst (λ (k : ℕ). k < greatest) h.stands.last call.next.0)),
      record {
        settled = call.settled h.settled;
        form = call.form h.form;
        vouched = subst (λ (x : Meaning). IsVouchedCore x d) (sym call.reads.meaning) (call.vouched None h.settled h.vouched);
        stands = subst (λ (x : Meaning). StandsFor x d (record { records = with_change id new r.records; last = r.last + 1 })) (sym call.reads.meaning) (record {
          once = once_change id new r.records h.stands.once;
          records = λ j. steps.1 (record_key j)
              ∙ at_record fs (values_in before.meaning c) id (values_in before.meaning c (record_key id)) new j
              ∙ ap (λ o. cond (bytes_eq id j) new o) (h.stands.records j)
              ∙ sym (at_change id j new r.records);
          last = call.next.1 ∙ ap (λ k. k + 1) h.stands.last;
        });
      },
    )
      where
        steps : Steps (IsFault before after) fs id new before.meaning c d (Ok n)
        steps = settled_steps policies None fs id new before after c d (Ok n) h.settled (call.steps None (checked_in policies None before after c h.settled))

    -- it was refused
    pub change_refused : (e : IndexError) → IsChangeCall policies None fs id new now before after c d (Err e) → ((x : SlateDBError) → e ≡ Db x → has_reply x ≡ true) →
        (committed r (change_refusal fs id (record_at r.records id) new) (with_change id new r.records) ≡ (r, Reply.Refused e)) × IsRunning policies fs after d r
    change_refused e call said = (
      by (settled_steps policies None fs id new before after c d (Err e) h.settled (call.steps None (checked_in policies None before after c h.settled))),
      record {
        settled = call.settled h.settled;
        form = call.form h.form;
        vouched = subst (λ (x : Meaning). IsVouchedCore x d) (sym call.reads.meaning) (call.vouched None h.settled h.vouched);
        stands = subst (λ (x : Meaning). StandsFor x d r) (sym call.reads.meaning) (still_stands before.meaning c d r (left_state c d call.left).0 (left_state c d call.left).1 h.stands);
      },
    )
      where
        by : Steps (IsFault before after) fs id new before.meaning c d (Err e) → committed r (change_refusal fs id (record_at r.records id) new) (with_change id new r.records) ≡ (r, Reply.Refused e)
        by (inl told) = refusal_is (Some e) told (with_change id new r.records)
        by (inr (inl (is, last, none))) =
            refusal_is None none (with_change id new r.records)
            ∙ ap (λ b. cond b (r, Reply.Refused (Db errors.SequenceExhausted)) (record { records = with_change id new r.records; last = r.last + 1 }, Reply.Done)) (at_last r.last (sym h.stands.last ∙ last))
            ∙ ap (λ x. (r, Reply.Refused x)) (sym is)
        by (inr (inr (x, is, why))) = said_or x (said x is) (begin_unsaid before after c x why)

-- ---- a search

module _ (policies : List Policy) (fs : FieldsModel) (n : ℕ) (f : List ℕ) (before after : Reach) (c d : CoreModel) where
  pub search_ends : (x : SlateDBError) (e : IndexError) → e ≡ Db x → IsLookup policies None n f before after c d (Err e) → has_reply x ≡ false → IsRunError policies before after c d x
  search_ends x e is call unsaid =
      run_ends policies before after c d x (subst (IsDbError policies before after c) (one call.cause.0 call.cause.1) call.cause.2) unsaid (looked_no_lighter c d call.looked) (λ h. by (call.undamaged None h))
    where
      one : (y : SlateDBError) → e ≡ Db y → y ≡ x
      one y q = same (sym is ∙ q)
        where
          same : Db x ≡ Db y → y ≡ x
          same z = cc

      by : (y : SlateDBError) × (e ≡ Db y) × (IsBeginError c y ⊎ IsFault before after y) → IsBeginError c x ⊎ IsFault before after x
      by (y, q, why) = subst (λ z. IsBeginError c z ⊎ IsFault before after z) (one y q) why

  -- no search that is refused is answered
  pub search_unsaid : (e : IndexError) → IsSettledIn policies None before c → IsLookup policies None n f before after c d (Err e) → ((x : SlateDBError) → e ≡ Db x → has_reply x ≡ true) → {A : Type 0} → A
  search_unsaid e h call said = by (call.undamaged None h)
    where
      by : {A : Type 0} → (y : SlateDBError) × (e ≡ Db y) × (IsBeginError c y ⊎ IsFault before after y) → A
      by (y, q, why) = said_or y (said y q) (begin_unsaid before after c y why)

  pub search_found : (ids : Vec (List ℕ)) (r : Run) → IsLegal c.settings.start_seq c.events → n < fs.count → IsLookup policies None n f before after c d (Ok ids) → IsRunning policies fs before c r →
      (ids.items ≡ found fs n f r.records) × IsRunning policies fs after d r
  search_found ids r legal below call h = (
    found_alike fs n f (values_in before.meaning c) r.records ids.items h.stands.once h.stands.records
        (call.found fs None below (checked_in policies None before after c h.settled) (record { audited = record { legal = legal; changes = h.form }; vouched = h.vouched.journal })),
    record {
      settled = call.settled h.settled;
      form = call.form fs h.form;
      vouched = subst (λ (x : Meaning). IsVouchedCore x d) (sym call.reads.meaning) (call.vouched before.meaning h.vouched);
      stands = subst (λ (x : Meaning). StandsFor x d r) (sym call.reads.meaning) (still_stands before.meaning c d r (looked_state c d call.looked).0 (looked_state c d call.looked).1 h.stands);
    },
  )
