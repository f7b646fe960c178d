-- What the calls of an open transaction leave of the connection that holds it.
use Rattle.std.proofs.Common.{◌≡◌, ◌⊎◌, ℕ, ℤ, Bool, false, List, [], ◌∷◌, ◌++◌, Option, Some, None, Result, Ok, Err, ap, refl, sym, subst, ◌∙◌}
use Rattle.std.specs.Prelude.{IfErr, IfOk, OnErr, OnOk}
use Rattle.std.proofs.lemmas.Option.{same_Some}
use mathlib.Core.List.{IsPrefix}
use Rattle.slate_types.specs.declared.config.IsolationLevel.{IsolationLevel}
use Rattle.slate_types.specs.declared.error.SlateDBError.{SlateDBError}
use Rattle.slate_types.specs.declared.types.KeyValue.{KeyValue}
use Rattle.slate_types.specs.declared.block_transformer.BlockTransformer as transformers
use Rattle.slate_types.specs.declared.merge_operator.MergeOperator as operators
use Rattle.slate_types.specs.Faults.{faults_of}
use Rattle.slate_types.specs.Outside.{IsFault, OnlyReads, Reach, no_parts}
use Rattle.slate_store.specs.declared.env.Env.{Env}
use Rattle.slate_store.specs.declared.store.Store as stores
use Rattle.slate_store.specs.Reach.{reach_of}
use Rattle.slate_mem.specs.declared.WriteOp.{WriteOp}
use Rattle.slate_mem.specs.BatchModel.{is_merge_op}
use Rattle.slate_table.specs.Filtered.{point_query}
use Rattle.slate_txn.specs.declared.event.Event.{Event}
use Rattle.slate_txn.specs.declared.event.TranscriptStep.{TranscriptStep}
use Rattle.slate_txn.specs.declared.event.TranscriptStep.TheVariants as steps
use Rattle.slate_txn.specs.Settings.{settings_of}
use Rattle.slate_txn.specs.Step.{with_op}
use Rattle.slate_shared.specs.Ended.{HasEnded}
use Rattle.slate_shared.specs.KeyReads.{IsGet}
use Rattle.slate_shared.specs.Passes.{Opened, PassModel}
use Rattle.slate_shared.proofs.Lists.{prefix_self}
use Rattle.slate_steps.specs.Attempts.{HasCommittedBehind, IsReadErrorOn, IsRefusedBehind, IsStoreChecked, IsVouchedThere, SeesOnly}
use Rattle.slate_steps.proofs.Attempts.{attempt_own_more, vouched_on}
use Rattle.slate_steps.proofs.OnPass.{commit_made_behind, commit_only, commit_refusal, get_attempt, get_cause, get_checked, get_more, get_refused, own_same, own_vouched}
use Rattle.slate_steps.proofs.Reading.{if_err_map, on_ok_map}
use Rattle.slate_connection.specs.Connected.{ConnectionModel, GoesOn, IsOpenAttempt, Stays, Terms, taken, taken_by}
use Rattle.slate_connection.proofs.Going.{open_as, stays}

-- ---- a get

module _ (p : Terms) (k : List ℕ) (t u : Opened) (before after : Reach) (meant : before.meaning ≡ p.meaning) where
  abbrev Got : Result (Option KeyValue) SlateDBError → Type 0
  Got r = IsGet p.options p.meaning (record { policies = p.policies; query = point_query k None }) k t u before after r

  get_opens : (r : Result (Option KeyValue) SlateDBError) → Got r → (from : List Event) (level : IsolationLevel) → IsOpenAttempt p from level t → IsOpenAttempt p from level u
  get_opens (Ok a) g from level h = open_as p from level _ u (get_attempt p.options p.meaning p.policies (point_query k None) k t u before after (Ok a) g from level t.tx.transcript h)
  get_opens (Err e) g from level h = open_as p from level _ u (get_refused p.options p.meaning p.policies (point_query k None) k t u before after (Err e) g from level t.tx.transcript h)

  get_vouched : (r : Result (Option KeyValue) SlateDBError) → Got r → (from : List Event) (level : IsolationLevel) → IsOpenAttempt p from level t → IsStoreChecked p.policies p.meaning u.seen before after → IsVouchedThere p.options p.meaning t → IsVouchedThere p.options p.meaning u
  get_vouched (Ok a) g from level h s v = get_checked p.options p.meaning p.policies (point_query k None) k t u before after meant (Ok a) g from level t.tx.transcript h s v
  get_vouched (Err e) g from level h s v = vouched_on p.options p.meaning t u (ap (λ (x : Opened). x.tx) g.unnoted) g.seen v

  pub goes_get : (r : Result (Option KeyValue) SlateDBError) → Got r → GoesOn p before after t u
  goes_get r g =
      let more = get_more p.options p.meaning (record { policies = p.policies; query = point_query k None }) k t u before after r g in
      record { table = more.0; id = more.1; seen = more.2; opens = λ from level h. get_opens r g from level h; vouched = λ from level h s v. get_vouched r g from level h s v }

  pub get_noted : (r : Result (Option KeyValue) SlateDBError) → Got r → IfOk r (λ a. u.tx.transcript ≡ t.tx.transcript ++ (steps.Get k a ∷ []))
  get_noted (Ok a) g = ap (λ (x : Opened). x.tx.transcript) g.noted
  get_noted (Err e) g = tt

  pub get_same : (r : Result (Option KeyValue) SlateDBError) → Got r → OnErr r (u.tx.transcript ≡ t.tx.transcript)
  get_same (Ok a) g = tt
  get_same (Err e) g = ap (λ (x : Opened). x.tx.transcript) g.unnoted

-- ---- a put or a delete

module _ {A : Type 0} (p : Terms) (a : Reach) (t u : Opened) (k : List ℕ) (op : WriteOp) (no_merge : is_merge_op (k, op) ≡ false) where
  own_opens : (r : Result A SlateDBError) → OnOk r (u ≡ record t { tx = with_op k op t.tx }) → OnErr r (u ≡ t) → (from : List Event) (level : IsolationLevel) → IsOpenAttempt p from level t → IsOpenAttempt p from level u
  own_opens (Ok x) is same from level h = open_as p from level _ u (attempt_own_more p.options from level t.tx.transcript t u k op no_merge is h)
  own_opens (Err e) is same from level h = subst (IsOpenAttempt p from level) (sym same) h

  pub goes_own : (r : Result A SlateDBError) → OnOk r (u ≡ record t { tx = with_op k op t.tx }) → OnErr r (u ≡ t) → GoesOn p a a t u
  goes_own r is same =
      let more = own_same t u k op r is same in
      record {
        table = more.0;
        id = more.1;
        seen = subst (λ (es : List Event). IsPrefix t.seen es) (sym more.2) (prefix_self t.seen);
        opens = λ from level h. own_opens r is same from level h;
        vouched = λ from level h s v. own_vouched t u k op r is p.options p.meaning same v;
      }

  pub own_noted : (r : Result A SlateDBError) → OnOk r (u ≡ record t { tx = with_op k op t.tx }) → OnOk r (u.tx.transcript ≡ t.tx.transcript ++ (steps.Own k op ∷ []))
  own_noted r is = on_ok_map r _ _ (λ (e : u ≡ record t { tx = with_op k op t.tx }). ap (λ (x : Opened). x.tx.transcript) e) is

-- ---- what it reaches

no_faults_of : {P : Type 0} (count : P → ℕ) → ((part : P) → count part ≡ 0) → (o : Option P) → faults_of count o ≡ 0
no_faults_of count none None = refl
no_faults_of count none (Some part) = none part

-- of an environment whose parts mean nothing and have no faults, by the store alone
pub reach_is : {S M T : Type 0} (s : stores.Ghosts S) (m : operators.Ghosts M) (t : transformers.Ghosts T) (env : Env S M T) → ((part : M) → m.faults part ≡ 0) → ((part : T) → t.faults part ≡ 0) → (reach_of s m t env).meaning ≡ no_parts →
    reach_of s m t env ≡ record { objects = s.objects env.store.now; acts = s.acts env.store.now; meaning = no_parts; faults = record { store = s.faults env.store.now; operator = 0; transformer = 0 }; store = env.store.ghost_name }
reach_is s m t env by_operator by_transformer is = λ i. record {
  objects = s.objects env.store.now;
  acts = s.acts env.store.now;
  meaning = is i;
  faults = record { store = s.faults env.store.now; operator = no_faults_of m.faults by_operator env.operator i; transformer = no_faults_of t.faults by_transformer env.transformer i };
  store = env.store.ghost_name;
}

-- ---- the connection

module _ (p : Terms) (s n : ConnectionModel) (t u : Opened) (was : s.txn ≡ Some t) (is : n.txn ≡ Some u) where
  pub stays_by : n.pass ≡ s.pass → OnlyReads s.reach n.reach → GoesOn p s.reach n.reach t u → Stays p s n
  stays_by same reads goes = stays p s n (record { pass = same; txn = λ x there. (u, is, subst (λ y. GoesOn p s.reach n.reach y u) (same_Some t x (sym was ∙ there)) goes); reads = reads })

  pub taken_more : (ts : List TranscriptStep) → u.tx.transcript ≡ t.tx.transcript ++ ts → taken n ≡ taken s ++ ts
  taken_more ts more = ap taken_by is ∙ more ∙ ap (λ (us : List TranscriptStep). us ++ ts) (sym (ap taken_by was))

  pub taken_same : u.tx.transcript ≡ t.tx.transcript → taken n ≡ taken s
  taken_same same = ap taken_by is ∙ same ∙ sym (ap taken_by was)

-- a get by what is open; a, b: what its environment reached
module _ (p : Terms) (k : List ℕ) (s n : ConnectionModel) (t u : Opened) (a b : Reach) (r : Result (Option KeyValue) SlateDBError) (was : s.txn ≡ Some t) (is : n.txn ≡ Some u) (from_is : a ≡ s.reach) (to_is : b ≡ n.reach) (meant : a.meaning ≡ p.meaning)
    (g : IsGet p.options p.meaning (record { policies = p.policies; query = point_query k None }) k t u a b r) where
  here : s.reach.meaning ≡ p.meaning
  here = ap (λ (x : Reach). x.meaning) (sym from_is) ∙ meant

  read : IsGet p.options p.meaning (record { policies = p.policies; query = point_query k None }) k t u s.reach n.reach r
  read = subst (λ (x : Reach × Reach). IsGet p.options p.meaning (record { policies = p.policies; query = point_query k None }) k t u x.0 x.1 r) (λ i. (from_is i, to_is i)) g

  pub stays_got : n.pass ≡ s.pass → Stays p s n
  stays_got same = stays_by p s n t u was is same read.reads (goes_get p k t u s.reach n.reach here r read)

  pub cause_got : (x : Opened) (from : List Event) (level : IsolationLevel) → s.txn ≡ Some x → IsOpenAttempt p from level x → IfErr r (λ e. (y : Opened) × (n.txn ≡ Some y) × IsReadErrorOn p.options p.policies s.reach n.reach y.seen e)
  cause_got x from level there h =
      if_err_map r _ _ (λ e refusal. (u, is, refusal))
      (get_cause p.options p.meaning p.policies (point_query k None) k t u s.reach n.reach r read from level t.tx.transcript (subst (IsOpenAttempt p from level) (sym (same_Some t x (sym was ∙ there))) h) (sym here))

-- a commit of what was open; z: its moment as the call has it
module _ (p : Terms) (now z : ℤ) (t : Opened) (old new : PassModel) (a b before after : Reach) (r q : Result (Option ℕ) SlateDBError) (moment : z ≡ now) (answer : q ≡ r) (from_is : a ≡ before) (to_is : b ≡ after) (same : (new.table ≡ old.table) × (new.parts ≡ old.parts))
    (ended : HasEnded (IsFault a b) p.meaning p.segments (settings_of p.options) z t old new r) where
  ends : HasEnded (IsFault before after) p.meaning p.segments (settings_of p.options) now t old new q
  ends = subst (λ (x : (Reach × Reach) × ℤ × Result (Option ℕ) SlateDBError). HasEnded (IsFault x.0.0 x.0.1) p.meaning p.segments (settings_of p.options) x.1 t old new x.2) (λ i. ((from_is i, to_is i), moment i, sym answer i)) ended

  pub commits : (x : Opened) (from : List Event) (level : IsolationLevel) → t ≡ x → IsOpenAttempt p from level x → IfOk q (λ n. HasCommittedBehind p.options x n now old new)
  commits x from level is h =
      subst (λ (y : Opened). IfOk q (λ n. HasCommittedBehind p.options y n now old new)) is
      (commit_made_behind (IsFault before after) p.meaning p.segments p.options now t old new same q ends from level t.tx.transcript (subst (IsOpenAttempt p from level) (sym is) h))

  pub commit_sees : OnErr q (SeesOnly old new)
  commit_sees = commit_only (IsFault before after) p.meaning p.segments p.options now t old new same q ends

  pub commit_cause : p.segments ≡ None → (x : Opened) (from : List Event) (level : IsolationLevel) → t ≡ x → IsOpenAttempt p from level x → IfErr q (λ e. IsFault before after e ⊎ IsRefusedBehind p.options x old new e)
  commit_cause plain x from level is h =
      subst (λ (y : Opened). IfErr q (λ e. IsFault before after e ⊎ IsRefusedBehind p.options y old new e)) is
      (commit_refusal (IsFault before after) p.meaning p.segments p.options now t old new same q ends from level t.tx.transcript (subst (IsOpenAttempt p from level) (sym is) h) plain)
