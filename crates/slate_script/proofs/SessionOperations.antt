-- The steps of the lines that operate in an open transaction, under what a session stands for.
use Rattle.std.proofs.Common.{◌≡◌, ℕ, cond, ◌⊎◌, inl, inr, List, [], ◌∷◌, Option, Some, None, Result, Ok, Err, IfOk, OnOk, refl, sym, ap, ◌∙◌, subst}
use Rattle.std.specs.Prelude.{IsSome, IfErr, OnErr, ℤ}
use Rattle.std.specs.Str.{bytes_eq}
use Rattle.slate_types.specs.declared.config.Ttl.{Ttl}
use Rattle.slate_types.specs.declared.error.SlateDBError.{SlateDBError}
use Rattle.slate_types.specs.declared.error.SlateDBError.TheVariants as errors
use Rattle.slate_mem.specs.Batch.{Ops}
use Rattle.slate_types.specs.Outside.{Counts, IsCounted}
use Rattle.slate_mem.specs.Refusals.{first_refusal, op_refusal}
use Rattle.slate_mem.specs.declared.WriteOp.{WriteOp}
use Rattle.slate_mem.specs.declared.WriteOp.TheVariants as ops
use Rattle.slate_mem.specs.KeyTests.{Segments}
use Rattle.slate_txn.specs.declared.line.Line.{Line}
use Rattle.slate_txn.specs.declared.line.Line.TheVariants as lines
use Rattle.slate_txn.specs.Conflict.{tracked_writes}
use Rattle.slate_txn.specs.Named.{find_named, without, update_named}
use Rattle.slate_txn.specs.Refusals.{commit_refusal, operator_refusal}
use Rattle.slate_txn.specs.Reply as replies
use Rattle.slate_txn.specs.Reply.{Reply}
use Rattle.slate_txn.specs.State.{Rules, Tx, State}
use Rattle.slate_txn.specs.Step.{step, of_open, refused_or, closed, commit, as_commit, with_op, with_marks, with_unmarks, with_reply}
use Rattle.slate_db.specs.Meaning.{Meaning, rules_in}
use Rattle.slate_db.specs.Model.{CoreModel, at}
use Rattle.slate_language.specs.declared.reply.Answer.{Answer}
use Rattle.slate_language.specs.declared.reply.Answer.TheVariants as answers
use Rattle.slate_language.specs.Answers.{reply_of}
use Rattle.slate_language.proofs.ShownLaws.{shown_of}
use Rattle.slate_script.specs.Session.{SessionModel, AreNames, AreUnder, NamesStand, StandsFor, IsStep, StepsAs, IsRefusal, IsDone, under}
use Rattle.slate_script.proofs.NamesLaws.{once_without, without_none}
use Rattle.slate_script.proofs.OpenNames.{apart_first, under_none, under_same, under_taken}
use Rattle.slate_script.proofs.SessionSteps.{IsNamed, fault_unanswered, named_of, op_refusals, stands_is, stands_same, stands_updated}

-- ---- a transaction is changed

-- what a line makes of the state, where it changes the name's transaction unless it is refused
abbrev changed : Option SlateDBError → (Tx → Tx) → State → List ℕ → State × Reply
changed refusal f s name = of_open s name (find_named name s.txns) (λ _. refused_or refusal s (record s { txns = update_named name f s.txns }, replies.Done))

tx_under : (e : SessionModel) (s : State) (name id : List ℕ) → StandsFor e s → AreNames e.names e.core.state.txns → find_named name e.names ≡ Some id → (t : IsNamed (find_named id e.core.state.txns)) × (find_named name s.txns ≡ Some t.value)
tx_under e s name id h names known =
    let t = named_of (find_named id e.core.state.txns) (names.opened name id known) in
    (t, h.txns name ∙ ap (under e.core.state.txns) known ∙ t.is)

changed_unknown : (e : SessionModel) (name : List ℕ) (refusal : Option SlateDBError) (f : Tx → Tx) → find_named name e.names ≡ None →
    (s : State) → StandsFor e s → IsStep e (changed refusal f s name) (answers.Refused (errors.UnknownTransaction name))
changed_unknown e name refusal f none s h =
    subst (λ o. IsStep e (of_open s name o (λ _. refused_or refusal s (record s { txns = update_named name f s.txns }, replies.Done))) (answers.Refused (errors.UnknownTransaction name)))
    (sym (h.txns name ∙ ap (under e.core.state.txns) none)) (h, refl)

-- the core's change is the model's
changed_as : (e : SessionModel) (core : CoreModel) (name id : List ℕ) (refusal : Option SlateDBError) (f : Tx → Tx) (a : Answer) → AreNames e.names e.core.state.txns → find_named name e.names ≡ Some id →
    ◌≡◌ {A = State × Reply} (changed refusal f e.core.state id) (core.state, reply_of a) → (s : State) → StandsFor e s → IsStep (record e { core = core }) (changed refusal f s name) a
changed_as e core name id refusal f a names known stepped s h =
    subst (λ o. IsStep after (of_open s name o (λ _. refused_or refusal s (record s { txns = update_named name f s.txns }, replies.Done))) a) (sym tx.1) (by refusal core_step)
  where
    after : SessionModel
    after = record e { core = core }

    tx : (t : IsNamed (find_named id e.core.state.txns)) × (find_named name s.txns ≡ Some t.value)
    tx = tx_under e s name id h names known

    core_step : ◌≡◌ {A = State × Reply} (refused_or refusal e.core.state (record e.core.state { txns = update_named id f e.core.state.txns }, replies.Done)) (core.state, reply_of a)
    core_step = sym (ap (λ o. of_open e.core.state id o (λ _. refused_or refusal e.core.state (record e.core.state { txns = update_named id f e.core.state.txns }, replies.Done))) tx.0.is) ∙ stepped

    by : (o : Option SlateDBError) → ◌≡◌ {A = State × Reply} (refused_or o e.core.state (record e.core.state { txns = update_named id f e.core.state.txns }, replies.Done)) (core.state, reply_of a) →
        IsStep after (refused_or o s (record s { txns = update_named name f s.txns }, replies.Done)) a
    by None is = (stands_updated e s core name id f h names known (sym (ap (λ p. p.0) is)), sym (ap (λ p. p.1) is))
    by (Some x) is = (stands_same e s core h (sym (ap (λ p. p.0) is)), sym (ap (λ p. p.1) is))

-- ---- the lines

pub put_unknown : (m : Meaning) (seg : Segments) (e : SessionModel) (name k v : List ℕ) (ttl : Ttl) → find_named name e.names ≡ None → StepsAs m seg e e (lines.Put name k v ttl) (Ok (answers.Refused (errors.UnknownTransaction name)))
put_unknown m seg e name k v ttl none = changed_unknown e name (op_refusal k (ops.Put v (record { ttl = ttl }))) (with_op k (ops.Put v (record { ttl = ttl }))) none

pub merge_unknown : (m : Meaning) (seg : Segments) (e : SessionModel) (name k v : List ℕ) (ttl : Ttl) → find_named name e.names ≡ None → StepsAs m seg e e (lines.Merge name k v ttl) (Ok (answers.Refused (errors.UnknownTransaction name)))
merge_unknown m seg e name k v ttl none =
    changed_unknown e name (first_refusal (operator_refusal (rules_in e.core.settings m seg) ∷ op_refusal k (ops.Merge v (record { ttl = ttl })) ∷ [])) (with_op k (ops.Merge v (record { ttl = ttl }))) none

pub delete_unknown : (m : Meaning) (seg : Segments) (e : SessionModel) (name k : List ℕ) → find_named name e.names ≡ None → StepsAs m seg e e (lines.Delete name k) (Ok (answers.Refused (errors.UnknownTransaction name)))
delete_unknown m seg e name k none = changed_unknown e name (op_refusal k ops.Delete) (with_op k ops.Delete) none

pub mark_unknown : (m : Meaning) (seg : Segments) (e : SessionModel) (name : List ℕ) (ks : List (List ℕ)) → find_named name e.names ≡ None → StepsAs m seg e e (lines.Mark name ks) (Ok (answers.Refused (errors.UnknownTransaction name)))
mark_unknown m seg e name ks none = changed_unknown e name None (with_marks ks) none

pub unmark_unknown : (m : Meaning) (seg : Segments) (e : SessionModel) (name : List ℕ) (ks : List (List ℕ)) → find_named name e.names ≡ None → StepsAs m seg e e (lines.Unmark name ks) (Ok (answers.Refused (errors.UnknownTransaction name)))
unmark_unknown m seg e name ks none = changed_unknown e name None (with_unmarks ks) none

-- the line's answer is the model's where the core's reply is the answer's
abbrev pub AnswersBy : Meaning → Segments → SessionModel → CoreModel → Line → Line → Type 0
AnswersBy m seg e core line named = (a : Answer) → ◌≡◌ {A = State × Reply} (step (rules_in e.core.settings m seg) e.core.state line) (core.state, reply_of a) → StepsAs m seg e (record e { core = core }) named (Ok a)

pub put_as : (m : Meaning) (seg : Segments) (e : SessionModel) (core : CoreModel) (name id k v : List ℕ) (ttl : Ttl) → AreNames e.names e.core.state.txns → find_named name e.names ≡ Some id → AnswersBy m seg e core (lines.Put id k v ttl) (lines.Put name k v ttl)
put_as m seg e core name id k v ttl names known a stepped = changed_as e core name id (op_refusal k (ops.Put v (record { ttl = ttl }))) (with_op k (ops.Put v (record { ttl = ttl }))) a names known stepped

pub merge_as : (m : Meaning) (seg : Segments) (e : SessionModel) (core : CoreModel) (name id k v : List ℕ) (ttl : Ttl) → AreNames e.names e.core.state.txns → find_named name e.names ≡ Some id → AnswersBy m seg e core (lines.Merge id k v ttl) (lines.Merge name k v ttl)
merge_as m seg e core name id k v ttl names known a stepped =
    changed_as e core name id (first_refusal (operator_refusal (rules_in e.core.settings m seg) ∷ op_refusal k (ops.Merge v (record { ttl = ttl })) ∷ [])) (with_op k (ops.Merge v (record { ttl = ttl }))) a names known stepped

pub delete_as : (m : Meaning) (seg : Segments) (e : SessionModel) (core : CoreModel) (name id k : List ℕ) → AreNames e.names e.core.state.txns → find_named name e.names ≡ Some id → AnswersBy m seg e core (lines.Delete id k) (lines.Delete name k)
delete_as m seg e core name id k names known a stepped = changed_as e core name id (op_refusal k ops.Delete) (with_op k ops.Delete) a names known stepped

pub mark_as : (m : Meaning) (seg : Segments) (e : SessionModel) (core : CoreModel) (name id : List ℕ) (ks : List (List ℕ)) → AreNames e.names e.core.state.txns → find_named name e.names ≡ Some id → AnswersBy m seg e core (lines.Mark id ks) (lines.Mark name ks)
mark_as m seg e core name id ks names known a stepped = changed_as e core name id None (with_marks ks) a names known stepped

pub unmark_as : (m : Meaning) (seg : Segments) (e : SessionModel) (core : CoreModel) (name id : List ℕ) (ks : List (List ℕ)) → AreNames e.names e.core.state.txns → find_named name e.names ≡ Some id → AnswersBy m seg e core (lines.Unmark id ks) (lines.Unmark name ks)
unmark_as m seg e core name id ks names known a stepped = changed_as e core name id None (with_unmarks ks) a names known stepped

-- ---- an operation that ran

abbrev pub Stepped : Meaning → Segments → SessionModel → Line → CoreModel → Reply → Type 0
Stepped m seg e line core reply = ◌≡◌ {A = State × Reply} (step (rules_in e.core.settings m seg) e.core.state line) (core.state, reply)

pub ran_by : {T : Type 0} (m : Meaning) (seg : Segments) (e : SessionModel) (core : CoreModel) (line named : Line) (ran : Result T SlateDBError) (result : Result Answer SlateDBError) → AnswersBy m seg e core line named →
    OnOk ran (Stepped m seg e line core replies.Done) → IfErr ran (λ x. (x ≡ errors.OutOfMemory) ⊎ Stepped m seg e line e.core (replies.Refused x)) → OnErr ran (core ≡ e.core) → IsDone ran result →
    StepsAs m seg e (record e { core = core }) named result
ran_by m seg e core line named (Ok t) result model ok err same is = subst (λ r. StepsAs m seg e (record e { core = core }) named r) (sym is.done) (model answers.Done ok)
ran_by m seg e core line named (Err x) (Err y) model ok err same is = λ s h. tt
ran_by m seg e core line named (Err x) (Ok a) model ok err same is = by err
  where
    by : (x ≡ errors.OutOfMemory) ⊎ Stepped m seg e line e.core (replies.Refused x) → StepsAs m seg e (record e { core = core }) named (Ok a)
    by (inl memory) = absurd (subst IsRefusal memory is.refusal)
    by (inr stepped) = model a (subst (λ (c : CoreModel). Stepped m seg e line c (reply_of a)) (sym same) (subst (λ reply. Stepped m seg e line e.core reply) (sym is.reply) stepped))

-- where the core's steps are had for each meaning
pub ran_as : {T : Type 0} (m : Meaning) (seg : Segments) (e : SessionModel) (core : CoreModel) (line named : Line) (ran : Result T SlateDBError) (result : Result Answer SlateDBError) → AnswersBy m seg e core line named →
    OnOk ran ((n : Meaning) (sg : Segments) → Stepped n sg e line core replies.Done) → IfErr ran (λ x. (x ≡ errors.OutOfMemory) ⊎ ((n : Meaning) (sg : Segments) → Stepped n sg e line e.core (replies.Refused x))) → OnErr ran (core ≡ e.core) → IsDone ran result →
    StepsAs m seg e (record e { core = core }) named result
ran_as m seg e core line named (Ok t) result model ok err same is = ran_by m seg e core line named (Ok t) result model (ok m seg) tt tt is
ran_as m seg e core line named (Err x) result model ok err same is = ran_by m seg e core line named (Err x) result model tt (by err) same is
  where
    by : (x ≡ errors.OutOfMemory) ⊎ ((n : Meaning) (sg : Segments) → Stepped n sg e line e.core (replies.Refused x)) → (x ≡ errors.OutOfMemory) ⊎ Stepped m seg e line e.core (replies.Refused x)
    by (inl memory) = inl memory
    by (inr stepped) = inr (stepped m seg)

-- where they are had for each segments
pub ran_in : {T : Type 0} (m : Meaning) (seg : Segments) (e : SessionModel) (core : CoreModel) (line named : Line) (ran : Result T SlateDBError) (result : Result Answer SlateDBError) → AnswersBy m seg e core line named →
    OnOk ran ((sg : Segments) → Stepped m sg e line core replies.Done) → IfErr ran (λ x. (x ≡ errors.OutOfMemory) ⊎ ((sg : Segments) → Stepped m sg e line e.core (replies.Refused x))) → OnErr ran (core ≡ e.core) → IsDone ran result →
    StepsAs m seg e (record e { core = core }) named result
ran_in m seg e core line named (Ok t) result model ok err same is = ran_by m seg e core line named (Ok t) result model (ok seg) tt tt is
ran_in m seg e core line named (Err x) result model ok err same is = ran_by m seg e core line named (Err x) result model tt (by err) same is
  where
    by : (x ≡ errors.OutOfMemory) ⊎ ((sg : Segments) → Stepped m sg e line e.core (replies.Refused x)) → (x ≡ errors.OutOfMemory) ⊎ Stepped m seg e line e.core (replies.Refused x)
    by (inl memory) = inl memory
    by (inr stepped) = inr (stepped seg)

pub ran_cause : {T : Type 0} (L : SlateDBError → Type 0) (ran : Result T SlateDBError) (result : Result Answer SlateDBError) → IsDone ran result → IfErr ran (λ x. (x ≡ errors.OutOfMemory) ⊎ IsRefusal x) →
    IfErr result (λ x. (x ≡ errors.OutOfMemory) ⊎ L x)
ran_cause L ran (Ok a) is cause = tt
ran_cause L (Ok t) (Err y) is cause = absurd (clash is.done)
  where
    clash : Err y ≡ Ok answers.Done → ⊥
    clash h = cc
ran_cause L (Err x) (Err y) is (inl memory) = inl (is.other.0 ∙ memory)
ran_cause L (Err x) (Err y) is (inr refusal) = absurd (is.other.1 refusal)

-- one that only memory refuses
pub memory_refuses : {T : Type 0} (F : Meaning → Segments → SlateDBError → Type 0) (ran : Result T SlateDBError) → IfErr ran (λ x. x ≡ errors.OutOfMemory) → IfErr ran (λ x. (x ≡ errors.OutOfMemory) ⊎ ((n : Meaning) (sg : Segments) → F n sg x))
memory_refuses F (Ok t) cause = tt
memory_refuses F (Err x) cause = inl cause

pub memory_cause : {T : Type 0} (ran : Result T SlateDBError) → IfErr ran (λ x. x ≡ errors.OutOfMemory) → IfErr ran (λ x. (x ≡ errors.OutOfMemory) ⊎ IsRefusal x)
memory_cause (Ok t) cause = tt
memory_cause (Err x) cause = inl cause

-- the errors of an operation are refusals
pub op_cause : {T : Type 0} (ran : Result T SlateDBError) (k : List ℕ) (op : WriteOp) → IfErr ran (λ x. (x ≡ errors.OutOfMemory) ⊎ (op_refusal k op ≡ Some x)) → IfErr ran (λ x. (x ≡ errors.OutOfMemory) ⊎ IsRefusal x)
op_cause (Ok t) k op cause = tt
op_cause (Err x) k op (inl memory) = inl memory
op_cause (Err x) k op (inr refused) = inr (op_refusals k op x refused)

pub merge_cause : {T : Type 0} (A : Type 0) (ran : Result T SlateDBError) (k : List ℕ) (op : WriteOp) → IfErr ran (λ x. (x ≡ errors.OutOfMemory) ⊎ ((x ≡ errors.MergeOperatorMissing) × A) ⊎ (op_refusal k op ≡ Some x)) → IfErr ran (λ x. (x ≡ errors.OutOfMemory) ⊎ IsRefusal x)
merge_cause A (Ok t) k op cause = tt
merge_cause A (Err x) k op (inl memory) = inl memory
merge_cause A (Err x) k op (inr (inl missing)) = inr (subst IsRefusal (sym missing.0) tt)
merge_cause A (Err x) k op (inr (inr refused)) = inr (op_refusals k op x refused)

-- ---- commit

pub commit_unknown : (m : Meaning) (seg : Segments) (e : SessionModel) (name : List ℕ) → find_named name e.names ≡ None → StepsAs m seg e e (lines.Commit name) (Ok (answers.Refused (errors.UnknownTransaction name)))
commit_unknown m seg e name none s h =
    subst (λ o. IsStep e (of_open s name o (commit (rules_in e.core.settings m seg) s name)) (answers.Refused (errors.UnknownTransaction name)))
    (sym (h.txns name ∙ ap (under e.core.state.txns) none)) (h, refl)

-- the commits and the moment are all that it reads beside the transaction
commit_frame : (r : Rules) (s : State) (txns : List (List ℕ × Tx)) (snapshots : List (List ℕ × ℕ)) (flushed : ℕ) (name id : List ℕ) (t : Tx) →
    commit r (record s { txns = txns; snapshots = snapshots; flushed = flushed }) name t
    ≡ (record (commit r s id t).0 { txns = without name txns; snapshots = without name snapshots; flushed = flushed }, (commit r s id t).1)
commit_frame r s txns snapshots flushed name id t = by (commit_refusal r s t) t.ops
  where
    from : State
    from = record s { txns = txns; snapshots = snapshots; flushed = flushed }

    by : (o : Option SlateDBError) (os : Ops) →
        refused_or o (closed from name) (with_reply replies.Committed (as_commit r (closed from name) os (tracked_writes t)))
        ≡ (
          record (refused_or o (closed s id) (with_reply replies.Committed (as_commit r (closed s id) os (tracked_writes t)))).0 { txns = without name txns; snapshots = without name snapshots; flushed = flushed },
          (refused_or o (closed s id) (with_reply replies.Committed (as_commit r (closed s id) os (tracked_writes t)))).1,
        )
    by (Some e) os = refl
    by None [] = refl
    by None (o ∷ os) = refl

pub commit_as : (m : Meaning) (seg : Segments) (e : SessionModel) (core : CoreModel) (fewer : List (List ℕ × List ℕ)) (name id : List ℕ) (a : Answer) → NamesStand e.names e.snapshot_names e.core.state.txns e.core.state.snapshots → find_named name e.names ≡ Some id →
    core.state.txns ≡ without id e.core.state.txns → core.state.snapshots ≡ e.core.state.snapshots → core.state.flushed ≡ e.core.state.flushed → ((q : List ℕ) → find_named q fewer ≡ cond (bytes_eq name q) None (find_named q e.names)) →
    ◌≡◌ {A = State × Reply} (step (rules_in e.core.settings m seg) (at e.now e.core.state) (lines.Commit id)) (at e.now core.state, reply_of a) →
    StepsAs m seg e (record e { core = core; names = fewer }) (lines.Commit name) (Ok a)
commit_as m seg e core fewer name id a stand known txns snapshots flushed updates stepped s h =
    subst (λ (p : State × Reply). IsStep after p a) (sym made) (stands, shown_of a)
  where
    r : Rules
    r = rules_in e.core.settings m seg

    from : State
    from = at e.now e.core.state

    after : SessionModel
    after = record e { core = core; names = fewer }

    tx : (t : IsNamed (find_named id e.core.state.txns)) × (find_named name s.txns ≡ Some t.value)
    tx = tx_under e s name id h stand.transactions known

    unshown : find_named name s.snapshots ≡ None
    unshown = under_none name s.snapshots e.snapshot_names e.core.state.snapshots h.snapshots (apart_first e.names e.snapshot_names name stand.names_apart (subst IsSome (sym known) refl))

    core_step : ◌≡◌ {A = State × Reply} (commit r from id tx.0.value) (at e.now core.state, reply_of a)
    core_step = sym (ap (λ o. of_open from id o (commit r from id)) tx.0.is) ∙ stepped

    made : step r s (lines.Commit name) ≡ (record (at e.now core.state) { txns = without name s.txns; snapshots = without name s.snapshots; flushed = s.flushed }, reply_of a)
    made =
        ap (λ o. of_open s name o (commit r s name)) tx.1
        ∙ ap (λ u. commit r u name tx.0.value) (sym (stands_is e s h))
        ∙ commit_frame r from s.txns s.snapshots s.flushed name id tx.0.value
        ∙ ap (λ (p : State × Reply). (record p.0 { txns = without name s.txns; snapshots = without name s.snapshots; flushed = s.flushed }, p.1)) core_step

    stands : StandsFor after (record (at e.now core.state) { txns = without name s.txns; snapshots = without name s.snapshots; flushed = s.flushed })
    stands = record {
      commits = refl;
      txns = under_same _ _ _ _ (under_taken name id s.txns e.names fewer e.core.state.txns h.once stand.transactions known updates h.txns) (sym txns);
      once = once_without name s.txns h.once;
      snapshots = subst (λ ss. AreUnder ss e.snapshot_names core.state.snapshots) (sym (without_none name s.snapshots unshown)) (under_same _ _ _ _ h.snapshots (sym snapshots));
      snapshots_once = once_without name s.snapshots h.snapshots_once;
      moment = refl;
      flushed = h.flushed ∙ sym flushed;
    }

-- a refused commit
pub refused_as : (m : Meaning) (seg : Segments) (before after : Counts) (e : SessionModel) (core : CoreModel) (fewer : List (List ℕ × List ℕ)) (name id : List ℕ) (error : SlateDBError) (result : Result Answer SlateDBError) →
    ((a : Answer) → ◌≡◌ {A = State × Reply} (step (rules_in e.core.settings m seg) (at e.now e.core.state) (lines.Commit id)) (at e.now core.state, reply_of a) → StepsAs m seg e (record e { core = core; names = fewer }) (lines.Commit name) (Ok a)) →
    IfOk result (λ a. reply_of a ≡ replies.Refused error) → OnOk result (IsRefusal error) →
    IsCounted before after error ⊎ (◌≡◌ {A = State × Reply} (step (rules_in e.core.settings m seg) (at e.now e.core.state) (lines.Commit id)) (at e.now core.state, replies.Refused error)) →
    StepsAs m seg e (record e { core = core; names = fewer }) (lines.Commit name) result
refused_as m seg before after e core fewer name id error (Err x) model is refusal cause = λ s h. tt
refused_as m seg before after e core fewer name id error (Ok a) model is refusal (inl fault) = absurd (fault_unanswered before after error fault refusal)
refused_as m seg before after e core fewer name id error (Ok a) model is refusal (inr stepped) = model a (stepped ∙ ap (λ reply. (at e.now core.state, reply)) (sym is))

-- ---- a moment, as a commit is given it

pub commit_moment : (r : Rules) (old new : CoreModel) (id : List ℕ) (reply : Reply) {given now : ℤ} → given ≡ now → ◌≡◌ {A = State × Reply} (step r (at given old.state) (lines.Commit id)) (at given new.state, reply) →
    ◌≡◌ {A = State × Reply} (step r (at now old.state) (lines.Commit id)) (at now new.state, reply)
commit_moment r old new id reply is h = subst (λ t. ◌≡◌ {A = State × Reply} (step r (at t old.state) (lines.Commit id)) (at t new.state, reply)) is h

pub refused_moment : {A : Type 0} (m : Meaning) (seg : Segments) (old new : CoreModel) (id : List ℕ) (e : SlateDBError) {given now : ℤ} → given ≡ now →
    A ⊎ (◌≡◌ {A = State × Reply} (step (rules_in old.settings m seg) (at given old.state) (lines.Commit id)) (at given new.state, replies.Refused e)) →
    A ⊎ (◌≡◌ {A = State × Reply} (step (rules_in old.settings m seg) (at now old.state) (lines.Commit id)) (at now new.state, replies.Refused e))
refused_moment m seg old new id e is (inl a) = inl a
refused_moment m seg old new id e is (inr h) = inr (commit_moment (rules_in old.settings m seg) old new id (replies.Refused e) is h)
