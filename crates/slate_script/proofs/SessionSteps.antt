-- The steps of the lines that are built, under what a session stands for.
use Rattle.std.proofs.Common.{◌≡◌, ℕ, Bool, true, false, cond, ◌||◌, List, [], ◌∷◌, ◌++◌, map, Option, Some, None, is_some, option_map, Result, Ok, Err, IfOk, OnOk, ℤ, ◌⊎◌, inl, inr, refl, sym, ap, ◌∙◌, subst}
use Rattle.std.specs.Prelude.{IsSome, IfErr, IfSome, ◌==◌, nat_lt, ◌-◌, ◌^◌, length}
use Rattle.std.specs.Option.{option_or}
use Rattle.std.specs.Str.{bytes_eq}
use mir.Val.{SFits}
use Rattle.std.proofs.Common.{pos, negsuc, w64, to_z, of_z, arith}
use Rattle.std.specs.Prelude.{nat_le}
use Rattle.std.proofs.lemmas.Int.{to_z-of_z}
use Rattle.std.proofs.lemmas.Bool.{and_parts}
use Rattle.std.proofs.lemmas.Bool.Decides.{nat_tests}
use Rattle.slate_types.specs.declared.config.IsolationLevel.{IsolationLevel}
use Rattle.slate_types.specs.declared.error.SlateDBError.{SlateDBError}
use Rattle.slate_types.specs.declared.error.SlateDBError.TheVariants as errors
use Rattle.slate_types.specs.Outside.{Counts, IsCounted}
use Rattle.slate_types.specs.declared.types.KeyValue.{KeyValue}
use Rattle.slate_types.specs.Rows.{key_value}
use Rattle.slate_mem.specs.Batch.{Ops, batch_keys}
use Rattle.slate_mem.specs.Refusals.{first_refusal, when, op_refusal}
use Rattle.slate_mem.specs.declared.WriteOp.{WriteOp}
use Rattle.slate_mem.specs.declared.WriteOp.TheVariants.{Put, Delete, Merge}
use Rattle.slate_mem.specs.KeyTests.{Segments}
use Rattle.slate_txn.specs.declared.event.TranscriptStep.{TranscriptStep}
use Rattle.slate_txn.specs.declared.event.TranscriptStep.TheVariants as steps
use Rattle.slate_txn.specs.declared.line.Line.TheVariants as lines
use Rattle.slate_txn.specs.Named.{find_named, without, set_named, update_named}
use Rattle.slate_txn.specs.State.{Rules, Tx, State, begun, last, last_of, is_open}
use Rattle.slate_txn.specs.Reads.{seen}
use Rattle.slate_txn.specs.Refusals.{write_refusal}
use Rattle.slate_txn.specs.Step.{Reader, step, closed, noted, get, get_found, reader, reader_or_snapshot, refused_or, tx_reader, with_reply, as_commit}
use Rattle.slate_txn.specs.Reply as replies
use Rattle.slate_txn.specs.Reply.{Reply}
use Rattle.slate_db.specs.Meaning.{Meaning, rules_in}
use Rattle.slate_db.specs.Model.{CoreModel, IsSame, at}
use Rattle.slate_db.specs.Log.{LIMIT}
use Rattle.slate_language.specs.declared.reply.Answer.{Answer}
use Rattle.slate_language.specs.declared.reply.Answer.TheVariants as answers
use Rattle.slate_language.specs.Answers.{reply_of}
use Rattle.slate_language.proofs.ShownLaws.{shown_of}
use Rattle.slate_language.specs.Grammar.{is_moment}
use Rattle.slate_script.specs.Session.{SessionModel, AreNames, AreUnder, NamesStand, StandsFor, IsStep, StepsAs, IsRefusal, reader_id, reader_under, under}
use Rattle.slate_txn.proofs.NamedLaws.{update_none}
use Rattle.slate_script.proofs.NamesLaws.{once_set, once_update, once_without, without_none}
use Rattle.slate_script.proofs.OpenNames.{Names, apart_first, apart_last, under_changed, under_given, under_none, under_same, under_taken}
use Rattle.slate_script.proofs.SessionNames.{Fresh, FreshSnapshot}
use Rattle.slate_types.proofs.Plain.{none_by_test}

-- ---- what is open

-- a name is open where something reads under it
reads_open : (s : State) (name : List ℕ) → is_open s name ≡ is_some (reader s name)
reads_open s name = by (find_named name s.txns) (find_named name s.snapshots)
  where
    by : (a : Option Tx) (b : Option ℕ) → (is_some a || is_some b) ≡ is_some (reader_or_snapshot a b)
    by (Some t) b = refl
    by None (Some n) = refl
    by None None = refl

-- what the session says of a name
abbrev pub ReadsUnder : SessionModel → List ℕ → Option (List ℕ) → Type 0
ReadsUnder e name o = (s : State) → StandsFor e s → reader s name ≡ reader_under e.core.state o

is_open_there : (e : SessionModel) (s : State) (name : List ℕ) (o : Option (List ℕ)) → StandsFor e s → ReadsUnder e name o → IfSome o (λ id. IsSome (reader e.core.state id)) → is_some o ≡ true → is_open s name ≡ true
is_open_there e s name None h reads live some = cc
is_open_there e s name (Some id) h reads live some = reads_open s name ∙ ap is_some (reads s h) ∙ live

is_shut : (e : SessionModel) (s : State) (name : List ℕ) (o : Option (List ℕ)) → StandsFor e s → ReadsUnder e name o → is_some o ≡ false → is_open s name ≡ false
is_shut e s name None h reads none = reads_open s name ∙ ap is_some (reads s h)
is_shut e s name (Some id) h reads none = cc

both_none : (a b : Option (List ℕ)) → option_or a b ≡ None → (a ≡ None) × (b ≡ None)
both_none None b h = (refl, h)
both_none (Some x) b h = cc

-- neither map has the name
pub unnamed : (e : SessionModel) (name : List ℕ) (o : Option (List ℕ)) → o ≡ reader_id e name → is_some o ≡ false → (find_named name e.names ≡ None) × (find_named name e.snapshot_names ≡ None)
unnamed e name o is none = both_none (find_named name e.names) (find_named name e.snapshot_names) (sym is ∙ none_by_test o none)

pub record IsNamed {X : Type 0} (o : Option X) : Type 0 where
  pub value : X
  pub is : o ≡ Some value

pub named_of : {X : Type 0} (o : Option X) → IsSome o → IsNamed o
named_of None h = cc
named_of (Some x) h = record { value = x; is = refl }

pub named_by : {X : Type 0} (o : Option X) → is_some o ≡ true → IsNamed o
named_by None h = cc
named_by (Some x) h = record { value = x; is = refl }

-- any meaning will do, where a fact is had for each
pub plain_meaning : Meaning
plain_meaning = record { combine = None; encode = λ bytes. bytes; decode = λ bytes. bytes }

-- ---- the moment

pub now_set : (m : Meaning) (seg : Segments) (e : SessionModel) (moment : ℤ) → StepsAs m seg e (record e { now = moment }) (lines.Now moment) (Ok (answers.NowIs moment))
now_set m seg e moment s h = (record { commits = h.commits; txns = h.txns; once = h.once; snapshots = h.snapshots; snapshots_once = h.snapshots_once; moment = refl; flushed = h.flushed }, refl)

-- ---- begin

pub begin_refused : (m : Meaning) (seg : Segments) (e : SessionModel) (name : List ℕ) (level : IsolationLevel) (o : Option (List ℕ)) → ReadsUnder e name o → IfSome o (λ id. IsSome (reader e.core.state id)) → is_some o ≡ true →
    StepsAs m seg e e (lines.Begin name level) (Ok (answers.Refused (errors.DuplicateTransaction name)))
begin_refused m seg e name level o reads live some s h =
    subst (λ b. IsStep e (cond b (s, replies.Refused (errors.DuplicateTransaction name)) (record s { txns = set_named name (begun level (last (rules_in e.core.settings m seg) s)) s.txns }, replies.Begun name (last (rules_in e.core.settings m seg) s)))
    (answers.Refused (errors.DuplicateTransaction name)))
    (sym (is_open_there e s name o h reads live some)) (h, refl)

pub begin_opens : (m : Meaning) (seg : Segments) (e : SessionModel) (core : CoreModel) (more : Names) (name id : List ℕ) (level : IsolationLevel) (n : ℕ) (o : Option (List ℕ)) → NamesStand e.names e.snapshot_names e.core.state.txns e.core.state.snapshots → o ≡ reader_id e name → ReadsUnder e name o → is_some o ≡ false →
    Fresh (rules_in e.core.settings m seg) e.core.state core.state id level n → ((q : List ℕ) → find_named q more ≡ cond (bytes_eq name q) (Some id) (find_named q e.names)) →
    StepsAs m seg e (record e { core = core; names = more }) (lines.Begin name level) (Ok (answers.Begun name n))
begin_opens m seg e core more name id level n o stand id-is reads shut fresh updates s h =
    subst (λ b. IsStep after (cond b (s, replies.Refused (errors.DuplicateTransaction name)) (record s { txns = set_named name (begun level (last r s)) s.txns }, replies.Begun name (last r s))) (answers.Begun name n))
    (sym (is_shut e s name o h reads shut))
    (subst (λ k. IsStep after (record s { txns = set_named name (begun level k) s.txns }, replies.Begun name k) (answers.Begun name n)) lasts (stands, refl))
  where
    r : Rules
    r = rules_in e.core.settings m seg

    after : SessionModel
    after = record e { core = core; names = more }

    tx : Tx
    tx = begun level n

    lasts : n ≡ last r s
    lasts = fresh.at ∙ ap (last_of r.start_seq) (sym h.commits)

    is : core.state ≡ record e.core.state { txns = set_named id tx e.core.state.txns }
    is = fresh.is ∙ ap (λ k. record e.core.state { txns = set_named id (begun level k) e.core.state.txns }) (sym fresh.at)

    gone : find_named name s.txns ≡ None
    gone = under_none name s.txns e.names e.core.state.txns h.txns (unnamed e name o id-is shut).0

    stands : StandsFor after (record s { txns = set_named name tx s.txns })
    stands = record {
      commits = h.commits ∙ ap (λ (c : State). c.commits) (sym is);
      txns = under_same _ _ _ _ (under_given name id tx s.txns e.names more e.core.state.txns gone fresh.none stand.transactions updates h.txns) (ap (λ (c : State). c.txns) (sym is));
      once = once_set name tx s.txns gone h.once;
      snapshots = under_same _ _ _ _ h.snapshots (ap (λ (c : State). c.snapshots) (sym is));
      snapshots_once = h.snapshots_once;
      moment = h.moment;
      flushed = h.flushed ∙ ap (λ (c : State). c.flushed) (sym is);
    }

-- ---- snapshot

pub snapshot_refused : (m : Meaning) (seg : Segments) (e : SessionModel) (name : List ℕ) (o : Option (List ℕ)) → ReadsUnder e name o → IfSome o (λ id. IsSome (reader e.core.state id)) → is_some o ≡ true →
    StepsAs m seg e e (lines.Snapshot name) (Ok (answers.Refused (errors.DuplicateTransaction name)))
snapshot_refused m seg e name o reads live some s h =
    subst (λ b. IsStep e (cond b (s, replies.Refused (errors.DuplicateTransaction name)) (record s { snapshots = set_named name (last (rules_in e.core.settings m seg) s) s.snapshots }, replies.SnapshotAt name (last (rules_in e.core.settings m seg) s)))
    (answers.Refused (errors.DuplicateTransaction name)))
    (sym (is_open_there e s name o h reads live some)) (h, refl)

pub snapshot_opens : (m : Meaning) (seg : Segments) (e : SessionModel) (core : CoreModel) (more : Names) (name id : List ℕ) (n : ℕ) (o : Option (List ℕ)) → NamesStand e.names e.snapshot_names e.core.state.txns e.core.state.snapshots → o ≡ reader_id e name → ReadsUnder e name o → is_some o ≡ false →
    FreshSnapshot (rules_in e.core.settings m seg) e.core.state core.state id n → ((q : List ℕ) → find_named q more ≡ cond (bytes_eq name q) (Some id) (find_named q e.snapshot_names)) →
    StepsAs m seg e (record e { core = core; snapshot_names = more }) (lines.Snapshot name) (Ok (answers.SnapshotAt name n))
snapshot_opens m seg e core more name id n o stand id-is reads shut fresh updates s h =
    subst (λ b. IsStep after (cond b (s, replies.Refused (errors.DuplicateTransaction name)) (record s { snapshots = set_named name (last r s) s.snapshots }, replies.SnapshotAt name (last r s))) (answers.SnapshotAt name n))
    (sym (is_shut e s name o h reads shut))
    (subst (λ k. IsStep after (record s { snapshots = set_named name k s.snapshots }, replies.SnapshotAt name k) (answers.SnapshotAt name n)) lasts (stands, refl))
  where
    r : Rules
    r = rules_in e.core.settings m seg

    after : SessionModel
    after = record e { core = core; snapshot_names = more }

    lasts : n ≡ last r s
    lasts = fresh.at ∙ ap (last_of r.start_seq) (sym h.commits)

    is : core.state ≡ record e.core.state { snapshots = set_named id n e.core.state.snapshots }
    is = fresh.is ∙ ap (λ k. record e.core.state { snapshots = set_named id k e.core.state.snapshots }) (sym fresh.at)

    gone : find_named name s.snapshots ≡ None
    gone = under_none name s.snapshots e.snapshot_names e.core.state.snapshots h.snapshots (unnamed e name o id-is shut).1

    stands : StandsFor after (record s { snapshots = set_named name n s.snapshots })
    stands = record {
      commits = h.commits ∙ ap (λ (c : State). c.commits) (sym is);
      txns = under_same _ _ _ _ h.txns (ap (λ (c : State). c.txns) (sym is));
      once = h.once;
      snapshots = under_same _ _ _ _ (under_given name id n s.snapshots e.snapshot_names more e.core.state.snapshots gone fresh.none stand.shown updates h.snapshots) (ap (λ (c : State). c.snapshots) (sym is));
      snapshots_once = once_set name n s.snapshots gone h.snapshots_once;
      moment = h.moment;
      flushed = h.flushed ∙ ap (λ (c : State). c.flushed) (sym is);
    }

-- ---- rollback

pub rollback_refused : (m : Meaning) (seg : Segments) (e : SessionModel) (name : List ℕ) → find_named name e.names ≡ None → find_named name e.snapshot_names ≡ None →
    StepsAs m seg e e (lines.Rollback name) (Ok (answers.Refused (errors.UnknownTransaction name)))
rollback_refused m seg e name none unshown s h =
    let begun : find_named name s.txns ≡ None = under_none name s.txns e.names e.core.state.txns h.txns none in
    let shown : find_named name s.snapshots ≡ None = under_none name s.snapshots e.snapshot_names e.core.state.snapshots h.snapshots unshown in
    let shut : is_open s name ≡ false = (λ i. is_some (begun i) || is_some (shown i)) in
    subst (λ b. IsStep e (cond b (closed s name, replies.Done) (s, replies.Refused (errors.UnknownTransaction name))) (answers.Refused (errors.UnknownTransaction name))) (sym shut) (h, refl)

-- either makes a name open
opened_by : {A B : Type 0} (a : Option A) (b : Option B) → IsSome a ⊎ IsSome b → (is_some a || is_some b) ≡ true
opened_by (Some x) b h = refl
opened_by None (Some y) h = refl
opened_by None None (inl h) = cc
opened_by None None (inr h) = cc

under_some : {X : Type 0} (name id : List ℕ) (named : List (List ℕ × X)) (names : Names) (ps : List (List ℕ × X)) → AreUnder named names ps → AreNames names ps → find_named name names ≡ Some id → IsSome (find_named name named)
under_some name id named names ps h are known = subst IsSome (sym (h name ∙ ap (under ps) known)) (are.opened name id known)

-- a transaction's name is no snapshot's
pub rollback_closes : (m : Meaning) (seg : Segments) (e : SessionModel) (core : CoreModel) (fewer : Names) (name id : List ℕ) → NamesStand e.names e.snapshot_names e.core.state.txns e.core.state.snapshots → find_named name e.names ≡ Some id →
    core.state ≡ record e.core.state { txns = without id e.core.state.txns } → ((q : List ℕ) → find_named q fewer ≡ cond (bytes_eq name q) None (find_named q e.names)) →
    StepsAs m seg e (record e { core = core; names = fewer }) (lines.Rollback name) (Ok answers.Done)
rollback_closes m seg e core fewer name id stand known is updates s h =
    subst (λ b. IsStep after (cond b (closed s name, replies.Done) (s, replies.Refused (errors.UnknownTransaction name))) answers.Done)
    (sym (opened_by (find_named name s.txns) (find_named name s.snapshots) (inl (under_some name id s.txns e.names e.core.state.txns h.txns stand.transactions known)))) (stands, refl)
  where
    after : SessionModel
    after = record e { core = core; names = fewer }

    unshown : find_named name s.snapshots ≡ None
    unshown = under_none name s.snapshots e.snapshot_names e.core.state.snapshots h.snapshots (apart_first e.names e.snapshot_names name stand.names_apart (subst IsSome (sym known) refl))

    stands : StandsFor after (closed s name)
    stands = record {
      commits = h.commits ∙ ap (λ (c : State). c.commits) (sym is);
      txns = under_same _ _ _ _ (under_taken name id s.txns e.names fewer e.core.state.txns h.once stand.transactions known updates h.txns) (ap (λ (c : State). c.txns) (sym is));
      once = once_without name s.txns h.once;
      snapshots = subst (λ ss. AreUnder ss e.snapshot_names core.state.snapshots) (sym (without_none name s.snapshots unshown)) (under_same _ _ _ _ h.snapshots (ap (λ (c : State). c.snapshots) (sym is)));
      snapshots_once = once_without name s.snapshots h.snapshots_once;
      moment = h.moment;
      flushed = h.flushed ∙ ap (λ (c : State). c.flushed) (sym is);
    }

pub rollback_releases : (m : Meaning) (seg : Segments) (e : SessionModel) (core : CoreModel) (fewer : Names) (name id : List ℕ) → NamesStand e.names e.snapshot_names e.core.state.txns e.core.state.snapshots → find_named name e.snapshot_names ≡ Some id →
    core.state ≡ record e.core.state { snapshots = without id e.core.state.snapshots } → ((q : List ℕ) → find_named q fewer ≡ cond (bytes_eq name q) None (find_named q e.snapshot_names)) →
    StepsAs m seg e (record e { core = core; snapshot_names = fewer }) (lines.Rollback name) (Ok answers.Done)
rollback_releases m seg e core fewer name id stand known is updates s h =
    subst (λ b. IsStep after (cond b (closed s name, replies.Done) (s, replies.Refused (errors.UnknownTransaction name))) answers.Done)
    (sym (opened_by (find_named name s.txns) (find_named name s.snapshots) (inr (under_some name id s.snapshots e.snapshot_names e.core.state.snapshots h.snapshots stand.shown known)))) (stands, refl)
  where
    after : SessionModel
    after = record e { core = core; snapshot_names = fewer }

    unbegun : find_named name s.txns ≡ None
    unbegun = under_none name s.txns e.names e.core.state.txns h.txns (apart_last e.names e.snapshot_names name stand.names_apart (subst IsSome (sym known) refl))

    stands : StandsFor after (closed s name)
    stands = record {
      commits = h.commits ∙ ap (λ (c : State). c.commits) (sym is);
      txns = subst (λ ts. AreUnder ts e.names core.state.txns) (sym (without_none name s.txns unbegun)) (under_same _ _ _ _ h.txns (ap (λ (c : State). c.txns) (sym is)));
      once = once_without name s.txns h.once;
      snapshots = under_same _ _ _ _ (under_taken name id s.snapshots e.snapshot_names fewer e.core.state.snapshots h.snapshots_once stand.shown known updates h.snapshots) (ap (λ (c : State). c.snapshots) (sym is));
      snapshots_once = once_without name s.snapshots h.snapshots_once;
      moment = h.moment;
      flushed = h.flushed ∙ ap (λ (c : State). c.flushed) (sym is);
    }

-- ---- reads

abbrev pub with_steps : List TranscriptStep → Tx → Tx
with_steps ts t = record t { transcript = t.transcript ++ ts }

-- the core is as it was, but for what no name shows
pub stands_same : (e : SessionModel) (s : State) (core : CoreModel) → StandsFor e s → core.state ≡ e.core.state → StandsFor (record e { core = core }) s
stands_same e s core h is = record {
  commits = h.commits ∙ ap (λ (c : State). c.commits) (sym is);
  txns = under_same _ _ _ _ h.txns (ap (λ (c : State). c.txns) (sym is));
  once = h.once;
  snapshots = under_same _ _ _ _ h.snapshots (ap (λ (c : State). c.snapshots) (sym is));
  snapshots_once = h.snapshots_once;
  moment = h.moment;
  flushed = h.flushed ∙ ap (λ (c : State). c.flushed) (sym is);
}

-- the name's transaction is changed
pub stands_updated : (e : SessionModel) (s : State) (core : CoreModel) (name id : List ℕ) (f : Tx → Tx) → StandsFor e s → AreNames e.names e.core.state.txns → find_named name e.names ≡ Some id →
    core.state ≡ record e.core.state { txns = update_named id f e.core.state.txns } → StandsFor (record e { core = core }) (record s { txns = update_named name f s.txns })
stands_updated e s core name id f h names known is = record {
  commits = h.commits ∙ ap (λ (c : State). c.commits) (sym is);
  txns = under_same _ _ _ _ (under_changed name id f s.txns e.names e.core.state.txns names known h.txns) (ap (λ (c : State). c.txns) (sym is));
  once = once_update name f s.txns h.once;
  snapshots = under_same _ _ _ _ h.snapshots (ap (λ (c : State). c.snapshots) (sym is));
  snapshots_once = h.snapshots_once;
  moment = h.moment;
  flushed = h.flushed ∙ ap (λ (c : State). c.flushed) (sym is);
}

-- the name reads as its id does, and what the core notes under the id is what the model notes under the name
pub record ReadsAs (e : SessionModel) (s : State) (name id : List ℕ) : Type 0 where
  pub from : Reader
  pub here : reader s name ≡ Some from
  pub there : reader e.core.state id ≡ Some from
  pub notes : (ts : List TranscriptStep) (core : CoreModel) → core.state ≡ noted e.core.state id ts → StandsFor (record e { core = core }) (noted s name ts)

reads_txn : (e : SessionModel) (s : State) (name id : List ℕ) → StandsFor e s → NamesStand e.names e.snapshot_names e.core.state.txns e.core.state.snapshots → find_named name e.names ≡ Some id → ReadsAs e s name id
reads_txn e s name id h stand known = record {
  from = tx_reader tx.value;
  here = ap (λ o. reader_or_snapshot o (find_named name s.snapshots)) (h.txns name ∙ ap (under e.core.state.txns) known ∙ tx.is);
  there = ap (λ o. reader_or_snapshot o (find_named id e.core.state.snapshots)) tx.is;
  notes = λ ts core is. stands_updated e s core name id (with_steps ts) h stand.transactions known is;
}
  where
    tx : IsNamed (find_named id e.core.state.txns)
    tx = named_of (find_named id e.core.state.txns) (stand.transactions.opened name id known)

reads_snapshot : (e : SessionModel) (s : State) (name id : List ℕ) → StandsFor e s → NamesStand e.names e.snapshot_names e.core.state.txns e.core.state.snapshots → find_named name e.snapshot_names ≡ Some id → ReadsAs e s name id
reads_snapshot e s name id h stand known = record {
  from = record { at = seq.value; ops = []; scans = 0 };
  here = (λ i. reader_or_snapshot (unbegun i) (seq_is i));
  there = (λ i. reader_or_snapshot (unbegun_id i) (seq.is i));
  notes = λ ts core is.
      subst (λ us. StandsFor (record e { core = core }) (record s { txns = us })) (sym (update_none name (with_steps ts) s.txns unbegun))
      (stands_same e s core h (is ∙ ap (λ us. record e.core.state { txns = us }) (update_none id (with_steps ts) e.core.state.txns unbegun_id)));
}
  where
    seq : IsNamed (find_named id e.core.state.snapshots)
    seq = named_of (find_named id e.core.state.snapshots) (stand.shown.opened name id known)

    seq_is : find_named name s.snapshots ≡ Some seq.value
    seq_is = h.snapshots name ∙ ap (under e.core.state.snapshots) known ∙ seq.is

    unbegun : find_named name s.txns ≡ None
    unbegun = under_none name s.txns e.names e.core.state.txns h.txns (apart_last e.names e.snapshot_names name stand.names_apart (subst IsSome (sym known) refl))

    unbegun_id : find_named id e.core.state.txns ≡ None
    unbegun_id = apart_last e.core.state.txns e.core.state.snapshots id stand.ids_apart (stand.shown.opened name id known)

-- where an id is of two options the first one's, or else the last one's
pub from_either : {Q : Type 0} (a b : Option (List ℕ)) (id : List ℕ) → (a ≡ Some id → Q) → (b ≡ Some id → Q) → option_or a b ≡ Some id → Q
from_either None b id first last is = last is
from_either (Some x) b id first last is = first is

pub reads_as : (e : SessionModel) (s : State) (name id : List ℕ) → StandsFor e s → NamesStand e.names e.snapshot_names e.core.state.txns e.core.state.snapshots → reader_id e name ≡ Some id → ReadsAs e s name id
reads_as e s name id h stand known = from_either (find_named name e.names) (find_named name e.snapshot_names) id (reads_txn e s name id h stand) (reads_snapshot e s name id h stand) known

some_reader : (c : State) (id : List ℕ) → IsSome (find_named id c.txns) ⊎ IsSome (find_named id c.snapshots) → IsSome (reader c id)
some_reader c id some = by (find_named id c.txns) (find_named id c.snapshots) some
  where
    by : (a : Option Tx) (b : Option ℕ) → IsSome a ⊎ IsSome b → IsSome (reader_or_snapshot a b)
    by (Some t) b h = refl
    by None (Some n) h = refl
    by None None (inl h) = cc
    by None None (inr h) = cc

is_read : (e : SessionModel) (name id : List ℕ) → NamesStand e.names e.snapshot_names e.core.state.txns e.core.state.snapshots → reader_id e name ≡ Some id → IsSome (reader e.core.state id)
is_read e name id stand known =
    from_either (find_named name e.names) (find_named name e.snapshot_names) id (λ is. some_reader e.core.state id (inl (stand.transactions.opened name id is))) (λ is. some_reader e.core.state id (inr (stand.shown.opened name id is))) known

not_read : (e : SessionModel) (s : State) (name : List ℕ) → StandsFor e s → reader_id e name ≡ None → reader s name ≡ None
not_read e s name h none =
    let parts : (find_named name e.names ≡ None) × (find_named name e.snapshot_names ≡ None) = both_none (find_named name e.names) (find_named name e.snapshot_names) none in
    let begun = under_none name s.txns e.names e.core.state.txns h.txns parts.0 in
    let shown = under_none name s.snapshots e.snapshot_names e.core.state.snapshots h.snapshots parts.1 in
    (λ i. reader_or_snapshot (begun i) (shown i))

-- what the id of a name reads is what the name reads
pub reads_under : (e : SessionModel) (name : List ℕ) (o : Option (List ℕ)) → NamesStand e.names e.snapshot_names e.core.state.txns e.core.state.snapshots → o ≡ reader_id e name → ReadsUnder e name o
reads_under e name None stand is s h = not_read e s name h (sym is)
reads_under e name (Some id) stand is s h = let reads : ReadsAs e s name id = reads_as e s name id h stand (sym is) in reads.here ∙ sym reads.there

pub open_under : (e : SessionModel) (name : List ℕ) (o : Option (List ℕ)) → NamesStand e.names e.snapshot_names e.core.state.txns e.core.state.snapshots → o ≡ reader_id e name → IfSome o (λ id. IsSome (reader e.core.state id))
open_under e name None stand is = tt
open_under e name (Some id) stand is = is_read e name id stand (sym is)

-- ---- get

pub get_refused : (m : Meaning) (seg : Segments) (e : SessionModel) (name k : List ℕ) (o : Option (List ℕ)) → ReadsUnder e name o → o ≡ None → StepsAs m seg e e (lines.Get name k) (Ok (answers.Refused (errors.UnknownTransaction name)))
get_refused m seg e name k o reads none s h =
    subst (λ p. IsStep e (get (rules_in e.core.settings m seg) s name k p) (answers.Refused (errors.UnknownTransaction name))) (sym (reads s h ∙ ap (reader_under e.core.state) none)) (h, refl)

found_same : (a b : Option KeyValue) → replies.Found a ≡ replies.Found b → a ≡ b
found_same a b h = cc

-- the core's answer is the model's
pub found_by_get : (m : Meaning) (seg : Segments) (e : SessionModel) (core : CoreModel) (name id k : List ℕ) (row : Option KeyValue) → NamesStand e.names e.snapshot_names e.core.state.txns e.core.state.snapshots → reader_id e name ≡ Some id →
    step (rules_in e.core.settings m seg) e.core.state (lines.Get id k) ≡ (core.state, replies.Found row) →
    StepsAs m seg e (record e { core = core }) (lines.Get name k) (Ok (answers.Found row))
found_by_get m seg e core name id k row stand known stepped s h =
    subst (λ o. IsStep after (get r s name k o) (answers.Found row)) (sym reads.here)
    (reads.notes (steps.Get k (option_map key_value (seen r s.commits reads.from.at reads.from.ops k)) ∷ []) core (sym (ap (λ p. p.0) core_step) ∙ noted_same), ap replies.Found row_is)
  where
    r : Rules
    r = rules_in e.core.settings m seg

    after : SessionModel
    after = record e { core = core }

    reads : ReadsAs e s name id
    reads = reads_as e s name id h stand known

    core_step : get_found e.core.state id k (seen r e.core.state.commits reads.from.at reads.from.ops k) ≡ (core.state, replies.Found row)
    core_step = sym (ap (get r e.core.state id k) reads.there) ∙ stepped

    sees : seen r s.commits reads.from.at reads.from.ops k ≡ seen r e.core.state.commits reads.from.at reads.from.ops k
    sees = ap (λ cs. seen r cs reads.from.at reads.from.ops k) h.commits

    row_is : row ≡ option_map key_value (seen r s.commits reads.from.at reads.from.ops k)
    row_is = sym (found_same _ _ (ap (λ p. p.1) core_step)) ∙ ap (option_map key_value) (sym sees)

    noted_same : noted e.core.state id (steps.Get k (option_map key_value (seen r e.core.state.commits reads.from.at reads.from.ops k)) ∷ []) ≡ noted e.core.state id (steps.Get k (option_map key_value (seen r s.commits reads.from.at reads.from.ops k)) ∷ [])
    noted_same = ap (λ o. noted e.core.state id (steps.Get k (option_map key_value o) ∷ [])) (sym sees)

-- ---- write

-- what it makes of the commits is all that it changes, and the moment and the commits are all that it reads
write_frame : (r : Rules) (s : State) (txns : List (List ℕ × Tx)) (snapshots : List (List ℕ × ℕ)) (flushed : ℕ) (ops : Ops) →
    step r (record s { txns = txns; snapshots = snapshots; flushed = flushed }) (lines.Write ops)
    ≡ (record (step r s (lines.Write ops)).0 { txns = txns; snapshots = snapshots; flushed = flushed }, (step r s (lines.Write ops)).1)
write_frame r s txns snapshots flushed ops = by (write_refusal r s ops) ops
  where
    by : (o : Option SlateDBError) (os : Ops) →
        refused_or o (record s { txns = txns; snapshots = snapshots; flushed = flushed }) (with_reply replies.Written (as_commit r (record s { txns = txns; snapshots = snapshots; flushed = flushed }) os (batch_keys os)))
        ≡ (record (refused_or o s (with_reply replies.Written (as_commit r s os (batch_keys os)))).0 { txns = txns; snapshots = snapshots; flushed = flushed }, (refused_or o s (with_reply replies.Written (as_commit r s os (batch_keys os)))).1)
    by (Some e) os = refl
    by None [] = refl
    by None (o ∷ os) = refl

pub stands_is : (e : SessionModel) (s : State) → StandsFor e s → record (at e.now e.core.state) { txns = s.txns; snapshots = s.snapshots; flushed = s.flushed } ≡ s
stands_is e s h = let cs = sym h.commits in let ns = sym h.moment in λ i. record { commits = cs i; txns = s.txns; snapshots = s.snapshots; now = ns i; flushed = s.flushed }

-- the core's step of a write is the model's
pub write_as : (m : Meaning) (seg : Segments) (e : SessionModel) (core : CoreModel) (ops : Ops) (a : Answer) → core.state.txns ≡ e.core.state.txns → core.state.snapshots ≡ e.core.state.snapshots → core.state.flushed ≡ e.core.state.flushed →
    step (rules_in e.core.settings m seg) (at e.now e.core.state) (lines.Write ops) ≡ (at e.now core.state, reply_of a) → StepsAs m seg e (record e { core = core }) (lines.Write ops) (Ok a)
write_as m seg e core ops a txns snapshots flushed stepped s h =
    subst (λ (p : State × Reply). IsStep (record e { core = core }) p a) (sym made) (
      record {
        commits = refl;
        txns = under_same _ _ _ _ h.txns (sym txns);
        once = h.once;
        snapshots = under_same _ _ _ _ h.snapshots (sym snapshots);
        snapshots_once = h.snapshots_once;
        moment = refl;
        flushed = h.flushed ∙ sym flushed;
      },
      shown_of a,
    )
  where
    r : Rules
    r = rules_in e.core.settings m seg

    made : step r s (lines.Write ops) ≡ (record (at e.now core.state) { txns = s.txns; snapshots = s.snapshots; flushed = s.flushed }, reply_of a)
    made =
        ap (λ t. step r t (lines.Write ops)) (sym (stands_is e s h)) ∙ write_frame r (at e.now e.core.state) s.txns s.snapshots s.flushed ops
        ∙ ap (λ (p : State × Reply). (record p.0 { txns = s.txns; snapshots = s.snapshots; flushed = s.flushed }, p.1)) stepped

first_of : (es fs : List (Option SlateDBError)) (e : SlateDBError) → first_refusal es ≡ Some e → first_refusal (es ++ fs) ≡ Some e
first_of [] fs e h = cc
first_of (None ∷ es) fs e h = first_of es fs e h
first_of (Some x ∷ es) fs e h = h

-- an operation is refused
pub write_refused : (m : Meaning) (seg : Segments) (e : SessionModel) (ops : Ops) (error : SlateDBError) (a : Answer) → first_refusal (map (λ o. op_refusal o.0 o.1) ops) ≡ Some error → reply_of a ≡ replies.Refused error →
    StepsAs m seg e e (lines.Write ops) (Ok a)
write_refused m seg e ops error a refused is s h =
    subst (λ o. IsStep e (refused_or o s (with_reply replies.Written (as_commit (rules_in e.core.settings m seg) s ops (batch_keys ops)))) a)
    (sym (first_of (map (λ o. op_refusal o.0 o.1) ops) _ error refused)) (h, is)

-- ---- freeze and flush

frozen_same : (a b : ℕ) → replies.Frozen a ≡ replies.Frozen b → b ≡ a
frozen_same a b h = cc

flushed_same : (a b : ℕ) → replies.Flushed a ≡ replies.Flushed b → b ≡ a
flushed_same a b h = cc

lasts : (e : SessionModel) (s : State) (r : Rules) → StandsFor e s → last r e.core.state ≡ last r s
lasts e s r h = ap (last_of r.start_seq) (sym h.commits)

pub freeze_as : (m : Meaning) (seg : Segments) (e : SessionModel) (core : CoreModel) (n : ℕ) → step (rules_in e.core.settings m seg) e.core.state lines.Freeze ≡ (core.state, replies.Frozen n) →
    StepsAs m seg e (record e { core = core }) lines.Freeze (Ok (answers.Frozen n))
freeze_as m seg e core n stepped s h = (
  record {
    commits = h.commits ∙ ap (λ (c : State). c.commits) is;
    txns = under_same _ _ _ _ h.txns (ap (λ (c : State). c.txns) is);
    once = h.once;
    snapshots = under_same _ _ _ _ h.snapshots (ap (λ (c : State). c.snapshots) is);
    snapshots_once = h.snapshots_once;
    moment = h.moment;
    flushed = h.flushed ∙ ap (λ (c : State). c.flushed) is;
  },
  ap replies.Frozen (frozen_same _ n (ap (λ p. p.1) stepped) ∙ lasts e s (rules_in e.core.settings m seg) h),
)
  where
    is : e.core.state ≡ core.state
    is = ap (λ p. p.0) stepped

pub flush_as : (m : Meaning) (seg : Segments) (e : SessionModel) (core : CoreModel) (n : ℕ) → step (rules_in e.core.settings m seg) e.core.state lines.Flush ≡ (core.state, replies.Flushed n) →
    StepsAs m seg e (record e { core = core }) lines.Flush (Ok (answers.Flushed n))
flush_as m seg e core n stepped s h = (
  record {
    commits = h.commits ∙ ap (λ (c : State). c.commits) is;
    txns = under_same _ _ _ _ h.txns (ap (λ (c : State). c.txns) is);
    once = h.once;
    snapshots = under_same _ _ _ _ h.snapshots (ap (λ (c : State). c.snapshots) is);
    snapshots_once = h.snapshots_once;
    moment = h.moment;
    flushed = sym (lasts e s r h) ∙ ap (λ (c : State). c.flushed) is;
  },
  ap replies.Flushed (flushed_same _ n (ap (λ p. p.1) stepped) ∙ lasts e s r h),
)
  where
    r : Rules
    r = rules_in e.core.settings m seg

    is : record e.core.state { flushed = last r e.core.state } ≡ core.state
    is = ap (λ p. p.0) stepped

-- ---- a batch that is refused

pub some_error : (a b : SlateDBError) → Some a ≡ Some b → a ≡ b
some_error a b h = cc

-- a fault isn't answered
pub fault_unanswered : (before after : Counts) (e : SlateDBError) → IsCounted before after e → IsRefusal e → ⊥
fault_unanswered before after errors.OutOfMemory fault refusal = refusal
fault_unanswered before after errors.StoreFault fault refusal = refusal
fault_unanswered before after (errors.Callback message) fault refusal = refusal
fault_unanswered before after errors.BlockTransformError fault refusal = refusal
fault_unanswered before after e fault refusal = fault

refused_commit : (m : Meaning) (seg : Segments) (before after : Counts) (e : SessionModel) (core : CoreModel) (ops : Ops) (error : SlateDBError) (a : Answer) → IsSame e.core core → reply_of a ≡ replies.Refused error → IsRefusal error →
    IsCounted before after error ⊎ ((error ≡ errors.LimitReached LIMIT) ⊎ (step (rules_in e.core.settings m seg) (at e.now e.core.state) (lines.Write ops) ≡ (at e.now e.core.state, replies.Refused error))) →
    StepsAs m seg e (record e { core = core }) (lines.Write ops) (Ok a)
refused_commit m seg before after e core ops error a same is refusal (inl fault) = absurd (fault_unanswered before after error fault refusal)
refused_commit m seg before after e core ops error a same is refusal (inr (inl limit)) = absurd (subst IsRefusal limit refusal)
refused_commit m seg before after e core ops error a same is refusal (inr (inr stepped)) =
    write_as m seg e core ops a (ap (λ (c : CoreModel). c.state.txns) same) (ap (λ (c : CoreModel). c.state.snapshots) same) (ap (λ (c : CoreModel). c.state.flushed) same)
    (stepped ∙ (let s = sym same in let r = sym is in λ i. (at e.now ((s i).state), r i)))

pub commit_refused : (m : Meaning) (seg : Segments) (before after : Counts) (e : SessionModel) (core : CoreModel) (ops : Ops) (error : SlateDBError) (result : Result Answer SlateDBError) → IsSame e.core core →
    IfOk result (λ a. reply_of a ≡ replies.Refused error) → OnOk result (IsRefusal error) →
    IsCounted before after error ⊎ ((error ≡ errors.LimitReached LIMIT) ⊎ (step (rules_in e.core.settings m seg) (at e.now e.core.state) (lines.Write ops) ≡ (at e.now e.core.state, replies.Refused error))) →
    StepsAs m seg e (record e { core = core }) (lines.Write ops) result
commit_refused m seg before after e core ops error (Ok a) same is refusal cause = refused_commit m seg before after e core ops error a same is refusal cause
commit_refused m seg before after e core ops error (Err x) same is refusal cause = λ s h. tt

pub batch_refused : (m : Meaning) (seg : Segments) (e : SessionModel) (ops : Ops) (error : SlateDBError) (result : Result Answer SlateDBError) →
    IfOk result (λ a. reply_of a ≡ replies.Refused error) → OnOk result (IsRefusal error) →
    (error ≡ errors.OutOfMemory) ⊎ (first_refusal (map (λ o. op_refusal o.0 o.1) ops) ≡ Some error) → StepsAs m seg e e (lines.Write ops) result
batch_refused m seg e ops error (Ok a) is refusal (inl memory) = absurd (subst IsRefusal memory refusal)
batch_refused m seg e ops error (Ok a) is refusal (inr refused) = write_refused m seg e ops error a refused is
batch_refused m seg e ops error (Err x) is refusal cause = λ s h. tt

-- a cause that is had for all operations
pub at_ops : {A B : Type 0} {F : Ops → Type 0} (ops : Ops) {O P : Ops → Type 0} → O ops → P ops → A ⊎ (B ⊎ ((os : Ops) → O os → P os → F os)) → A ⊎ (B ⊎ F ops)
at_ops ops of fine (inl a) = inl a
at_ops ops of fine (inr (inl b)) = inr (inl b)
at_ops ops of fine (inr (inr f)) = inr (inr (f ops of fine))

-- ---- an operation's refusals are answered

key_refusals : (a b : Bool) (n : ℕ) (rest : List (Option SlateDBError)) (e : SlateDBError) → (first_refusal rest ≡ Some e → IsRefusal e) → first_refusal (when a errors.EmptyKey ∷ when b (errors.KeyTooLong n) ∷ rest) ≡ Some e → IsRefusal e
key_refusals true b n rest e later h = subst IsRefusal (some_error errors.EmptyKey e h) tt
key_refusals false true n rest e later h = subst IsRefusal (some_error (errors.KeyTooLong n) e h) tt
key_refusals false false n rest e later h = later h

value_refusals : (a : Bool) (n : ℕ) (e : SlateDBError) → first_refusal (when a (errors.ValueTooLong n) ∷ []) ≡ Some e → IsRefusal e
value_refusals true n e h = subst IsRefusal (some_error (errors.ValueTooLong n) e h) tt
value_refusals false n e h = cc

no_refusals : (e : SlateDBError) → first_refusal [] ≡ Some e → IsRefusal e
no_refusals e h = cc

pub op_refusals : (k : List ℕ) (op : WriteOp) (e : SlateDBError) → op_refusal k op ≡ Some e → IsRefusal e
op_refusals k (Put v o) e h = key_refusals (length k == 0) (nat_lt 65535 (length k)) (length k) _ e (value_refusals (nat_lt (2 ^ 32 - 1) (length v)) (length v) e) h
op_refusals k Delete e h = key_refusals (length k == 0) (nat_lt 65535 (length k)) (length k) [] e (no_refusals e) h
op_refusals k (Merge v o) e h = key_refusals (length k == 0) (nat_lt 65535 (length k)) (length k) _ e (value_refusals (nat_lt (2 ^ 32 - 1) (length v)) (length v) e) h

refusals_are : (ops : Ops) (e : SlateDBError) → first_refusal (map (λ o. op_refusal o.0 o.1) ops) ≡ Some e → IsRefusal e
refusals_are [] e h = cc
refusals_are (o ∷ os) e h = by (op_refusal o.0 o.1) refl (refusals_are os e) h
  where
    by : (x : Option SlateDBError) → op_refusal o.0 o.1 ≡ x → (first_refusal (map (λ o. op_refusal o.0 o.1) os) ≡ Some e → IsRefusal e) → first_refusal (x ∷ map (λ o. op_refusal o.0 o.1) os) ≡ Some e → IsRefusal e
    by None is later h = later h
    by (Some y) is later h = op_refusals o.0 o.1 e (is ∙ h)

pub refused_cause : (L : SlateDBError → Type 0) (ops : Ops) (error : SlateDBError) (result : Result Answer SlateDBError) → IfErr result (λ e. (e ≡ error) × (IsRefusal error → ⊥)) →
    (error ≡ errors.OutOfMemory) ⊎ (first_refusal (map (λ o. op_refusal o.0 o.1) ops) ≡ Some error) → IfErr result (λ e. (e ≡ errors.OutOfMemory) ⊎ L e)
refused_cause L ops error (Ok a) other cause = tt
refused_cause L ops error (Err x) other (inl memory) = inl (other.0 ∙ memory)
refused_cause L ops error (Err x) other (inr refused) = absurd (other.1 (refusals_are ops error refused))

-- ---- a moment, as a call is given it

moment_fits : (z : ℤ) → is_moment z ≡ true → SFits w64 z
moment_fits (pos n) h = let k : nat_le n (2 ^ 63 - 1) ≡ true = h in grind (arith, nat_tests)
moment_fits (negsuc n) h = let k : nat_le n (2 ^ 63 - 1) ≡ true = (and_parts (nat_le n (2 ^ 63 - 1)) true h).0 in grind (arith, nat_tests)

pub given_moment : (z : ℤ) → is_moment z ≡ true → to_z w64 (of_z w64 z) ≡ z
given_moment z h = to_z-of_z w64 z (moment_fits z h)

pub at_moment : (r : Rules) (old new : CoreModel) (ops : Ops) (reply : Reply) {given now : ℤ} → given ≡ now → ◌≡◌ {A = State × Reply} (step r (at given old.state) (lines.Write ops)) (at given new.state, reply) →
    ◌≡◌ {A = State × Reply} (step r (at now old.state) (lines.Write ops)) (at now new.state, reply)
at_moment r old new ops reply is h = subst (λ t. ◌≡◌ {A = State × Reply} (step r (at t old.state) (lines.Write ops)) (at t new.state, reply)) is h

pub refused_at_moment : {A B : Type 0} (r : Rules) (old : CoreModel) (ops : Ops) (e : SlateDBError) {given now : ℤ} → given ≡ now →
    A ⊎ (B ⊎ (◌≡◌ {A = State × Reply} (step r (at given old.state) (lines.Write ops)) (at given old.state, replies.Refused e))) →
    A ⊎ (B ⊎ (◌≡◌ {A = State × Reply} (step r (at now old.state) (lines.Write ops)) (at now old.state, replies.Refused e)))
refused_at_moment r old ops e is (inl a) = inl a
refused_at_moment r old ops e is (inr (inl b)) = inr (inl b)
refused_at_moment r old ops e is (inr (inr h)) = inr (inr (at_moment r old old ops (replies.Refused e) is h))
