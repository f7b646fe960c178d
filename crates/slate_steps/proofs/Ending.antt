-- A transaction ends, with a commit or without one.
use Rattle.std.proofs.Common.{◌≡◌, ◌≢◌, ◌+◌, ◌-◌, ◌^◌, ◌<◌, ◌≤◌, ◌⊎◌, ◌||◌, inl, inr, ℕ, ℤ, Bool, true, false, cond, not, is_some, bytes_eq, List, [], ◌∷◌, ◌++◌, filter, length, append_assoc, Option, Some, None, Result, Ok, Err, refl, sym, ap, subst, ◌∙◌, arith, option_map}
use Rattle.std.specs.Prelude.{IfErr, IfOk, OnErr, OnOk}
use Rattle.std.specs.List.{AllByRecursion}
use Rattle.std.proofs.lemmas.Slice.Eq.{bytes_eq-Decides}
use Rattle.slate_types.proofs.Lists.{AllByRecursion_weaken}
use Rattle.slate_types.specs.Outside.{IsFault, Meaning, Reach, no_parts}
use Rattle.slate_types.specs.declared.config.IsolationLevel.{IsolationLevel}
use Rattle.slate_types.specs.declared.error.SlateDBError.{SlateDBError}
use Rattle.slate_types.specs.declared.error.SlateDBError.TheVariants.{OutOfMemory, SequenceExhausted, UnknownTransaction}
use Rattle.slate_types.specs.Keys.{among}
use Rattle.slate_types.specs.Lawful.{Lengths}
use Rattle.slate_mem.specs.Batch.{Ops, batch_keys, kept_ops}
use Rattle.slate_mem.specs.BatchModel.{holds_merge}
use Rattle.slate_mem.specs.KeyTests.{Segments, point_lengths}
use Rattle.slate_mem.proofs.PlainLaws.{plain_passes}
use Rattle.slate_txn.specs.declared.event.Event.{Event}
use Rattle.slate_txn.specs.declared.event.Event.TheVariants as events
use Rattle.slate_txn.specs.declared.event.TranscriptStep.{TranscriptStep}
use Rattle.slate_txn.specs.declared.line.Line.TheVariants as lines
use Rattle.slate_txn.specs.Alone.{own_of}
use Rattle.slate_txn.specs.Conflict.{conflict, tracked_writes}
use Rattle.slate_txn.specs.HandedOver.{IsConflict}
use Rattle.slate_txn.specs.Laws.{ConflictsNeedACommit, Counts}
use Rattle.slate_txn.specs.Named.{find_named, set_named, without}
use Rattle.slate_txn.specs.Replay.{Allowed, IsLegal, IsNextOrNone, LegalFrom, apply, apply_all, commit_made, ids_of, replay}
use Rattle.slate_txn.specs.Reply.{Done, Refused, Reply}
use Rattle.slate_txn.specs.State.{Commit, State, Tx, is_open, last_of, opening}
use Rattle.slate_txn.specs.Step.{closed, step}
use Rattle.slate_txn.proofs.NamedLaws.{without_last}
use Rattle.slate_txn.proofs.PlaceLaws.{counts_last}
use Rattle.slate_txn.proofs.SequenceLaws.{legal_counts}
use Rattle.slate_db.specs.BatchTests.{test_refusal}
use Rattle.slate_db.specs.Committed.{IsCommitted, IsEnded, after_commit, without_txn}
use Rattle.slate_db.specs.Installs.{Replays}
use Rattle.slate_db.specs.Load.{load}
use Rattle.slate_db.specs.Meaning.{rules_in, segments_by}
use Rattle.slate_db.specs.Model.{CoreModel, Rows}
use Rattle.slate_db.specs.Segmented.{IsSegmented}
use Rattle.slate_db.specs.Sound.{IsKept}
use Rattle.slate_db.specs.Vouched.{IsVouchedFor}
use Rattle.slate_steps.specs.Steps.{HasCommitted, HasEnded, IsNext, IsWithin, newest, taking, with_transaction}
use Rattle.slate_steps.proofs.LastNamed.{find_last, without_none}
use Rattle.slate_steps.proofs.Taking.{no_snapshot, no_transaction, within_commits, within_found, within_others, within_settings}

-- ---- without a commit

ended_as : (c d e : CoreModel) (id : List ℕ) (level : IsolationLevel) (ts : List TranscriptStep) → e ≡ record d { state = e.state; events = d.events ++ (events.End id ∷ []); spare = e.spare } → e.state ≡ c.state →
    ((m : Meaning) → IsKept m d → IsKept m e) → IsWithin c id level ts d → HasEnded c id level e
ended_as c d e id level ts is state kept h = record {
  is = is
      ∙ ap (λ (v : CoreModel). record v { state = e.state; events = v.events ++ (events.End id ∷ []); spare = e.spare }) h.is
      ∙ (λ i. record c { state = state i; events = append_assoc c.events (events.Begin id level (newest c) ∷ []) (events.End id ∷ []) i; spare = e.spare });
  kept = λ m k. kept m (h.kept m k);
}

module _ (c d : CoreModel) (id : List ℕ) (level : IsolationLevel) (ts : List TranscriptStep) (h : IsWithin c id level ts d) where
  abbrev opened : State
  opened = record c.state { txns = set_named id (taking (newest c) level ts) c.state.txns }

  opened_is : d.state ≡ opened
  opened_is = ap (λ (v : CoreModel). v.state) h.is

  gone : without id (set_named id (taking (newest c) level ts) c.state.txns) ≡ c.state.txns
  gone = without_last id (taking (newest c) level ts) c.state.txns (no_transaction c.state id h.fresh)

  open_there : is_open opened id ≡ true
  open_there = ap (λ (o : Option Tx). is_some o || is_some (find_named id c.state.snapshots)) (find_last id (taking (newest c) level ts) c.state.txns (no_transaction c.state id h.fresh))

  closed_is : closed opened id ≡ c.state
  closed_is = λ i. record c.state { txns = gone i; snapshots = without_none id c.state.snapshots (no_snapshot c.state id h.fresh) i }

  pub rolled_back : (e : CoreModel) → ((m : Meaning) (g : Segments) → step (rules_in d.settings m g) d.state (lines.Rollback id) ≡ (e.state, Done)) →
      e ≡ record d { state = e.state; events = d.events ++ (events.End id ∷ []); spare = e.spare } → ((m : Meaning) → IsKept m d → IsKept m e) → HasEnded c id level e
  rolled_back e stepped is kept = ended_as c d e id level ts is (ap (λ (p : State × Reply). p.0) there ∙ closed_is) kept h
    where
      there : ◌≡◌ {A = State × Reply} (e.state, Done) (closed opened id, Done)
      there = sym (stepped no_parts None)
          ∙ ap (λ (s : State). step (rules_in d.settings no_parts None) s (lines.Rollback id)) opened_is
          ∙ ap (λ (b : Bool). cond b (closed opened id, Done) (opened, Refused (UnknownTransaction id))) open_there

  pub refused_commit : (e : CoreModel) → IsEnded d e id → ((m : Meaning) → IsKept m d → IsKept m e) → HasEnded c id level e
  refused_commit e is kept = ended_as c d e id level ts
      (is ∙ ap (λ (s : State). record d { state = s; events = d.events ++ (events.End id ∷ []); spare = e.spare }) (sym state)) (state ∙ left) kept h
    where
      state : e.state ≡ without_txn d.state id
      state = ap (λ (v : CoreModel). v.state) is

      left : without_txn d.state id ≡ c.state
      left = ap (λ (s : State). without_txn s id) opened_is ∙ ap (λ (ps : List (List ℕ × Tx)). record c.state { txns = ps }) gone

-- ---- with one

pub all_tracked : (ks : List (List ℕ)) → filter (λ k. not (among k [])) ks ≡ ks
all_tracked [] = refl
all_tracked (k ∷ ks) = ap (λ js. k ∷ js) (all_tracked ks)

apply_more : (s : State) (es : List Event) (e : Event) → apply_all s (es ++ (e ∷ [])) ≡ apply (apply_all s es) e
apply_more s [] e = refl
apply_more s (x ∷ es) e = apply_more (apply s x) es e

allowed_last : (n0 : ℕ) (s : State) (used : List (List ℕ)) (es : List Event) (e : Event) → LegalFrom n0 s used (es ++ (e ∷ [])) → (later : List (List ℕ)) × Allowed n0 (apply_all s es) later e
allowed_last n0 s used [] e h = (used, h.0)
allowed_last n0 s used (x ∷ es) e h = allowed_last n0 (apply s x) (ids_of x ++ used) es e h.1

abbrev pub committing : List ℕ → List TranscriptStep → Option ℕ → ℤ → Event
committing id ts n now = events.Commit id n now (kept_ops (own_of ts)) (batch_keys (own_of ts)) ts

abbrev committed_core : CoreModel → List ℕ → IsolationLevel → List TranscriptStep → Option ℕ → ℤ → ℕ → List (List ℕ) → Rows → CoreModel
committed_core c id level ts n now spare segments active = record c {
  state = record c.state { commits = c.state.commits ++ commit_made n now (kept_ops (own_of ts)) (batch_keys (own_of ts)) };
  events = c.events ++ (events.Begin id level (newest c) ∷ committing id ts n now ∷ []);
  spare = spare;
  segments = segments;
  active = active;
}

some_kept : (ops : Ops) → 0 < length (kept_ops ops) → ops ≢ []
some_kept [] h e = omega (arith, h)
some_kept (o ∷ os) h e = cc

module _ (c d : CoreModel) (id : List ℕ) (level : IsolationLevel) (ts : List TranscriptStep) (h : IsWithin c id level ts d) where
  after_is : (n : Option ℕ) (now : ℤ) (rows : Rows) (spare : ℕ) (segments : List (List ℕ)) →
      record (after_commit d id n now (taking (newest c) level ts) rows spare) { segments = segments } ≡ committed_core c id level ts n now spare segments rows
  after_is n now rows spare segments =
      ap (λ (v : CoreModel). record (after_commit v id n now (taking (newest c) level ts) rows spare) { segments = segments }) h.is
      ∙ (λ i. record c {
        state = record c.state { commits = c.state.commits ++ commit_made n now (kept_ops (own_of ts)) (all_tracked (batch_keys (own_of ts)) i); txns = gone c d id level ts h i };
        events = append_assoc c.events (events.Begin id level (newest c) ∷ []) (events.Commit id n now (kept_ops (own_of ts)) (all_tracked (batch_keys (own_of ts)) i) ts ∷ []) i;
        spare = spare;
        segments = segments;
        active = rows;
      })

  whole : (e : CoreModel) (n : Option ℕ) (now : ℤ) → IsCommitted d e id n now (taking (newest c) level ts) → e ≡ committed_core c id level ts n now e.spare e.segments e.active
  whole e None now is =
      is.1 ∙ after_is None now d.active e.spare d.segments
      ∙ (λ i. committed_core c id level ts None now e.spare (sym (ap (λ (v : CoreModel). v.segments) is.1) i) (sym (ap (λ (v : CoreModel). v.active) is.1) i))
  whole e (Some n) now is = is ∙ after_is (Some n) now e.active e.spare e.segments

  -- the sequence that a legal journal has there
  next : (e : CoreModel) (n : Option ℕ) (now : ℤ) → IsCommitted d e id n now (taking (newest c) level ts) → IsLegal e.settings.start_seq e.events → IsNext (newest c) (own_of ts) n
  next e None now is legal = is.0
  next e (Some n) now is legal = (allowed.0 ∙ ap (λ (cs : List Commit). last_of c.settings.start_seq cs + 1) before, some_kept (own_of ts) allowed.1)
    where
      there : IsLegal c.settings.start_seq ((c.events ++ (events.Begin id level (newest c) ∷ [])) ++ (committing id ts (Some n) now ∷ []))
      there = subst (λ (es : List Event). IsLegal c.settings.start_seq es) (sym (append_assoc c.events (events.Begin id level (newest c) ∷ []) (committing id ts (Some n) now ∷ [])))
          (subst (λ (v : CoreModel). IsLegal v.settings.start_seq v.events) (whole e (Some n) now is) legal)

      allowed : IsNextOrNone c.settings.start_seq (replay (c.events ++ (events.Begin id level (newest c) ∷ []))) (Some n) (kept_ops (own_of ts))
      allowed = (allowed_last c.settings.start_seq opening [] (c.events ++ (events.Begin id level (newest c) ∷ [])) (committing id ts (Some n) now) there).1.1

      before : (replay (c.events ++ (events.Begin id level (newest c) ∷ []))).commits ≡ c.state.commits
      before = ap (λ (s : State). s.commits) (apply_more opening c.events (events.Begin id level (newest c))) ∙ h.replays.commits

  others_after : (e : CoreModel) (n : Option ℕ) (now : ℤ) → IsCommitted d e id n now (taking (newest c) level ts) →
      ((m : Meaning) (other : List ℕ) → other ≢ id → IsVouchedFor m d other → IsVouchedFor m e other) → (m : Meaning) (other : List ℕ) → IsVouchedFor m c other → IsVouchedFor m e other
  others_after e n now is others m other vouched = by (bytes_eq other id) refl
    where
      ended : find_named id e.state.txns ≡ None
      ended = ap (λ (v : CoreModel). find_named id v.state.txns) (whole e n now is) ∙ no_transaction c.state id h.fresh

      by : (b : Bool) → bytes_eq other id ≡ b → IsVouchedFor m e other
      by true same = λ t found. let clash : None ≡ Some t = sym ended ∙ ap (λ k. find_named k e.state.txns) (sym ((bytes_eq-Decides other id).0 same)) ∙ found in cc
      by false other_id =
          let apart : other ≢ id = λ same. let clash : true ≡ false = sym ((bytes_eq-Decides other id).1 same) ∙ other_id in cc in
          others m other apart (within_others c d id level ts h m other apart vouched)

  pub has_committed : (e : CoreModel) (n : Option ℕ) (now : ℤ) → IsCommitted d e id n now (taking (newest c) level ts) → IsLegal e.settings.start_seq e.events →
      ((t : Tx) → find_named id d.state.txns ≡ Some t → load e ≤ load d + length t.ops) →
      ((m : Meaning) (other : List ℕ) → other ≢ id → IsVouchedFor m d other → IsVouchedFor m e other) → HasCommitted c id level ts n now e
  has_committed e n now is legal loads others =
      record {
        legal = h.legal;
        replays = h.replays;
        fresh = h.fresh;
        is = whole e n now is;
        next = next e n now is legal;
        load =
            let more : load e ≤ load d + length (own_of ts) = loads (taking (newest c) level ts) (within_found c d id level ts h) in
            let same : load d ≡ load c = ap (λ (v : CoreModel). load v) h.is in
            omega (arith, more, same);
        others = others_after e n now is others;
      }

  -- ---- what it may be refused by

  all_within : (n : ℕ) (cs : List Commit) → Counts n cs → AllByRecursion (λ x. x.seq ≤ last_of n cs) cs
  all_within n [] counts = tt
  all_within n (x ∷ cs) counts = ((counts_last x.seq cs counts.1).0, all_within x.seq cs counts.1)

  pub no_conflict : ConflictsNeedACommit → conflict d.state.commits (taking (newest c) level ts) ≡ None
  no_conflict law =
      ap (λ (cs : List Commit). conflict cs (taking (newest c) level ts)) (within_commits c d id level ts h)
      ∙ law c.state.commits (taking (newest c) level ts) (all_within c.settings.start_seq c.state.commits
      (subst (Counts c.settings.start_seq) h.replays.commits (legal_counts c.settings.start_seq c.events opening [] tt h.legal)))

  pub same_newest : newest d ≡ newest c
  same_newest = ap (λ (v : CoreModel). newest v) h.is

  abbrev CommitCause : {C : Type 0} → Option C → Segments → Reach → Reach → ℤ → SlateDBError → Type 0
  CommitCause combine g before after now e = IsFault before after e
      ⊎ IsConflict (conflict d.state.commits (taking (newest c) level ts)) e
      ⊎ ((e ≡ SequenceExhausted) × (last_of d.settings.start_seq d.state.commits ≡ 2 ^ 64 - 2))
      ⊎ (test_refusal combine g d.segments d.settings.default_millis now (own_of ts) ≡ Some e)

  plain_cause : {C : Type 0} (law : ConflictsNeedACommit) (combine : Option C) (before after : Reach) (now : ℤ) (e : SlateDBError) → holds_merge (own_of ts) ≡ false → CommitCause combine None before after now e →
      IsFault before after e ⊎ ((e ≡ SequenceExhausted) × (newest c ≡ 2 ^ 64 - 2))
  plain_cause law combine before after now e plain (inl fault) = inl fault
  plain_cause law combine before after now e plain (inr (inl clash)) = absurd (subst (λ (o : Option ℕ). IsConflict o e) (no_conflict law) clash)
  plain_cause law combine before after now e plain (inr (inr (inl full))) = inr (full.0, sym same_newest ∙ full.1)
  plain_cause law combine before after now e plain (inr (inr (inr refused))) =
      let none : None ≡ Some e = sym (plain_passes (is_some combine) d.segments d.settings.default_millis now (own_of ts) plain) ∙ refused in cc

  pub commit_cause : {X C T : Type 0} (r : Result T SlateDBError) (law : ConflictsNeedACommit) (lengths : X → Lengths) (extractor : Option X) (combine : Option C) (before after : Reach) (now : ℤ) → extractor ≡ None → holds_merge (own_of ts) ≡ false →
      IfErr r (CommitCause combine (segments_by lengths extractor) before after now) → IfErr r (λ e. IsFault before after e ⊎ ((e ≡ SequenceExhausted) × (newest c ≡ 2 ^ 64 - 2)))
  commit_cause (Ok x) law lengths extractor combine before after now none plain cause = tt
  commit_cause {X} (Err e) law lengths extractor combine before after now none plain cause =
      plain_cause law combine before after now e plain (subst (λ (o : Option X). CommitCause combine (segments_by lengths o) before after now e) none cause)

  pub within_segmented : (g : Segments) → IsSegmented g c → IsSegmented g d
  within_segmented g s = subst (IsSegmented g) (sym h.is) (record { recorded = s.recorded; each = s.each; apart = s.apart })
