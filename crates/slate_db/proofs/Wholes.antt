-- What ties the parts of a core stays so.
--     after_begin, after_end, after_snapshot, after_release, after_freeze      the core after each
use Rattle.std.proofs.Common.{◌≡◌, ℕ, ◌+◌, ◌-◌, ◌^◌, ◌≤◌, ◌<◌, List, [], ◌∷◌, ◌++◌, length, map, refl, sym, ap, subst, ◌∙◌, arith, ℤ, Greater, append-nil, None}
use Rattle.std.proofs.lemmas.List.{map-append, length-map}
use Rattle.std.specs.Prelude.{IsSome}
use Rattle.std.specs.List.{AllByRecursion}
use Rattle.slate_types.specs.Keys.{key_cmp}
use Rattle.slate_types.specs.declared.config.IsolationLevel.{IsolationLevel}
use Rattle.slate_types.specs.declared.types.RowEntry.{RowEntry}
use Rattle.slate_types.specs.declared.types.Ulid.{Ulid}
use Rattle.slate_read.specs.declared.sorted_run.SortedRun.{SortedRun}
use Rattle.slate_mem.specs.declared.WriteOp.{WriteOp}
use Rattle.slate_mem.specs.Batch.{Ops}
use Rattle.slate_txn.specs.declared.event.Event.{Event}
use Rattle.slate_txn.specs.declared.event.Event.TheVariants as events
use Rattle.slate_txn.specs.declared.event.TranscriptStep.{TranscriptStep}
use Rattle.slate_txn.specs.declared.event.TranscriptStep.TheVariants as steps
use Rattle.slate_txn.specs.Alone.{own_of}
use Rattle.slate_txn.specs.Ids.{id_of, snapshot_id, IsOfCount, IsSnapshotOf}
use Rattle.slate_txn.specs.Managers.{Manager, Snapshots, StandsFor, untracked}
use Rattle.slate_txn.specs.Named.{find_named, without}
use Rattle.slate_txn.specs.Places.{IsQuiet}
use Rattle.slate_txn.specs.Reads.{up_to}
use Rattle.slate_txn.specs.Replay.{replay, apply}
use Rattle.slate_txn.specs.State.{Commit, Tx, begun, opening, last_of}
use Rattle.slate_txn.specs.Step.{noted, with_op}
use Rattle.slate_db.specs.Flushed.{after_install}
use Rattle.slate_db.specs.Installs.{as_begun, installed, tables_of, AreRunsOf, Replays}
use Rattle.slate_db.specs.Layers.{AreLayers}
use Rattle.slate_db.specs.Log.{IsLog, ends_of}
use Rattle.slate_db.specs.Managed.{IsManaged, IsShown}
use Rattle.slate_db.specs.Meaning.{Meaning}
use Rattle.slate_db.specs.Operated.{operated}
use Rattle.slate_db.specs.Model.{CoreModel, Rows, memory}
use Rattle.slate_db.specs.Sound.{IsKept}
use Rattle.slate_db.specs.Whole.{IsWhole, Unseen, BeginsWithin, ShowsWithin, log_of, layers_of}
use Rattle.slate_db.specs.Written.{after_write}
use Rattle.slate_db.proofs.ApartIds.{named_is, none_named, without_none}
use Rattle.slate_db.proofs.Journals.{apply_more}
use Rattle.slate_db.proofs.Keeps.{kept_event, kept_rows}
use Rattle.slate_db.proofs.Operands.{own_without}
use Rattle.slate_db.proofs.Lists.{all_both, none_behind}
use Rattle.slate_db.proofs.Logs.{tables_more, tables_same}
use Rattle.slate_db.proofs.Managing.{managed_begun, managed_changed}
use Rattle.slate_db.proofs.MemoryLayers.{versions_frozen}
use Rattle.slate_db.proofs.Runs.{runs_both}
use Rattle.slate_db.proofs.Quiet.{quiet_more, quiet_frozen}
use Rattle.slate_db.proofs.Split.{all_up_to}
use Rattle.slate_txn.proofs.BarrierLaws.{start_begins, start_shows, start_within}
use Rattle.slate_txn.proofs.IdLaws.{all_past, count_not_named, fresh_named, fresh_snapshot, not_both, snapshot_not_named, wider, wider_snapshot}
use Rattle.slate_txn.proofs.NamedLaws.{all_without, without_map, open_map, update_map, update_all}
use Rattle.slate_txn.proofs.StepLaws.{own_append}
use Rattle.slate_types.proofs.Lists.{AllByRecursion_front, AllByRecursion_push, AllByRecursion_behind, AllByRecursion_weaken}

-- what is open in a core is what is open in its journal
pub ends_are : (c : CoreModel) (x : Unseen) → IsWhole c x → x.ends ≡ ends_of c.state
ends_are c x w =
    let txns : length (replay c.events).txns ≡ length c.state.txns = ap length w.tied.txns ∙ length-map c.state.txns as_begun in
    let shown : length (replay c.events).snapshots ≡ length c.state.snapshots = ap length w.tied.snapshots in
    let ends : x.ends ≡ ends_of (replay c.events) = w.log.ends in
    omega arith

pub replays_of : (c : CoreModel) (x : Unseen) → IsWhole c x → Replays c.events c.state
replays_of c x w = record { commits = w.log.replays; txns = w.tied.txns; snapshots = w.tied.snapshots }

pub named_in_journal : (c : CoreModel) (x : Unseen) (id : List ℕ) → IsWhole c x → IsSome (find_named id c.state.txns) → IsSome (find_named id (replay c.events).txns)
named_in_journal c x id w h = subst (λ (ts : List (List ℕ × Tx)). IsSome (find_named id ts)) (sym w.tied.txns) (open_map as_begun (λ p. refl) id c.state.txns h)

pub within_newest : (floor n : ℕ) (ps : List (List ℕ × Tx)) → AllByRecursion (λ p. BeginsWithin floor n p) ps → AllByRecursion (λ p. p.1.begin ≤ n) ps
within_newest floor n ps h = AllByRecursion_weaken _ _ (λ p w. w.1) ps h

-- of nothing
pub whole_first : (c : CoreModel) (x : Unseen) → IsLog (log_of c x) → AreLayers (layers_of c x) → c.events ≡ [] → c.state.commits ≡ [] → c.state.txns ≡ [] → c.state.snapshots ≡ [] → x.runs ≡ [] → c.active ≡ [] → c.frozen ≡ [] → c.floor ≡ 0 → IsManaged x.manager x.ids x.last [] [] →
    IsShown x.snapshots x.snapshot_ids [] → IsWhole c x
whole_first c x log layers e cs ts ss hs a f z m k = record {
  log = log;
  layers = layers;
  tied = record {
    txns = ap (λ (es : List Event). (replay es).txns) e ∙ sym (ap (map as_begun) ts);
    snapshots = ap (λ (es : List Event). (replay es).snapshots) e ∙ sym ss;
    shown = subst (IsShown x.snapshots x.snapshot_ids) (sym ss) k;
    named = subst (λ (ps : List (List ℕ × Tx)). AllByRecursion (λ p. IsOfCount x.ids p.0) ps) (sym ts) tt;
    floor_within = omega arith;
    begins = subst (λ (ps : List (List ℕ × Tx)). AllByRecursion (λ p. BeginsWithin c.floor x.last p) ps) (sym ts) tt;
    shows = subst (λ (ps : List (List ℕ × ℕ)). AllByRecursion (ShowsWithin c.floor x.last) ps) (sym ss) tt;
    own = subst (λ (ps : List (List ℕ × Tx)). AllByRecursion (λ p. p.1.ops ≡ own_of p.1.transcript) ps) (sym ts) tt;
    all_installed = λ active frozen. ap (up_to (installed c.events)) cs ∙ sym cs;
    runs = subst (λ (ks : List SortedRun). AreRunsOf (tables_of c.events) ks) (sym hs) (subst (λ (es : List Event). AreRunsOf (tables_of es) []) (sym e) (record { groups = []; are = refl; each = tt }));
    quiet = λ idle. subst IsQuiet (sym e) refl;
    manager = subst (λ (ks : List Commit). IsManaged x.manager x.ids x.last ks c.state.txns) (sym cs) (subst (λ (ps : List (List ℕ × Tx)). IsManaged x.manager x.ids x.last [] ps) (sym ts) m);
    rows_within = subst (λ (rows : Rows). AllByRecursion (λ rows. AllByRecursion (λ r. r.seq ≤ x.last) rows) (c.frozen ++ (rows ∷ []))) (sym a)
        (subst (λ (layers : List Rows). AllByRecursion (λ rows. AllByRecursion (λ r. r.seq ≤ x.last) rows) (layers ++ ([] ∷ []))) (sym f) (tt, tt));
  };
}

-- ---- a begin

abbrev pub after_begin : CoreModel → IsolationLevel → ℕ → List ℕ → ℕ → CoreModel
after_begin c level n id spare = record c {
  state = record c.state { txns = c.state.txns ++ ((id, begun level n) ∷ []) };
  events = c.events ++ (events.Begin id level n ∷ []);
  spare = spare;
}

abbrev pub with_one : Unseen → Manager → Unseen
with_one x n = record x { ids = x.ids + 1; ends = x.ends + 1; manager = n }

pub whole_begin : (c : CoreModel) (x : Unseen) (level : IsolationLevel) (spare : ℕ) (n : Manager) → n ≡ record x.manager { ids = x.manager.ids + 1; active = x.manager.active ++ ((id_of (x.ids + 1), untracked x.last) ∷ []) } →
    (StandsFor x.manager c.state.commits → StandsFor n c.state.commits) → IsLog (log_of (after_begin c level x.last (id_of (x.ids + 1)) spare) (with_one x n)) → IsWhole c x →
    IsWhole (after_begin c level x.last (id_of (x.ids + 1)) spare) (with_one x n)
whole_begin c x level spare n managed stands log w = record {
  log = log;
  layers = w.layers;
  tied = record {
    txns = ap (λ s. s.txns) more ∙ ap (λ ts. ts ++ ((id, begun level x.last) ∷ [])) w.tied.txns ∙ sym (map-append as_begun c.state.txns ((id, begun level x.last) ∷ []));
    snapshots = ap (λ s. s.snapshots) more ∙ w.tied.snapshots;
    shown = w.tied.shown;
    named = AllByRecursion_push _ _ _ (AllByRecursion_weaken _ _ (λ p. wider x.ids (x.ids + 1) (omega arith) p.0) _ w.tied.named) (record { count = x.ids + 1; within = omega arith; is = refl });
    floor_within = w.tied.floor_within;
    begins = AllByRecursion_push _ _ _ w.tied.begins (w.tied.floor_within, omega arith);
    shows = w.tied.shows;
    own = AllByRecursion_push (λ (p : List ℕ × Tx). p.1.ops ≡ own_of p.1.transcript) c.state.txns (id, begun level x.last) w.tied.own refl;
    all_installed = λ active frozen. rw (ap (λ s. s.flushed) more) (w.tied.all_installed active frozen);
    runs = subst (λ (ts : List (Ulid × List ℕ)). AreRunsOf ts x.runs) (sym (tables_same c.events e refl)) w.tied.runs;
    quiet = λ idle. quiet_more c.events e refl refl (w.tied.quiet idle);
    manager = managed_begun x.manager n x.ids x.last c.state.commits c.state.txns id level managed stands w.tied.manager;
    rows_within = w.tied.rows_within;
  };
}
  where
    id : List ℕ
    id = id_of (x.ids + 1)

    e : Event
    e = events.Begin id level x.last

    more : replay (c.events ++ (e ∷ [])) ≡ apply (replay c.events) e
    more = apply_more opening c.events e

few_ids : (c : CoreModel) (x : Unseen) → IsWhole c x → x.ids < 2 ^ 64
few_ids c x w = let given : x.ids ≤ length c.events = w.log.counted in omega (arith, w.log.bound)

few_shown : (c : CoreModel) (x : Unseen) → IsWhole c x → x.snapshot_ids < 2 ^ 64
few_shown c x w = let given : x.snapshot_ids ≤ length c.events = w.log.snapshots_counted in omega (arith, w.log.bound)

pub few : (c : CoreModel) (x : Unseen) → IsWhole c x → x.ids + 1 < 2 ^ 128
few c x w = let counted : x.ids ≤ length c.events = w.log.counted in omega (arith, w.log.bound)

-- a new id is none of a snapshot
pub unshown_begun : (c : CoreModel) (x : Unseen) → IsWhole c x → find_named (id_of (x.ids + 1)) c.state.snapshots ≡ None
unshown_begun c x w = count_not_named x.snapshot_ids (x.ids + 1) c.state.snapshots (few_shown c x w) (omega (arith, few_ids c x w)) w.tied.shown.named

-- a new id stands past all others, and is taken out again
pub past_begun : (c : CoreModel) (x : Unseen) → IsWhole c x → AllByRecursion (λ p. key_cmp (id_of (x.ids + 1)) p.0 ≡ Greater) c.state.txns
past_begun c x w = all_past x.ids (x.ids + 1) c.state.txns (omega arith) (few c x w) w.tied.named

pub fresh_begun : (c : CoreModel) (x : Unseen) → IsWhole c x → find_named (id_of (x.ids + 1)) c.state.txns ≡ None
fresh_begun c x w = fresh_named x.ids (x.ids + 1) c.state.txns (omega arith) (few c x w) w.tied.named

pub kept_begin : (m : Meaning) (c : CoreModel) (level : IsolationLevel) (n : ℕ) (id : List ℕ) (spare : ℕ) → IsKept m c → IsKept m (after_begin c level n id spare)
kept_begin m c level n id spare = kept_event m c _ _ spare refl
    (ap (λ s. s.flushed) (apply_more opening c.events (events.Begin id level n)))
    (tables_same c.events (events.Begin id level n) refl)
    (λ none own. AllByRecursion_push _ c.state.txns (id, begun level n) own refl)

-- ---- a snapshot

abbrev pub after_snapshot : CoreModel → ℕ → List ℕ → ℕ → CoreModel
after_snapshot c n id spare = record c {
  state = record c.state { snapshots = c.state.snapshots ++ ((id, n) ∷ []) };
  events = c.events ++ (events.Snapshot id n ∷ []);
  spare = spare;
}

abbrev pub with_shown : Unseen → Snapshots → Unseen
with_shown x n = record x { snapshot_ids = x.snapshot_ids + 1; ends = x.ends + 1; snapshots = n }

pub whole_snapshot : (c : CoreModel) (x : Unseen) (spare : ℕ) (n : Snapshots) → n ≡ record x.snapshots { ids = x.snapshots.ids + 1; active = x.snapshots.active ++ ((snapshot_id (x.snapshot_ids + 1), x.last) ∷ []) } →
    IsLog (log_of (after_snapshot c x.last (snapshot_id (x.snapshot_ids + 1)) spare) (with_shown x n)) → IsWhole c x → IsWhole (after_snapshot c x.last (snapshot_id (x.snapshot_ids + 1)) spare) (with_shown x n)
whole_snapshot c x spare n shown log w = record {
  log = log;
  layers = w.layers;
  tied = record {
    txns = ap (λ s. s.txns) more ∙ w.tied.txns;
    snapshots = ap (λ s. s.snapshots) more ∙ ap (λ ps. ps ++ ((id, x.last) ∷ [])) w.tied.snapshots;
    shown = record {
      counted = ap (λ (m : Snapshots). m.ids) shown ∙ ap (λ i. i + 1) w.tied.shown.counted;
      opened = ap (λ (m : Snapshots). m.active) shown ∙ ap (λ ps. ps ++ ((id, x.last) ∷ [])) w.tied.shown.opened;
      named = AllByRecursion_push _ _ _ (AllByRecursion_weaken _ _ (λ p. wider_snapshot x.snapshot_ids (x.snapshot_ids + 1) (omega arith) p.0) _ w.tied.shown.named) (record { count = x.snapshot_ids + 1; within = omega arith; is = refl });
    };
    named = w.tied.named;
    floor_within = w.tied.floor_within;
    begins = w.tied.begins;
    shows = AllByRecursion_push _ _ _ w.tied.shows (w.tied.floor_within, omega arith);
    own = w.tied.own;
    all_installed = λ active frozen. rw (ap (λ s. s.flushed) more) (w.tied.all_installed active frozen);
    runs = subst (λ (ts : List (Ulid × List ℕ)). AreRunsOf ts x.runs) (sym (tables_same c.events e refl)) w.tied.runs;
    quiet = λ idle. quiet_more c.events e refl refl (w.tied.quiet idle);
    manager = w.tied.manager;
    rows_within = w.tied.rows_within;
  };
}
  where
    id : List ℕ
    id = snapshot_id (x.snapshot_ids + 1)

    e : Event
    e = events.Snapshot id x.last

    more : replay (c.events ++ (e ∷ [])) ≡ apply (replay c.events) e
    more = apply_more opening c.events e

-- a new id is none of what is open
pub fresh_shown : (c : CoreModel) (x : Unseen) → IsWhole c x → find_named (snapshot_id (x.snapshot_ids + 1)) c.state.snapshots ≡ None
fresh_shown c x w = fresh_snapshot x.snapshot_ids c.state.snapshots (few_shown c x w) w.tied.shown.named

pub unbegun_shown : (c : CoreModel) (x : Unseen) → IsWhole c x → find_named (snapshot_id (x.snapshot_ids + 1)) c.state.txns ≡ None
unbegun_shown c x w = snapshot_not_named x.ids x.snapshot_ids c.state.txns (omega (arith, few_ids c x w)) (few_shown c x w) w.tied.named

pub kept_snapshot : (m : Meaning) (c : CoreModel) (n : ℕ) (id : List ℕ) (spare : ℕ) → IsKept m c → IsKept m (after_snapshot c n id spare)
kept_snapshot m c n id spare = kept_event m c _ _ spare refl
    (ap (λ s. s.flushed) (apply_more opening c.events (events.Snapshot id n)))
    (tables_same c.events (events.Snapshot id n) refl)
    (λ none own. own)

-- ---- a release

abbrev pub after_release : CoreModel → List ℕ → ℕ → CoreModel
after_release c id spare = record c {
  state = record c.state { snapshots = without id c.state.snapshots };
  events = c.events ++ (events.Release id ∷ []);
  spare = spare;
}

abbrev pub less_shown : Unseen → Snapshots → Unseen
less_shown x n = record x { ends = x.ends - 1; snapshots = n }

pub whole_release : (c : CoreModel) (x : Unseen) (id : List ℕ) (spare : ℕ) (n : Snapshots) → n ≡ record x.snapshots { active = without id x.snapshots.active } →
    IsLog (log_of (after_release c id spare) (less_shown x n)) → IsWhole c x → IsWhole (after_release c id spare) (less_shown x n)
whole_release c x id spare n shown log w = record {
  log = log;
  layers = w.layers;
  tied = record {
    txns = ap (λ s. s.txns) more ∙ w.tied.txns;
    snapshots = ap (λ s. s.snapshots) more ∙ ap (without id) w.tied.snapshots;
    shown = record {
      counted = ap (λ (m : Snapshots). m.ids) shown ∙ w.tied.shown.counted;
      opened = ap (λ (m : Snapshots). m.active) shown ∙ ap (without id) w.tied.shown.opened;
      named = all_without _ id _ w.tied.shown.named;
    };
    named = w.tied.named;
    floor_within = w.tied.floor_within;
    begins = w.tied.begins;
    shows = all_without _ id _ w.tied.shows;
    own = w.tied.own;
    all_installed = λ active frozen. rw (ap (λ s. s.flushed) more) (w.tied.all_installed active frozen);
    runs = subst (λ (ts : List (Ulid × List ℕ)). AreRunsOf ts x.runs) (sym (tables_same c.events e refl)) w.tied.runs;
    quiet = λ idle. quiet_more c.events e refl refl (w.tied.quiet idle);
    manager = w.tied.manager;
    rows_within = w.tied.rows_within;
  };
}
  where
    e : Event
    e = events.Release id

    more : replay (c.events ++ (e ∷ [])) ≡ apply (replay c.events) e
    more = apply_more opening c.events e

pub kept_release : (m : Meaning) (c : CoreModel) (id : List ℕ) (spare : ℕ) → IsKept m c → IsKept m (after_release c id spare)
kept_release m c id spare = kept_event m c _ _ spare refl
    (ap (λ s. s.flushed) (apply_more opening c.events (events.Release id)))
    (tables_same c.events (events.Release id) refl)
    (λ none own. own)

pub shown_in_journal : (c : CoreModel) (x : Unseen) (id : List ℕ) → IsWhole c x → IsSome (find_named id c.state.snapshots) → IsSome (find_named id (replay c.events).snapshots)
shown_in_journal c x id w h = subst (λ (ps : List (List ℕ × ℕ)). IsSome (find_named id ps)) (sym w.tied.snapshots) h

-- ---- an id is of one open thing

not_of_both : (c : CoreModel) (x : Unseen) (id : List ℕ) → IsWhole c x → IsOfCount x.ids id → IsSnapshotOf x.snapshot_ids id → ⊥
not_of_both c x id w o s = not_both x.ids x.snapshot_ids id (omega (arith, few_ids c x w)) (few_shown c x w) o s

-- what is open under the id of a transaction is no snapshot
pub no_snapshot : (c : CoreModel) (x : Unseen) (id : List ℕ) → IsWhole c x → IsSome (find_named id c.state.txns) → find_named id c.state.snapshots ≡ None
no_snapshot c x id w h = none_named (IsSnapshotOf x.snapshot_ids) id (λ s. not_of_both c x id w (named_is (IsOfCount x.ids) id c.state.txns w.tied.named h) s) c.state.snapshots w.tied.shown.named

pub same_snapshots : (c : CoreModel) (x : Unseen) (id : List ℕ) → IsWhole c x → IsSome (find_named id c.state.txns) → without id c.state.snapshots ≡ c.state.snapshots
same_snapshots c x id w h = without_none id c.state.snapshots (no_snapshot c x id w h)

-- what is open under the id of a snapshot is no transaction
pub no_transaction : (c : CoreModel) (x : Unseen) (id : List ℕ) → IsWhole c x → IsSome (find_named id c.state.snapshots) → find_named id c.state.txns ≡ None
no_transaction c x id w h = none_named (IsOfCount x.ids) id (λ o. not_of_both c x id w o (named_is (IsSnapshotOf x.snapshot_ids) id c.state.snapshots w.tied.shown.named h)) c.state.txns w.tied.named

pub same_transactions : (c : CoreModel) (x : Unseen) (id : List ℕ) → IsWhole c x → IsSome (find_named id c.state.snapshots) → without id c.state.txns ≡ c.state.txns
same_transactions c x id w h = without_none id c.state.txns (no_transaction c x id w h)

-- ---- an end

abbrev pub after_end : CoreModel → List ℕ → ℕ → CoreModel
after_end c id spare = record c {
  state = record c.state { txns = without id c.state.txns };
  events = c.events ++ (events.End id ∷ []);
  spare = spare;
}

abbrev pub less_one : Unseen → Manager → Unseen
less_one x n = record x { ends = x.ends - 1; manager = n }

pub whole_end : (c : CoreModel) (x : Unseen) (id : List ℕ) (spare : ℕ) (n : Manager) → IsManaged n x.ids x.last c.state.commits (without id c.state.txns) →
    IsLog (log_of (after_end c id spare) (less_one x n)) → IsWhole c x → IsWhole (after_end c id spare) (less_one x n)
whole_end c x id spare n managed log w = record {
  log = log;
  layers = w.layers;
  tied = record {
    txns = ap (λ s. s.txns) more ∙ ap (λ ts. without id ts) w.tied.txns ∙ without_map as_begun (λ p. refl) id c.state.txns;
    snapshots = ap (λ s. s.snapshots) more ∙ w.tied.snapshots;
    shown = w.tied.shown;
    named = all_without _ id _ w.tied.named;
    floor_within = w.tied.floor_within;
    begins = all_without _ id _ w.tied.begins;
    shows = w.tied.shows;
    own = all_without _ id _ w.tied.own;
    all_installed = λ active frozen. rw (ap (λ s. s.flushed) more) (w.tied.all_installed active frozen);
    runs = subst (λ (ts : List (Ulid × List ℕ)). AreRunsOf ts x.runs) (sym (tables_same c.events e refl)) w.tied.runs;
    quiet = λ idle. quiet_more c.events e refl refl (w.tied.quiet idle);
    manager = managed;
    rows_within = w.tied.rows_within;
  };
}
  where
    e : Event
    e = events.End id

    more : replay (c.events ++ (e ∷ [])) ≡ apply (replay c.events) e
    more = apply_more opening c.events e

pub kept_end : (m : Meaning) (c : CoreModel) (id : List ℕ) (spare : ℕ) → IsKept m c → IsKept m (after_end c id spare)
kept_end m c id spare = kept_event m c _ _ spare refl
    (ap (λ s. s.flushed) (apply_more opening c.events (events.End id)))
    (tables_same c.events (events.End id) refl)
    (λ none own. own_without id c.state.txns own)

-- ---- a change of one transaction

-- its own operations stay those of its transcript
abbrev pub KeepsOwn : (Tx → Tx) → Type 0
KeepsOwn f = (t : Tx) → t.ops ≡ own_of t.transcript → (f t).ops ≡ own_of (f t).transcript

pub own_operated : (k : List ℕ) (op : WriteOp) → KeepsOwn (with_op k op)
own_operated k op t h = ap (λ (os : Ops). os ++ ((k, op) ∷ [])) h ∙ sym (own_append t.transcript (steps.Own k op ∷ []))

own_noted : (ts : List TranscriptStep) → own_of ts ≡ [] → KeepsOwn (λ t. record t { transcript = t.transcript ++ ts })
own_noted ts none t h = h ∙ sym (append-nil (own_of t.transcript)) ∙ ap (λ (os : Ops). own_of t.transcript ++ os) (sym none) ∙ sym (own_append t.transcript ts)

pub whole_changed : (c : CoreModel) (x : Unseen) (id : List ℕ) (f : Tx → Tx) → ((t : Tx) → begun (f t).level (f t).begin ≡ begun t.level t.begin) → KeepsOwn f → IsWhole c x → IsWhole (operated c id f) x
whole_changed c x id f same own w = record {
  log = w.log;
  layers = w.layers;
  tied = record {
    txns = w.tied.txns ∙ sym (update_map as_begun id f c.state.txns (λ p. ap (λ t. (p.0, t)) (same p.1)));
    snapshots = w.tied.snapshots;
    shown = w.tied.shown;
    named = update_all _ id f c.state.txns (λ p h. h) w.tied.named;
    floor_within = w.tied.floor_within;
    begins = update_all _ id f c.state.txns (λ p h. (subst (λ (n : ℕ). c.floor ≤ n) (sym (begin_same p.1)) h.0, subst (λ (n : ℕ). n ≤ x.last) (sym (begin_same p.1)) h.1)) w.tied.begins;
    shows = w.tied.shows;
    own = update_all _ id f c.state.txns (λ p h. own p.1 h) w.tied.own;
    all_installed = w.tied.all_installed;
    runs = w.tied.runs;
    quiet = w.tied.quiet;
    manager = managed_changed x.manager x.ids x.last c.state.commits c.state.txns id f begin_same w.tied.manager;
    rows_within = w.tied.rows_within;
  };
}
  where
    begin_same : (t : Tx) → (f t).begin ≡ t.begin
    begin_same t = ap (λ (u : Tx). u.begin) (same t)

abbrev pub after_note : CoreModel → List ℕ → List TranscriptStep → CoreModel
after_note c id ts = record c { state = noted c.state id ts }

pub whole_note : (c : CoreModel) (x : Unseen) (id : List ℕ) (ts : List TranscriptStep) → own_of ts ≡ [] → IsWhole c x → IsWhole (after_note c id ts) x
whole_note c x id ts none w = whole_changed c x id (λ t. record t { transcript = t.transcript ++ ts }) (λ t. refl) (own_noted ts none) w

-- ---- a freeze

abbrev pub after_freeze : CoreModel → ℕ → CoreModel
after_freeze c spare = record c { events = c.events ++ (events.Freeze ∷ []); spare = spare; active = []; frozen = c.frozen ++ (c.active ∷ []) }

pub whole_freeze : (c : CoreModel) (x : Unseen) (spare freeze : ℕ) → IsLog (log_of (after_freeze c spare) (record x { for_freeze = freeze })) → AreLayers (layers_of (after_freeze c spare) (record x { for_freeze = freeze })) → IsWhole c x →
    IsWhole (after_freeze c spare) (record x { for_freeze = freeze })
whole_freeze c x spare freeze log layers w = record {
  log = log;
  layers = layers;
  tied = record {
    txns = ap (λ s. s.txns) more ∙ w.tied.txns;
    snapshots = ap (λ s. s.snapshots) more ∙ w.tied.snapshots;
    shown = w.tied.shown;
    named = w.tied.named;
    floor_within = w.tied.floor_within;
    begins = w.tied.begins;
    shows = w.tied.shows;
    own = w.tied.own;
    all_installed = λ active frozen. absurd (none_behind c.frozen c.active frozen);
    runs = subst (λ (ts : List (Ulid × List ℕ)). AreRunsOf ts x.runs) (sym (tables_same c.events events.Freeze refl)) w.tied.runs;
    quiet = λ idle. quiet_frozen c.events;
    manager = w.tied.manager;
    rows_within = AllByRecursion_push _ (memory c) [] w.tied.rows_within tt;
  };
}
  where
    more : replay (c.events ++ (events.Freeze ∷ [])) ≡ apply (replay c.events) events.Freeze
    more = apply_more opening c.events events.Freeze

pub kept_freeze : (m : Meaning) (c : CoreModel) (spare : ℕ) → IsKept m c → IsKept m (after_freeze c spare)
kept_freeze m c spare kept = kept_rows m (after c) [] (c.frozen ++ (c.active ∷ [])) (λ k. versions_frozen k c.frozen c.active) (kept_event m c _ _ spare refl
    (ap (λ s. s.flushed) (apply_more opening c.events events.Freeze))
    (tables_same c.events events.Freeze refl) (λ none own. own) kept)
  where
    after : CoreModel → CoreModel
    after c = record c { events = c.events ++ (events.Freeze ∷ []); spare = spare }

-- ---- a write

pub whole_write : (c : CoreModel) (x : Unseen) (now : ℤ) (ops : Ops) (rows : Rows) (spare : ℕ) → (rows ≡ [] → ⊥) → AllByRecursion (λ r. r.seq ≤ x.last + 1) rows →
    (n : Manager) → IsManaged n x.ids (x.last + 1) (after_write c (x.last + 1) now ops rows spare).state.commits c.state.txns →
    IsLog (log_of (after_write c (x.last + 1) now ops rows spare) (record x { last = x.last + 1; manager = n })) → AreLayers (layers_of (after_write c (x.last + 1) now ops rows spare) x) → IsWhole c x →
    IsWhole (after_write c (x.last + 1) now ops rows spare) (record x { last = x.last + 1; manager = n })
whole_write c x now ops rows spare some within n managed log layers w = record {
  log = log;
  layers = layers;
  tied = record {
    txns = ap (λ s. s.txns) more ∙ w.tied.txns;
    snapshots = ap (λ s. s.snapshots) more ∙ w.tied.snapshots;
    shown = w.tied.shown;
    named = w.tied.named;
    floor_within = let h : c.floor ≤ x.last = w.tied.floor_within in omega arith;
    begins = AllByRecursion_weaken _ _ (λ p h. (h.0, let k : p.1.begin ≤ x.last = h.1 in omega arith)) _ w.tied.begins;
    shows = AllByRecursion_weaken _ _ (λ p h. (h.0, let k : p.1 ≤ x.last = h.1 in omega arith)) _ w.tied.shows;
    own = w.tied.own;
    all_installed = λ active frozen. absurd (some active);
    runs = subst (λ (ts : List (Ulid × List ℕ)). AreRunsOf ts x.runs) (sym (tables_same c.events e refl)) w.tied.runs;
    quiet = λ idle. absurd (some idle);
    manager = managed;
    rows_within = AllByRecursion_push _ c.frozen rows (AllByRecursion_weaken _ _ (λ layer h. AllByRecursion_weaken _ _ higher layer h) c.frozen (AllByRecursion_front _ c.frozen (c.active ∷ []) w.tied.rows_within)) within;
  };
}
  where
    e : Event
    e = events.Write (x.last + 1) now ops

    more : replay (c.events ++ (e ∷ [])) ≡ apply (replay c.events) e
    more = apply_more opening c.events e

    higher : (r : RowEntry) → r.seq ≤ x.last → r.seq ≤ x.last + 1
    higher r h = omega arith

-- ---- an install

abbrev pub with_runs : Unseen → List SortedRun → ℕ → Unseen
with_runs x runs freeze = record x { installs = x.installs + 1; runs = x.runs ++ runs; for_freeze = freeze }

pub whole_install : (c : CoreModel) (x : Unseen) (ts : List (Ulid × List ℕ)) (runs : List SortedRun) (spare freeze : ℕ) → AreRunsOf ts runs →
    IsLog (log_of (after_install c x.last ts spare) (with_runs x runs freeze)) → AreLayers (layers_of (after_install c x.last ts spare) (with_runs x runs freeze)) → IsWhole c x →
    IsWhole (after_install c x.last ts spare) (with_runs x runs freeze)
whole_install c x ts runs spare freeze kept log layers w = record {
  log = log;
  layers = layers;
  tied = record {
    txns = ap (λ s. s.txns) more ∙ w.tied.txns;
    snapshots = ap (λ s. s.snapshots) more ∙ w.tied.snapshots;
    shown = w.tied.shown;
    named = w.tied.named;
    floor_within = start_within x.last c.state;
    begins = all_both _ _ _ (λ p h k. (h, k.1)) c.state.txns (start_begins x.last c.state) w.tied.begins;
    shows = all_both _ _ _ (λ p h k. (h, k.1)) c.state.snapshots (start_shows x.last c.state) w.tied.shows;
    own = w.tied.own;
    all_installed = λ active frozen. ap (λ i. up_to i c.state.commits) (ap (λ s. s.flushed) more) ∙ all_up_to c.settings.start_seq x.last c.state.commits w.log.rising (let l : x.last ≡ last_of c.settings.start_seq c.state.commits = w.log.last in omega arith);
    runs = subst (λ (us : List (Ulid × List ℕ)). AreRunsOf us (x.runs ++ runs)) (sym (tables_more c.events e)) (runs_both (tables_of c.events) ts x.runs runs w.tied.runs kept);
    quiet = λ idle. quiet_more c.events e refl refl (w.tied.quiet idle);
    manager = w.tied.manager;
    rows_within = AllByRecursion_behind _ c.frozen (c.active ∷ []) w.tied.rows_within;
  };
}
  where
    e : Event
    e = events.Install x.last ts

    more : replay (c.events ++ (e ∷ [])) ≡ apply (replay c.events) e
    more = apply_more opening c.events e

-- a flush that finds no rows
pub whole_flushed : (c : CoreModel) (x : Unseen) → IsLog (log_of (record c { state = record c.state { flushed = x.last } }) x) → IsWhole c x → IsWhole (record c { state = record c.state { flushed = x.last } }) x
whole_flushed c x log w = record {
  log = log;
  layers = w.layers;
  tied = record {
    txns = w.tied.txns;
    snapshots = w.tied.snapshots;
    shown = w.tied.shown;
    named = w.tied.named;
    floor_within = w.tied.floor_within;
    begins = w.tied.begins;
    shows = w.tied.shows;
    own = w.tied.own;
    all_installed = w.tied.all_installed;
    runs = w.tied.runs;
    quiet = w.tied.quiet;
    manager = w.tied.manager;
    rows_within = w.tied.rows_within;
  };
}

-- room was made in the parts
pub whole_room : (c : CoreModel) (x : Unseen) (spare freeze : ℕ) → IsLog (log_of (record c { spare = spare }) x) → IsWhole c x → IsWhole (record c { spare = spare }) (record x { for_freeze = freeze })
whole_room c x spare freeze log w = record {
  log = log;
  layers = record { active_order = w.layers.active_order; frozen_order = w.layers.frozen_order; frozen_some = w.layers.frozen_some; fit = w.layers.fit; rise = w.layers.rise };
  tied = record {
    txns = w.tied.txns;
    snapshots = w.tied.snapshots;
    shown = w.tied.shown;
    named = w.tied.named;
    floor_within = w.tied.floor_within;
    begins = w.tied.begins;
    shows = w.tied.shows;
    own = w.tied.own;
    all_installed = w.tied.all_installed;
    runs = w.tied.runs;
    quiet = w.tied.quiet;
    manager = w.tied.manager;
    rows_within = w.tied.rows_within;
  };
}

-- other prefixes are recorded
pub whole_recorded : (c : CoreModel) (x : Unseen) (ps : List (List ℕ)) → IsWhole c x → IsWhole (record c { segments = ps }) x
whole_recorded c x ps w = record {
  log = w.log;
  layers = w.layers;
  tied = record {
    txns = w.tied.txns;
    snapshots = w.tied.snapshots;
    shown = w.tied.shown;
    named = w.tied.named;
    floor_within = w.tied.floor_within;
    begins = w.tied.begins;
    shows = w.tied.shows;
    own = w.tied.own;
    all_installed = w.tied.all_installed;
    runs = w.tied.runs;
    quiet = w.tied.quiet;
    manager = w.tied.manager;
    rows_within = w.tied.rows_within;
  };
}

-- the manager keeps less
pub whole_manager : (c : CoreModel) (x : Unseen) (n : Manager) → IsManaged n x.ids x.last c.state.commits c.state.txns → IsWhole c x → IsWhole c (record x { manager = n })
whole_manager c x n managed w = record {
  log = w.log;
  layers = w.layers;
  tied = record {
    txns = w.tied.txns;
    snapshots = w.tied.snapshots;
    shown = w.tied.shown;
    named = w.tied.named;
    floor_within = w.tied.floor_within;
    begins = w.tied.begins;
    shows = w.tied.shows;
    own = w.tied.own;
    all_installed = w.tied.all_installed;
    runs = w.tied.runs;
    quiet = w.tied.quiet;
    manager = managed;
    rows_within = w.tied.rows_within;
  };
}
