-- A commit of a transaction keeps what is true of a core.
use Rattle.std.proofs.Common.{◌≡◌, ℕ, ◌+◌, ◌≤◌, ◌<◌, List, [], ◌∷◌, ◌++◌, cond, true, false, Option, Some, None, option_to_list, ℤ, refl, sym, ap, subst, ◌∙◌, arith, nat_lt, append_assoc, append-nil}
use Rattle.std.specs.List.{AllByRecursion, cons_option}
use Rattle.std.proofs.lemmas.Bool.Decides.{nat_tests}
use Rattle.std.proofs.lemmas.Grind.{flat_map-append}
use Rattle.std.proofs.lemmas.List.Elements.{filter-append, filter_map-append}
use Rattle.slate_types.specs.declared.types.Ulid.{Ulid}
use Rattle.slate_types.specs.declared.types.RowEntry.{RowEntry}
use Rattle.slate_types.specs.Fold.{fold_rows}
use Rattle.slate_mem.specs.Batch.{kept_ops}
use Rattle.slate_mem.specs.BatchModel.{holds_merge}
use Rattle.slate_mem.specs.RowOf.{row_of}
use Rattle.slate_txn.specs.declared.event.Event.{Event}
use Rattle.slate_txn.specs.declared.event.Event.TheVariants as events
use Rattle.slate_txn.specs.Conflict.{tracked_writes}
use Rattle.slate_txn.specs.Managers.{Manager}
use Rattle.slate_txn.specs.Named.{without}
use Rattle.slate_txn.specs.Reads.{up_to, key_rows}
use Rattle.slate_txn.specs.Replay.{replay, apply}
use Rattle.slate_txn.specs.State.{Rules, Commit, Tx, opening}
use Rattle.slate_txn.proofs.NamedLaws.{all_without, without_map}
use Rattle.slate_db.specs.Committed.{after_commit}
use Rattle.slate_db.specs.Installs.{as_begun, installed, AreRunsOf}
use Rattle.slate_db.specs.Layers.{AreLayers}
use Rattle.slate_db.specs.Log.{IsLog}
use Rattle.slate_db.specs.Managed.{IsManaged}
use Rattle.slate_db.specs.Meaning.{Meaning, rules_of, combine_of}
use Rattle.slate_db.specs.Model.{CoreModel, Rows, versions, versions_in}
use Rattle.slate_db.specs.Sound.{above, IsKept, IsSound, AreTables}
use Rattle.slate_db.specs.Whole.{IsWhole, Unseen, log_of, layers_of}
use Rattle.slate_db.proofs.Journals.{apply_more}
use Rattle.slate_db.proofs.Keeps.{kept_event}
use Rattle.slate_db.proofs.Logs.{tables_same}
use Rattle.slate_db.proofs.Operands.{operable_commit, own_without}
use Rattle.slate_db.proofs.Quiet.{quiet_more}
use Rattle.slate_db.proofs.Split.{up_to_more}
use Rattle.slate_db.proofs.Wholes.{less_one}
use Rattle.slate_types.proofs.Lists.{AllByRecursion_front, AllByRecursion_push, AllByRecursion_weaken}

-- ---- with operations

pub whole_committed : (c : CoreModel) (x : Unseen) (id : List ℕ) (now : ℤ) (t : Tx) (rows : Rows) (spare : ℕ) → (rows ≡ [] → ⊥) → AllByRecursion (λ r. r.seq ≤ x.last + 1) rows →
    (n : Manager) → IsManaged n x.ids (x.last + 1) (after_commit c id (Some (x.last + 1)) now t rows spare).state.commits (without id c.state.txns) →
    IsLog (log_of (after_commit c id (Some (x.last + 1)) now t rows spare) (record (less_one x n) { last = x.last + 1 })) → AreLayers (layers_of (after_commit c id (Some (x.last + 1)) now t rows spare) x) → IsWhole c x →
    IsWhole (after_commit c id (Some (x.last + 1)) now t rows spare) (record (less_one x n) { last = x.last + 1 })
whole_committed c x id now t rows spare some within n managed log layers w = record {
  log = log;
  layers = layers;
  tied = record {
    txns = ap (λ s. s.txns) more ∙ ap (λ ts. without id ts) w.tied.txns ∙ without_map as_begun (λ p. refl) id c.state.txns;
    snapshots = ap (λ s. s.snapshots) more ∙ w.tied.snapshots;
    shown = w.tied.shown;
    named = all_without _ id _ w.tied.named;
    floor_within = let h : c.floor ≤ x.last = w.tied.floor_within in omega arith;
    begins = all_without _ id _ (AllByRecursion_weaken _ _ (λ p h. (h.0, let k : p.1.begin ≤ x.last = h.1 in omega arith)) _ w.tied.begins);
    shows = AllByRecursion_weaken _ _ (λ p h. (h.0, let k : p.1 ≤ x.last = h.1 in omega arith)) _ w.tied.shows;
    own = all_without _ id _ w.tied.own;
    all_installed = λ active frozen. absurd (some active);
    runs = subst (λ (ts : List (Ulid × List ℕ)). AreRunsOf ts x.runs) (sym (tables_same c.events e refl)) w.tied.runs;
    quiet = λ idle. absurd (some idle);
    manager = managed;
    rows_within = AllByRecursion_push _ c.frozen rows (AllByRecursion_weaken _ _ (λ layer h. AllByRecursion_weaken _ _ higher layer h) c.frozen (AllByRecursion_front _ c.frozen (c.active ∷ []) w.tied.rows_within)) within;
  };
}
  where
    e : Event
    e = events.Commit id (Some (x.last + 1)) now (kept_ops t.ops) (tracked_writes t) t.transcript

    more : replay (c.events ++ (e ∷ [])) ≡ apply (replay c.events) e
    more = apply_more opening c.events e

    higher : (r : RowEntry) → r.seq ≤ x.last → r.seq ≤ x.last + 1
    higher r h = omega arith

-- ---- without operations

pub whole_idle : (c : CoreModel) (x : Unseen) (id : List ℕ) (now : ℤ) (t : Tx) (spare : ℕ) (n : Manager) → IsManaged n x.ids x.last (c.state.commits ++ []) (without id c.state.txns) →
    IsLog (log_of (after_commit c id None now t c.active spare) (less_one x n)) → IsWhole c x → IsWhole (after_commit c id None now t c.active spare) (less_one x n)
whole_idle c x id now t spare n managed log w = record {
  log = log;
  layers = w.layers;
  tied = record {
    txns = ap (λ s. s.txns) more ∙ ap (λ ts. without id ts) w.tied.txns ∙ without_map as_begun (λ p. refl) id c.state.txns;
    snapshots = ap (λ s. s.snapshots) more ∙ w.tied.snapshots;
    shown = w.tied.shown;
    named = all_without _ id _ w.tied.named;
    floor_within = w.tied.floor_within;
    begins = all_without _ id _ w.tied.begins;
    shows = w.tied.shows;
    own = all_without _ id _ w.tied.own;
    all_installed = λ active frozen. subst (λ (cs : List Commit). up_to (installed (c.events ++ (e ∷ []))) cs ≡ cs) (sym (append-nil c.state.commits)) (ap (λ i. up_to i c.state.commits) (ap (λ s. s.flushed) more) ∙ w.tied.all_installed active frozen);
    runs = subst (λ (ts : List (Ulid × List ℕ)). AreRunsOf ts x.runs) (sym (tables_same c.events e refl)) w.tied.runs;
    quiet = λ idle. quiet_more c.events e refl refl (w.tied.quiet idle);
    manager = managed;
    rows_within = w.tied.rows_within;
  };
}
  where
    e : Event
    e = events.Commit id None now (kept_ops t.ops) (tracked_writes t) t.transcript

    more : replay (c.events ++ (e ∷ [])) ≡ apply (replay c.events) e
    more = apply_more opening c.events e

-- ---- what is kept of the rows

pub kept_idle : (m : Meaning) (c : CoreModel) (id : List ℕ) (now : ℤ) (t : Tx) (spare : ℕ) → IsKept m c → IsKept m (after_commit c id None now t c.active spare)
kept_idle m c id now t spare kept = kept_event m c (after_commit c id None now t c.active spare).state (c.events ++ (e ∷ [])) spare (append-nil c.state.commits) (ap (λ s. s.flushed) (apply_more opening c.events e)) (tables_same c.events e refl) (λ none own. own_without id c.state.txns own) kept
  where
    e : Event
    e = events.Commit id None now (kept_ops t.ops) (tracked_writes t) t.transcript

pub cons_list : {X : Type 0} (o : Option X) → cons_option o [] ≡ option_to_list o
cons_list None = refl
cons_list (Some x) = refl

pub kept_committed : (m : Meaning) (c : CoreModel) (u : Unseen) (id : List ℕ) (now : ℤ) (t : Tx) (rows : Rows) (spare : ℕ) →
    ((k : List ℕ) → versions k rows ≡ versions k c.active ++ option_to_list (row_of (combine_of m k) c.settings.default_millis (u.last + 1) now (kept_ops t.ops) k)) →
    (m.combine ≡ None → holds_merge (kept_ops t.ops) ≡ false) → IsWhole c u → IsKept m c → IsKept m (after_commit c id (Some (u.last + 1)) now t rows spare)
kept_committed m c u id now t rows spare each plain w kept = (
  λ k.
      flat_map-append (versions k) c.frozen (rows ∷ [])
      ∙ ap (λ xs. versions_in k c.frozen ++ xs) (append-nil (versions k rows) ∙ each k ∙ ap (λ xs. xs ++ option_to_list (row k)) (sym (append-nil (versions k c.active))))
      ∙ sym (append_assoc (versions_in k c.frozen) (versions_in k (c.active ∷ [])) (option_to_list (row k)))
      ∙ ap (λ xs. xs ++ option_to_list (row k)) (sym (flat_map-append (versions k) c.frozen (c.active ∷ [])) ∙ kept.0 k)
      ∙ ap (λ xs. key_rows r k (above (installed c.events) c.state.commits) ++ xs) (sym (cons_list (row k)))
      ∙ sym (filter_map-append _ (above (installed c.events) c.state.commits) (commit ∷ []))
      ∙ ap (λ cs. key_rows r k (above (installed c.events) c.state.commits ++ cs)) (sym (ap (λ b. cond b (commit ∷ []) []) new))
      ∙ ap (key_rows r k) (sym (filter-append (λ x. nat_lt (installed c.events) x.seq) c.state.commits (commit ∷ [])))
      ∙ ap (λ i. key_rows r k (above i (c.state.commits ++ (commit ∷ [])))) (sym through),
  λ law. let z : IsSound m c = kept.1 law in record {
    layers = z.layers;
    tables = subst (λ (ts : List (Ulid × List ℕ)). AreTables m ts z.layers) (sym (tables_same c.events e refl)) z.tables;
    short = z.short;
    bases = z.bases;
    within = subst (λ (i : ℕ). AllByRecursion (λ rows. AllByRecursion (λ r. r.seq ≤ i) rows) z.layers) (sym through) z.within;
    rise = z.rise;
    folds = λ k x h. z.folds k x h
        ∙ ap (λ cs. fold_rows (combine_of m k) (key_rows (rules_of c.settings m) k (up_to x cs))) (sym (up_to_more (installed c.events) c.state.commits commit old))
        ∙ ap (λ i. fold_rows (combine_of m k) (key_rows (rules_of c.settings m) k (up_to x (up_to i (c.state.commits ++ (commit ∷ [])))))) (sym through);
  },
  operable_commit m c (after_commit c id (Some (u.last + 1)) now t rows spare) commit refl (λ none own. own_without id c.state.txns own) (λ none z. plain none) kept.2,
)
  where
    r : Rules
    r = rules_of c.settings m

    row : List ℕ → Option RowEntry
    row k = row_of (combine_of m k) c.settings.default_millis (u.last + 1) now (kept_ops t.ops) k

    e : Event
    e = events.Commit id (Some (u.last + 1)) now (kept_ops t.ops) (tracked_writes t) t.transcript

    commit : Commit
    commit = record { seq = u.last + 1; now = now; ops = kept_ops t.ops; tracked = tracked_writes t }

    through : installed (c.events ++ (e ∷ [])) ≡ installed c.events
    through = ap (λ s. s.flushed) (apply_more opening c.events e)

    new : nat_lt (installed c.events) (u.last + 1) ≡ true
    new = let h : installed c.events ≤ u.last = w.log.installed_within in grind (arith, nat_tests)

    old : installed c.events < u.last + 1
    old = let h : installed c.events ≤ u.last = w.log.installed_within in omega arith
