-- A commit of a transaction, with operations or without, and a refused one.
--     RowsAfter f c n now t, core_after f by s id n now t spare g      the active rows after a commit; the core, of its parts
--     Commits f by s l y ps xs id n now t      what the parts become
--     IsRefused m g fault old new id now e, HasCause .., HasKnownCause ..      what the model says of a refused one, and why it is
use Rattle.std.proofs.Common.{◌≡◌, ℕ, ◌+◌, ◌-◌, ◌^◌, ◌≤◌, ◌<◌, Bool, true, false, cond, bytes_eq, List, [], ◌∷◌, ◌++◌, length, map, is_some, Option, Some, None, ◌⊎◌, inl, inr, ℤ, unwrap_or, refl, sym, ap, subst, ◌∙◌, append-nil, arith}
use Rattle.std.specs.Prelude.{IsNone}
use Rattle.std.specs.List.{AllByRecursion}
use Rattle.slate_types.specs.declared.error.SlateDBError.{SlateDBError}
use Rattle.slate_types.specs.declared.error.SlateDBError.TheVariants as errors
use Rattle.slate_types.specs.Fold.{Combine, operator_at}
use Rattle.slate_mem.specs.Batch.{Ops, kept_ops}
use Rattle.slate_mem.specs.BatchModel.{holds_merge}
use Rattle.slate_mem.specs.CommitRows.{commit_rows}
use Rattle.slate_mem.specs.KeyTests.{Segments}
use Rattle.slate_mem.specs.Table.{put_rows}
use Rattle.slate_mem.proofs.BatchLaws.{keeps_each_once}
use Rattle.slate_txn.specs.declared.event.TranscriptStep.{TranscriptStep}
use Rattle.slate_txn.specs.declared.line.Line.TheVariants as lines
use Rattle.slate_txn.specs.Conflict.{conflict, conflict_of, tracked_writes, reads}
use Rattle.slate_txn.specs.HandedOver.{IsConflict}
use Rattle.slate_txn.specs.Managers.{Manager}
use Rattle.slate_txn.specs.Named.{find_named, without}
use Rattle.slate_txn.specs.Open.{Transactions}
use Rattle.slate_txn.specs.Replay.{replay, commit_made, HasNoConflict, IsNextOrNone}
use Rattle.slate_txn.specs.Reply.{Committed, Refused}
use Rattle.slate_txn.specs.State.{Commit, State, Tx, begun, last_of}
use Rattle.slate_txn.specs.Step.{step}
use Rattle.slate_txn.proofs.LegalLaws.{fewer_keys}
use Rattle.slate_txn.proofs.MadeLaws.{keys_of_kept}
use Rattle.slate_db.specs.declared.engine.Core.TheInside.{Inside}
use Rattle.slate_db.specs.Committed.{IsCommitted, IsNextOf, IsFull, after_commit, recorded_at, rows_at, put_at}
use Rattle.slate_db.specs.Installs.{as_begun}
use Rattle.slate_db.specs.Layers.{AreLayers, LayersModel}
use Rattle.slate_db.specs.BatchTests.{IsTestRefusal, batch_refusal, test_refusal}
use Rattle.slate_db.specs.Load.{load}
use Rattle.slate_db.specs.Log.{AreFine, IsLog, LogModel, MayCommit, with_commit, with_end}
use Rattle.slate_db.specs.Managed.{IsManaged}
use Rattle.slate_db.specs.Meaning.{Meaning, combine_of, rules_in}
use Rattle.slate_db.specs.Model.{CoreModel, Rows, at}
use Rattle.slate_db.specs.Segmented.{IsSegmented}
use Rattle.slate_db.specs.Sound.{HasNoMerge, IsKept, IsOperable}
use Rattle.slate_db.specs.Whole.{IsWhole, Unseen, log_of, layers_of}
use Rattle.slate_db.proofs.CommitSteps.{step_conflict, step_full, step_idle, step_commits, step_tests}
use Rattle.slate_db.proofs.CommitWholes.{whole_committed, whole_idle, kept_idle, kept_committed}
use Rattle.slate_db.proofs.Loads.{write_load}
use Rattle.slate_db.proofs.MemoryRows.{commit_within, puts_all}
use Rattle.slate_db.proofs.Operands.{found_plain, plain_kept}
use Rattle.slate_db.proofs.Plain.{empty_kept, some_ops}
use Rattle.slate_db.proofs.Puts.{some_more, versions_more, active_within}
use Rattle.slate_db.proofs.Segmenting.{segmented_as, segmented_more}
use Rattle.slate_db.proofs.Tests.{merges_fine, refusal_kept, tested_plain}
use Rattle.slate_db.proofs.Wholes.{after_end, less_one, same_snapshots}
use Rattle.slate_types.proofs.Lists.{AllByRecursion_behind, AllByRecursion_weaken}

-- ---- what the log takes

find_begun : (id : List ℕ) (ps : List (List ℕ × Tx)) (t : Tx) → find_named id ps ≡ Some t → find_named id (map as_begun ps) ≡ Some (begun t.level t.begin)
find_begun id [] t e = cc
find_begun id (p ∷ ps) t e = by (bytes_eq p.0 id) e (find_begun id ps t)
  where
    by : (b : Bool) → cond b (Some p.1) (find_named id ps) ≡ Some t → (find_named id ps ≡ Some t → find_named id (map as_begun ps) ≡ Some (begun t.level t.begin)) → cond b (Some (begun p.1.level p.1.begin)) (find_named id (map as_begun ps)) ≡ Some (begun t.level t.begin)
    by true e rest = let same : p.1 ≡ t = cc in ap (λ (u : Tx). Some (begun u.level u.begin)) same
    by false e rest = rest e

is_none : {X : Type 0} (o : Option X) → o ≡ None → IsNone o
is_none o e = ap is_some e

kept_some : (ops : Ops) → (ops ≡ [] → ⊥) → kept_ops ops ≡ [] → ⊥
kept_some ops some e = some (empty_kept ops e)

next_or_none : (start last : ℕ) (s : State) (ops : Ops) (n : Option ℕ) → last ≡ last_of start s.commits → IsNextOf last ops n → IsNextOrNone start s n (kept_ops ops)
next_or_none start last s ops None newest next = ap kept_ops next
next_or_none start last s ops (Some n) newest next = (next.0 ∙ ap (λ k. k + 1) newest, some_ops (kept_ops ops) (kept_some ops next.2))

fits : (last : ℕ) (ops : Ops) (n : Option ℕ) → last ≤ 2 ^ 64 - 2 → IsNextOf last ops n → unwrap_or n last ≤ 2 ^ 64 - 2
fits last ops None h next = h
fits last ops (Some n) h next = let e : n ≡ last + 1 = next.0 in let b : last < 2 ^ 64 - 2 = next.1 in omega arith

pub may_commit : (c : CoreModel) (x : Unseen) (id : List ℕ) (t : Tx) (n : Option ℕ) (ops : Ops) (tracked : List (List ℕ)) (ts : List TranscriptStep) → IsWhole c x → find_named id c.state.txns ≡ Some t → conflict c.state.commits t ≡ None →
    IsNextOf x.last t.ops n → ops ≡ kept_ops t.ops → tracked ≡ tracked_writes t → ts ≡ t.transcript → AreFine ops → MayCommit (log_of c x) id n ops tracked ts
may_commit c x id t n ops tracked ts w found free next ops_are keys steps fine =
    subst (λ (os : Ops). AreFine os → MayCommit (log_of c x) id n os tracked ts) (sym ops_are) (λ fine.
    subst (λ (ks : List (List ℕ)). MayCommit (log_of c x) id n (kept_ops t.ops) ks ts) (sym keys)
    (subst (λ (ss : List TranscriptStep). MayCommit (log_of c x) id n (kept_ops t.ops) (tracked_writes t) ss) (sym steps) (record {
      held = ap is_some named;
      next = next_or_none c.settings.start_seq x.last (replay c.events) t.ops n (w.log.last ∙ ap (last_of c.settings.start_seq) (sym w.log.replays)) next;
      kept = keeps_each_once t.ops;
      fine = fine;
      keys = keys_of_kept t.ops (tracked_writes t) (_, refl);
      free = subst (λ (o : Option Tx). HasNoConflict (replay c.events) o (tracked_writes t) t.transcript) (sym named)
          (is_none _ (ap (λ (cs : List Commit). conflict_of cs t.begin (tracked_writes t) (reads t)) w.log.replays ∙ fewer_keys c.state.commits t.begin (tracked_writes t) t.marked (reads t) free));
      fits = fits x.last t.ops n w.log.last_fits next;
    }))) fine
  where
    named : find_named id (replay c.events).txns ≡ Some (begun t.level t.begin)
    named = ap (find_named id) w.tied.txns ∙ find_begun id c.state.txns t found

-- ---- the parts

abbrev pub RowsAfter : (List ℕ → Combine) → CoreModel → Option ℕ → ℤ → Tx → Rows
RowsAfter f c n now t = rows_at f c.settings.default_millis n now t.ops c.active

abbrev pub core_after : (List ℕ → Combine) → Segments → Inside → List ℕ → Option ℕ → ℤ → Tx → ℕ → Manager → Inside
core_after f by s id n now t spare g = record s {
  log = with_commit s.log id n now (kept_ops t.ops) (tracked_writes t) t.transcript spare;
  layers = put_at f s.default_millis n now t.ops s.layers;
  transactions = without id s.transactions;
  manager = g;
  segments = recorded_at by n (kept_ops t.ops) s.segments;
}

pub record Commits (f : List ℕ → Combine) (by : Segments) (s : Inside) (l : LogModel) (y : LayersModel) (ps : List (List ℕ)) (xs : Transactions) (id : List ℕ) (n : Option ℕ) (now : ℤ) (t : Tx) : Type 0 where
  pub log : l ≡ with_commit s.log id n now (kept_ops t.ops) (tracked_writes t) t.transcript l.spare
  pub layers : y ≡ put_at f s.default_millis n now t.ops s.layers
  pub recorded : ps ≡ recorded_at by n (kept_ops t.ops) s.segments
  pub txns : xs ≡ without id s.transactions
  pub next : IsNextOf s.log.last t.ops n

pub committed_is : (f : List ℕ → Combine) (by : Segments) (s : Inside) (l : LogModel) (y : LayersModel) (ps : List (List ℕ)) (xs : Transactions) (g : Manager) (id : List ℕ) (n : Option ℕ) (now : ℤ) (t : Tx) → Commits f by s l y ps xs id n now t →
    core_after f by s id n now t l.spare g ≡ record s { log = l; layers = y; transactions = xs; manager = g; segments = ps }
committed_is f by s l y ps xs g id n now t made =
    let a = sym made.log in
    let b = sym made.layers in
    let d = sym made.txns in
    let e = sym made.recorded in
    λ i. record s { log = a i; layers = b i; transactions = d i; manager = g; segments = e i }

pub managed_made : (g : Manager) (ids newest last : ℕ) (cs : List Commit) (ps : List (List ℕ × Tx)) (n : Option ℕ) (moment now : ℤ) (os ops : Ops) (keys tracked : List (List ℕ)) → newest ≡ last → moment ≡ now → os ≡ ops → keys ≡ tracked →
    IsManaged g ids (unwrap_or n newest) (cs ++ commit_made n moment os keys) ps → IsManaged g ids (unwrap_or n last) (cs ++ commit_made n now ops tracked) ps
managed_made g ids newest last cs ps n moment now os ops keys tracked lasts moments ops_are keys_are w =
    subst (λ (k : ℕ). IsManaged g ids (unwrap_or n k) (cs ++ commit_made n now ops tracked) ps) lasts
    (subst (λ (ks : List Commit). IsManaged g ids (unwrap_or n newest) (cs ++ ks) ps) (λ i. commit_made n (moments i) (ops_are i) (keys_are i)) w)

-- ---- what is true of the core after it

higher : (n m : ℕ) → m ≤ n → m ≤ n + 1
higher n m h = omega arith

pub whole_made : (f : List ℕ → Combine) (c : CoreModel) (x : Unseen) (id : List ℕ) (n : Option ℕ) (now : ℤ) (t : Tx) (spare : ℕ) (g : Manager) → IsNextOf x.last t.ops n →
    IsManaged g x.ids (unwrap_or n x.last) (c.state.commits ++ commit_made n now (kept_ops t.ops) (tracked_writes t)) (without id c.state.txns) →
    IsLog (log_of (after_commit c id n now t (RowsAfter f c n now t) spare) (record (less_one x g) { last = unwrap_or n x.last })) → AreLayers (put_at f c.settings.default_millis n now t.ops (layers_of c x)) → IsWhole c x →
    IsWhole (after_commit c id n now t (RowsAfter f c n now t) spare) (record (less_one x g) { last = unwrap_or n x.last })
whole_made f c x id None now t spare g next managed log layers w = whole_idle c x id now t spare g managed log w
whole_made f c x id (Some n) now t spare g next managed log layers w =
    whole x.last next.0 managed log layers
  where
    rows : ℕ → Rows
    rows k = put_rows c.active (commit_rows f c.settings.default_millis k now (kept_ops t.ops))

    within : AllByRecursion (λ r. r.seq ≤ x.last + 1) (put_rows c.active (commit_rows f c.settings.default_millis (x.last + 1) now (kept_ops t.ops)))
    within = puts_all _ c.active _ (AllByRecursion_weaken _ _ (λ r h. higher x.last r.seq h) _ (AllByRecursion_behind (λ rows. AllByRecursion (λ r. r.seq ≤ x.last) rows) c.frozen (c.active ∷ []) w.tied.rows_within).0) (commit_within f c.settings.default_millis (x.last + 1) now (kept_ops t.ops))

    whole : (last : ℕ) → n ≡ x.last + 1 → IsManaged g x.ids n (c.state.commits ++ commit_made (Some n) now (kept_ops t.ops) (tracked_writes t)) (without id c.state.txns) →
        IsLog (log_of (after_commit c id (Some n) now t (put_rows c.active (commit_rows f c.settings.default_millis n now (kept_ops t.ops))) spare) (record (less_one x g) { last = n })) →
        AreLayers (put_at f c.settings.default_millis (Some n) now t.ops (layers_of c x)) →
        IsWhole (after_commit c id (Some n) now t (put_rows c.active (commit_rows f c.settings.default_millis n now (kept_ops t.ops))) spare) (record (less_one x g) { last = n })
    whole last is = subst (λ (k : ℕ). IsManaged g x.ids k (c.state.commits ++ commit_made (Some k) now (kept_ops t.ops) (tracked_writes t)) (without id c.state.txns) →
        IsLog (log_of (after_commit c id (Some k) now t (put_rows c.active (commit_rows f c.settings.default_millis k now (kept_ops t.ops))) spare) (record (less_one x g) { last = k })) →
        AreLayers (put_at f c.settings.default_millis (Some k) now t.ops (layers_of c x)) →
        IsWhole (after_commit c id (Some k) now t (put_rows c.active (commit_rows f c.settings.default_millis k now (kept_ops t.ops))) spare) (record (less_one x g) { last = k })) (sym is)
        (λ managed log layers. whole_committed c x id now t (put_rows c.active (commit_rows f c.settings.default_millis (x.last + 1) now (kept_ops t.ops))) spare
        (some_more f c.settings.default_millis (x.last + 1) now (kept_ops t.ops) c.active (kept_some t.ops next.2)) within g managed log layers w)

pub kept_made : (m : Meaning) (c : CoreModel) (x : Unseen) (id : List ℕ) (n : Option ℕ) (now : ℤ) (t : Tx) (spare : ℕ) (g : Segments) (recorded : List (List ℕ)) → IsNextOf x.last t.ops n → test_refusal m.combine g recorded c.settings.default_millis now t.ops ≡ None → IsWhole c x → IsKept m c →
    IsKept m (after_commit c id n now t (RowsAfter (combine_of m) c n now t) spare)
kept_made m c x id None now t spare g recorded next tested w kept = kept_idle m c id now t spare kept
kept_made m c x id (Some n) now t spare g recorded next tested w kept =
    subst (λ (k : ℕ). IsKept m (after_commit c id (Some k) now t (put_rows c.active (commit_rows (combine_of m) c.settings.default_millis k now (kept_ops t.ops))) spare)) (sym next.0)
    (kept_committed m c x id now t (put_rows c.active (commit_rows (combine_of m) c.settings.default_millis (x.last + 1) now (kept_ops t.ops))) spare
    (λ k. versions_more (combine_of m) c.settings.default_millis (x.last + 1) now (kept_ops t.ops) c.active k (active_within m c x w kept k)) (λ none. plain_kept t.ops (tested_plain m.combine g recorded (holds_merge t.ops) c.settings.default_millis now t.ops none tested)) w kept)

pub load_made : (f : List ℕ → Combine) (c : CoreModel) (id : List ℕ) (n : Option ℕ) (now : ℤ) (t : Tx) (spare : ℕ) → load (after_commit c id n now t (RowsAfter f c n now t) spare) ≤ load c + length t.ops
load_made f c id None now t spare = omega arith
load_made f c id (Some n) now t spare = write_load c f c.settings.default_millis n now (kept_ops t.ops) t.ops refl

-- with the prefixes that it records
abbrev pub CoreAfter : (List ℕ → Combine) → Segments → CoreModel → List ℕ → Option ℕ → ℤ → Tx → ℕ → CoreModel
CoreAfter f g c id n now t spare = record (after_commit c id n now t (RowsAfter f c n now t) spare) { segments = recorded_at g n (kept_ops t.ops) c.segments }

pub event_made : (f : List ℕ → Combine) (g : Segments) (c : CoreModel) (last : ℕ) (id : List ℕ) (n : Option ℕ) (now : ℤ) (t : Tx) (spare : ℕ) → IsNextOf last t.ops n → IsCommitted c (CoreAfter f g c id n now t spare) id n now t
event_made f g c last id None now t spare next = (next, refl)
event_made f g c last id (Some n) now t spare next = refl

-- of the kept operations
tested_kept : (m : Meaning) (g : Segments) (recorded : List (List ℕ)) (d : Option ℕ) (now : ℤ) (ops : Ops) → test_refusal m.combine g recorded d now ops ≡ None →
    batch_refusal m.combine g recorded d now (record { ops = kept_ops ops; held_merge = holds_merge ops }) ≡ None
tested_kept m g recorded d now ops tested = refusal_kept m.combine g recorded d now ops (record { ops = kept_ops ops; held_merge = holds_merge ops }) (refl, refl) ∙ tested

pub segmented_made : (m : Meaning) (g : Segments) (c : CoreModel) (id : List ℕ) (n : Option ℕ) (now : ℤ) (t : Tx) (spare : ℕ) → test_refusal m.combine g c.segments c.settings.default_millis now t.ops ≡ None →
    IsSegmented g c → IsSegmented g (CoreAfter (combine_of m) g c id n now t spare)
segmented_made m g c id None now t spare tested z = segmented_as g c (CoreAfter (combine_of m) g c id None now t spare) refl (append-nil c.state.commits) z
segmented_made m g c id (Some n) now t spare tested z =
    segmented_more m.combine g c (CoreAfter (combine_of m) g c id (Some n) now t spare) c.settings.default_millis now (holds_merge t.ops) (record { seq = n; now = now; ops = kept_ops t.ops; tracked = tracked_writes t }) refl refl
    (tested_kept m g c.segments c.settings.default_millis now t.ops tested) z

pub step_made : (m : Meaning) (g : Segments) (c : CoreModel) (x : Unseen) (id : List ℕ) (n : Option ℕ) (now : ℤ) (t : Tx) (rows : Rows) (spare : ℕ) → IsWhole c x → IsSegmented g c → find_named id c.state.txns ≡ Some t → conflict c.state.commits t ≡ None → test_refusal m.combine g c.segments c.settings.default_millis now t.ops ≡ None →
    IsNextOf x.last t.ops n → step (rules_in c.settings m g) (at now c.state) (lines.Commit id) ≡ (at now (after_commit c id n now t rows spare).state, Committed n)
step_made m g c x id None now t rows spare w z found free tested next = step_idle (rules_in c.settings m g) (at now c.state) id t found (same_snapshots c x id w (ap is_some found)) free next
step_made m g c x id (Some n) now t rows spare w z found free tested next =
    step_commits (rules_in c.settings m g) (at now c.state) c.segments id t x.last found (same_snapshots c x id w (ap is_some found)) free next.2 tested z.recorded w.log.last next.1
    ∙ (let is = sym next.0 in λ i. (at now (after_commit c id (Some (is i)) now t rows spare).state, Committed (Some (is i))))

-- ---- a refused one

-- what the model says of it
abbrev pub IsRefused : Meaning → Segments → (SlateDBError → Type 0) → CoreModel → CoreModel → List ℕ → ℤ → SlateDBError → Type 0
IsRefused m g fault old new id now e = fault e ⊎ (step (rules_in old.settings m g) (at now old.state) (lines.Commit id) ≡ (at now new.state, Refused e))

-- why it is; fault: a fault that came in the call, or want of memory
abbrev pub HasCause : {C : Type 0} → Option C → Segments → (SlateDBError → Type 0) → CoreModel → ℕ → ℤ → Tx → SlateDBError → Type 0
HasCause combine g fault c last now t e =
    fault e ⊎ IsConflict (conflict c.state.commits t) e ⊎ IsFull last (conflict c.state.commits t) t.ops e
    ⊎ IsTestRefusal combine g c.segments c.settings.default_millis now last (conflict c.state.commits t) t.ops e

abbrev pub HasKnownCause : {C : Type 0} → Option C → Segments → (SlateDBError → Type 0) → CoreModel → ℤ → Tx → SlateDBError → Type 0
HasKnownCause combine g fault c now t e =
    fault e ⊎ IsConflict (conflict c.state.commits t) e
    ⊎ ((e ≡ errors.SequenceExhausted) × (last_of c.settings.start_seq c.state.commits ≡ 2 ^ 64 - 2))
    ⊎ IsTestRefusal combine g c.segments c.settings.default_millis now (last_of c.settings.start_seq c.state.commits) (conflict c.state.commits t) t.ops e

met_step : (m : Meaning) (g : Segments) (c : CoreModel) (x : Unseen) (id : List ℕ) (now : ℤ) (t : Tx) (spare : ℕ) (e : SlateDBError) (o : Option ℕ) → IsWhole c x → find_named id c.state.txns ≡ Some t → conflict c.state.commits t ≡ o → IsConflict o e →
    step (rules_in c.settings m g) (at now c.state) (lines.Commit id) ≡ (at now (after_end c id spare).state, Refused e)
met_step m g c x id now t spare e None w found is h = absurd h
met_step m g c x id now t spare e (Some n) w found is h = step_conflict (rules_in c.settings m g) (at now c.state) id t n found (same_snapshots c x id w (ap is_some found)) is ∙ ap (λ r. (at now (after_end c id spare).state, Refused r)) (sym h)

-- without an operator it took no merge
own_plain : (m : Meaning) (c : CoreModel) (id : List ℕ) (t : Tx) → IsOperable m c → find_named id c.state.txns ≡ Some t → m.combine ≡ None → holds_merge t.ops ≡ false
own_plain m c id t operable found none = found_plain id c.state.txns t (operable none).own found

pub refused_is : (m : Meaning) (g : Segments) (fault : SlateDBError → Type 0) (c : CoreModel) (x : Unseen) (id : List ℕ) (now : ℤ) (t : Tx) (spare : ℕ) (e : SlateDBError) → IsWhole c x → IsOperable m c → IsSegmented g c → find_named id c.state.txns ≡ Some t →
    HasCause m.combine g fault c x.last now t e → IsRefused m g fault c (after_end c id spare) id now e
refused_is m g fault c x id now t spare e w operable z found (inl short) = inl short
refused_is m g fault c x id now t spare e w operable z found (inr (inl met)) = inr (met_step m g c x id now t spare e (conflict c.state.commits t) w found refl met)
refused_is m g fault c x id now t spare e w operable z found (inr (inr (inl full))) =
    inr (step_full (rules_in c.settings m g) (at now c.state) id t x.last found (same_snapshots c x id w (ap is_some found)) full.2 full.3 w.log.last full.1 ∙ ap (λ r. (at now (after_end c id spare).state, Refused r)) (sym full.0))
refused_is m g fault c x id now t spare e w operable z found (inr (inr (inr test))) =
    inr (step_tests (rules_in c.settings m g) (at now c.state) c.segments id t x.last e found (same_snapshots c x id w (ap is_some found)) test.free test.some w.log.last test.place z.recorded
    (merges_fine m.combine t.ops (own_plain m c id t operable found)) test.is)

pub cause_is : {C : Type 0} (combine : Option C) (g : Segments) (fault : SlateDBError → Type 0) (c : CoreModel) (x : Unseen) (now : ℤ) (t : Tx) (e : SlateDBError) → IsWhole c x → HasCause combine g fault c x.last now t e → HasKnownCause combine g fault c now t e
cause_is combine g fault c x now t e w (inl short) = inl short
cause_is combine g fault c x now t e w (inr (inl met)) = inr (inl met)
cause_is combine g fault c x now t e w (inr (inr (inl full))) = inr (inr (inl (full.0, sym w.log.last ∙ full.1)))
cause_is combine g fault c x now t e w (inr (inr (inr test))) =
    inr (inr (inr (subst (λ (n : ℕ). IsTestRefusal combine g c.segments c.settings.default_millis now n (conflict c.state.commits t) t.ops e) w.log.last test)))

-- the causes of a part, in the words of the whole
pub has_cause : {C Called : Type 0} (a b : Option C) (g : Segments) (fault : SlateDBError → Type 0) (c : CoreModel) (n last : ℕ) (z now : ℤ) (t : Tx) (e : SlateDBError) → a ≡ b → n ≡ last → z ≡ now → (e ≡ errors.OutOfMemory → fault e) → (Called → fault e) →
    (e ≡ errors.OutOfMemory) ⊎ (IsConflict (conflict c.state.commits t) e ⊎ IsFull n (conflict c.state.commits t) t.ops e) ⊎ IsTestRefusal a g c.segments c.settings.default_millis z n (conflict c.state.commits t) t.ops e ⊎ Called → HasCause b g fault c last now t e
has_cause a b g fault c n last z now t e operators seqs moments short called (inl h) = inl (short h)
has_cause a b g fault c n last z now t e operators seqs moments short called (inr (inl (inl met))) = inr (inl met)
has_cause a b g fault c n last z now t e operators seqs moments short called (inr (inl (inr full))) = inr (inr (inl (subst (λ k. IsFull k (conflict c.state.commits t) t.ops e) seqs full)))
has_cause a b g fault c n last z now t e operators seqs moments short called (inr (inr (inl test))) =
    inr (inr (inr (
    subst (λ o. IsTestRefusal o g c.segments c.settings.default_millis now last (conflict c.state.commits t) t.ops e) operators
    (subst (λ k. IsTestRefusal a g c.segments c.settings.default_millis now k (conflict c.state.commits t) t.ops e) seqs
    (subst (λ (y : ℤ). IsTestRefusal a g c.segments c.settings.default_millis y n (conflict c.state.commits t) t.ops e) moments test)))))
has_cause a b g fault c n last z now t e operators seqs moments short called (inr (inr (inr h))) = inl (called h)

pub load_ended : (c : CoreModel) (id : List ℕ) (spare n : ℕ) → load (after_end c id spare) ≤ load c + n
load_ended c id spare n = omega arith

pub refused_parts_are : (s : Inside) (l : LogModel) (y : LayersModel) (ps : List (List ℕ)) (xs : Transactions) (g : Manager) (id : List ℕ) → l ≡ with_end s.log id l.spare → y ≡ s.layers → ps ≡ s.segments → xs ≡ without id s.transactions →
    record s { log = with_end s.log id l.spare; transactions = without id s.transactions; manager = g } ≡ record s { log = l; layers = y; transactions = xs; manager = g; segments = ps }
refused_parts_are s l y ps xs g id log layers recorded txns = let a = sym log in let b = sym layers in let d = sym txns in let e = sym recorded in λ i. record s { log = a i; layers = b i; transactions = d i; manager = g; segments = e i }

-- ---- the one transaction of the id

pub same_txn : (c d : CoreModel) (id : List ℕ) (t u : Tx) → c ≡ d → find_named id c.state.txns ≡ Some t → find_named id d.state.txns ≡ Some u → t ≡ u
same_txn c d id t u same a b = let h : Some t ≡ Some u = sym a ∙ ap (λ (v : CoreModel). find_named id v.state.txns) same ∙ b in cc

-- what a test says of it, in the words of the parts
pub test_of : {C : Type 0} (o : Option C) (g : Segments) (c d : CoreModel) (x : Unseen) (id : List ℕ) (now : ℤ) (t u : Tx) (e : SlateDBError) → c ≡ d → IsWhole c x → find_named id c.state.txns ≡ Some t → find_named id d.state.txns ≡ Some u →
    IsTestRefusal o g d.segments d.settings.default_millis now (last_of d.settings.start_seq d.state.commits) (conflict d.state.commits u) u.ops e → IsTestRefusal o g c.segments c.settings.default_millis now x.last (conflict c.state.commits t) t.ops e
test_of o g c d x id now t u e same w a b test =
    subst (λ (n : ℕ). IsTestRefusal o g c.segments c.settings.default_millis now n (conflict c.state.commits t) t.ops e) (sym w.log.last)
    (subst (λ (v : Tx). IsTestRefusal o g c.segments c.settings.default_millis now (last_of c.settings.start_seq c.state.commits) (conflict c.state.commits v) v.ops e) (sym (same_txn c d id t u same a b))
    (subst (λ (v : CoreModel). IsTestRefusal o g v.segments v.settings.default_millis now (last_of v.settings.start_seq v.state.commits) (conflict v.state.commits u) u.ops e) (sym same) test))

pub put_as : (a b : Option (List ℕ → Combine)) (d n : Option ℕ) (z now : ℤ) (ops : Ops) (l y : LayersModel) → y ≡ put_at (operator_at a) d n z ops l → a ≡ b → z ≡ now → y ≡ put_at (operator_at b) d n now ops l
put_as a b d n z now ops l y is operators moments = is ∙ (λ i. put_at (operator_at (operators i)) d n (moments i) ops l)

pub conflict_of_parts : (c d : CoreModel) (id : List ℕ) (t u : Tx) (o : Option ℕ) → c ≡ d → find_named id c.state.txns ≡ Some t → find_named id d.state.txns ≡ Some u → conflict d.state.commits u ≡ o → conflict c.state.commits t ≡ o
conflict_of_parts c d id t u o same a b h = ap (λ (v : CoreModel). conflict v.state.commits t) same ∙ ap (λ (v : Tx). conflict d.state.commits v) (same_txn c d id t u same a b) ∙ h

-- a commit has a sequence
pub not_full : {P : Type 0} (last : ℕ) (ops : Ops) (n : Option ℕ) → IsNextOf last ops n → (ops ≡ [] → ⊥) → last ≡ 2 ^ 64 - 2 → P
not_full last ops None next some full = absurd (some next)
not_full last ops (Some n) next some full = let below : last < 2 ^ 64 - 2 = next.1 in absurd (omega arith)
