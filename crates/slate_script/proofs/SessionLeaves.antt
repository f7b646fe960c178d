-- What a call of the core leaves, where it installs nothing.
use Rattle.std.proofs.Common.{◌≡◌, ℕ, ◌+◌, ◌≤◌, inl, inr, List, [], ◌∷◌, ◌++◌, length, Option, Some, None, Result, Ok, Err, OnOk, ℤ, refl, sym, ap, ◌∙◌, subst, arith}
use Rattle.std.proofs.lemmas.List.{length-append}
use Rattle.std.specs.Prelude.{OnErr}
use Rattle.slate_mem.specs.Batch.{Ops, kept_ops}
use Rattle.slate_mem.specs.KeyTests.{Segments}
use Rattle.slate_txn.specs.declared.event.TranscriptStep.{TranscriptStep}
use Rattle.slate_txn.specs.Step.{noted}
use Rattle.slate_txn.specs.declared.event.Event.{Event}
use Rattle.slate_txn.specs.declared.event.Event.TheVariants as events
use Rattle.slate_txn.specs.Conflict.{tracked_writes}
use Rattle.slate_txn.specs.Named.{without}
use Rattle.slate_txn.specs.State.{Tx}
use Rattle.slate_db.specs.Committed.{after_commit, IsCommitted, IsEnded}
use Rattle.slate_db.specs.Frozen.{IsFrozen}
use Rattle.slate_db.specs.Installs.{runs_in, runs_of}
use Rattle.slate_db.specs.Meaning.{Meaning}
use Rattle.slate_db.specs.Model.{CoreModel, IsSame, Rows}
use Rattle.slate_db.specs.Operated.{operated}
use Rattle.slate_db.specs.Segmented.{IsSegmented}
use Rattle.slate_db.specs.Sound.{IsKept}
use Rattle.slate_db.specs.Written.{IsWritten}
use Rattle.slate_types.specs.declared.error.SlateDBError.{SlateDBError}
use Rattle.slate_language.specs.declared.reply.Answer.{Answer}
use Rattle.slate_script.specs.Session.{SessionModel, StoresNothing}
use Rattle.slate_db.proofs.RunsOf.{runs_same}
use Rattle.slate_db.proofs.Segmenting.{segmented_as}

pub record Leaves (old new : CoreModel) : Type 0 where
  pub settings : new.settings ≡ old.settings
  pub runs : runs_of new.events ≡ runs_of old.events
  pub later : length old.events ≤ length new.events

one_more : (es : List Event) (e : Event) → length es ≤ length (es ++ (e ∷ []))
one_more es e = let n : length (es ++ (e ∷ [])) ≡ length es + 1 = length-append es (e ∷ []) in omega (arith, n)

leaves_one : (old new : CoreModel) (e : Event) → new.settings ≡ old.settings → new.events ≡ old.events ++ (e ∷ []) → runs_in e ≡ [] → Leaves old new
leaves_one old new e settings is none = record {
  settings = settings;
  runs = ap runs_of is ∙ runs_same old.events e none;
  later = subst (λ es. length old.events ≤ length es) (sym is) (one_more old.events e);
}

leaves_all : (old new : CoreModel) → new.settings ≡ old.settings → new.events ≡ old.events → Leaves old new
leaves_all old new settings is = record {
  settings = settings;
  runs = ap runs_of is;
  later = subst (λ es. length old.events ≤ length es) (sym is) (omega arith);
}

pub leaves_event : (old new : CoreModel) (e : Event) → new ≡ record old { state = new.state; events = old.events ++ (e ∷ []); spare = new.spare } → runs_in e ≡ [] → Leaves old new
leaves_event old new e is none = leaves_one old new e (ap (λ (c : CoreModel). c.settings) is) (ap (λ (c : CoreModel). c.events) is) none

pub leaves_same : (old new : CoreModel) → IsSame old new → Leaves old new
leaves_same old new is = leaves_all old new (ap (λ (c : CoreModel). c.settings) is) (ap (λ (c : CoreModel). c.events) is)

pub leaves_frozen : (old new : CoreModel) → IsFrozen old new → Leaves old new
leaves_frozen old new (inl same) = leaves_all old new (ap (λ (c : CoreModel). c.settings) same.1) (ap (λ (c : CoreModel). c.events) same.1)
leaves_frozen old new (inr is) = leaves_one old new events.Freeze (ap (λ (c : CoreModel). c.settings) is.1) (ap (λ (c : CoreModel). c.events) is.1) refl

pub leaves_written : (old new : CoreModel) (n : Option ℕ) (now : ℤ) (ops : Ops) → IsWritten old new n now ops → Leaves old new
leaves_written old new None now ops same = leaves_all old new (ap (λ (c : CoreModel). c.settings) same.1) (ap (λ (c : CoreModel). c.events) same.1)
leaves_written old new (Some n) now ops is = leaves_one old new (events.Write n now ops) (ap (λ (c : CoreModel). c.settings) is) (ap (λ (c : CoreModel). c.events) is) refl

-- an operation that ran in a transaction
pub leaves_ran : {T : Type 0} (ran : Result T SlateDBError) (old new : CoreModel) (id : List ℕ) (f : Tx → Tx) → OnOk ran (new ≡ operated old id f) → OnErr ran (new ≡ old) → Leaves old new
leaves_ran (Ok t) old new id f is same = leaves_all old new (ap (λ (c : CoreModel). c.settings) is) (ap (λ (c : CoreModel). c.events) is)
leaves_ran (Err x) old new id f is same = leaves_all old new (ap (λ (c : CoreModel). c.settings) same) (ap (λ (c : CoreModel). c.events) same)

-- ---- a commit, refused or not

-- one event, which installs nothing, and one transaction less
pub record Closes (old new : CoreModel) (id : List ℕ) : Type 0 where
  pub settings : new.settings ≡ old.settings
  pub event : Event
  pub events : new.events ≡ old.events ++ (event ∷ [])
  pub none : runs_in event ≡ []
  pub txns : new.state.txns ≡ without id old.state.txns
  pub snapshots : new.state.snapshots ≡ old.state.snapshots
  pub flushed : new.state.flushed ≡ old.state.flushed

pub closes_ended : (old new : CoreModel) (id : List ℕ) → IsEnded old new id → Closes old new id
closes_ended old new id is = record {
  settings = ap (λ (c : CoreModel). c.settings) is;
  event = events.End id;
  events = ap (λ (c : CoreModel). c.events) is;
  none = refl;
  txns = ap (λ (c : CoreModel). c.state.txns) is;
  snapshots = ap (λ (c : CoreModel). c.state.snapshots) is;
  flushed = ap (λ (c : CoreModel). c.state.flushed) is;
}

closes_as : (old new : CoreModel) (id : List ℕ) (n : Option ℕ) (now : ℤ) (t : Tx) (rows : Rows) (segments : List (List ℕ)) → new ≡ record (after_commit old id n now t rows new.spare) { segments = segments } → Closes old new id
closes_as old new id n now t rows segments is = record {
  settings = ap (λ (c : CoreModel). c.settings) is;
  event = events.Commit id n now (kept_ops t.ops) (tracked_writes t) t.transcript;
  events = ap (λ (c : CoreModel). c.events) is;
  none = refl;
  txns = ap (λ (c : CoreModel). c.state.txns) is;
  snapshots = ap (λ (c : CoreModel). c.state.snapshots) is;
  flushed = ap (λ (c : CoreModel). c.state.flushed) is;
}

pub closes_committed : (old new : CoreModel) (id : List ℕ) (n : Option ℕ) (now : ℤ) (t : Tx) → IsCommitted old new id n now t → Closes old new id
closes_committed old new id None now t (none, is) = closes_as old new id None now t old.active old.segments is
closes_committed old new id (Some n) now t is = closes_as old new id (Some n) now t new.active new.segments is

pub leaves_closed : (old new : CoreModel) (id : List ℕ) → Closes old new id → Leaves old new
leaves_closed old new id h = leaves_one old new h.event h.settings h.events h.none

-- a write changes the commits of the state alone
pub written_txns : (old new : CoreModel) (n : Option ℕ) (now : ℤ) (ops : Ops) → IsWritten old new n now ops → new.state.txns ≡ old.state.txns
written_txns old new None now ops same = ap (λ (c : CoreModel). c.state.txns) same.1
written_txns old new (Some n) now ops is = ap (λ (c : CoreModel). c.state.txns) is

pub written_snapshots : (old new : CoreModel) (n : Option ℕ) (now : ℤ) (ops : Ops) → IsWritten old new n now ops → new.state.snapshots ≡ old.state.snapshots
written_snapshots old new None now ops same = ap (λ (c : CoreModel). c.state.snapshots) same.1
written_snapshots old new (Some n) now ops is = ap (λ (c : CoreModel). c.state.snapshots) is

pub written_flushed : (old new : CoreModel) (n : Option ℕ) (now : ℤ) (ops : Ops) → IsWritten old new n now ops → new.state.flushed ≡ old.state.flushed
written_flushed old new None now ops same = ap (λ (c : CoreModel). c.state.flushed) same.1
written_flushed old new (Some n) now ops is = ap (λ (c : CoreModel). c.state.flushed) is

kept_spare : (m : Meaning) (c : CoreModel) (n : ℕ) → IsKept m c → IsKept m (record c { spare = n })
kept_spare m c n k = (
  k.0,
  (λ lawful. let s = k.1 lawful in record { layers = s.layers; tables = s.tables; short = s.short; bases = s.bases; within = s.within; rise = s.rise; folds = s.folds }),
  λ none. let free = k.2 none in record { own = free.own; commits = free.commits },
)

pub kept_same : (m : Meaning) (old new : CoreModel) → IsSame old new → IsKept m old → IsKept m new
kept_same m old new is k = subst (λ (c : CoreModel). IsKept m c) (sym is) (kept_spare m old new.spare k)

-- ---- the segments, where no commit is added

pub segmented_ran : {T : Type 0} (ran : Result T SlateDBError) (old new : CoreModel) (id : List ℕ) (f : Tx → Tx) → OnOk ran (new ≡ operated old id f) → OnErr ran (new ≡ old) → (seg : Segments) → IsSegmented seg old → IsSegmented seg new
segmented_ran (Ok t) old new id f is same seg h = segmented_as seg old new (ap (λ (c : CoreModel). c.segments) is) (ap (λ (c : CoreModel). c.state.commits) is) h
segmented_ran (Err x) old new id f is same seg h = segmented_as seg old new (ap (λ (c : CoreModel). c.segments) same) (ap (λ (c : CoreModel). c.state.commits) same) h

pub segmented_noted : (old new : CoreModel) (id : List ℕ) (ts : List TranscriptStep) → new ≡ record old { state = noted old.state id ts } → (seg : Segments) → IsSegmented seg old → IsSegmented seg new
segmented_noted old new id ts is seg h = segmented_as seg old new (ap (λ (c : CoreModel). c.segments) is) (ap (λ (c : CoreModel). c.state.commits) is) h

pub stores_by : (m : Meaning) (seg : Segments) (e : SessionModel) (core : CoreModel) (names snapshot_names : List (List ℕ × List ℕ)) (now : ℤ) → Leaves e.core core → (IsKept m e.core → IsKept m core) → (IsSegmented seg e.core → IsSegmented seg core) →
    StoresNothing m seg e (record { core = core; names = names; snapshot_names = snapshot_names; now = now })
stores_by m seg e core names snapshot_names now leaves kept segmented = record { settings = leaves.settings; runs = leaves.runs; later = leaves.later; kept = kept; segmented = segmented }

-- for parts of each meaning, and each segments
pub stores : (e : SessionModel) (core : CoreModel) (names snapshot_names : List (List ℕ × List ℕ)) (now : ℤ) → Leaves e.core core → ((m : Meaning) → IsKept m e.core → IsKept m core) → ((seg : Segments) → IsSegmented seg e.core → IsSegmented seg core) →
    (m : Meaning) (seg : Segments) → StoresNothing m seg e (record { core = core; names = names; snapshot_names = snapshot_names; now = now })
stores e core names snapshot_names now leaves kept segmented m seg = stores_by m seg e core names snapshot_names now leaves (kept m) (segmented seg)

pub stores_where : {F : Meaning → Segments → Type 0} (result : Result Answer SlateDBError) → ((m : Meaning) (seg : Segments) → F m seg) → OnOk result ((m : Meaning) (seg : Segments) → F m seg)
stores_where (Ok a) h = h
stores_where (Err x) h = tt
