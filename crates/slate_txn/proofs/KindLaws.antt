-- What goes on from commit to commit of a kind holds of the state of each legal, vouched journal of that kind, and stands before each of its commits.
use Rattle.std.proofs.Common.{◌≡◌, ℕ, ◌+◌, List, [], ◌∷◌, ◌++◌, Option, Some, None, IsTrue, sym, subst, append-nil}
use Rattle.std.specs.List.{AllByRecursion}
use Rattle.slate_types.specs.declared.config.IsolationLevel.{IsolationLevel}
use Rattle.slate_types.specs.declared.config.IsolationLevel.TheVariants.{Snapshot, SerializableSnapshot}
use Rattle.slate_types.specs.Keys.{among}
use Rattle.slate_mem.specs.Batch.{batch_keys}
use Rattle.slate_txn.specs.declared.event.Event.{Event}
use Rattle.slate_txn.specs.declared.event.Event.TheVariants as events
use Rattle.slate_txn.specs.declared.event.TranscriptStep.{TranscriptStep}
use Rattle.slate_txn.specs.Named.{find_named}
use Rattle.slate_txn.specs.State.{Rules, Commit, Tx, State, opening, last, last_of}
use Rattle.slate_txn.specs.Tracking.{Reading, reads_of}
use Rattle.slate_txn.specs.Replay.{apply, apply_all, replay, Allowed, LegalFrom, IsLegal, ids_of}
use Rattle.slate_txn.specs.Alone.{IsAlone}
use Rattle.slate_txn.specs.Vouched.{AreVouched, TracksReads, AloneWhere, AloneBy, AloneAt, AreAloneFrom}
use Rattle.slate_txn.specs.Laws.{Counts}
use Rattle.slate_txn.specs.Audited.{Kind, IsOfKindBy, IsOfKindAt, AreOfKindFrom, AreOfKind, TracksAll, ComesNext, PassesOn}
use Rattle.slate_txn.proofs.SequenceLaws.{apply_counts}
use Rattle.slate_txn.proofs.PlaceLaws.{each_at_its_place}

abbrev TrackAll : List Commit → Type 0
TrackAll cs = AllByRecursion (λ c. c.tracked ≡ batch_keys c.ops) cs

-- who tracks all its keys tracks those that were read
tracks_reads : (cs : List Commit) (begin : ℕ) (rs : Reading) → TrackAll cs → TracksReads cs begin rs
tracks_reads [] begin rs h = tt
tracks_reads (c ∷ cs) begin rs h = ((λ past k wrote read. subst (λ ks. IsTrue (among k ks)) (sym h.0) wrote), tracks_reads cs begin rs h.1)

more_tracked : (cs : List Commit) (c : Commit) → TrackAll cs → c.tracked ≡ batch_keys c.ops → TrackAll (cs ++ (c ∷ []))
more_tracked [] c h e = (e, tt)
more_tracked (x ∷ cs) c h e = (h.0, more_tracked cs c h.1 e)

record Holds (P : List Commit → Type 0) (cs : List Commit) : Type 0 where
  whole : P cs
  tracked : TrackAll cs

-- the transaction is serializable, so that its transcript is answered as just before the commit
serial : (r : Rules) (s : State) (level : IsolationLevel) (begin : ℕ) (ts : List TranscriptStep) → level ≡ SerializableSnapshot → TrackAll s.commits → AloneWhere r s level begin ts → IsAlone r s.commits (last r s) ts
serial r s Snapshot begin ts e all a = cc
serial r s SerializableSnapshot begin ts e all a = a (tracks_reads s.commits begin (reads_of ts) all)

stands_on : (r : Rules) (kind : Kind) (P : List Commit → Type 0) (tracks : TracksAll kind) (s : State) (o : Option Tx) (c : Commit) (ts : List TranscriptStep) → Counts r.start_seq s.commits → c.seq ≡ last_of r.start_seq s.commits + 1 → Holds P s.commits →
    IsOfKindBy kind o (Some c.seq) c.now c.ops c.tracked ts → AloneBy r s o ts → ComesNext r kind P s.commits c ts
stands_on r kind P tracks s None c ts counts next holds is a = absurd is
stands_on r kind P tracks s (Some t) c ts counts next holds is a = record {
  counts = counts;
  next = next;
  before = holds.whole;
  level = t.level;
  of_kind = is;
  alone = serial r s t.level t.begin ts (tracks.serializable t.level c.now c.ops c.tracked ts is) holds.tracked a;
}

holds_more : (r : Rules) (kind : Kind) (P : List Commit → Type 0) (tracks : TracksAll kind) (goes : PassesOn r kind P) (cs : List Commit) (c : Commit) (ts : List TranscriptStep) → TrackAll cs → ComesNext r kind P cs c ts → Holds P (cs ++ (c ∷ []))
holds_more r kind P tracks goes cs c ts all on = record { whole = goes.more cs c ts on; tracked = more_tracked cs c all (tracks.tracks on.level c.now c.ops c.tracked ts on.of_kind) }

holds_event : (r : Rules) (kind : Kind) (P : List Commit → Type 0) (tracks : TracksAll kind) (goes : PassesOn r kind P) (s : State) (used : List (List ℕ)) (e : Event) → Counts r.start_seq s.commits → Allowed r.start_seq s used e →
    IsOfKindAt kind s e → AloneAt r s e → Holds P s.commits → Holds P (apply s e).commits
holds_event r kind P tracks goes s used (events.Begin id level start) counts a is alone h = h
holds_event r kind P tracks goes s used (events.End id) counts a is alone h = h
holds_event r kind P tracks goes s used (events.Commit id None now ops tracked ts) counts a is alone h = subst (Holds P) (sym (append-nil s.commits)) h
holds_event r kind P tracks goes s used (events.Commit id (Some n) now ops tracked ts) counts a is alone h =
    let c : Commit = record { seq = n; now = now; ops = ops; tracked = tracked } in
    holds_more r kind P tracks goes s.commits c ts h.tracked (stands_on r kind P tracks s (find_named id s.txns) c ts counts a.1.0 h is alone)
holds_event r kind P tracks goes s used (events.Write n now ops) counts a is alone h = absurd is
holds_event r kind P tracks goes s used events.Freeze counts a is alone h = h
holds_event r kind P tracks goes s used (events.Install through tables) counts a is alone h = h
holds_event r kind P tracks goes s used (events.Snapshot id n) counts a is alone h = h
holds_event r kind P tracks goes s used (events.Release id) counts a is alone h = h

holds_from : (r : Rules) (kind : Kind) (P : List Commit → Type 0) (tracks : TracksAll kind) (goes : PassesOn r kind P) (es : List Event) (s : State) (used : List (List ℕ)) → Counts r.start_seq s.commits → LegalFrom r.start_seq s used es →
    AreOfKindFrom kind s es → AreAloneFrom r s es → Holds P s.commits → Holds P (apply_all s es).commits
holds_from r kind P tracks goes [] s used counts legal is alone h = h
holds_from r kind P tracks goes (e ∷ es) s used counts legal is alone h =
    holds_from r kind P tracks goes es (apply s e) (ids_of e ++ used) (apply_counts r.start_seq s used e counts legal.0) legal.1 is.1 alone.1
    (holds_event r kind P tracks goes s used e counts legal.0 is.0 alone.0 h)

-- of the commits of a journal of the kind
pub holds_of_all : (r : Rules) (kind : Kind) (P : List Commit → Type 0) → TracksAll kind → PassesOn r kind P → (es : List Event) → IsLegal r.start_seq es → AreVouched r es → AreOfKind kind es → P (replay es).commits
holds_of_all r kind P tracks goes es legal vouched is =
    (holds_from r kind P tracks goes es opening [] tt legal is (each_at_its_place r es legal vouched) (record { whole = goes.first; tracked = tt })).whole

stands_from : (r : Rules) (kind : Kind) (P : List Commit → Type 0) (tracks : TracksAll kind) (goes : PassesOn r kind P) (before : List Event) (id : List ℕ) (c : Commit) (ts : List TranscriptStep) (later : List Event) (s : State) (used : List (List ℕ)) →
    Counts r.start_seq s.commits → LegalFrom r.start_seq s used (before ++ (events.Commit id (Some c.seq) c.now c.ops c.tracked ts ∷ later)) → AreOfKindFrom kind s (before ++ (events.Commit id (Some c.seq) c.now c.ops c.tracked ts ∷ later)) →
    AreAloneFrom r s (before ++ (events.Commit id (Some c.seq) c.now c.ops c.tracked ts ∷ later)) → Holds P s.commits → ComesNext r kind P (apply_all s before).commits c ts
stands_from r kind P tracks goes [] id c ts later s used counts legal is alone h = stands_on r kind P tracks s (find_named id s.txns) c ts counts legal.0.1.0 h is.0 alone.0
stands_from r kind P tracks goes (e ∷ before) id c ts later s used counts legal is alone h =
    stands_from r kind P tracks goes before id c ts later (apply s e) (ids_of e ++ used) (apply_counts r.start_seq s used e counts legal.0) legal.1 is.1 alone.1
    (holds_event r kind P tracks goes s used e counts legal.0 is.0 alone.0 h)

-- before each commit of such a journal
pub stands_before : (r : Rules) (kind : Kind) (P : List Commit → Type 0) → TracksAll kind → PassesOn r kind P → (before later : List Event) (id : List ℕ) (c : Commit) (ts : List TranscriptStep) →
    IsLegal r.start_seq (before ++ (events.Commit id (Some c.seq) c.now c.ops c.tracked ts ∷ later)) → AreVouched r (before ++ (events.Commit id (Some c.seq) c.now c.ops c.tracked ts ∷ later)) →
    AreOfKind kind (before ++ (events.Commit id (Some c.seq) c.now c.ops c.tracked ts ∷ later)) → ComesNext r kind P (replay before).commits c ts
stands_before r kind P tracks goes before later id c ts legal vouched is =
    stands_from r kind P tracks goes before id c ts later opening [] tt legal is (each_at_its_place r (before ++ (events.Commit id (Some c.seq) c.now c.ops c.tracked ts ∷ later)) legal vouched) (record { whole = goes.first; tracked = tt })
