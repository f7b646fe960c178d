-- If all commits track all their keys, each would read the same just before it, whatever its begin.
use Rattle.std.proofs.Common.{◌≡◌, ℕ, zero, suc, List, [], ◌∷◌, ◌++◌, take, slice_get, Option}
use Rattle.std.proofs.Common.{Some, None}
use Rattle.std.proofs.Common.{IsTrue, sym, subst}
use Rattle.std.specs.Prelude.{ℤ}
use Rattle.std.specs.List.{AllByRecursion}
use Rattle.slate_types.specs.declared.config.IsolationLevel.{IsolationLevel}
use Rattle.slate_types.specs.declared.config.IsolationLevel.TheVariants.{SerializableSnapshot}
use Rattle.slate_types.specs.declared.config.IsolationLevel.TheVariants.{Snapshot}
use Rattle.slate_types.specs.Keys.{among}
use Rattle.slate_mem.specs.Batch.{Ops, batch_keys}
use Rattle.slate_txn.specs.declared.event.Event.{Event}
use Rattle.slate_txn.specs.declared.event.Event.TheVariants as events
use Rattle.slate_txn.specs.declared.event.TranscriptStep.{TranscriptStep}
use Rattle.slate_txn.specs.Alone.{IsAlone}
use Rattle.slate_txn.specs.Audited.{AreOfKind, AreOfKindFrom, IsOfKindAt, IsOfKindBy, Kind}
use Rattle.slate_txn.specs.Audited.{TracksAll}
use Rattle.slate_txn.specs.Named.{find_named}
use Rattle.slate_txn.specs.Replay.{apply, apply_all, commit_made, replay}
use Rattle.slate_txn.specs.State.{Commit, Rules, State, Tx, last, opening}
use Rattle.slate_txn.specs.Tracking.{Reading, reads_of}
use Rattle.slate_txn.specs.Vouched.{AloneAt, AloneBy, AloneWhere, AreAlone, AreAloneFrom}
use Rattle.slate_txn.specs.Vouched.{TracksReads}
use Rattle.slate_threads.specs.Own.{AreSerial, IsSerialAt, IsSerialBy}

abbrev TrackAll : List Commit → Type 0
TrackAll cs = AllByRecursion (λ c. c.tracked ≡ batch_keys c.ops) cs

track_reads : (cs : List Commit) (begin : ℕ) (rs : Reading) → TrackAll cs → TracksReads cs begin rs
track_reads [] begin rs h = tt
track_reads (c ∷ cs) begin rs h = (
  (λ past k wrote read. subst (λ ks. IsTrue (among k ks)) (sym h.0) wrote),
  track_reads cs begin rs h.1,
)

track_more : (cs ds : List Commit) → TrackAll cs → TrackAll ds → TrackAll (cs ++ ds)
track_more [] ds h k = k
track_more (c ∷ cs) ds h k = (h.0, track_more cs ds h.1 k)

module _ (kind : Kind) (all : TracksAll kind) where
  made_tracks : (t : Option Tx) (n : Option ℕ) (now : ℤ) (ops : Ops) (tracked : List (List ℕ))
      (ts : List TranscriptStep) → IsOfKindBy kind t n now ops tracked ts →
      TrackAll (commit_made n now ops tracked)
  made_tracks t None now ops tracked ts h = tt
  made_tracks None (Some n) now ops tracked ts h = absurd h
  made_tracks (Some t) (Some n) now ops tracked ts h = (all.tracks t.level now ops tracked ts h, tt)

  event_tracks : (s : State) (e : Event) → IsOfKindAt kind s e → TrackAll s.commits →
      TrackAll (apply s e).commits
  event_tracks s (events.Begin id level start) is h = h
  event_tracks s (events.End id) is h = h
  event_tracks s (events.Commit id n now ops tracked ts) is h =
      track_more s.commits (commit_made n now ops tracked) h
      (made_tracks (find_named id s.txns) n now ops tracked ts is)
  event_tracks s (events.Write n now ops) is h = absurd is
  event_tracks s events.Freeze is h = h
  event_tracks s (events.Install through tables) is h = h
  event_tracks s (events.Snapshot id n) is h = h
  event_tracks s (events.Release id) is h = h

  front_tracks : (s : State) (es : List Event) (p : ℕ) → AreOfKindFrom kind s es →
      TrackAll s.commits → TrackAll (apply_all s (take p es)).commits
  front_tracks s [] zero is h = h
  front_tracks s [] (suc p) is h = h
  front_tracks s (e ∷ es) zero is h = h
  front_tracks s (e ∷ es) (suc p) is h =
      front_tracks (apply s e) es p is.1 (event_tracks s e is.0 h)

alone_there : (r : Rules) (s : State) (es : List Event) → AreAloneFrom r s es →
    (p : ℕ) (e : Event) → slice_get es p ≡ Some e → AloneAt r (apply_all s (take p es)) e
alone_there r s [] h p e is = absurd (cc is)
alone_there r s (x ∷ es) h zero e is = let same : x ≡ e = cc is in subst (AloneAt r s) same h.0
alone_there r s (x ∷ es) h (suc p) e is = alone_there r (apply s x) es h.1 p e is

serial_of : (r : Rules) (s : State) (t : Tx) (ts : List TranscriptStep) (level : IsolationLevel) →
    TrackAll s.commits → AloneWhere r s level t.begin ts → level ≡ SerializableSnapshot →
    IsAlone r s.commits (last r s) ts
serial_of r s t ts Snapshot h alone e = cc
serial_of r s t ts SerializableSnapshot h alone e =
    alone (track_reads s.commits t.begin (reads_of ts) h)

serial_by : (r : Rules) (s : State) (t : Option Tx) (ts : List TranscriptStep) →
    TrackAll s.commits → AloneBy r s t ts → IsSerialBy r s t ts
serial_by r s None ts h alone = alone
serial_by r s (Some t) ts h alone = λ e. serial_of r s t ts t.level h alone e

serial_at : (r : Rules) (s : State) (e : Event) → TrackAll s.commits → AloneAt r s e →
    IsSerialAt r s e
serial_at r s (events.Commit id n now ops tracked ts) h alone =
    serial_by r s (find_named id s.txns) ts h alone
serial_at r s (events.Begin id level start) h alone = tt
serial_at r s (events.End id) h alone = tt
serial_at r s (events.Write n now ops) h alone = tt
serial_at r s events.Freeze h alone = tt
serial_at r s (events.Install through tables) h alone = tt
serial_at r s (events.Snapshot id n) h alone = tt
serial_at r s (events.Release id) h alone = tt

pub are_serial : (r : Rules) (kind : Kind) (es : List Event) → TracksAll kind → AreOfKind kind es →
    AreAlone r es → AreSerial r es
are_serial r kind es all is alone p e at =
    serial_at r (replay (take p es)) e (front_tracks kind all opening es p is tt)
    (alone_there r opening es alone p e at)
