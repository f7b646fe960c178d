-- What is known of a journal by places of one's own. P: a fact of an event and those before it.
--     OwnAre P own es      each is a place in the journal, and P holds of the event there
--     OwnAreVouched r own es      each commit there was answered as a reader at its begin is
--     OwnAreAlone r own es      each serializable commit there would read the same just before it,
--             unless another since its begin wrote what it read and doesn't track it
--     OwnAreOfKind kind own es      each commit there is of the kind, and no write is there
--     IsNoInstall e, OwnInstallNothing own es      the event is no install; none there is
--     IsSerialAt r s e      a serializable commit would read the same in the state just before it
--     AreSerial r es      so would each of a journal, whatever others tracked
use Rattle.std.specs.Prelude.{◌≡◌, ℕ, ◌<◌, List, length, take, slice_get, Option, Some, None, ⊤}
use Rattle.slate_types.specs.declared.config.IsolationLevel.TheVariants.{SerializableSnapshot}
use Rattle.slate_txn.specs.declared.event.Event.{Event}
use Rattle.slate_txn.specs.declared.event.Event.TheVariants as events
use Rattle.slate_txn.specs.declared.event.TranscriptStep.{TranscriptStep}
use Rattle.slate_txn.specs.Alone.{IsAlone}
use Rattle.slate_txn.specs.Audited.{IsOfKindAt, Kind}
use Rattle.slate_txn.specs.Named.{find_named}
use Rattle.slate_txn.specs.Replay.{replay}
use Rattle.slate_txn.specs.State.{Rules, State, Tx, last}
use Rattle.slate_txn.specs.Vouched.{AloneAt, VouchedAt}
use Rattle.slate_shared.specs.Shared.{times}

pub record OwnAre (P : List Event → Event → Type 0) (own : List ℕ) (es : List Event) : Type 0 where
  pub within : (p : ℕ) → 0 < times p own → p < length es
  pub each : (p : ℕ) (e : Event) → 0 < times p own → slice_get es p ≡ Some e → P (take p es) e

abbrev pub OwnAreVouched : Rules → List ℕ → List Event → Type 0
OwnAreVouched r own es = OwnAre (λ before e. VouchedAt r (replay before) e) own es

abbrev pub OwnAreAlone : Rules → List ℕ → List Event → Type 0
OwnAreAlone r own es = OwnAre (λ before e. AloneAt r (replay before) e) own es

abbrev pub OwnAreOfKind : Kind → List ℕ → List Event → Type 0
OwnAreOfKind kind own es = OwnAre (λ before e. IsOfKindAt kind (replay before) e) own es

abbrev pub IsNoInstall : Event → Type 0
IsNoInstall (events.Install through tables) = ⊥
IsNoInstall _ = ⊤

abbrev pub OwnInstallNothing : List ℕ → List Event → Type 0
OwnInstallNothing own es = OwnAre (λ before e. IsNoInstall e) own es

-- ---- whatever others tracked

abbrev pub IsSerialBy : Rules → State → Option Tx → List TranscriptStep → Type 0
IsSerialBy r s None ts = ⊥
IsSerialBy r s (Some t) ts = t.level ≡ SerializableSnapshot → IsAlone r s.commits (last r s) ts

abbrev pub IsSerialAt : Rules → State → Event → Type 0
IsSerialAt r s (events.Commit id n now ops tracked ts) = IsSerialBy r s (find_named id s.txns) ts
IsSerialAt r s _ = ⊤

abbrev pub AreSerial : Rules → List Event → Type 0
AreSerial r es =
    (p : ℕ) (e : Event) → slice_get es p ≡ Some e → IsSerialAt r (replay (take p es)) e
