-- A journal with a foreign event isn't of the kind.
use Rattle.std.proofs.Common.{◌≡◌, ℕ, List, [], ◌∷◌, ◌++◌, Option, Some, None, subst}
use Rattle.slate_txn.specs.declared.event.Event.{Event}
use Rattle.slate_txn.specs.declared.event.Event.TheVariants as events
use Rattle.slate_txn.specs.Named.{find_named}
use Rattle.slate_txn.specs.State.{State, opening}
use Rattle.slate_txn.specs.Replay.{apply, apply_all, replay}
use Rattle.slate_txn.specs.Audited.{Kind, IsOfKindBy, IsOfKindAt, AreOfKindFrom, AreOfKind, IsForeignAt, IsFirstForeign}

none_is_some : {P : Type 0} (n : ℕ) → None ≡ Some n → P
none_is_some n e = cc

not_of_kind : (kind : Kind) (s : State) (e : Event) (n : ℕ) → IsForeignAt kind s e n → IsOfKindAt kind s e → ⊥
not_of_kind kind s (events.Commit id None now ops tracked ts) n h is = none_is_some n h.0
not_of_kind kind s (events.Commit id (Some m) now ops tracked ts) n h is = h.1 (subst (λ o. IsOfKindBy kind (find_named id s.txns) o now ops tracked ts) h.0 is)
not_of_kind kind s (events.Write m now ops) n h is = is
not_of_kind kind s (events.Begin id level start) n h is = h
not_of_kind kind s (events.End id) n h is = h
not_of_kind kind s events.Freeze n h is = h
not_of_kind kind s (events.Install through tables) n h is = h
not_of_kind kind s (events.Snapshot id m) n h is = h
not_of_kind kind s (events.Release id) n h is = h

at_event : (kind : Kind) (s : State) (before : List Event) (e : Event) (later : List Event) → AreOfKindFrom kind s (before ++ (e ∷ later)) → IsOfKindAt kind (apply_all s before) e
at_event kind s [] e later h = h.0
at_event kind s (x ∷ before) e later h = at_event kind (apply s x) before e later h.1

pub is_foreign : (kind : Kind) (es : List Event) (n : ℕ) → IsFirstForeign kind es n → AreOfKind kind es → ⊥
is_foreign kind es n f h = not_of_kind kind (replay f.before) f.event n f.foreign (at_event kind opening f.before f.event f.later (subst (AreOfKind kind) f.whole h))
