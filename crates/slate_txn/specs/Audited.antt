-- Journals whose commits are all of one kind.
--     Kind      what is known of a commit: the level of its transaction, its moment, its operations, the keys that it tracks and its transcript
--     IsOfKindBy kind t n now ops tracked ts      a commit of the transaction t; without a sequence it changes nothing, and is of each kind
--     IsOfKindAt kind s e      an event, on the state just before it: a commit is of the kind, and nothing is written outside transactions
--     AreOfKindFrom kind s es, AreOfKind kind es      so is each event
--     IsForeignAt kind s e n      a commit of the sequence n that isn't of the kind, or a write outside transactions
--     IsFirstForeign kind es n      the first such event
--     Levels, KnowsLevels s levels      the levels of the open transactions, under their ids
--     OpensNew s e      an event begins no transaction under an id that is open
--     TracksAll kind      each commit of the kind is serializable, and tracks all its keys
--     PassesOn r kind P      P holds of no commits, and of one more of the kind whose transcript is answered as just before it
--     ComesNext r kind P cs c ts      what is known of such a commit before it is made
use Rattle.std.specs.Prelude.{◌≡◌, ℕ, ◌+◌, List, [], ◌∷◌, ◌++◌, Option, Some, None, option_map, ⊤, ℤ}
use Rattle.slate_types.specs.declared.config.IsolationLevel.{IsolationLevel}
use Rattle.slate_types.specs.declared.config.IsolationLevel.TheVariants.{SerializableSnapshot}
use Rattle.slate_mem.specs.Batch.{Ops, batch_keys}
use Rattle.slate_txn.specs.declared.event.Event.{Event}
use Rattle.slate_txn.specs.declared.event.Event.TheVariants as events
use Rattle.slate_txn.specs.declared.event.TranscriptStep.{TranscriptStep}
use Rattle.slate_txn.specs.Named.{find_named, StandOnce}
use Rattle.slate_txn.specs.State.{Rules, Commit, Tx, State, opening, last_of}
use Rattle.slate_txn.specs.Replay.{apply, replay}
use Rattle.slate_txn.specs.Alone.{IsAlone}
use Rattle.slate_txn.specs.Laws.{Counts}

abbrev pub Kind : Type 1
Kind = IsolationLevel → ℤ → Ops → List (List ℕ) → List TranscriptStep → Type 0

abbrev pub IsOfKindBy : Kind → Option Tx → Option ℕ → ℤ → Ops → List (List ℕ) → List TranscriptStep → Type 0
IsOfKindBy kind t None now ops tracked ts = ⊤
IsOfKindBy kind None (Some n) now ops tracked ts = ⊥
IsOfKindBy kind (Some t) (Some n) now ops tracked ts = kind t.level now ops tracked ts

abbrev pub IsOfKindAt : Kind → State → Event → Type 0
IsOfKindAt kind s (events.Commit id n now ops tracked ts) = IsOfKindBy kind (find_named id s.txns) n now ops tracked ts
IsOfKindAt kind s (events.Write n now ops) = ⊥
IsOfKindAt kind s _ = ⊤

abbrev pub AreOfKindFrom : Kind → State → List Event → Type 0
AreOfKindFrom kind s [] = ⊤
AreOfKindFrom kind s (e ∷ es) = IsOfKindAt kind s e × AreOfKindFrom kind (apply s e) es

abbrev pub AreOfKind : Kind → List Event → Type 0
AreOfKind kind es = AreOfKindFrom kind opening es

-- ---- the first that isn't

abbrev pub IsForeignAt : Kind → State → Event → ℕ → Type 0
IsForeignAt kind s (events.Commit id n now ops tracked ts) seq = (n ≡ Some seq) × (IsOfKindBy kind (find_named id s.txns) (Some seq) now ops tracked ts → ⊥)
IsForeignAt kind s (events.Write n now ops) seq = n ≡ seq
IsForeignAt kind s _ seq = ⊥

pub record IsFirstForeign (kind : Kind) (es : List Event) (n : ℕ) : Type 0 where
  pub before : List Event
  pub event : Event
  pub later : List Event
  pub whole : es ≡ before ++ (event ∷ later)
  pub none : AreOfKind kind before
  pub foreign : IsForeignAt kind (replay before) event n

-- ---- the levels of open transactions

abbrev pub Levels : Type 0
Levels = List (List ℕ × IsolationLevel)

pub record KnowsLevels (s : State) (levels : Levels) : Type 0 where
  pub once : StandOnce levels
  pub each : (id : List ℕ) → find_named id levels ≡ option_map (λ t. t.level) (find_named id s.txns)

abbrev pub OpensNew : State → Event → Type 0
OpensNew s (events.Begin id level start) = find_named id s.txns ≡ None
OpensNew s _ = ⊤

-- ---- laws of such journals

pub record TracksAll (kind : Kind) : Type 0 where
  pub serializable : (level : IsolationLevel) (now : ℤ) (ops : Ops) (tracked : List (List ℕ)) (ts : List TranscriptStep) → kind level now ops tracked ts → level ≡ SerializableSnapshot
  pub tracks : (level : IsolationLevel) (now : ℤ) (ops : Ops) (tracked : List (List ℕ)) (ts : List TranscriptStep) → kind level now ops tracked ts → tracked ≡ batch_keys ops

-- c: a commit of the kind; cs: the commits before it
pub record ComesNext (r : Rules) (kind : Kind) (P : List Commit → Type 0) (cs : List Commit) (c : Commit) (ts : List TranscriptStep) : Type 0 where
  pub counts : Counts r.start_seq cs
  pub next : c.seq ≡ last_of r.start_seq cs + 1
  pub before : P cs
  pub level : IsolationLevel
  pub of_kind : kind level c.now c.ops c.tracked ts
  pub alone : IsAlone r cs (last_of r.start_seq cs) ts

pub record PassesOn (r : Rules) (kind : Kind) (P : List Commit → Type 0) : Type 0 where
  pub first : P []
  pub more : (cs : List Commit) (c : Commit) (ts : List TranscriptStep) → ComesNext r kind P cs c ts → P (cs ++ (c ∷ []))
