-- What a session keeps, and which state of the model it stands for.
--     SessionModel      the core, the open names with their ids, and the moment
--     under ps o      what is open under the id, where there is one
--     AreNames names ps      each name has an id under which something is open, and no two have the same
--     AreApart ps qs      no name stands in both
--     NamesStand names snapshot_names txns snapshots      each name stands for an open transaction or an open snapshot, and none for both
--     reader_id e name, reader_under c o      the id that a name is read under, and what reads under it
--     AreUnder named names ps      of the model's names each has what is open under its id
--     StandsFor e s      the session answers as the model does in the state s
--     IsStep e stepped a      an answer is the model's, as it is shown, and what the session becomes is the model's too
--     StepsAs m seg before after line result      so is the answer to the line, for what the parts and the segments mean
--     IsTableUpTo m layout n o      an object is a table that a flush put, and there were no more flushes than these
--     HasTablesAlone m layout objects runs      the store holds nothing but the tables of these installs, and for each key its rows by sequence are theirs
--     IsRunning policies m seg r parts objects e      its core is settled, for rules of a run, whose parts mean what they did
--     own_load txns, held_load e      how many own operations open transactions have; the same with the rows in memory
--     line_load line, Grows line old new      how many operations a line has; no more than so do its events, its rows and its own operations grow
--     IsFull e, IsLimit e error      the journal or memory has passed what no script fills; a limit was reached, so one of them has
--     IsRefusal error      a line that writes is answered so; a read or a flush that wants an operator ends the run
--     IsDone ran result      an operation that ran is answered by its end, and a refused one by its refusal
--     has_moment line      a line that sets the moment sets one
--     StoresNothing m seg old new      what a line keeps that stores nothing
use Rattle.std.specs.Prelude.{◌≡◌, ℕ, ◌+◌, ◌-◌, ◌^◌, ◌<◌, ◌⊎◌, Bool, true, ◌≤◌, List, flat_map, length, sum_by, Option, Some, None, Result, Ok, IfOk, IfErr, OnOk, IsSome, ℤ}
use Rattle.std.specs.List.{AllByRecursion}
use Rattle.std.specs.Option.{option_or}
use Rattle.slate_types.specs.declared.error.SlateDBError.{SlateDBError}
use Rattle.slate_types.specs.declared.error.SlateDBError.TheVariants.{TransactionConflict, EmptyKey, KeyTooLong, ValueTooLong, SequenceExhausted, MergeOperatorMissing, IncompatibleMergeTtls, EmptySegmentPrefix, InvalidSegmentPrefix, LimitReached}
use Rattle.slate_types.specs.declared.types.Ulid.{Ulid}
use Rattle.slate_types.specs.Outside.{Objects}
use Rattle.slate_filter.specs.Policy.{Policy}
use Rattle.slate_mem.specs.KeyTests.{Segments}
use Rattle.slate_table.specs.Stored.{HoldRows, by_seq}
use Rattle.slate_txn.specs.declared.line.Line.{Line}
use Rattle.slate_txn.specs.declared.line.Line.TheVariants as lines
use Rattle.slate_txn.specs.Named.{find_named, StandOnce}
use Rattle.slate_txn.specs.Reply.{Reply, Refused}
use Rattle.slate_txn.specs.State.{Rules, Tx, State}
use Rattle.slate_txn.specs.Step.{Reader, reader, step}
use Rattle.slate_db.specs.Flushed.{Layout}
use Rattle.slate_db.specs.Load.{load, weight}
use Rattle.slate_db.specs.Installs.{runs_of}
use Rattle.slate_db.specs.Meaning.{Meaning, rules_in}
use Rattle.slate_db.specs.Model.{CoreModel, Rows, versions_in}
use Rattle.slate_types.specs.Rows.{of_key}
use Rattle.slate_db.specs.Segmented.{IsSegmented}
use Rattle.slate_db.specs.Settled.{IsSettled}
use Rattle.slate_db.specs.Sound.{IsKept, AreTables}
use Rattle.slate_db.specs.Layers.{AreRising}
use Rattle.slate_db.specs.Log.{LIMIT}
use Rattle.slate_language.specs.declared.reply.Answer.{Answer}
use Rattle.slate_language.specs.declared.reply.Answer.TheVariants as answers
use Rattle.slate_language.specs.Answers.{as_shown, reply_of}
use Rattle.slate_language.specs.Grammar.{is_moment}
use Rattle.slate_script.specs.StoredState.{IsObjectOf, IsTableObject}

-- names, snapshot_names: those of transactions and those of snapshots, rising, each with the id that the core gave
pub record SessionModel : Type 0 where
  pub core : CoreModel
  pub names : List (List ℕ × List ℕ)
  pub snapshot_names : List (List ℕ × List ℕ)
  pub now : ℤ

abbrev pub under : {X : Type 0} → List (List ℕ × X) → Option (List ℕ) → Option X
under ps None = None
under ps (Some id) = find_named id ps

pub record AreNames {X : Type 0} (names : List (List ℕ × List ℕ)) (ps : List (List ℕ × X)) : Type 0 where
  pub opened : (name id : List ℕ) → find_named name names ≡ Some id → IsSome (find_named id ps)
  pub apart : (name other id : List ℕ) → find_named name names ≡ Some id → find_named other names ≡ Some id → name ≡ other
  pub once : StandOnce ps

abbrev pub AreApart : {X Y : Type 0} → List (List ℕ × X) → List (List ℕ × Y) → Type 0
AreApart ps qs = (name : List ℕ) → (find_named name ps ≡ None) ⊎ (find_named name qs ≡ None)

-- txns, snapshots: what is open in the core
pub record NamesStand (names snapshot_names : List (List ℕ × List ℕ)) (txns : List (List ℕ × Tx)) (snapshots : List (List ℕ × ℕ)) : Type 0 where
  pub transactions : AreNames names txns
  pub shown : AreNames snapshot_names snapshots
  pub names_apart : AreApart names snapshot_names
  pub ids_apart : AreApart txns snapshots

-- a transaction's, or else a snapshot's
abbrev pub reader_id : SessionModel → List ℕ → Option (List ℕ)
reader_id e name = option_or (find_named name e.names) (find_named name e.snapshot_names)

abbrev pub reader_under : State → Option (List ℕ) → Option Reader
reader_under c None = None
reader_under c (Some id) = reader c id

abbrev pub AreUnder : {X : Type 0} → List (List ℕ × X) → List (List ℕ × List ℕ) → List (List ℕ × X) → Type 0
AreUnder named names ps = (name : List ℕ) → find_named name named ≡ under ps (find_named name names)

pub record StandsFor (e : SessionModel) (s : State) : Type 0 where
  pub commits : s.commits ≡ e.core.state.commits
  pub txns : AreUnder s.txns e.names e.core.state.txns
  pub once : StandOnce s.txns
  pub snapshots : AreUnder s.snapshots e.snapshot_names e.core.state.snapshots
  pub snapshots_once : StandOnce s.snapshots
  pub moment : s.now ≡ e.now
  pub flushed : s.flushed ≡ e.core.state.flushed

abbrev pub IsStep : SessionModel → State × Reply → Answer → Type 0
IsStep e stepped a = StandsFor e stepped.0 × (reply_of a ≡ as_shown stepped.1)

abbrev pub StepsAs : Meaning → Segments → SessionModel → SessionModel → Line → Result Answer SlateDBError → Type 0
StepsAs m seg before after line result = (s : State) → StandsFor before s → IfOk result (IsStep after (step (rules_in before.core.settings m seg) s line))

abbrev pub IsTableUpTo : Meaning → Layout → ℕ → List ℕ × List ℕ → Type 0
IsTableUpTo m layout n o = (t : IsTableObject m layout o) × (t.number ≤ n)

-- The objects stand by their paths and not by their age, so the rows of a key are those of the tables where these rise.
pub record HasTablesAlone (m : Meaning) (layout : Layout) (objects : Option Objects) (runs : List (List (Ulid × List ℕ))) : Type 0 where
  pub os : Objects
  pub told : objects ≡ Some os
  pub each : AllByRecursion (IsTableUpTo m layout (length runs)) os
  pub named : AllByRecursion (IsObjectOf (flat_map (λ ts. ts) runs)) os
  pub layers : List Rows
  pub tables : AreTables m (flat_map (λ ts. ts) runs) layers
  pub rows : Rows
  pub held : HoldRows m.encode os rows
  pub sorted : (k : List ℕ) → AreRising (versions_in k layers) → by_seq (of_key k rows) ≡ versions_in k layers

-- ---- how much a session holds

abbrev pub own_load : List (List ℕ × Tx) → ℕ
own_load txns = sum_by (λ p. length p.1.ops) txns

abbrev pub held_load : SessionModel → ℕ
held_load e = load e.core + own_load e.core.state.txns

-- a write or a commit adds no more rows than it has operations
abbrev pub line_load : Line → ℕ
line_load (lines.Write batch) = length batch
line_load (lines.Put name k v ttl) = 1
line_load (lines.Merge name k v ttl) = 1
line_load (lines.Delete name k) = 1
line_load _ = 0

abbrev pub Grows : Line → SessionModel → SessionModel → Type 0
Grows line old new = (weight new.core ≤ weight old.core + 2) × (held_load new ≤ held_load old + line_load line)

abbrev pub IsFull : SessionModel → Type 0
IsFull e = (LIMIT < weight e.core + 2) ⊎ (2 ^ 32 - 1 < held_load e)

-- e: the session that meets it
abbrev pub IsLimit : SessionModel → SlateDBError → Type 0
IsLimit e error = (n : ℕ) × (error ≡ LimitReached n) × IsFull e

-- ---- what refuses a write, an operation or a commit

-- the line is answered this refusal
abbrev pub IsRefusal : SlateDBError → Type 0
IsRefusal (TransactionConflict n) = Unit {0}
IsRefusal EmptyKey = Unit {0}
IsRefusal (KeyTooLong n) = Unit {0}
IsRefusal (ValueTooLong n) = Unit {0}
IsRefusal SequenceExhausted = Unit {0}
IsRefusal MergeOperatorMissing = Unit {0}
IsRefusal (IncompatibleMergeTtls k a b) = Unit {0}
IsRefusal (EmptySegmentPrefix k) = Unit {0}
IsRefusal (InvalidSegmentPrefix p q) = Unit {0}
IsRefusal _ = ⊥

pub record IsDone {T : Type 0} (ran : Result T SlateDBError) (result : Result Answer SlateDBError) : Type 0 where
  pub done : OnOk ran (result ≡ Ok answers.Done)
  pub reply : IfErr ran (λ e. IfOk result (λ a. reply_of a ≡ Refused e))
  pub refusal : IfErr ran (λ e. OnOk result (IsRefusal e))
  pub other : IfErr ran (λ e. IfErr result (λ x. (x ≡ e) × (IsRefusal e → ⊥)))

-- what a line that stores nothing keeps, for parts of this meaning
pub record StoresNothing (m : Meaning) (seg : Segments) (old new : SessionModel) : Type 0 where
  pub settings : new.core.settings ≡ old.core.settings
  pub runs : runs_of new.core.events ≡ runs_of old.core.events
  pub later : length old.core.events ≤ length new.core.events
  pub kept : IsKept m old.core → IsKept m new.core
  pub segmented : IsSegmented seg old.core → IsSegmented seg new.core

-- parts: what the parts mean that are handed in
pub record IsRunning (policies : List Policy) (m : Meaning) (seg : Segments) (r : Rules) (parts : Meaning) (objects : Option Objects) (e : SessionModel) : Type 0 where
  pub meaning : parts ≡ m
  pub rules : rules_in e.core.settings m seg ≡ r
  pub settled : IsSettled policies m seg objects e.core

-- the moment of a line that sets it is one
abbrev pub has_moment : Line → Bool
has_moment (lines.Now m) = is_moment m
has_moment _ = true
