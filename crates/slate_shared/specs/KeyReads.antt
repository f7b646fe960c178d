-- What a transaction's read of a key answers.
--     IsTaken o m g es c      the core behind the lock, as its type says, with this journal
--     IsCoreOf o m t seen c      the core that a transaction's answers speak of: that of the journal seen, in which it stands open with all that it did
--     IsAnsweredBy policies m events ops before after      parts and policies are lawful, and each read of a call was answered by objects which hold the tables that the journal names, with their filters; and where there is no operator the own operations have no merge
--     seen_by o m seen t k      what the transaction sees at a key, over the commits of the journal seen
--     NeedsStored o m seen t k      its own operations don't decide it, and a row that the tables hold enters it
--     IsGet o m by k old new before after result      what a get answers, and what it leaves of the transaction
--     valued r      the answer, with the row's value in place of the row
--     got k a t      the transaction, with the get and its answer in its transcript
use Rattle.std.specs.Prelude.{◌≡◌, ◌≢◌, ◌⊎◌, ℕ, ◌≤◌, true, false, List, [], ◌∷◌, ◌++◌, None, Some, Option, option_map, IfOk, IfErr, OnErr, Result, Ok, Err}
use mathlib.Core.List.{IsPrefix}
use Rattle.slate_types.specs.declared.config.Options.{Options}
use Rattle.slate_types.specs.declared.error.SlateDBError.{SlateDBError}
use Rattle.slate_types.specs.declared.error.SlateDBError.TheVariants.{OutOfMemory}
use Rattle.slate_types.specs.declared.types.KeyValue.{KeyValue}
use Rattle.slate_types.specs.declared.types.RowEntry.{RowEntry}
use Rattle.slate_types.specs.Outside.{Objects, OnlyReads, Reach, IsFault}
use Rattle.slate_types.specs.Rows.{key_value}
use Rattle.slate_types.specs.World.{Made}
use Rattle.slate_filter.specs.Policy.{Policy}
use Rattle.slate_mem.specs.Batch.{Ops}
use Rattle.slate_mem.specs.BatchModel.{holds_merge}
use Rattle.slate_mem.specs.KeyTests.{Segments}
use Rattle.slate_table.specs.Filtered.{AreLawful}
use Rattle.slate_txn.specs.declared.event.Event.{Event}
use Rattle.slate_txn.specs.declared.event.TranscriptStep.TheVariants as steps
use Rattle.slate_txn.specs.Alone.{IsVouched}
use Rattle.slate_txn.specs.Named.{find_named}
use Rattle.slate_txn.specs.Reads.{seen as row_seen}
use Rattle.slate_txn.specs.Replay.{replay, IsLegal}
use Rattle.slate_txn.specs.Settings.{Settings, settings_of}
use Rattle.slate_txn.specs.State.{Tx}
use Rattle.slate_db.specs.Answered.{AnswersFrom}
use Rattle.slate_db.specs.Asked.{ReadsFiltersFirst, ReadsKey, needs_tables}
use Rattle.slate_db.specs.Installs.{Holds, Replays, installed, tables_of}
use Rattle.slate_db.specs.KeyShares.{IsKeyRead, IsOwnAnswer, IsShown}
use Rattle.slate_db.specs.Meaning.{IsLawfulMeaning, Meaning, rules_of}
use Rattle.slate_db.specs.Model.{CoreModel}
use Rattle.slate_db.specs.Readable.{AreFiltered, decides_own}
use Rattle.slate_db.specs.Shown.{Asking}
use Rattle.slate_db.specs.Sound.{IsOperable, IsSound, IsTied}
use Rattle.slate_shared.specs.Locked.{IsLocked}
use Rattle.slate_shared.specs.Passes.{Opened}

pub record IsTaken (o : Settings) (m : Meaning) (g : Segments) (es : List Event) (c : CoreModel) : Type 0 where
  pub locked : IsLocked o m g c
  pub events : c.events ≡ es
  pub legal : IsLegal o.start_seq c.events
  pub replays : Replays c.events c.state

pub record IsCoreOf (o : Options) (m : Meaning) (t : Opened) (seen : List Event) (c : CoreModel) : Type 0 where
  pub settings : c.settings ≡ settings_of o
  pub events : c.events ≡ seen
  pub legal : IsLegal o.start_seq c.events
  pub replays : Replays c.events c.state
  pub flushed : c.state.flushed ≡ installed c.events
  pub open_there : find_named t.id c.state.txns ≡ Some t.tx
  pub above_floor : c.floor ≤ t.tx.begin
  pub tied : IsTied m c
  pub sound : IsLawfulMeaning m → IsSound m c
  pub operable : (m.combine ≡ None → holds_merge t.tx.ops ≡ false) → IsOperable m c

pub record IsAnsweredBy (policies : List Policy) (m : Meaning) (events : List Event) (ops : Ops) (before after : Reach) : Type 0 where
  pub os : Objects
  pub lawful : IsLawfulMeaning m
  pub lawful_policies : AreLawful policies
  pub filtered : AreFiltered m.encode policies (tables_of events)
  pub holds : Holds os (tables_of events)
  pub operable : m.combine ≡ None → holds_merge ops ≡ false
  pub answers : AnswersFrom os before after

abbrev pub seen_by : Options → Meaning → List Event → Tx → List ℕ → Option RowEntry
seen_by o m events t k = row_seen (rules_of (settings_of o) m) (replay events).commits t.begin t.ops k

abbrev pub NeedsStored : Options → Meaning → List Event → Tx → List ℕ → Type 0
NeedsStored o m events t k = (decides_own k t.ops ≡ false) × (needs_tables (rules_of (settings_of o) m) (replay events) t.begin t.ops k ≡ true)

abbrev pub got : List ℕ → Option KeyValue → Tx → Tx
got k a t = record t { transcript = t.transcript ++ (steps.Get k a ∷ []) }

pub record IsGet (o : Options) (m : Meaning) (by : Asking) (k : List ℕ) (old new : Opened) (before after : Reach) (result : Result (Option KeyValue) SlateDBError) : Type 0 where
  pub noted : IfOk result (λ a. new ≡ record old { seen = new.seen; tx = got k a old.tx })
  pub unnoted : OnErr result (new ≡ record old { seen = new.seen })
  pub seen : IsPrefix old.seen new.seen
  pub answer : IsAnsweredBy by.policies m new.seen old.tx.ops before after → IfOk result (λ a. a ≡ option_map key_value (seen_by o m new.seen old.tx k))
  pub undamaged : IsAnsweredBy by.policies m new.seen old.tx.ops before after → IfErr result (IsFault before after)
  pub vouched : IsAnsweredBy by.policies m new.seen old.tx.ops before after → IsVouched (rules_of (settings_of o) m) (replay new.seen).commits old.tx → IsVouched (rules_of (settings_of o) m) (replay new.seen).commits new.tx
  pub decided : decides_own k old.tx.ops ≡ true → (new.seen ≡ old.seen) × IsOwnAnswer before after k old.tx IsShown result
  pub asks : IsAnsweredBy by.policies m new.seen old.tx.ops before after → by.policies ≢ [] → Made before after (ReadsFiltersFirst m.encode by (tables_of new.seen))
  pub finds : IsAnsweredBy by.policies m new.seen old.tx.ops before after → NeedsStored o m new.seen old.tx k → IfOk result (λ a. Made before after (ReadsKey m.encode k (tables_of new.seen)))
  pub read : decides_own k old.tx.ops ≡ false → ((result ≡ Err OutOfMemory) × (after ≡ before)) ⊎ ((c : CoreModel) × IsCoreOf o m old new.seen c × IsKeyRead by before after c k old.tx IsShown result)
  pub reads : OnlyReads before after

abbrev pub valued : Result (Option KeyValue) SlateDBError → Result (Option (List ℕ)) SlateDBError
valued (Ok a) = Ok (option_map (λ row. row.value) a)
valued (Err e) = Err e
