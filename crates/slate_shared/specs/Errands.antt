-- What a flush has in hand, and what it leaves.
--     IsRowsOf o m journal layers      the rows of memtables are those of the journal's commits above its last install
--     newest_of o journal, barrier_of o journal      the newest sequence, and the least that a reader stands at
--     IsErrand o m journal f x      this is what is in hand of the flight f: all that waits, up to the newest sequence, to be folded to the barrier
--     HasErrand o m journal flight x      so it is of the flight that is on its way
--     IsInstalled n journal      an install through this sequence or a later one stands in it
--     IsNextFlush n journal      the journal's flushes are numbered, the tables of each have places, and n is the next number
--     StoresOn journal tables before after      a store that tells its objects holds these tables at their paths then, beside all that it held of what the journal names, or a beginning of it
--     KeepsOn journal before after      it holds what it held of that
--     IsRested m w      a seat after the lock was let go: its parts and its open transaction are as they were
--     Refusal n journal e      memory is wanting, or the journal has no place for so many events
--     Departs o m journal seen flight r      a flush sets off behind this journal, with this flight; or finds nothing that waits, or is refused; seen: the journal then
--     Lands journal tables flight old seen new r      a flush lands behind this journal, which has its number next, with one event, which is its own; or is refused, with none
--     IsFlushFrom o m old from journal number layers      behind `from`, which begins with `old`, a flush took the rows of these memtables, all that wait there; it ends behind `journal`, which has its number next
--     HasLanded o m layout n before after old own new own'      an install of the tables of such a flush, through n, ends the journal that is seen then, its place is one's own, a store that tells its objects took the tables and nothing else, and holds them beside the earlier ones, and all that the journal names have the filters of these policies
--     HasGivenUp o m layout before after old new      such a flush was given up: of a store that tells its objects nothing is changed, or it took some last of the tables
--     HasTableTooLarge o m layout journal e      a table of the rows that wait would have too many blocks
--     IsOverLimit o m layout journal e      that, or the journal has no place for an event
use Rattle.std.specs.Prelude.{◌≡◌, ◌⊎◌, ℕ, ◌+◌, ◌≤◌, false, List, [], ◌∷◌, ◌++◌, map, length, slice_get, Option, None, Some, Result, IfOk, IfErr, IfSome, OnErr}
use mathlib.Core.List.{IsPrefix}
use Rattle.slate_types.specs.declared.error.SlateDBError.{SlateDBError}
use Rattle.slate_types.specs.declared.error.SlateDBError.TheVariants.{LimitReached, OutOfMemory}
use Rattle.slate_types.specs.declared.types.Ulid.{Ulid}
use Rattle.slate_types.specs.declared.config.Options.{Options}
use Rattle.slate_types.specs.Outside.{Objects}
use Rattle.atomic_table.specs.Table.{Me}
use Rattle.slate_read.specs.declared.sorted_run.SortedRun.{SortedRun}
use Rattle.slate_mem.specs.Lookup.{is_merge_among, newest_first}
use Rattle.slate_table.specs.Table.{AreInOrder}
use Rattle.slate_txn.specs.declared.event.Event.{Event}
use Rattle.slate_txn.specs.declared.event.Event.TheVariants.{Freeze, Install}
use Rattle.slate_txn.specs.Open.{least_start}
use Rattle.slate_txn.specs.Places.{above_install}
use Rattle.slate_txn.specs.Reads.{key_rows}
use Rattle.slate_txn.specs.Replay.{replay}
use Rattle.slate_txn.specs.Settings.{Settings, settings_of}
use Rattle.slate_txn.specs.State.{last_of}
use Rattle.slate_db.specs.declared.flight.Flight.{Flight}
use Rattle.slate_db.specs.Flushed.{AreSomeOfFlush, CanFlush, HasTooLarge, IsFolded, IsPut, Layout, MayTakeTables}
use Rattle.slate_db.specs.Flying.{took}
use Rattle.slate_db.specs.Installs.{Holds, NumberedFrom, installed, runs_of, tables_of}
use Rattle.slate_db.specs.Log.{LIMIT}
use Rattle.slate_db.specs.Meaning.{Meaning, rules_of}
use Rattle.slate_db.specs.Model.{Rows, versions_in}
use Rattle.slate_db.specs.Readable.{AreFiltered}
use Rattle.slate_db.specs.Sound.{above}
use Rattle.slate_shared.specs.declared.board.View.{View}
use Rattle.slate_shared.specs.declared.errand.Errand.{Errand}
use Rattle.slate_shared.specs.LockedModel.{LockedModel, IsFull}

abbrev pub IsRowsOf : Settings → Meaning → List Event → List Rows → Type 0
IsRowsOf o m journal layers = (k : List ℕ) → versions_in k layers ≡ key_rows (rules_of o m) k (above (installed journal) (replay journal).commits)

abbrev pub newest_of : Settings → List Event → ℕ
newest_of o journal = last_of o.start_seq (replay journal).commits

abbrev pub barrier_of : Settings → List Event → ℕ
barrier_of o journal = least_start (newest_of o journal) (replay journal)

pub record IsErrand (o : Settings) (m : Meaning) (journal : List Event) (f : Flight) (x : Errand) : Type 0 where
  pub number : x.number ≡ f.number
  pub barrier : x.barrier ≡ f.barrier
  pub tables : map (λ t. t.rows) x.tables.items ≡ took f
  pub through : f.through ≡ newest_of o journal
  pub start : f.barrier ≡ barrier_of o journal
  pub ready : CanFlush (took f)
  pub rows : IsRowsOf o m journal (took f)
  pub plain : m.combine ≡ None → is_merge_among (newest_first (took f)) ≡ false

pub record HasErrand (o : Settings) (m : Meaning) (journal : List Event) (flight : Option Flight) (x : Errand) : Type 0 where
  pub flight_of : Flight
  pub flies : flight ≡ Some flight_of
  pub errand : IsErrand o m journal flight_of x

pub record IsInstalled (n : ℕ) (journal : List Event) : Type 0 where
  pub place : ℕ
  pub through : ℕ
  pub tables : List (Ulid × List ℕ)
  pub stands : slice_get journal place ≡ Some (Install through tables)
  pub reaches : n ≤ through

pub record HasTableTooLarge (o : Settings) (m : Meaning) (layout : Layout) (journal : List Event) (e : SlateDBError) : Type 0 where
  pub layers : List Rows
  pub are : IsRowsOf o m journal layers
  pub rows : Rows
  pub folded : IsFolded m (barrier_of o journal) layers rows
  pub order : AreInOrder rows
  pub large : HasTooLarge layout rows e

-- a table is too large, or the journal has no place for an event more
abbrev pub IsOverLimit : Settings → Meaning → Layout → List Event → SlateDBError → Type 0
IsOverLimit o m layout journal e = ((e ≡ LimitReached LIMIT) × IsFull 1 journal) ⊎ HasTableTooLarge o m layout journal e

pub record IsNextFlush (n : ℕ) (journal : List Event) : Type 0 where
  pub number : n ≡ length (runs_of journal) + 1
  pub numbered : NumberedFrom 1 (runs_of journal)

-- known: what the journal names, or a beginning of it
abbrev pub StoresOn : List Event → List (Ulid × List ℕ) → Option Objects → Option Objects → Type 0
StoresOn journal tables before after =
    (os : Objects) → before ≡ Some os → (left : Objects) × (after ≡ Some left) × ((known : List Event) → IsPrefix known journal → Holds os (tables_of known) → Holds left (tables_of known ++ tables))

abbrev pub KeepsOn : List Event → Option Objects → Option Objects → Type 0
KeepsOn journal before after = (os : Objects) → before ≡ Some os → (left : Objects) × (after ≡ Some left) × ((known : List Event) → IsPrefix known journal → Holds os (tables_of known) → Holds left (tables_of known))

pub record IsRested (m w : Me (Option LockedModel) View) : Type 0 where
  pub home : w.1 ≡ []
  pub parts : w.0.parts ≡ m.0.parts
  pub txn : w.0.txn ≡ m.0.txn

abbrev pub Refusal : ℕ → List Event → SlateDBError → Type 0
Refusal n journal e = (e ≡ OutOfMemory) ⊎ ((e ≡ LimitReached LIMIT) × IsFull n journal)

pub record Departs (o : Options) (m : Meaning) (journal seen : List Event) (flight : Option Flight) (r : Result (ℕ × Option Errand) SlateDBError) : Type 0 where
  pub event : (seen ≡ journal) ⊎ (seen ≡ journal ++ Freeze ∷ [])
  pub newest : IfOk r (λ a. a.0 ≡ last_of o.start_seq (replay journal).commits)
  pub off : IfOk r (λ a. IfSome a.1 (HasErrand (settings_of o) m journal flight))
  pub idle : IfOk r (λ a. a.1 ≡ None → (flight ≡ None) × (above_install seen ≡ []))
  pub free : OnErr r (flight ≡ None)
  pub cause : IfErr r (Refusal 1 journal)

-- old, new: the places of a seat's own events
pub record Lands (journal : List Event) (tables : List (Ulid × List ℕ)) (flight : Option Flight) (old : List ℕ) (seen : List Event) (new : List ℕ) (r : Result ℕ SlateDBError) : Type 0 where
  pub event : IfOk r (λ n. (seen ≡ journal ++ Install n tables ∷ []) × (new ≡ old ++ length journal ∷ []))
  pub next : (f : Flight) → flight ≡ Some f → IsNextFlush f.number journal
  pub through : (f : Flight) → flight ≡ Some f → IfOk r (λ n. n ≡ f.through)
  pub same : OnErr r ((seen ≡ journal) × (new ≡ old))
  pub cause : IfErr r (Refusal 1 journal)

-- from: the journal behind which it set off; journal: that behind which it ends
pub record IsFlushFrom (o : Settings) (m : Meaning) (old from journal : List Event) (number : ℕ) (layers : List Rows) : Type 0 where
  pub known : IsPrefix old from
  pub later : IsPrefix from journal
  pub next : IsNextFlush number journal
  pub rows : IsRowsOf o m from layers

-- before, after: the store's objects; old, new: the events seen; own, own': the places of a seat's own events
pub record HasLanded (o : Settings) (m : Meaning) (layout : Layout) (n : ℕ) (before after : Option Objects) (old : List Event) (own : List ℕ) (new : List Event) (own' : List ℕ) : Type 0 where
  pub journal : List Event
  pub seen : IsPrefix old journal
  pub tables : List (Ulid × List ℕ)
  pub event : new ≡ journal ++ Install n tables ∷ []
  pub place : own' ≡ own ++ length journal ∷ []
  pub from : List Event
  pub through : n ≡ newest_of o from
  pub number : ℕ
  pub layers : List Rows
  pub taken : IsFlushFrom o m old from journal number layers
  pub runs : List SortedRun
  pub put : IsPut m layout number (barrier_of o from) layers tables runs before after
  pub stored : StoresOn journal tables before after
  pub filtered : AreFiltered m.encode layout.policies (tables_of new)

pub record HasGivenUp (o : Settings) (m : Meaning) (layout : Layout) (before after : Option Objects) (old new : List Event) : Type 0 where
  pub from : List Event
  pub number : ℕ
  pub layers : List Rows
  pub taken : IsFlushFrom o m old from new number layers
  pub put : MayTakeTables (AreSomeOfFlush m layout number (barrier_of o from) layers) before after
