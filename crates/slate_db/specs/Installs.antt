-- What a journal says of a core.
--     tables_of es      the tables that the journal's installs name, oldest first
--     runs_of es      the same, those of each install for themselves
--     installed es      the last sequence that was installed
--     as_begun p, Replays es s      the journal replays to the state's commits and to what is open in it
--     ArePlaced i p ts      the tables have the ids of the flush i, from the place p on
--     NumberedFrom i runs      each install names the tables of its flush from the place 0 on, and flushes are numbered from i
--     IsHandle t h, AreHandles ts hs      what is kept of a table, and of tables: the id, and the version, which is 1 or 2, and the info that the bytes have; these are bytes
--     AreApart hs      tables rise by key, and no key is in two of them
--     BeginsWith prefix h      the first and the last key of a table begin with the prefix, and so do those between
--     IsRun ts run, AreRuns groups runs      what is kept of the tables of a run, and of those of several: they are apart, and their keys begin with its prefix
--     AreRunsOf ts runs      what is kept of the tables, which stand in runs
--     handles_of runs, prefixes_of runs      what is kept of all their tables, and for each the prefix of its run
--     root      the folder of the store's objects
--     HoldsTables objects es      each table that the journal's installs name lies in the store, with the bytes that they name
use Rattle.std.specs.Prelude.{◌≡◌, ◌⊎◌, ℕ, ◌+◌, ◌<◌, ◌^◌, true, nat_eq, List, [], ◌∷◌, map, flat_map, Option, Some, None, codes}
use Rattle.std.specs.List.{AllByRecursion, starts_with}
use Rattle.slate_types.specs.declared.types.Ulid.{Ulid}
use Rattle.slate_types.specs.Keys.{key_lt}
use Rattle.slate_types.specs.Outside.{Objects}
use Rattle.slate_store.specs.Store.{object_at}
use Rattle.slate_txn.specs.declared.event.Event.{Event}
use Rattle.slate_txn.specs.declared.event.Event.TheVariants as events
use Rattle.slate_txn.specs.State.{Tx, State, begun}
use Rattle.slate_txn.specs.Replay.{replay}
use Rattle.slate_block.specs.BlockSpelling.{IsKnown}
use Rattle.slate_block.specs.ReadingLaws.{EachIsAByte}
use Rattle.slate_table.specs.declared.info.SsTableHandle.{SsTableHandle}
use Rattle.slate_read.specs.declared.sorted_run.SortedRun.{SortedRun}
use Rattle.slate_table.specs.InfoReading.{seen_info}
use Rattle.slate_table.specs.Paths.{path_of, table_id}
use Rattle.slate_table.specs.TableEnd.{HasInfo}

abbrev pub tables_in : Event → List (Ulid × List ℕ)
tables_in (events.Install through tables) = tables
tables_in _ = []

abbrev pub tables_of : List Event → List (Ulid × List ℕ)
tables_of es = flat_map tables_in es

abbrev pub runs_in : Event → List (List (Ulid × List ℕ))
runs_in (events.Install through tables) = tables ∷ []
runs_in _ = []

abbrev pub runs_of : List Event → List (List (Ulid × List ℕ))
runs_of es = flat_map runs_in es

abbrev pub installed : List Event → ℕ
installed es = (replay es).flushed

-- an open transaction as the journal knows it
abbrev pub as_begun : List ℕ × Tx → List ℕ × Tx
as_begun p = (p.0, begun p.1.level p.1.begin)

pub record Replays (es : List Event) (s : State) : Type 0 where
  pub commits : (replay es).commits ≡ s.commits
  pub txns : (replay es).txns ≡ map as_begun s.txns
  pub snapshots : (replay es).snapshots ≡ s.snapshots

abbrev pub ArePlaced : ℕ → ℕ → List (Ulid × List ℕ) → Type 0
ArePlaced i p [] = Unit {0}
ArePlaced i p (t ∷ ts) = (t.0.0 ≡ table_id i p) × (p < 2 ^ 64) × ArePlaced i (p + 1) ts

abbrev pub NumberedFrom : ℕ → List (List (Ulid × List ℕ)) → Type 0
NumberedFrom i [] = Unit {0}
NumberedFrom i (ts ∷ runs) = ArePlaced i 0 ts × NumberedFrom (i + 1) runs

pub record IsHandle (t : Ulid × List ℕ) (h : SsTableHandle) : Type 0 where
  pub id : h.id ≡ t.0
  pub version : IsKnown h.format_version
  pub info : HasInfo t.1 h.format_version h.id.0 (seen_info h.info)
  pub bytes : EachIsAByte t.1

abbrev pub AreHandles : List (Ulid × List ℕ) → List SsTableHandle → Type 0
AreHandles [] [] = Unit {0}
AreHandles (t ∷ ts) (h ∷ hs) = IsHandle t h × AreHandles ts hs
AreHandles [] (h ∷ hs) = ⊥
AreHandles (t ∷ ts) [] = ⊥

-- the first one's last key is below the other's first
pub record EndsBelow (h g : SsTableHandle) : Type 0 where
  pub last : List ℕ
  pub first : List ℕ
  pub ends : h.info.last_entry ≡ Some last
  pub begins : g.info.first_entry ≡ Some first
  pub below : key_lt last first ≡ true

abbrev pub AreApart : List SsTableHandle → Type 0
AreApart [] = Unit {0}
AreApart (h ∷ hs) = AllByRecursion (EndsBelow h) hs × AreApart hs

pub record BeginsWith (prefix : List ℕ) (h : SsTableHandle) : Type 0 where
  pub first : List ℕ
  pub last : List ℕ
  pub begins : h.info.first_entry ≡ Some first
  pub ends : h.info.last_entry ≡ Some last
  pub first_begins : starts_with nat_eq first prefix ≡ true
  pub last_begins : starts_with nat_eq last prefix ≡ true

pub record IsRun (ts : List (Ulid × List ℕ)) (run : SortedRun) : Type 0 where
  pub begin : AllByRecursion (BeginsWith run.prefix) run.tables.items
  pub handles : AreHandles ts run.tables.items
  pub apart : AreApart run.tables.items

abbrev pub AreRuns : List (List (Ulid × List ℕ)) → List SortedRun → Type 0
AreRuns [] [] = Unit {0}
AreRuns (ts ∷ groups) (run ∷ runs) = IsRun ts run × AreRuns groups runs
AreRuns [] (run ∷ runs) = ⊥
AreRuns (ts ∷ groups) [] = ⊥

-- groups: the tables of each run
pub record AreRunsOf (ts : List (Ulid × List ℕ)) (runs : List SortedRun) : Type 0 where
  pub groups : List (List (Ulid × List ℕ))
  pub are : flat_map (λ group. group) groups ≡ ts
  pub each : AreRuns groups runs

abbrev pub handles_of : List SortedRun → List SsTableHandle
handles_of runs = flat_map (λ run. run.tables.items) runs

abbrev pub prefixes_of : List SortedRun → List (List ℕ)
prefixes_of runs = flat_map (λ run. map (λ h. run.prefix) run.tables.items) runs

abbrev pub root : List ℕ
root = codes "db"

abbrev pub Holds : Objects → List (Ulid × List ℕ) → Type 0
Holds os ts = AllByRecursion (λ t. object_at os (path_of root t.0.0) ≡ Some t.1) ts

-- a store that tells no objects holds nothing that is known
abbrev pub HoldsTables : Option Objects → List Event → Type 0
HoldsTables None es = ⊥
HoldsTables (Some os) es = Holds os (tables_of es)
