-- Threads on a database by the default options, without parts, over stores that one of them fills.
--     told_by s x      what a store tells by itself; s: what its type tells
--     PlainRead kind old new before after made      what several calls of a reader do, which commit
--             so often, each time a commit of the kind
--     PlainFlushed kind old new before after      what several flushes do, which commit nothing
--     ReadsTablesOf es before after      the reads between were answered by objects that hold the
--             tables that the journal names, or no section slipped that isn't theirs
--     HoldsTablesOf es before after      a store that tells its objects before holds these tables
--             after
--     IsCountBeside es n      a journal has so many commits and writes beside its installs
use Rattle.std.specs.Prelude.{◌≡◌, ℕ, ◌+◌, List, [], Option, Some}
use Rattle.slate_types.specs.Config.{defaults}
use Rattle.slate_types.specs.Outside.{Act, Objects, Reach, no_faults, no_parts}
use Rattle.slate_store.specs.declared.store.Store as stores
use Rattle.slate_txn.specs.declared.event.Event.{Event}
use Rattle.slate_txn.specs.Audited.{Kind}
use Rattle.slate_db.specs.Installs.{Holds, tables_of}
use Rattle.slate_shared.specs.Passes.{PassModel}
use Rattle.slate_steps.specs.Attempts.{IsStoreChecked}
use Rattle.slate_threads.specs.Passes.{PassIsOfKind}
use Rattle.slate_threads.specs.Readers.{HasFlushed, HasRead}
use Rattle.slate_services.specs.Plain.{IsCount}

abbrev pub plain_told : Option Objects → Option (List Act) → Reach
plain_told objects acts = record {
  objects = objects;
  acts = acts;
  meaning = no_parts;
  faults = no_faults;
  store = 0;
}

abbrev pub told_by : {S : Type 0} → stores.Ghosts S → S → Reach
told_by s x = plain_told (s.objects x) (s.acts x)

pub record PlainRead (kind : Kind) (old new : PassModel) (before after : Reach)
    (made : ℕ) : Type 0 where
  pub read : HasRead defaults no_parts [] old new before after made
  pub of_kind : PassIsOfKind kind old → PassIsOfKind kind new

pub record PlainFlushed (kind : Kind) (old new : PassModel) (before after : Reach) : Type 0 where
  pub flushed : HasFlushed defaults no_parts old new before after
  pub of_kind : PassIsOfKind kind old → PassIsOfKind kind new

abbrev pub ReadsTablesOf : List Event → Reach → Reach → Type 0
ReadsTablesOf es before after = IsStoreChecked [] no_parts es before after

abbrev pub HoldsTablesOf : List Event → Reach → Reach → Type 0
HoldsTablesOf es before after = (os : Objects) → before.objects ≡ Some os →
    (left : Objects) × (after.objects ≡ Some left) × Holds left (tables_of es)

abbrev pub IsCountBeside : List Event → ℕ → Type 0
IsCountBeside es n = (installs : ℕ) × IsCount es (n + installs)
