-- Threads on a database into whose store one of them flushes. o, m: the database's options, and
-- what its parts mean; old, new: a pass before and after several calls; before, after: what the
-- calls reach
--     HasRead o m policies old new before after made      what a reader does, which commits so
--             often by attempts: what its commits were answered stays vouched, if its reads were
--             answered by objects that hold the tables of the journal seen then, or none slipped
--     OwnsInstalls own es      each install of the journal stands at one of these places
--     KeepsTables p store      the store tells its objects, and if the pass has all installs, holds
--             the tables that the journal names
--     HasFlushed o m old new before after      what a flusher does
use Rattle.std.specs.Prelude.{◌≡◌, ℕ, ◌+◌, ◌<◌, List, length, slice_get, Option, Some}
use mathlib.Core.List.{IsPrefix}
use Rattle.slate_types.specs.declared.config.Options.{Options}
use Rattle.slate_types.specs.declared.types.Ulid.{Ulid}
use Rattle.slate_types.specs.Outside.{Objects, OnlyReads, Reach}
use Rattle.slate_filter.specs.Policy.{Policy}
use Rattle.slate_txn.specs.declared.event.Event.{Event}
use Rattle.slate_txn.specs.declared.event.Event.TheVariants as events
use Rattle.slate_db.specs.Installs.{Holds, tables_of}
use Rattle.slate_db.specs.Meaning.{Meaning}
use Rattle.slate_shared.specs.Passes.{PassModel}
use Rattle.slate_shared.specs.Shared.{times}
use Rattle.slate_steps.specs.Attempts.{IsStoreChecked}
use Rattle.slate_threads.specs.Own.{OwnInstallNothing}
use Rattle.slate_threads.specs.Passes.{PassIsVouched}

pub record HasRead (o : Options) (m : Meaning) (policies : List Policy) (old new : PassModel)
    (before after : Reach) (made : ℕ) : Type 0 where
  pub table : new.table ≡ old.table
  pub parts : new.parts ≡ old.parts
  pub seen : IsPrefix old.seen new.seen
  pub counted : length new.own ≡ length old.own + made
  pub installs_nothing : OwnInstallNothing old.own old.seen → OwnInstallNothing new.own new.seen
  pub reads : OnlyReads before after
  pub vouched : IsStoreChecked policies m new.seen before after →
      PassIsVouched o m old → PassIsVouched o m new

abbrev pub OwnsInstalls : List ℕ → List Event → Type 0
OwnsInstalls own es = (p through : ℕ) (tables : List (Ulid × List ℕ)) →
    slice_get es p ≡ Some (events.Install through tables) → 0 < times p own

pub record KeepsTables (p : PassModel) (store : Option Objects) : Type 0 where
  pub os : Objects
  pub told : store ≡ Some os
  pub within : (i : ℕ) → 0 < times i p.own → i < length p.seen
  pub holds : OwnsInstalls p.own p.seen → Holds os (tables_of p.seen)

pub record HasFlushed (o : Options) (m : Meaning) (old new : PassModel)
    (before after : Reach) : Type 0 where
  pub table : new.table ≡ old.table
  pub parts : new.parts ≡ old.parts
  pub seen : IsPrefix old.seen new.seen
  pub vouched : PassIsVouched o m old → PassIsVouched o m new
  pub keeps : KeepsTables old before.objects → KeepsTables new after.objects
