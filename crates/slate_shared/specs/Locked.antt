-- What the state behind the lock keeps in its type, for the parts that all calls share.
--     IsLocked o m g c      its settings are theirs; what is kept of the rows and of the segments holds for them; of an open transaction it has the
--                level and the begin alone; and it has no snapshot
--     IsHeld o m g f n c      what is known of the flush on its way holds too, and this is through which sequence the last install went
--     NamesTables m ps es      the journal's flushes are numbered, the tables of each have places, and all have the filters of these policies
use Rattle.std.specs.Prelude.{◌≡◌, ℕ, List, [], map, Option}
use Rattle.slate_filter.specs.Policy.{Policy}
use Rattle.slate_mem.specs.KeyTests.{Segments}
use Rattle.slate_txn.specs.declared.event.Event.{Event}
use Rattle.slate_txn.specs.Places.{last_install}
use Rattle.slate_txn.specs.Settings.{Settings}
use Rattle.slate_db.specs.declared.flight.Flight.{Flight}
use Rattle.slate_db.specs.Flying.{IsAloft}
use Rattle.slate_db.specs.Installs.{NumberedFrom, as_begun, runs_of, tables_of}
use Rattle.slate_db.specs.Meaning.{Meaning}
use Rattle.slate_db.specs.Model.{CoreModel}
use Rattle.slate_db.specs.Readable.{AreFiltered}
use Rattle.slate_db.specs.Segmented.{IsSegmented}
use Rattle.slate_db.specs.Sound.{IsKept}

pub record IsLocked (o : Settings) (m : Meaning) (g : Segments) (c : CoreModel) : Type 0 where
  pub settings : c.settings ≡ o
  pub kept : IsKept m c
  pub segmented : IsSegmented g c
  pub bare : map as_begun c.state.txns ≡ c.state.txns
  pub unshown : c.state.snapshots ≡ []

pub record IsHeld (o : Settings) (m : Meaning) (g : Segments) (f : Option Flight) (n : Option ℕ) (c : CoreModel) : Type 0 where
  pub locked : IsLocked o m g c
  pub aloft : IsAloft m f c
  pub newest : n ≡ last_install c.events

pub record NamesTables (m : Meaning) (ps : List Policy) (es : List Event) : Type 0 where
  pub numbered : NumberedFrom 1 (runs_of es)
  pub filtered : AreFiltered m.encode ps (tables_of es)
