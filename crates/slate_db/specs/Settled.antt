-- Over which store a core reads and flushes as the model does.
--     HasTables objects es      the store holds the journal's tables, and no two lie at one path
--     IsSettled policies m seg objects c      policies and parts are lawful, what is kept of the rows and of the segments holds, so does this, and the tables have the filters of the policies
--     IsSettledIn policies seg reach c      the same of what a call reaches
use Rattle.std.specs.Prelude.{ℕ, ◌≤◌, List, length, Option}
use Rattle.slate_types.specs.Outside.{Objects, Reach}
use Rattle.slate_filter.specs.Policy.{Policy}
use Rattle.slate_mem.specs.KeyTests.{Segments}
use Rattle.slate_table.specs.Filtered.{AreLawful}
use Rattle.slate_txn.specs.declared.event.Event.{Event}
use Rattle.slate_db.specs.Installs.{HoldsTables, NumberedFrom, runs_of, tables_of}
use Rattle.slate_db.specs.Meaning.{Meaning, IsLawfulMeaning}
use Rattle.slate_db.specs.Model.{CoreModel}
use Rattle.slate_db.specs.Readable.{AreFiltered}
use Rattle.slate_db.specs.Segmented.{IsSegmented}
use Rattle.slate_db.specs.Sound.{IsKept}

-- objects: what the store tells; flushes are numbered, and the tables of each have places
pub record HasTables (objects : Option Objects) (es : List Event) : Type 0 where
  pub holds : HoldsTables objects es
  pub numbered : NumberedFrom 1 (runs_of es)
  pub few : length (runs_of es) ≤ length es

pub record IsSettled (policies : List Policy) (m : Meaning) (seg : Segments) (objects : Option Objects) (c : CoreModel) : Type 0 where
  pub lawful_policies : AreLawful policies
  pub lawful : IsLawfulMeaning m
  pub kept : IsKept m c
  pub segmented : IsSegmented seg c
  pub tables : HasTables objects c.events
  pub filtered : AreFiltered m.encode policies (tables_of c.events)

abbrev pub IsSettledIn : List Policy → Segments → Reach → CoreModel → Type 0
IsSettledIn policies seg reach c = IsSettled policies reach.meaning seg reach.objects c
