-- What a store that tells its acts told of a run.
--     AreTrue os acts      each read was answered by the objects as they were by then
--     IsUntrue os before after      behind the acts from before a store that tells its acts told of some that aren't so
--     Follows policies m seg os e before after      behind those a session is settled over the objects as the acts left them
--     ArePut acts ts      each of the tables was put by one of the acts
--     PutsTables old new before after      of two lists of tables the second has those of the first and more, which were put by the acts in between
--     asking_for policies k      what the get of a line asks filters
--     IsRefusedInGet policies k m c reads e      reads show the error, as those of a get by one that the core has open
--     IsShownBy policies m c reads e      reads show the error, as those of a get do or as those of a scan
--     IsRefusedAt policies line m c reads e      what a line is refused for by its reads: a get, a scan and a prefix; others are for none
--     IsShown policies m before after e      of acts that a store tells the last ones are reads that show the error, by tables that were put before them
--     IsShownAtEnd policies before after e      the same of what a run reaches
use Rattle.std.specs.Prelude.{◌≡◌, ◌⊎◌, ℕ, List, [], ◌∷◌, ◌++◌, Contains, Option, None, Some}
use Rattle.std.specs.List.{AllByRecursion}
use Rattle.slate_types.specs.declared.error.SlateDBError.{SlateDBError}
use Rattle.slate_types.specs.declared.types.Ulid.{Ulid}
use Rattle.slate_types.specs.Outside.{Objects, Reach}
use Rattle.slate_types.specs.World.{IsReadAct}
use Rattle.slate_store.specs.Lying.{after_act, after_acts}
use Rattle.slate_store.specs.Store.{Act}
use Rattle.slate_txn.specs.declared.line.Line.{Line}
use Rattle.slate_txn.specs.declared.line.Line.TheVariants as lines
use Rattle.slate_filter.specs.Policy.{Policy}
use Rattle.slate_mem.specs.KeyTests.{Segments}
use Rattle.slate_table.specs.Filtered.{point_query}
use Rattle.slate_table.specs.Paths.{path_of}
use Rattle.slate_db.specs.Answered.{AnswersAct}
use Rattle.slate_db.specs.Installs.{root, tables_of}
use Rattle.slate_db.specs.Meaning.{Meaning}
use Rattle.slate_db.specs.Model.{CoreModel}
use Rattle.slate_db.specs.Readable.{IsRefusedBy, reader_at}
use Rattle.slate_db.specs.Scans.{IsRefusedInScan}
use Rattle.slate_db.specs.Shown.{Asking}
use Rattle.slate_db.specs.Sound.{IsKept}
use Rattle.slate_db.specs.Settled.{IsSettled}
use Rattle.slate_script.specs.Session.{SessionModel}

abbrev pub AreTrue : Objects → List Act → Type 0
AreTrue os [] = Unit {0}
AreTrue os (a ∷ acts) = AnswersAct os a × AreTrue (after_act os a) acts

-- before, after: the acts that a store tells
abbrev pub IsUntrue : Objects → Option (List Act) → Option (List Act) → Type 0
IsUntrue os before after = (known : List Act) → before ≡ Some known → (more : List Act) × (after ≡ Some (known ++ more)) × (AreTrue os more → ⊥)

abbrev pub Follows : List Policy → Meaning → Segments → Objects → SessionModel → Option (List Act) → Option (List Act) → Type 0
Follows policies m seg os e before after = (known : List Act) → before ≡ Some known → (more : List Act) × (after ≡ Some (known ++ more)) × IsSettled policies m seg (Some (after_acts os more)) e.core

abbrev pub ArePut : List Act → List (Ulid × List ℕ) → Type 0
ArePut acts ts = AllByRecursion (λ t. Contains acts (Act.put (path_of root t.0.0) t.1)) ts

abbrev pub PutsTables : List (Ulid × List ℕ) → List (Ulid × List ℕ) → Option (List Act) → Option (List Act) → Type 0
PutsTables old new before after = (known : List Act) → before ≡ Some known →
    (more : List Act) × (added : List (Ulid × List ℕ)) × (after ≡ Some (known ++ more)) × (new ≡ old ++ added) × ArePut more added

-- the query of a get of a line
abbrev pub asking_for : List Policy → List ℕ → Asking
asking_for policies k = record { policies = policies; query = point_query k None }

abbrev pub IsRefusedInGet : List Policy → List ℕ → Meaning → CoreModel → List Act → SlateDBError → Type 0
IsRefusedInGet policies k m c reads e = (id : List ℕ) × IsRefusedBy (asking_for policies k) (reader_at c.state id) m c reads e

abbrev pub IsShownBy : List Policy → Meaning → CoreModel → List Act → SlateDBError → Type 0
IsShownBy policies m c reads e = ((k : List ℕ) × IsRefusedInGet policies k m c reads e) ⊎ IsRefusedInScan policies m c reads e

abbrev pub IsRefusedAt : List Policy → Line → Meaning → CoreModel → List Act → SlateDBError → Type 0
IsRefusedAt policies (lines.Get name k) m c reads e = IsRefusedInGet policies k m c reads e
IsRefusedAt policies (lines.Scan name order start end sts) m c reads e = IsRefusedInScan policies m c reads e
IsRefusedAt policies (lines.Prefix name order p start end sts) m c reads e = IsRefusedInScan policies m c reads e
IsRefusedAt policies line m c reads e = ⊥

-- core: as it was before the reads, where what is kept of its rows holds: without an operator none in memory is an operand
pub record IsShown (policies : List Policy) (m : Meaning) (before after : Option (List Act)) (e : SlateDBError) : Type 0 where
  pub core : CoreModel
  pub reads : List Act
  pub each : AllByRecursion IsReadAct reads
  pub kept : IsKept m core
  pub refused : IsShownBy policies m core reads e
  pub last : (known : List Act) → before ≡ Some known → (earlier : List Act) × (after ≡ Some ((known ++ earlier) ++ reads)) × ArePut earlier (tables_of core.events)

abbrev pub IsShownAtEnd : List Policy → Reach → Reach → SlateDBError → Type 0
IsShownAtEnd policies before after e = IsShown policies before.meaning before.acts after.acts e
