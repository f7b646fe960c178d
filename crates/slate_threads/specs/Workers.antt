-- The pass of a worker: a thread that commits by attempts, and neither writes outside them nor
-- flushes. o, m: the database's options, and what its parts mean
--     IsWorker o m p      none of its own places has an install; and what its own commits were
--             answered is vouched, if the journal that it has seen names no table
--     Works o m old new      what one call does: it only sees more, or it commits an attempt, whose
--             answers are vouched if the journal names no table then
--     HasWorked o m old new made      what several calls do, which commit so often
--     made_by result      how often a call commits that answers so: once, and not if it is refused
use Rattle.std.specs.Prelude.{◌≡◌, ℕ, ◌+◌, [], length, Result, Ok, Err}
use mathlib.Core.List.{IsPrefix}
use Rattle.slate_types.specs.declared.config.Options.{Options}
use Rattle.slate_db.specs.Installs.{tables_of}
use Rattle.slate_db.specs.Meaning.{Meaning}
use Rattle.slate_shared.specs.Passes.{PassModel}
use Rattle.slate_steps.specs.Attempts.{SeesOnly}
use Rattle.slate_threads.specs.Own.{OwnInstallNothing}
use Rattle.slate_threads.specs.Passes.{Commits, CommitsVouched, PassIsVouched}

pub record IsWorker (o : Options) (m : Meaning) (p : PassModel) : Type 0 where
  pub installs_nothing : OwnInstallNothing p.own p.seen
  pub vouched : tables_of p.seen ≡ [] → PassIsVouched o m p

pub data Works (o : Options) (m : Meaning) (old new : PassModel) : Type 0 where
  sees : SeesOnly old new → Works o m old new
  commits : Commits o old new → (tables_of new.seen ≡ [] → CommitsVouched o m old new) →
      Works o m old new

pub record HasWorked (o : Options) (m : Meaning) (old new : PassModel) (made : ℕ) : Type 0 where
  pub table : new.table ≡ old.table
  pub parts : new.parts ≡ old.parts
  pub seen : IsPrefix old.seen new.seen
  pub counted : length new.own ≡ length old.own + made
  pub worker : IsWorker o m old → IsWorker o m new

abbrev pub made_by : {A E : Type 0} → Result A E → ℕ
made_by (Ok a) = 1
made_by (Err e) = 0
