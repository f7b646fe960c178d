-- A run over lines on a core. c: the core before a call, d: behind it; before, after: what the call reaches
--     is_limit e      a limit is reached
--     StandsFor m c r      the core has the records of a run, and its newest number
--     IsRunning policies fs before c r      so it has; it is settled, and its journal is audited and vouched for
--     IsSomeDbError policies before after e      in a call since then the database refused so, or a fault came
--     IsRunError policies before after c d e      what ends a run
--     Answers policies fs line before after c d result      what a line is answered, and what it keeps
--     Goes policies before after c d n      what so many lines keep
--     RunsAs policies fs before c f      so the lines to come are answered, by this function
--     Premises policies before      policies and parts are lawful, and the store tells its objects
--     RunEnds policies before after e      what ends a run over a new core
use Rattle.std.specs.Prelude.{◌≡◌, ◌⊎◌, ℕ, ◌+◌, ◌*◌, ◌≤◌, Bool, true, false, List, None, Result, IfErr, IfOk, IsSome}
use Rattle.std.specs.Global.{Vec}
use Rattle.slate_types.specs.declared.error.SlateDBError.{SlateDBError}
use Rattle.slate_types.specs.declared.error.SlateDBError.TheVariants as errors
use Rattle.slate_types.specs.Outside.{IsFault, IsStill, Meaning, OnlyReads, Reach, unblamed}
use Rattle.slate_filter.specs.Policy.{Policy}
use Rattle.slate_store.specs.Run.{IsProgramError, Says}
use Rattle.slate_table.specs.Filtered.{AreLawful}
use Rattle.slate_txn.specs.Named.{StandOnce}
use Rattle.slate_db.specs.Flushed.{NoPlace}
use Rattle.slate_db.specs.Load.{weight}
use Rattle.slate_db.specs.Meaning.{IsLawfulMeaning}
use Rattle.slate_db.specs.Model.{CoreModel}
use Rattle.slate_db.specs.SerialLaws.{IsVouchedCore}
use Rattle.slate_db.specs.Settled.{IsSettledIn}
use Rattle.slate_steps.specs.Steps.{newest}
use Rattle.slate_index.specs.declared.line.Line.{Line}
use Rattle.slate_index.specs.Calls.{IsDbError, values_in}
use Rattle.slate_index.specs.Entries.{FieldsModel, record_key}
use Rattle.slate_index.specs.Journals.{AreChanges}
use Rattle.slate_index.specs.Script.{Run, record_at, reply_line, says, stepped}

abbrev pub is_limit : SlateDBError → Bool
is_limit (errors.LimitReached n) = true
is_limit _ = false

pub record StandsFor (m : Meaning) (c : CoreModel) (r : Run) : Type 0 where
  pub once : StandOnce r.records
  pub records : (id : List ℕ) → values_in m c (record_key id) ≡ record_at r.records id
  pub last : newest c ≡ r.last

pub record IsRunning (policies : List Policy) (fs : FieldsModel) (before : Reach) (c : CoreModel) (r : Run) : Type 0 where
  pub settled : IsSettledIn policies None before c
  pub form : AreChanges fs c.events
  pub vouched : IsVouchedCore before.meaning c
  pub stands : StandsFor before.meaning c r

-- from, upto, core: of the call that was refused
pub record IsSomeDbError (policies : List Policy) (before after : Reach) (e : SlateDBError) : Type 0 where
  pub from : Reach
  pub upto : Reach
  pub core : CoreModel
  pub first : OnlyReads before from
  pub later : OnlyReads upto after
  pub refused : IsDbError policies from upto core e

pub record IsRunError (policies : List Policy) (before after : Reach) (c d : CoreModel) (e : SlateDBError) : Type 0 where
  pub apart : IsProgramError e
  pub settled : IsSettledIn policies None before c → IsFault before after e ⊎ (is_limit e ≡ true)
  pub limit : is_limit e ≡ true → NoPlace 2 d
  pub cause : IsSomeDbError policies before after e

pub record Answers (policies : List Policy) (fs : FieldsModel) (line : Line) (before after : Reach) (c d : CoreModel) (result : Result (Vec ℕ) SlateDBError) : Type 0 where
  pub said : (r : Run) → IsRunning policies fs before c r → IfOk result (λ text. (text.items ≡ reply_line (stepped fs r line).1) × IsRunning policies fs after d (stepped fs r line).0)
  pub settled : IsSettledIn policies None before c → IsSettledIn policies None after d
  pub grows : weight d ≤ weight c + 2
  pub reads : OnlyReads before after
  pub still : IsStill before.faults after.faults result
  pub cause : IfErr result (IsRunError policies before after c d)

pub record Goes (policies : List Policy) (before after : Reach) (c d : CoreModel) (n : ℕ) : Type 0 where
  pub settled : IsSettledIn policies None before c → IsSettledIn policies None after d
  pub grows : weight d ≤ weight c + 2 * n
  pub reads : OnlyReads before after

abbrev pub RunsAs : List Policy → FieldsModel → Reach → CoreModel → Says → Type 0
RunsAs policies fs before c f = (r : Run) × IsRunning policies fs before c r × ((ls : List (List ℕ)) → f ls ≡ says fs r ls)

pub record Premises (policies : List Policy) (before : Reach) : Type 0 where
  pub lawful_policies : AreLawful policies
  pub lawful : IsLawfulMeaning before.meaning
  pub objects : IsSome before.objects

-- still: no count of faults rose, but that of the part whose fault the error is
pub record RunEnds (policies : List Policy) (before after : Reach) (e : SlateDBError) : Type 0 where
  pub apart : IsProgramError e
  pub unlimited : is_limit e ≡ false
  pub still : unblamed e after.faults ≡ unblamed e before.faults
  pub lawful : Premises policies before → IsFault before after e
  pub cause : IsSomeDbError policies before after e
