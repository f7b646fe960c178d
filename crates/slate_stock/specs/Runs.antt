-- A run over lines on a core. c: the core before a call, d: behind it; before, after: what the call reaches
--     is_limit e      a limit is reached
--     StandsFor m c b      the core has the amounts of the books, their keys, and their newest sequence
--     IsRunning policies before c b      so it has; it is settled, and its journal is audited and vouched for
--     IsSomeDbError policies before after e      in a call since then the database refused so, or a fault came
--     IsRunError policies before after c d e      what ends a run
--     Answers policies line before after c d result      what a line is answered, and what it keeps
--     Goes policies before after c d n      what so many lines keep
--     RunsAs policies before c f      so the lines to come are answered, by this function
--     Premises policies before      policies and parts are lawful, and the store tells its objects
--     RunEnds policies before after e      what ends a run over a new core
use Rattle.std.specs.Prelude.{◌≡◌, ◌⊎◌, ℕ, ◌+◌, ◌*◌, ◌≤◌, Bool, true, false, List, [], Option, Some, None, Result, IfErr, IfOk, IsSome}
use Rattle.std.specs.Global.{Vec}
use Rattle.std.specs.List.{AllByRecursion}
use Rattle.slate_types.specs.declared.error.SlateDBError.{SlateDBError}
use Rattle.slate_types.specs.declared.error.SlateDBError.TheVariants as errors
use Rattle.slate_types.specs.Keys.{AreBytes, keys_set}
use Rattle.slate_types.specs.Outside.{IsFault, IsStill, Meaning, OnlyReads, Reach, unblamed}
use Rattle.slate_filter.specs.Policy.{Policy}
use Rattle.slate_store.specs.Run.{IsProgramError, Says}
use Rattle.slate_table.specs.Filtered.{AreLawful}
use Rattle.slate_txn.specs.Reads.{keys_seen}
use Rattle.slate_db.specs.Flushed.{NoPlace}
use Rattle.slate_db.specs.Load.{weight}
use Rattle.slate_db.specs.Meaning.{IsLawfulMeaning}
use Rattle.slate_db.specs.Model.{CoreModel}
use Rattle.slate_db.specs.SerialLaws.{IsVouchedCore}
use Rattle.slate_db.specs.Settled.{IsSettledIn}
use Rattle.slate_steps.specs.Steps.{newest}
use Rattle.slate_stock.specs.declared.line.StockLine.{StockLine}
use Rattle.slate_stock.specs.Journals.{IsOrders}
use Rattle.slate_stock.specs.Lines.{Books, line_step, replies_on, reply_of_words}
use Rattle.slate_stock.specs.Running.{IsDbCause, amounts_of}

abbrev pub is_limit : SlateDBError → Bool
is_limit (errors.LimitReached n) = true
is_limit _ = false

pub record StandsFor (m : Meaning) (c : CoreModel) (b : Books) : Type 0 where
  pub amounts : (k : List ℕ) → amounts_of m c k ≡ b.amounts k
  pub keys : keys_seen c.state.commits (newest c) [] ≡ keys_set b.keys
  pub bytes : AllByRecursion AreBytes b.keys
  pub seq : newest c ≡ b.seq

pub record IsRunning (policies : List Policy) (before : Reach) (c : CoreModel) (b : Books) : Type 0 where
  pub settled : IsSettledIn policies None before c
  pub orders : IsOrders c.events
  pub vouched : IsVouchedCore before.meaning c
  pub stands : StandsFor before.meaning c b

-- from, upto, core: of the call that was refused
pub record IsSomeDbError (policies : List Policy) (before after : Reach) (e : SlateDBError) : Type 0 where
  pub from : Reach
  pub upto : Reach
  pub core : CoreModel
  pub first : OnlyReads before from
  pub later : OnlyReads upto after
  pub refused : IsDbCause policies from upto core e

pub record IsRunError (policies : List Policy) (before after : Reach) (c d : CoreModel) (e : SlateDBError) : Type 0 where
  pub apart : IsProgramError e
  pub settled : IsSettledIn policies None before c → IsFault before after e ⊎ (is_limit e ≡ true)
  pub limit : is_limit e ≡ true → NoPlace 2 d
  pub cause : IsSomeDbError policies before after e

pub record Answers (policies : List Policy) (line : StockLine) (before after : Reach) (c d : CoreModel) (result : Result (Vec ℕ) SlateDBError) : Type 0 where
  pub said : (b : Books) → IsRunning policies before c b → IfOk result (λ text. (text.items ≡ reply_of_words (line_step b line).1) × IsRunning policies after d (line_step b line).0)
  pub settled : IsSettledIn policies None before c → IsSettledIn policies None after d
  pub grows : weight d ≤ weight c + 2
  pub reads : OnlyReads before after
  pub still : IsStill before.faults after.faults result
  pub cause : IfErr result (IsRunError policies before after c d)

pub record Goes (policies : List Policy) (before after : Reach) (c d : CoreModel) (n : ℕ) : Type 0 where
  pub settled : IsSettledIn policies None before c → IsSettledIn policies None after d
  pub grows : weight d ≤ weight c + 2 * n
  pub reads : OnlyReads before after

abbrev pub RunsAs : List Policy → Reach → CoreModel → Says → Type 0
RunsAs policies before c f = (b : Books) × IsRunning policies before c b × ((ls : List (List ℕ)) → f ls ≡ replies_on b ls)

pub record Premises (policies : List Policy) (before : Reach) : Type 0 where
  pub lawful_policies : AreLawful policies
  pub lawful : IsLawfulMeaning before.meaning
  pub objects : IsSome before.objects

-- still: no count of faults rose, but that of the part whose fault the error is
pub record RunEnds (policies : List Policy) (before after : Reach) (e : SlateDBError) : Type 0 where
  pub apart : IsProgramError e
  pub unlimited : is_limit e ≡ false
  pub still : unblamed e after.faults ≡ unblamed e before.faults
  pub lawful : Premises policies before → IsFault before after e
  pub cause : IsSomeDbError policies before after e
