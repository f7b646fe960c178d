-- What the calls on a core do. c: the core before a call, d: behind it; before, after: what the call reaches
--     values_in m c      the value of each key behind all commits
--     change_steps fs id answer new      the steps of a change of a record that reads this answer
--     Changes fs id new now c d n      d has one commit more, of this number: it changes the record to a value, or to none, from the value that it read
--     IsLeft c d      d has at most one transaction more in its journal, which changed a record and ended without a commit
--     HasLooked c d      the same of one that searched
--     db_error e      the error of the database that a refusal tells, if it tells one
--     IsDbError policies before after c e      the database refuses to begin, or to read, or has no sequence left; or a fault came in the call
--     IsChangeError policies fs id new before after c e      so it is, or the value is refused, or there is none to delete
--     Steps P fs id new m c d result      where what was read is checked, a change is that of the map of values, or is refused as there, or by the database; P holds of its refusal within the transaction
--     IsChangeCall policies seg fs id new now before after c d result      all that a change of a record keeps and answers
--     IsAuditedCore fs m c      the journal is audited, and its transcripts are vouched
use Rattle.std.specs.Prelude.{◌≡◌, ◌⊎◌, ℕ, ◌+◌, ◌-◌, ◌^◌, ◌<◌, ◌≤◌, List, ◌∷◌, Option, Some, None, Result, Ok, Err, IfErr, IfOk, OnErr, ℤ}
use Rattle.slate_types.specs.declared.config.IsolationLevel.{IsolationLevel}
use Rattle.slate_types.specs.declared.config.IsolationLevel.TheVariants.{Snapshot, SerializableSnapshot}
use Rattle.slate_types.specs.declared.error.SlateDBError.{SlateDBError}
use Rattle.slate_types.specs.declared.error.SlateDBError.TheVariants.{SequenceExhausted}
use Rattle.slate_types.specs.declared.types.KeyValue.{KeyValue}
use Rattle.slate_types.specs.Outside.{IsFault, Meaning, OnlyReads, Reach}
use Rattle.slate_filter.specs.Policy.{Policy}
use Rattle.slate_mem.specs.KeyTests.{Segments}
use Rattle.slate_txn.specs.declared.event.TranscriptStep.{TranscriptStep}
use Rattle.slate_txn.specs.declared.event.TranscriptStep.TheVariants.{Get}
use Rattle.slate_db.specs.Load.{load, weight}
use Rattle.slate_db.specs.Meaning.{rules_of}
use Rattle.slate_db.specs.Model.{CoreModel}
use Rattle.slate_db.specs.SerialLaws.{IsVouchedCore, JournalIsVouched}
use Rattle.slate_db.specs.Settled.{IsSettledIn}
use Rattle.slate_db.specs.Sound.{IsKept}
use Rattle.slate_steps.specs.Reads.{IsChecked, IsFaultSettled, IsReadFault}
use Rattle.slate_steps.specs.Steps.{HasCommitted, HasEnded, IsBeginError, newest}
use Rattle.slate_index.specs.declared.error.IndexError.{IndexError}
use Rattle.slate_index.specs.declared.error.IndexError.TheVariants.{Db}
use Rattle.slate_index.specs.Changes.{Values, changed, change_puts}
use Rattle.slate_index.specs.Commits.{own_steps, value_of}
use Rattle.slate_index.specs.Entries.{FieldsModel, record_key}
use Rattle.slate_index.specs.Journals.{AreAuditedChanges, AreChanges, values_at}
use Rattle.slate_index.specs.Refusals.{change_refusal}

abbrev pub values_in : Meaning → CoreModel → Values
values_in m c = values_at (rules_of c.settings m) c.state.commits (newest c)

abbrev pub change_steps : FieldsModel → List ℕ → Option KeyValue → Option (List ℕ) → List TranscriptStep
change_steps fs id answer new = Get (record_key id) answer ∷ own_steps (change_puts fs id (value_of answer) new)

-- tx: the transaction's id
pub record Changes (fs : FieldsModel) (id : List ℕ) (new : Option (List ℕ)) (now : ℤ) (c d : CoreModel) (n : ℕ) : Type 0 where
  pub tx : List ℕ
  pub answer : Option KeyValue
  pub committed : HasCommitted c tx SerializableSnapshot (change_steps fs id answer new) (Some n) now d

abbrev pub IsLeft : CoreModel → CoreModel → Type 0
IsLeft c d = (d ≡ c) ⊎ ((tx : List ℕ) × HasEnded c tx SerializableSnapshot d)

abbrev pub HasLooked : CoreModel → CoreModel → Type 0
HasLooked c d = (d ≡ c) ⊎ ((tx : List ℕ) × HasEnded c tx Snapshot d)

-- ---- what a call is refused for

-- the greatest sequence of a commit
abbrev pub greatest : ℕ
greatest = 2 ^ 64 - 2

abbrev pub db_error : IndexError → Option SlateDBError
db_error (Db x) = Some x
db_error _ = None

pub data IsDbError (policies : List Policy) (before after : Reach) (c : CoreModel) (e : SlateDBError) : Type 0 where
  begins : IsBeginError c e → IsDbError policies before after c e
  reads : (tx : List ℕ) (level : IsolationLevel) → IsReadFault policies before after c tx level e → IsDbError policies before after c e
  full : e ≡ SequenceExhausted → newest c ≡ greatest → IsDbError policies before after c e
  faults : IsFault before after e → IsDbError policies before after c e

pub data IsChangeError (policies : List Policy) (fs : FieldsModel) (id : List ℕ) (new : Option (List ℕ)) (before after : Reach) (c : CoreModel) (e : IndexError) : Type 0 where
  refused : (answer : Option KeyValue) → change_refusal fs id (value_of answer) new ≡ Some e → IsChangeError policies fs id new before after c e
  of_db : (d : SlateDBError) → e ≡ Db d → IsDbError policies before after c d → IsChangeError policies fs id new before after c e

-- ---- where what was read is checked

-- m: what the parts mean
abbrev pub Steps : (SlateDBError → Type 0) → FieldsModel → List ℕ → Option (List ℕ) → Meaning → CoreModel → CoreModel → Result ℕ IndexError → Type 0
Steps P fs id new m c d (Ok n) =
    (change_refusal fs id (values_in m c (record_key id)) new ≡ None)
    × ((k : List ℕ) → values_in m d k ≡ changed (values_in m c) (change_puts fs id (values_in m c (record_key id)) new) k)
Steps P fs id new m c d (Err e) =
    (change_refusal fs id (values_in m c (record_key id)) new ≡ Some e)
    ⊎ ((e ≡ Db SequenceExhausted) × (newest c ≡ greatest) × (change_refusal fs id (values_in m c (record_key id)) new ≡ None))
    ⊎ ((x : SlateDBError) × (e ≡ Db x) × (IsBeginError c x ⊎ P x))

pub record IsChangeCall (policies : List Policy) (seg : Segments) (fs : FieldsModel) (id : List ℕ) (new : Option (List ℕ)) (now : ℤ) (before after : Reach) (c d : CoreModel) (result : Result ℕ IndexError) : Type 0 where
  pub changes : IfOk result (Changes fs id new now c d)
  pub next : IfOk result (λ n. (newest c < greatest) × (newest d ≡ newest c + 1))
  pub left : OnErr result (IsLeft c d)
  pub form : AreChanges fs c.events → AreChanges fs d.events
  pub steps : (g : Segments) → IsChecked policies g before after c → Steps (IsFaultSettled policies before after c) fs id new before.meaning c d result
  pub settled : IsSettledIn policies seg before c → IsSettledIn policies seg after d
  pub vouched : (g : Segments) → IsSettledIn policies g before c → IsVouchedCore before.meaning c → IsVouchedCore before.meaning d
  pub kept : IsKept before.meaning c → IsKept before.meaning d
  pub cause : IfErr result (IsChangeError policies fs id new before after c)
  pub events : weight d ≤ weight c + 2
  pub rows : load d ≤ load c + 17
  pub reads : OnlyReads before after

pub record IsAuditedCore (fs : FieldsModel) (m : Meaning) (c : CoreModel) : Type 0 where
  pub audited : AreAuditedChanges fs c.settings.start_seq c.events
  pub vouched : JournalIsVouched m c
