-- What a read of a core rests on, and what it refuses for. before, after: what the call reaches; upto: the sequence that it reads at
--     AreFiltered encode policies ts      the tables have the filters of these policies
--     IsReadable policies m os c      parts and policies are lawful, for them what is kept of the rows holds, and these objects hold the tables that the journal names, with their filters
--     IsAnswered policies before after c      objects of which this is true answered each read of the call
--     IsOwnRow c row      the row of an operation that an open transaction has among its own
--     IsOwnAsked by c row      such a row, of the key that is asked for
--     IsMemoryAsked by upto c row      a row of that key in memory, among those up to that sequence, down to the first that decides
--     LacksOperator by upto m c hs reads e      there is no operator, and an operand was found, among own operations, in memory or by the reads
--     IsRefusedBy by upto m c reads e      the reads show so of the tables that the journal names
--     IsReadError by upto before after c e      a fault that came in the call, or want of memory, or such a refusal by its reads
--     reader_at s id      the sequence that an open transaction or an open snapshot reads at
--     IsRead by upto before after c means result      what a call answers that reads at a sequence: what it means, when it is refused, what an Ok rests on, and what it leaves
--     IsOwnRead before after means result      the same of one that reads no more than an own operation: nothing is reached, and only memory refuses
--     decides_own k ops      own operations of the key decide what is read there, so that no store is asked
--     keeps_merge k ops      one of the operations that are kept of the key is a merge
--     MeetsOperand k n ops c      own operations decide nothing, and an operand stands in memory, among the key's rows up to the sequence down to the first that decides
use Rattle.std.specs.Prelude.{◌≡◌, ◌⊎◌, ℕ, Bool, true, false, not, List, Contains, IfErr, IfOk, OnOk, IsOkUnless, None, Some, option_map, unwrap_or, Result}
use Rattle.std.specs.List.{AllByRecursion, list_any}
use Rattle.slate_types.specs.declared.error.SlateDBError.{SlateDBError}
use Rattle.slate_types.specs.declared.error.SlateDBError.TheVariants.{MergeOperatorMissing, OutOfMemory}
use Rattle.slate_types.specs.declared.filter_policy.PrefixTarget.TheVariants.{Point}
use Rattle.slate_types.specs.declared.types.RowEntry.{RowEntry}
use Rattle.slate_types.specs.declared.types.Ulid.{Ulid}
use Rattle.slate_types.specs.Outside.{Act, Objects, IsFault, Meaning, OnlyReads, Reach, IsStill}
use Rattle.slate_types.specs.Rows.{is_operand}
use Rattle.slate_types.specs.World.{Made}
use Rattle.slate_mem.specs.declared.WriteOp.{WriteOp}
use Rattle.slate_mem.specs.Batch.{Ops, kept, replaces}
use Rattle.slate_mem.specs.Lookup.{is_merge_among, newest_first}
use Rattle.slate_mem.specs.RowOf.{own_row}
use Rattle.slate_mem.specs.Table.{newest}
use Rattle.slate_filter.specs.Policy.{Policy}
use Rattle.slate_table.specs.declared.info.SsTableHandle.{SsTableHandle}
use Rattle.slate_table.specs.Filtered.{AreLawful, HasFiltersOf}
use Rattle.slate_table.specs.Parts.{Encode}
use Rattle.slate_txn.specs.Named.{find_named}
use Rattle.slate_txn.specs.State.{State, Tx}
use Rattle.slate_txn.specs.Step.{reader}
use Rattle.slate_db.specs.Answered.{AnswersFrom}
use Rattle.slate_db.specs.Checked.{ChecksFrom}
use Rattle.slate_db.specs.Installs.{AreHandles, Holds, tables_of}
use Rattle.slate_db.specs.Meaning.{IsLawfulMeaning}
use Rattle.slate_db.specs.Model.{CoreModel, memory}
use Rattle.slate_db.specs.Shown.{Asking, BringsRow, ShowsDamage}
use Rattle.slate_db.specs.Sound.{IsKept}

abbrev pub AreFiltered : Encode → List Policy → List (Ulid × List ℕ) → Type 0
AreFiltered encode policies ts = AllByRecursion (λ t. HasFiltersOf encode policies t.0.0 t.1) ts

pub record IsReadable (policies : List Policy) (m : Meaning) (os : Objects) (c : CoreModel) : Type 0 where
  pub lawful : IsLawfulMeaning m
  pub lawful_policies : AreLawful policies
  pub filtered : AreFiltered m.encode policies (tables_of c.events)
  pub kept : IsKept m c
  pub holds : Holds os (tables_of c.events)

pub record IsAnswered (policies : List Policy) (before after : Reach) (c : CoreModel) : Type 0 where
  pub os : Objects
  pub readable : IsReadable policies before.meaning os c
  pub answers : AnswersFrom os before after

pub record IsOwnRow (c : CoreModel) (row : RowEntry) : Type 0 where
  pub id : List ℕ
  pub tx : Tx
  pub open_there : find_named id c.state.txns ≡ Some tx
  pub key : List ℕ
  pub op : WriteOp
  pub among : Contains (kept tx.ops key) op
  pub is : row ≡ own_row key op

abbrev pub IsOwnAsked : Asking → CoreModel → RowEntry → Type 0
IsOwnAsked by c row = IsOwnRow c row × (by.query.target ≡ Point row.key)

abbrev pub IsMemoryAsked : Asking → ℕ → CoreModel → RowEntry → Type 0
IsMemoryAsked by upto c row = (k : List ℕ) × (by.query.target ≡ Point k) × Contains (newest k upto (newest_first (memory c))) row

pub record LacksOperator (by : Asking) (upto : ℕ) (m : Meaning) (c : CoreModel) (hs : List SsTableHandle) (reads : List Act) (e : SlateDBError) : Type 0 where
  pub is : e ≡ MergeOperatorMissing
  pub none : m.combine ≡ None
  pub row : RowEntry
  pub operand : is_operand row ≡ true
  pub found : IsOwnAsked by c row ⊎ IsMemoryAsked by upto c row ⊎ BringsRow m.decode by upto hs reads row

-- handles: what is kept of the tables that the journal names
pub record IsRefusedBy (by : Asking) (upto : ℕ) (m : Meaning) (c : CoreModel) (reads : List Act) (e : SlateDBError) : Type 0 where
  pub handles : List SsTableHandle
  pub are : AreHandles (tables_of c.events) handles
  pub refused : LacksOperator by upto m c handles reads e ⊎ ShowsDamage m.decode by handles reads e

abbrev pub IsReadError : Asking → ℕ → Reach → Reach → CoreModel → SlateDBError → Type 0
IsReadError by upto before after c e = IsFault before after e ⊎ Made before after (λ reads. IsRefusedBy by upto before.meaning c reads e)

abbrev pub reader_at : State → List ℕ → ℕ
reader_at s id = unwrap_or (option_map (λ from. from.at) (reader s id)) 0

-- means: what an answer means, where each read was answered so
pub record IsRead {A : Type 0} (by : Asking) (upto : ℕ) (before after : Reach) (c : CoreModel) (means : A → Type 0) (result : Result A SlateDBError) : Type 0 where
  pub answer : IsAnswered by.policies before after c → IfOk result means
  pub undamaged : IsAnswered by.policies before after c → IfErr result (IsFault before after)
  pub checked : (os : Objects) → IsReadable by.policies before.meaning os c → OnOk result (ChecksFrom os before after)
  pub cause : IfErr result (IsReadError by upto before after c)
  pub reads : OnlyReads before after
  pub still : IsStill before.faults after.faults result

pub record IsOwnRead {A : Type 0} (before after : Reach) (means : A → Type 0) (result : Result A SlateDBError) : Type 0 where
  pub answer : IfOk result means
  pub cause : IsOkUnless result OutOfMemory
  pub reached : after ≡ before

abbrev pub decides_own : List ℕ → Ops → Bool
decides_own k ops = list_any replaces (kept ops k)

abbrev pub keeps_merge : List ℕ → Ops → Bool
keeps_merge k ops = list_any (λ op. not (replaces op)) (kept ops k)

abbrev pub MeetsOperand : List ℕ → ℕ → Ops → CoreModel → Type 0
MeetsOperand k n ops c = (decides_own k ops ≡ false) × (is_merge_among (newest k n (newest_first (memory c))) ≡ true)
