-- What a read of a key takes of a core, and what is seen of it.
--     KeyShareModel      the rows of the key in memory, and what is kept of the runs
--     Stands c k n found runs      at the core's moment these are its memory's rows of the key up to the sequence, newest first, to the first that decides, and its runs' tables
--     IsKeyShare c k n s      so is what was taken
--     IsUnder c k rows      rows of own operations of the key, newest first, of which none decides
--     rows_under r c k n own      the key's rows in the commits up to the sequence, and own ones behind them, the oldest first
--     IsSeen by before after c k n own result      what a call answers that reads the key: what it sees under own rows, which tables it asks and needs, and where an operand has no operator
--     rows_of r c k t      the key's rows in the commits up to the transaction's begin, and those of its own operations behind them
--     IsKeyRead by before after c k t means result      what a read answers that its own operations don't decide; means: what an answer means of these rows
--     IsOwnAnswer before after k t means result      the same where they decide, so that no store is asked
--     IsFolded c rows row, IsShown c rows a      the row that rows fold to, and what is seen of it
use Rattle.std.specs.Prelude.{◌≡◌, ◌≢◌, ◌⊎◌, ℕ, ◌≤◌, true, List, [], ◌∷◌, ◌++◌, map, reverse, Option, None, option_map, IfOk, IfErr, Result}
use Rattle.std.specs.List.{AllByRecursion}
use Rattle.slate_types.specs.declared.error.SlateDBError.{SlateDBError}
use Rattle.slate_types.specs.declared.error.SlateDBError.TheVariants.{MergeOperatorMissing}
use Rattle.slate_types.specs.declared.types.KeyValue.{KeyValue}
use Rattle.slate_types.specs.declared.types.RowEntry.{RowEntry}
use Rattle.slate_types.specs.Fold.{AreShort, Combine, IsLawful, KeepsShort, fold_rows, shown}
use Rattle.slate_types.specs.Outside.{Reach, IsFault, IsStill}
use Rattle.slate_types.specs.Rows.{is_operand, key_value}
use Rattle.slate_types.specs.World.{IsCall}
use Rattle.slate_mem.specs.declared.WriteOp.{WriteOp}
use Rattle.slate_mem.specs.Batch.{kept, replaces}
use Rattle.slate_mem.specs.Lookup.{is_merge_among, newest_first}
use Rattle.slate_mem.specs.RowOf.{own_row}
use Rattle.slate_mem.specs.Table.{newest}
use Rattle.slate_read.specs.declared.sorted_run.SortedRun.{SortedRun}
use Rattle.slate_txn.specs.Reads.{key_rows, up_to}
use Rattle.slate_txn.specs.State.{Rules, Tx}
use Rattle.slate_db.specs.Asked.{Asks, Finds, needs_tables, takes_flushed}
use Rattle.slate_db.specs.Meaning.{combine_of, rules_of}
use Rattle.slate_db.specs.Model.{CoreModel, Rows, memory}
use Rattle.slate_db.specs.Readable.{IsOwnRead, IsOwnRow, IsRead, MeetsOperand, keeps_merge}
use Rattle.slate_db.specs.SharedRuns.{tables_in}
use Rattle.slate_db.specs.Shown.{Asking}
use Rattle.slate_db.specs.Whole.{Unseen, IsWhole}

pub record KeyShareModel : Type 0 where
  pub rows : Rows
  pub runs : List SortedRun

pub record Stands (c : CoreModel) (k : List ℕ) (n : ℕ) (found : Rows) (runs : List SortedRun) : Type 0 where
  pub unseen : Unseen
  pub whole : IsWhole c unseen
  pub tables : tables_in runs ≡ tables_in unseen.runs
  pub rows : found ≡ newest k n (newest_first (memory c))

abbrev pub IsKeyShare : CoreModel → List ℕ → ℕ → KeyShareModel → Type 0
IsKeyShare c k n s = Stands c k n s.rows s.runs

pub record IsUnder (c : CoreModel) (k : List ℕ) (rows : Rows) : Type 0 where
  pub operands : AllByRecursion (λ r. is_operand r ≡ true) rows
  pub own : AllByRecursion (IsOwnRow c) rows
  pub keys : AllByRecursion (λ r. r.key ≡ k) rows
  pub short : AreShort rows

abbrev pub rows_under : Rules → CoreModel → List ℕ → ℕ → Rows → Rows
rows_under r c k n own = key_rows r k (up_to n c.state.commits) ++ reverse own

pub record IsSeen (by : Asking) (before after : Reach) (c : CoreModel) (k : List ℕ) (n : ℕ) (own : Rows) (result : Result (Option RowEntry) SlateDBError) : Type 0 where
  pub read : IsRead by n before after c (λ row. c.floor ≤ n → row ≡ fold_rows (combine_of before.meaning k) (rows_under (rules_of c.settings before.meaning) c k n own)) result
  pub asks : Asks by before after c
  pub finds : c.floor ≤ n → Finds by k (takes_flushed c.state (rows_under (rules_of c.settings before.meaning) c k n own)) before after c result
  pub missing : before.meaning.combine ≡ None → own ≢ [] → IfOk result (λ row. ⊥)
  pub merged : before.meaning.combine ≡ None → is_merge_among (newest k n (newest_first (memory c))) ≡ true → IfOk result (λ row. ⊥)

-- ---- of an open transaction

abbrev pub rows_of : Rules → CoreModel → List ℕ → Tx → Rows
rows_of r c k t = key_rows r k (up_to t.begin c.state.commits) ++ map (own_row k) (kept t.ops k)

pub record IsKeyRead {A : Type 0} (by : Asking) (before after : Reach) (c : CoreModel) (k : List ℕ) (t : Tx) (means : Combine → Rows → A → Type 0) (result : Result A SlateDBError) : Type 0 where
  pub read : IsRead by t.begin before after c (means (combine_of before.meaning k) (rows_of (rules_of c.settings before.meaning) c k t)) result
  pub asks : Asks by before after c
  pub finds : Finds by k (needs_tables (rules_of c.settings before.meaning) c.state t.begin t.ops k) before after c result
  pub missing : before.meaning.combine ≡ None → keeps_merge k t.ops ≡ true → IfOk result (λ a. ⊥)
  pub operand : before.meaning.combine ≡ None → MeetsOperand k t.begin t.ops c → IfOk result (λ a. ⊥)

pub record IsOwnAnswer {A : Type 0} (before after : Reach) (k : List ℕ) (t : Tx) (means : Combine → Rows → A → Type 0) (result : Result A SlateDBError) : Type 0 where
  pub quiet : IsCall before after []
  pub folded : IsLawful (combine_of before.meaning k) → KeepsShort (combine_of before.meaning k) → IfOk result (means (combine_of before.meaning k) (map (own_row k) (kept t.ops k)))
  pub own : (op : WriteOp) → kept t.ops k ≡ op ∷ [] → replaces op ≡ true → IsOwnRead before after (λ a. (f : Combine) → means f (own_row k op ∷ []) a) result
  pub missing : before.meaning.combine ≡ None → keeps_merge k t.ops ≡ true → IfOk result (λ a. ⊥)
  pub cause : IfErr result (λ e. IsFault before after e ⊎ ((e ≡ MergeOperatorMissing) × (before.meaning.combine ≡ None) × (keeps_merge k t.ops ≡ true)))
  pub still : IsStill before.faults after.faults result

abbrev pub IsFolded : Combine → Rows → Option RowEntry → Type 0
IsFolded f rows row = row ≡ fold_rows f rows

abbrev pub IsShown : Combine → Rows → Option KeyValue → Type 0
IsShown f rows a = a ≡ option_map key_value (shown f rows)
