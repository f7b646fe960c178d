-- What a scan takes of a core, and what its opening answers.
--     RangeShareModel      the rows of the range that weren't frozen, those that wait for a flush, the oldest memtable first, and what is kept of the runs
--     HasUpto range n rows some      of the rows of each key in the range some have those up to the sequence, and no others
--     StandsIn c range n active frozen runs      at the core's moment these have the rows in memory of the keys in the range up to the sequence, and no others, and its runs' tables
--     IsRangeShare c range n s      so has what was taken
--     IsPart range wide      each key of the first range is in the second
--     IsReaderOf c id from range order own      an open transaction or snapshot of the core, and these are the rows of its own operations in the range
--     LeavesSeen os m c n ops range order it      in a world of these objects a scan leaves what is seen at the sequence under own operations
--     IsOpened policies query before after c n ops range order result      what a call answers that opens such a scan
use Rattle.slate_read.specs.TableWalk.{path_in}
use Rattle.std.specs.Prelude.{◌≡◌, ℕ, ◌≤◌, true, List, ◌++◌, Contains, filter, Option, Some, IfErr, IfOk, Result, map}
use Rattle.slate_types.specs.declared.bytes_range.BytesRange.{BytesRange}
use Rattle.slate_types.specs.declared.error.SlateDBError.{SlateDBError}
use Rattle.slate_types.specs.declared.filter_policy.FilterQuery.{FilterQuery}
use Rattle.slate_types.specs.declared.iter.IterationOrder.{IterationOrder}
use Rattle.slate_types.specs.declared.types.KeyValue.{KeyValue}
use Rattle.slate_types.specs.declared.types.RowEntry.{RowEntry}
use Rattle.slate_types.specs.Iteration.{RowList}
use Rattle.slate_types.specs.Keys.{in_range}
use Rattle.slate_types.specs.Outside.{Act, IsFault, Meaning, Objects, Reach, IsStill}
use Rattle.slate_types.specs.Rows.{of_key}
use Rattle.slate_types.specs.World.{World, Made}
use Rattle.slate_filter.specs.Policy.{Policy}
use Rattle.slate_mem.specs.Batch.{Ops}
use Rattle.slate_merge.specs.Filtering.{upto_seq}
use Rattle.slate_read.specs.declared.sorted_run.SortedRun.{SortedRun}
use Rattle.slate_txn.specs.Reads.{rows_seen}
use Rattle.slate_txn.specs.Step.{Reader, reader}
use Rattle.slate_db.specs.declared.scan.DbIterator.{DbIterator}
use Rattle.slate_db.specs.Checked.{OrSlips}
use Rattle.slate_db.specs.Log.{AreFine}
use Rattle.slate_db.specs.Meaning.{rules_of}
use Rattle.slate_db.specs.Model.{CoreModel, Rows}
use Rattle.slate_db.specs.OpenScans.{HasRows}
use Rattle.slate_db.specs.Readable.{IsAnswered, IsReadable}
use Rattle.slate_db.specs.Scanned.{HasOwn}
use Rattle.slate_db.specs.Scans.{IsFor, IsHandedByScan, IsOpeningError, IsRefusedByScan, IsWorldOf, Leaves, ScanHands, ScanRefuses, IsScanWithin, OpensWithin}
use Rattle.slate_db.specs.SharedRuns.{tables_in}
use Rattle.slate_db.specs.Whole.{Unseen, IsWhole}

pub record RangeShareModel : Type 0 where
  pub active : Rows
  pub frozen : List Rows
  pub runs : List SortedRun

pub record HasUpto (range : BytesRange) (n : ℕ) (rows some : Rows) : Type 0 where
  pub upto : (k : List ℕ) → in_range range k ≡ true → filter (upto_seq (Some n)) (of_key k some) ≡ filter (upto_seq (Some n)) (of_key k rows)
  pub among : (r : RowEntry) → Contains some r → Contains rows r

pub record StandsIn (c : CoreModel) (range : BytesRange) (n : ℕ) (active : Rows) (frozen : List Rows) (runs : List SortedRun) : Type 0 where
  pub unseen : Unseen
  pub whole : IsWhole c unseen
  pub tables : tables_in runs ≡ tables_in unseen.runs
  pub frozen_are : frozen ≡ c.frozen
  pub active_has : HasUpto range n c.active active

abbrev pub IsRangeShare : CoreModel → BytesRange → ℕ → RangeShareModel → Type 0
IsRangeShare c range n s = StandsIn c range n s.active s.frozen s.runs

abbrev pub IsPart : BytesRange → BytesRange → Type 0
IsPart range wide = (k : List ℕ) → in_range range k ≡ true → in_range wide k ≡ true

pub record IsReaderOf (c : CoreModel) (id : List ℕ) (from : Reader) (range : BytesRange) (order : IterationOrder) (own : RowList) : Type 0 where
  pub open_there : reader c.state id ≡ Some from
  pub fine : AreFine from.ops
  pub own_are : HasRows order (HasOwn range from.ops) own

abbrev pub LeavesSeen : Objects → Meaning → CoreModel → ℕ → Ops → BytesRange → IterationOrder → DbIterator → Type 0
LeavesSeen os m c n ops range order it = (v : World) × IsWorldOf os m v × Leaves it v (rows_seen (rules_of c.settings m) c.state.commits n ops order range)

-- policies, query: what filters are asked
pub record IsOpened (policies : List Policy) (query : Option FilterQuery) (before after : Reach) (c : CoreModel) (n : ℕ) (ops : Ops) (range : BytesRange) (order : IterationOrder) (result : Result DbIterator SlateDBError) : Type 0 where
  pub opened : c.floor ≤ n → (a : IsAnswered policies before after c) → IfOk result (LeavesSeen a.os before.meaning c n ops range order)
  pub checked : c.floor ≤ n → (os : Objects) → IsReadable policies before.meaning os c → IfOk result (λ it. OrSlips os before after (LeavesSeen os before.meaning c n ops range order it))
  pub later : IfOk result (λ it. IsFor before.meaning it × Made before after (λ reads. (later : List Act) (at : Option (List ℕ)) (e : SlateDBError) → ScanRefuses it before.meaning later at e → IsRefusedByScan policies query before.meaning c reads (reads ++ later) at e))
  pub hands : IfOk result (λ it. Made before after (λ reads. (later : List Act) (a : KeyValue) → ScanHands it before.meaning later a → IsHandedByScan policies query before.meaning c reads (reads ++ later) a))
  pub within : Made before after (λ reads. OpensWithin policies query before.meaning c reads (λ left. IfOk result (λ it. IsScanWithin it (map path_in left))))
  pub undamaged : c.floor ≤ n → IsAnswered policies before after c → IfErr result (IsFault before after)
  pub cause : IfErr result (IsOpeningError policies query before after c)
  pub still : IsStill before.faults after.faults result
