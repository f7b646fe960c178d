-- Scans of a transaction.
--     noted_scan order range t, noted_next n a t, sought_to n k t      the transaction, with a scan's opening, what it was answered, or its seek in its transcript
--     rows_of_range o m seen t order range      what the transaction sees in a range, over the commits of the journal seen
--     IsLeftOf o m t it rows      of the list that the scan's opening fixed these rows are left, by the transcript
--     IsOpening o m policies query range order old new before after quiet result      what the rows of a scan are opened to, before it is noted
--     IsScanOpened o m policies query range order old new before after quiet result      what the opening of a scan answers, and what it leaves of the transaction
--     rows_in result      the scan's rows, without whose they are
use Rattle.std.specs.Prelude.{◌≡◌, ◌⊎◌, ℕ, List, [], ◌∷◌, ◌++◌, Option, Some, IfOk, IfErr, OnErr, OnOk, Result, Ok, Err, count_by, slice_get}
use mathlib.Core.List.{IsPrefix}
use Rattle.slate_types.specs.declared.bytes_range.BytesRange.{BytesRange}
use Rattle.slate_types.specs.declared.config.Options.{Options}
use Rattle.slate_types.specs.declared.error.SlateDBError.{SlateDBError}
use Rattle.slate_types.specs.declared.error.SlateDBError.TheVariants.{OutOfMemory}
use Rattle.slate_types.specs.declared.filter_policy.FilterQuery.{FilterQuery}
use Rattle.slate_types.specs.declared.iter.IterationOrder.{IterationOrder}
use Rattle.slate_types.specs.declared.types.KeyValue.{KeyValue}
use Rattle.slate_types.specs.declared.types.RowEntry.{RowEntry}
use Rattle.slate_types.specs.Outside.{IsStill, OnlyReads, Reach, IsFault}
use Rattle.slate_filter.specs.Policy.{Policy}
use Rattle.slate_txn.specs.declared.event.Event.{Event}
use Rattle.slate_txn.specs.declared.event.TranscriptStep.TheVariants as steps
use Rattle.slate_txn.specs.Alone.{IsVouched, own_of, scans_left}
use Rattle.slate_txn.specs.Reads.{rows_seen}
use Rattle.slate_txn.specs.Replay.{replay}
use Rattle.slate_txn.specs.Settings.{settings_of}
use Rattle.slate_txn.specs.State.{Tx}
use Rattle.slate_txn.specs.Step.{is_scan}
use Rattle.slate_db.specs.declared.scan.DbIterator.{DbIterator}
use Rattle.slate_db.specs.declared.scan.TxnIterator.{TxnIterator}
use Rattle.slate_db.specs.Meaning.{Meaning, rules_of}
use Rattle.slate_db.specs.Model.{CoreModel}
use Rattle.slate_db.specs.RangeShares.{IsOpened}
use Rattle.slate_db.specs.Scans.{IsScanOf, LeavesIn, OpensAlone, number_of, scan_of}
use Rattle.slate_shared.specs.KeyReads.{IsAnsweredBy, IsCoreOf}
use Rattle.slate_shared.specs.Passes.{Opened}

abbrev pub noted_scan : IterationOrder → BytesRange → Tx → Tx
noted_scan order range t = record t { transcript = t.transcript ++ (steps.Scan order range ∷ []) }

abbrev pub noted_next : ℕ → Option KeyValue → Tx → Tx
noted_next n a t = record t { transcript = t.transcript ++ (steps.Next n a ∷ []) }

abbrev pub sought_to : ℕ → List ℕ → Tx → Tx
sought_to n k t = record t { transcript = t.transcript ++ (steps.Seek n k ∷ []) }

abbrev pub rows_of_range : Options → Meaning → List Event → Tx → IterationOrder → BytesRange → List RowEntry
rows_of_range o m seen t order range = rows_seen (rules_of (settings_of o) m) (replay seen).commits t.begin t.ops order range

abbrev pub IsLeftOf : Options → Meaning → Opened → TxnIterator → List RowEntry → Type 0
IsLeftOf o m t it rows = slice_get (scans_left (rules_of (settings_of o) m) (replay t.seen).commits t.tx.begin t.tx.transcript) (number_of it) ≡ Some ((scan_of it).order, rows)

abbrev pub rows_in : Result TxnIterator SlateDBError → Result DbIterator SlateDBError
rows_in (Ok it) = Ok (scan_of it)
rows_in (Err e) = Err e

-- quiet: nothing was reached
pub record IsOpening (o : Options) (m : Meaning) (policies : List Policy) (query : Option FilterQuery) (range : BytesRange) (order : IterationOrder) (old new : Opened) (before after : Reach) (quiet : Type 0) (result : Result DbIterator SlateDBError) : Type 0 where
  pub same : new ≡ record old { seen = new.seen }
  pub seen : IsPrefix old.seen new.seen
  pub own : old.tx.ops ≡ own_of old.tx.transcript
  pub opened : ((result ≡ Err OutOfMemory) × quiet) ⊎ ((c : CoreModel) × IsCoreOf o m old new.seen c × IsOpened policies query before after c old.tx.begin old.tx.ops range order result)
  pub ranged : IfOk result (λ it. (it.range ≡ range) × (it.order ≡ order))
  pub reads : OnlyReads before after
  pub still : IsStill before.faults after.faults result

pub record IsScanOpened (o : Options) (m : Meaning) (policies : List Policy) (query : Option FilterQuery) (range : BytesRange) (order : IterationOrder) (old new : Opened) (before after : Reach) (quiet : Type 0) (result : Result TxnIterator SlateDBError) : Type 0 where
  pub noted : OnOk result (new ≡ record old { seen = new.seen; tx = noted_scan order range old.tx })
  pub unnoted : OnErr result (new ≡ record old { seen = new.seen })
  pub seen : IsPrefix old.seen new.seen
  pub names : IfOk result (IsScanOf old.id (count_by is_scan old.tx.transcript) order range)
  pub leaves : (a : IsAnsweredBy policies m new.seen old.tx.ops before after) → IfOk result (λ it. LeavesIn a.os m it (rows_of_range o m new.seen old.tx order range))
  pub left : IfOk result (λ it. IsLeftOf o m new it (rows_of_range o m new.seen old.tx order range))
  pub undamaged : IsAnsweredBy policies m new.seen old.tx.ops before after → IfErr result (IsFault before after)
  pub vouched : IsVouched (rules_of (settings_of o) m) (replay new.seen).commits old.tx → IsVouched (rules_of (settings_of o) m) (replay new.seen).commits new.tx
  pub opened : ((result ≡ Err OutOfMemory) × quiet) ⊎ ((c : CoreModel) × IsCoreOf o m old new.seen c × (((result ≡ Err OutOfMemory) × OpensAlone policies query before after c) ⊎ IsOpened policies query before after c old.tx.begin old.tx.ops range order (rows_in result)))
  pub reads : OnlyReads before after
  pub still : IsStill before.faults after.faults result
