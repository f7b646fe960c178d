-- Scans by the transaction that is open, which hand out their rows together.
--     next_steps n rows      the steps at which the n-th scan answered these rows
--     HasStopped limit n rows last      so many rows are the limit; or they are fewer, and the last step tells that none is left
--     HandsUpTo limit n old new rows      the transcript, after so many rows at most were asked of the scan
--     AddsScan order range limit old new rows      so it is after the scan was opened too
--     HasScanned p range order limit old new rows      a transaction that took these steps, and no other, is ended without a commit
--     WalksOn p before after t u x y us      the transaction took these steps, by a scan that was x and is y, and is open still
--     HasWalked p before after t u x      so it did, and the scan isn't asked again
--     IsScanRefused p range before after new e      the bounds make no range; or it is refused as a read by what the transaction has seen
use Rattle.std.specs.Prelude.{◌≡◌, ◌⊎◌, ℕ, ◌<◌, List, [], ◌∷◌, ◌++◌, length, map, Option, Some, None, count_by}
use mathlib.Core.List.{IsPrefix}
use Rattle.slate_types.specs.declared.bytes_range.BytesRange.{BytesRange}
use Rattle.slate_types.specs.declared.error.SlateDBError.{SlateDBError}
use Rattle.slate_types.specs.declared.error.SlateDBError.TheVariants.{InvalidRange}
use Rattle.slate_types.specs.declared.config.IsolationLevel.{IsolationLevel}
use Rattle.slate_types.specs.declared.iter.IterationOrder.{IterationOrder}
use Rattle.slate_types.specs.declared.types.KeyValue.{KeyValue}
use Rattle.slate_types.specs.declared.types.RowEntry.{RowEntry}
use Rattle.slate_types.specs.Outside.{Objects, OnlyReads, Reach}
use Rattle.slate_txn.specs.declared.event.Event.{Event}
use Rattle.slate_txn.specs.declared.event.TranscriptStep.{TranscriptStep}
use Rattle.slate_txn.specs.declared.event.TranscriptStep.TheVariants as steps
use Rattle.slate_txn.specs.Step.{is_scan}
use Rattle.slate_db.specs.declared.scan.TxnIterator.{TxnIterator}
use Rattle.slate_db.specs.Scans.{IsScanOf, id_of, number_of, scan_of}
use Rattle.slate_shared.specs.Passes.{Opened}
use Rattle.slate_steps.specs.Attempts.{IsReadErrorOn, IsReadingOn, IsScanSinceOn, IsVouchedThere}
use Rattle.slate_steps.specs.Reads.{IsMetBy}
use Rattle.slate_connection.specs.Connected.{ConnectionModel, IsOpenAttempt, Terms}
use Rattle.slate_connection.specs.Transacted.{HasRead}

abbrev pub next_steps : ℕ → List KeyValue → List TranscriptStep
next_steps n rows = map (λ row. steps.Next n (Some row)) rows

abbrev pub HasStopped : ℕ → ℕ → List KeyValue → List TranscriptStep → Type 0
HasStopped limit n rows last =
    ((length rows ≡ limit) × (last ≡ [])) ⊎ ((length rows < limit) × (last ≡ steps.Next n None ∷ []))

pub record HandsUpTo (limit n : ℕ) (old new : List TranscriptStep) (rows : List KeyValue) : Type 0 where
  pub last : List TranscriptStep
  pub stopped : HasStopped limit n rows last
  pub is : new ≡ old ++ (next_steps n rows ++ last)

abbrev pub AddsScan : IterationOrder → BytesRange → ℕ → List TranscriptStep → List TranscriptStep → List KeyValue → Type 0
AddsScan order range limit old new rows =
    HandsUpTo limit (count_by is_scan old) (old ++ (steps.Scan order range ∷ [])) new rows

pub record HasScanned (p : Terms) (range : Option BytesRange) (order : IterationOrder) (limit : ℕ) (old new : ConnectionModel) (rows : List KeyValue) : Type 0 where
  pub r : BytesRange
  pub is : range ≡ Some r
  pub taken : List TranscriptStep
  pub read : HasRead p old new taken
  pub scanned : AddsScan order r limit [] taken rows

-- by these objects, if they answered each read between or none slipped, some rows are left
pub record WalksOn (p : Terms) (before after : Reach) (t u : Opened) (x y : TxnIterator) (us : List TranscriptStep) : Type 0 where
  pub table : u.table ≡ t.table
  pub id : u.id ≡ t.id
  pub seen : u.seen ≡ t.seen
  pub taken : u.tx.transcript ≡ t.tx.transcript ++ us
  pub named : IsScanOf (id_of x) (number_of x) (scan_of x).order (scan_of x).range y
  pub opens : (from : List Event) (level : IsolationLevel) → IsOpenAttempt p from level t → IsOpenAttempt p from level u
  pub reading : (os : Objects) (rows : List RowEntry) → before.meaning ≡ p.meaning → IsMetBy p.meaning os before after → IsReadingOn os p.options p.meaning t x rows →
      (left : List RowEntry) × IsReadingOn os p.options p.meaning u y left × (IsVouchedThere p.options p.meaning t → IsVouchedThere p.options p.meaning u)
  pub since : (from : Reach) → IsScanSinceOn p.options from before t.seen x → IsScanSinceOn p.options from after t.seen y
  pub reads : OnlyReads before after

pub record HasWalked (p : Terms) (before after : Reach) (t u : Opened) (x : TxnIterator) : Type 0 where
  pub table : u.table ≡ t.table
  pub id : u.id ≡ t.id
  pub seen : u.seen ≡ t.seen
  pub more : IsPrefix t.tx.transcript u.tx.transcript
  pub opens : (from : List Event) (level : IsolationLevel) → IsOpenAttempt p from level t → IsOpenAttempt p from level u
  pub vouched : (os : Objects) (rows : List RowEntry) → before.meaning ≡ p.meaning → IsMetBy p.meaning os before after → IsReadingOn os p.options p.meaning t x rows →
      IsVouchedThere p.options p.meaning t → IsVouchedThere p.options p.meaning u
  pub reads : OnlyReads before after

abbrev pub IsScanRefused : Terms → Option BytesRange → Reach → Reach → Opened → SlateDBError → Type 0
IsScanRefused p range before after new e =
    ((range ≡ None) × (e ≡ InvalidRange)) ⊎ IsReadErrorOn p.options p.policies before after new.seen e
