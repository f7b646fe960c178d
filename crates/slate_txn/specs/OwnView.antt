-- How contracts see what a transaction owns.
--     IsOwn level ts b rs n      the batch is that of the own operations of the transcript, of which none is to be refused; the reading is that of the transcript, at the level; and it opened n scans
use Rattle.std.specs.Prelude.{◌≡◌, ℕ, count_by, List, None}
use Rattle.std.specs.List.{AllByRecursion}
use Rattle.slate_types.specs.declared.config.IsolationLevel.{IsolationLevel}
use Rattle.slate_mem.specs.BatchModel.{BatchModel, IsBatchOf}
use Rattle.slate_mem.specs.Refusals.{op_refusal}
use Rattle.slate_txn.specs.declared.db_transaction.DbTransactionInner.TheInside.{Inside}
use Rattle.slate_txn.specs.declared.event.TranscriptStep.{TranscriptStep}
use Rattle.slate_txn.specs.Alone.{own_of}
use Rattle.slate_txn.specs.Conflict.{reads_at}
use Rattle.slate_txn.specs.State.{Tx}
use Rattle.slate_txn.specs.Step.{is_scan}
use Rattle.slate_txn.specs.Tracking.{Reading}

abbrev pub own_view : Inside → Tx
own_view s = record { level = s.level; begin = s.begin; ops = own_of s.transcript.items; marked = s.marked.items; unmarked = s.unmarked.items; transcript = s.transcript.items }

pub record IsOwn (level : IsolationLevel) (ts : List TranscriptStep) (b : BatchModel) (rs : Reading) (n : ℕ) : Type 0 where
  pub batch : IsBatchOf (own_of ts) b
  pub fine : AllByRecursion (λ o. op_refusal o.0 o.1 ≡ None) (own_of ts)
  pub reading : rs ≡ reads_at level ts
  pub scans : n ≡ count_by is_scan ts

abbrev pub IsOwnInside : Inside → Type 0
IsOwnInside s = IsOwn s.level s.transcript.items s.batch s.reading s.scans
