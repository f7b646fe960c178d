-- The steps of a transaction's scan, whoever notes them.
--     IsStep at more means brings before after same old new result      what a step answers, and what it leaves of the scan; at: the key of a seek; more: the rows that are left; means: what is answered; brings: where there is no operator; same: the environment is as it was
--     IsNext before after same old new result      of one that takes the next row
--     IsSeek key before after same old new result      of one that passes the rows before a key
use Rattle.std.specs.Prelude.{◌≡◌, ◌⊎◌, ℕ, List, drop, None, Some, Option, IfErr, IfOk, IfSome, OnOk, Result}
use Rattle.slate_types.specs.declared.error.SlateDBError.{SlateDBError}
use Rattle.slate_types.specs.declared.types.KeyValue.{KeyValue}
use Rattle.slate_types.specs.declared.types.RowEntry.{RowEntry}
use Rattle.slate_types.specs.Iteration.{drop_before}
use Rattle.slate_types.specs.Outside.{Act, IsFault, OnlyReads, Reach, IsStill}
use Rattle.slate_types.specs.Refusing.{NoMore}
use Rattle.slate_types.specs.World.{Checks, Made, Sees, World, ReadsAt}
use Rattle.slate_merge.specs.NoMoreRows.{NoMoreRows}
use Rattle.slate_txn.specs.Alone.{first_left}
use Rattle.slate_db.specs.declared.scan.TxnIterator.{TxnIterator}
use Rattle.slate_db.specs.Scans.{AnswersAgain, IsRefusedScan, IsScanOf, IsUnrefused, Keeps, Leaves, ScanHands, ScanRefuses, id_of, number_of, scan_of, IsScanWithin}

pub record IsStep {A : Type 0} (at : Option (List ℕ)) (more : List RowEntry → List RowEntry) (means : List RowEntry → A → Type 0) (brings : List Act → A → Type 0) (before after : Reach) (same : Type 0) (old new : TxnIterator) (result : Result A SlateDBError) : Type 0 where
  pub rows : (w : World) (rows : List RowEntry) → Leaves (scan_of old) w rows → Sees w before after → IfOk result (λ a. means rows a × Leaves (scan_of new) w (more rows))
  pub undamaged : (w : World) (rows : List RowEntry) → Leaves (scan_of old) w rows → Sees w before after → IfErr result (IsFault before after)
  pub checked : (w : World) (rows : List RowEntry) → Leaves (scan_of old) w rows → OnOk result (Checks w before after)
  pub later : OnOk result (Made before after (λ reads. NoMore (ScanRefuses (scan_of old) before.meaning) reads (ScanRefuses (scan_of new) before.meaning)))
  pub cause : IfErr result (λ e. Made before after (λ reads. IsFault before after e ⊎ ScanRefuses (scan_of old) before.meaning reads at e))
  pub bases : before.meaning.combine ≡ None → IfOk result (λ a. Made before after (λ reads. brings reads a))
  pub hands : OnOk result (Made before after (λ reads. NoMoreRows (ScanHands (scan_of old) before.meaning) reads (ScanHands (scan_of new) before.meaning)))
  pub again : IsUnrefused (scan_of old) → IfErr result (λ e. Keeps e (scan_of new))
  pub refused : (kept : SlateDBError) → IsRefusedScan kept (scan_of old) → AnswersAgain kept result × (new ≡ old) × same
  pub names : IsScanOf (id_of old) (number_of old) (scan_of old).order (scan_of old).range new
  pub within : (paths : List (List ℕ)) → IsScanWithin (scan_of old) paths → ReadsAt paths before after × IsScanWithin (scan_of new) paths
  pub reads : OnlyReads before after
  pub still : IsStill before.faults after.faults result

abbrev pub IsNext : Reach → Reach → Type 0 → TxnIterator → TxnIterator → Result (Option KeyValue) SlateDBError → Type 0
IsNext before after same old new result = IsStep None (drop 1) (λ rows a. a ≡ first_left rows) (λ reads a. IfSome a (ScanHands (scan_of old) before.meaning reads)) before after same old new result

abbrev pub IsSeek : {A : Type 0} → List ℕ → Reach → Reach → Type 0 → TxnIterator → TxnIterator → Result A SlateDBError → Type 0
IsSeek key before after same old new result = IsStep (Some key) (drop_before (scan_of old).order key) (λ rows a. Unit {0}) (λ reads a. Unit {0}) before after same old new result
