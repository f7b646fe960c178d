-- The opening of a scan. policies, query: what filters are asked; id: the reader; order, range: of
-- the scan; before, after: what the call reaches; old, new: the core.
--     scan_rows m c from order range      the rows that the reader sees in the range
--     OpensScan policies query id order range before after same_env old new result      what an
--                opening ensures
--     MergesSources order sources before after result      the sources of a scan are opened, and
--                merged
use Rattle.std.specs.Prelude.{◌≡◌, ◌⊎◌, ◌++◌, ◌∷◌, ℕ, false, true, List, [], map, None, Option, Some, Err, IfErr, IfOk, OnOk, Result}
use Rattle.std.specs.List.{AllByRecursion}
use Rattle.slate_types.specs.declared.bytes_range.BytesRange.{BytesRange}
use Rattle.slate_types.specs.declared.error.SlateDBError.{SlateDBError}
use Rattle.slate_types.specs.declared.error.SlateDBError.TheVariants.{InvalidRange}
use Rattle.slate_types.specs.declared.filter_policy.FilterQuery.{FilterQuery}
use Rattle.slate_types.specs.declared.iter.IterationOrder.{IterationOrder}
use Rattle.slate_types.specs.declared.types.KeyValue.{KeyValue}
use Rattle.slate_types.specs.declared.types.RowEntry.{RowEntry}
use Rattle.slate_types.specs.Keys.{is_refused}
use Rattle.slate_types.specs.Outside.{Act, IsFault, IsStill, Objects, OnlyReads, Reach}
use Rattle.slate_types.specs.World.{Checks, Made, ReadsAt, Sees, World}
use Rattle.slate_filter.specs.Policy.{Policy}
use Rattle.slate_merge.specs.declared.operator_iterator.MergeOperatorIterator.{MergeOperatorIterator}
use Rattle.slate_merge.specs.Offers.{Comes}
use Rattle.slate_merge.specs.OperatorIterators.{IsGoing, refuses_folding, rest_folding, sound_folding}
use Rattle.slate_read.specs.ReadSources.{IsSourceWithin}
use Rattle.slate_read.specs.TableWalk.{path_in}
use Rattle.slate_txn.specs.declared.line.Line.TheVariants as lines
use Rattle.slate_txn.specs.declared.line.ScanStep.TheVariants as scans
use Rattle.slate_txn.specs.Reads.{rows_seen}
use Rattle.slate_txn.specs.Reply.{RowsAre}
use Rattle.slate_txn.specs.Step.{Reader, reader}
use Rattle.slate_db.specs.declared.scan.ScanState.TheVariants.{Walking}
use Rattle.slate_db.specs.declared.scan.TxnIterator.{TxnIterator}
use Rattle.slate_db.specs.Calls.Common.{IsModelStep}
use Rattle.slate_db.specs.Checked.{OrSlips}
use Rattle.slate_db.specs.Meaning.{Meaning, rules_of}
use Rattle.slate_db.specs.Model.{CoreModel, Rows}
use Rattle.slate_db.specs.OpenScans.{CanOpen, FoldsRefuse, IsBlamedFor, SourcesBring, folded_rows, merged_rows}
use Rattle.slate_db.specs.Readable.{IsAnswered, IsReadable}
use Rattle.slate_db.specs.Scans.{FoldsAll, HasLeft, IsFor, IsHandedByScan, IsMergeWithin, IsOpenScan, IsOpeningError, IsOperableIn, IsRefusedByScan, IsScanOf, IsScanWithin, IsSoundMerged, LeavesIn, MergedSources, OpensWithin, ScanHands, ScanRefuses, ScanSource, merge_offers, merge_refuses, merge_rows, order_of_merge, scan_of}
use Rattle.slate_db.specs.Sound.{AreBases}
use Rattle.slate_db.specs.Vouched.{IsVouchedFor}

abbrev pub scan_rows : Meaning → CoreModel → Reader → IterationOrder → BytesRange → Rows
scan_rows m c from order range =
    rows_seen (rules_of c.settings m) c.state.commits from.at from.ops order range

-- opened, checked: the rows that are fixed, of objects that hold the tables; left: by the
-- transcript; later, hands: what later calls may refuse for, and hand out; invalid: bounds that
-- make no range
pub record OpensScan (policies : List Policy) (query : Option FilterQuery) (id : List ℕ)
    (order : IterationOrder) (range : BytesRange) (before after : Reach) (same_env : Type 0)
    (old new : CoreModel) (result : Result TxnIterator SlateDBError) : Type 0 where
  pub step : OnOk result (IsModelStep old new
      (lines.Scan id order range.start range.end (scans.Rows 0 ∷ [])) (RowsAre []))
  pub names : (from : Reader) → reader old.state id ≡ Some from →
      IfOk result (IsScanOf id from.scans order range)
  pub opened : (from : Reader) → reader old.state id ≡ Some from →
      (a : IsAnswered policies before after old) →
      IfOk result (λ it. LeavesIn a.os before.meaning it (scan_rows before.meaning old from order
      range))
  pub checked : (from : Reader) → reader old.state id ≡ Some from → (os : Objects) →
      IsReadable policies before.meaning os old → IfOk result (λ it. OrSlips os before after
      (LeavesIn os before.meaning it (scan_rows before.meaning old from order range)))
  pub left : (from : Reader) → reader old.state id ≡ Some from → IfOk result (λ it.
      HasLeft before.meaning new it (scan_rows before.meaning old from order range))
  pub later : IfOk result (λ it. IsFor before.meaning (scan_of it) × Made before after (λ reads.
      (later : List Act) (at : Option (List ℕ)) (e : SlateDBError) →
      ScanRefuses (scan_of it) before.meaning later at e →
      IsRefusedByScan policies query before.meaning old reads (reads ++ later) at e))
  pub hands : IfOk result (λ it. Made before after (λ reads. (later : List Act) (a : KeyValue) →
      ScanHands (scan_of it) before.meaning later a →
      IsHandedByScan policies query before.meaning old reads (reads ++ later) a))
  pub invalid : is_refused range.start range.end ≡ true →
      (result ≡ Err InvalidRange) × (new ≡ old) × same_env
  pub undamaged : is_refused range.start range.end ≡ false →
      IsAnswered policies before after old → IfErr result (IsFault before after)
  pub cause : is_refused range.start range.end ≡ false →
      IfErr result (IsOpeningError policies query before after old)
  pub vouched : OnOk result ((m : Meaning) (other : List ℕ) →
      IsVouchedFor m old other → IsVouchedFor m new other)
  pub within : Made before after (λ reads. OpensWithin policies query before.meaning old reads
      (λ left. IfOk result (λ it. IsScanWithin (scan_of it) (map path_in left))))
  pub reads : OnlyReads before after
  pub still : IsStill before.faults after.faults result
  pub opens : IfOk result (IsOpenScan new)

-- sound, rows, operable: in a world that answered; later, brought, offered: what later calls may
-- refuse for, and hand out, by the sources
pub record MergesSources (order : IterationOrder) (sources : List ScanSource) (before after : Reach)
    (result : Result (MergeOperatorIterator MergedSources) SlateDBError) : Type 0 where
  pub going : IfOk result (λ rows. IsGoing rows × FoldsAll rows × (rows.iterator.order ≡ order))
  pub sound : (w : World) → AllByRecursion (CanOpen w order) sources → Sees w before after →
      IfOk result (λ rows. sound_folding merge_rows IsSoundMerged order_of_merge rows w)
  pub rows : (w : World) → AllByRecursion (CanOpen w order) sources → Sees w before after →
      IfOk result (λ rows. rest_folding merge_rows rows w ≡ folded_rows w.meaning order w sources)
  pub operable : (w : World) → AllByRecursion (CanOpen w order) sources → Sees w before after →
      (w.meaning.combine ≡ None → AreBases (merged_rows order w sources)) →
      IfOk result (λ rows. IsOperableIn (Walking rows) w)
  pub checked : (w : World) → AllByRecursion (CanOpen w order) sources →
      OnOk result (Checks w before after)
  pub later : IfOk result (λ rows. Made before after (λ reads.
      (later : List Act) (at : Option (List ℕ)) (e : SlateDBError) →
      merge_refuses rows.iterator before.meaning later at e →
      IsBlamedFor sources before.meaning (reads ++ later) at e))
  pub brought : IfOk result (λ rows. Made before after (λ reads.
      (later : List Act) (at : Option (List ℕ)) (e : SlateDBError) →
      refuses_folding merge_refuses merge_offers rows before.meaning later at e →
      FoldsRefuse sources before.meaning (reads ++ later) at e))
  pub offered : IfOk result (λ rows. Made before after (λ reads. (later : List Act) (r : RowEntry) →
      merge_offers rows.ahead rows.iterator before.meaning later (Comes r) →
      SourcesBring sources before.meaning (reads ++ later) r))
  pub cause : IfErr result (λ e. Made before after (λ reads.
      IsFault before after e ⊎ IsBlamedFor sources before.meaning reads None e))
  pub within : (paths : List (List ℕ)) → AllByRecursion (λ s. IsSourceWithin s.iterator paths)
      sources →
      ReadsAt paths before after × IfOk result (λ rows. IsMergeWithin rows.iterator paths)
  pub reads : OnlyReads before after
  pub still : IsStill before.faults after.faults result
