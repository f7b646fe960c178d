-- Steps of scans: one that takes the next row, and one that passes the rows before a key. at: the
-- key of a seek; more: the rows that are left; means: what is answered; brings: what it may be
-- where there is no operator; before, after: what a call reaches; old, new: what steps.
--     StepsScan at more means brings before after same_env old new result      of a scan
--     NextOf before after .., SeekOf key before after ..      of one that takes the next row, and
--                of one to a key
--     LeavesList more old new from to result      what a transaction's scan leaves by the
--                transcript; old, new: the core; from, to: the scan
--     StepsIn at more means brings needs before after old new result      of a state that was not
--                refused; needs: what its rows must be in a world
--     StepsValues rest sound order_of refuses offered_by is_within at more means brings needs
--                before after old new result      of rows that are folded; rest .. is_within: what
--                their source is
use Rattle.std.specs.Prelude.{◌≡◌, ◌⊎◌, ℕ, List, drop, None, Some, Option, IfErr, IfOk, IfSome, OnOk, Result}
use Rattle.slate_types.specs.declared.bytes_range.BytesRange.{BytesRange}
use Rattle.slate_types.specs.declared.error.SlateDBError.{SlateDBError}
use Rattle.slate_types.specs.declared.iter.IterationOrder.{IterationOrder}
use Rattle.slate_types.specs.declared.types.KeyValue.{KeyValue}
use Rattle.slate_types.specs.declared.types.RowEntry.{RowEntry}
use Rattle.slate_types.specs.Iteration.{drop_before}
use Rattle.slate_types.specs.Outside.{Act, IsFault, IsStill, Meaning, OnlyReads, Reach}
use Rattle.slate_types.specs.Refusing.{IsDamage, NoMore}
use Rattle.slate_types.specs.World.{Checks, Made, ReadsAt, Sees, World}
use Rattle.slate_merge.specs.declared.operator_iterator.MergeOperatorIterator.{MergeOperatorIterator}
use Rattle.slate_merge.specs.NoMoreRows.{NoMoreRows}
use Rattle.slate_merge.specs.Offers.{Offer}
use Rattle.slate_merge.specs.OperatorIterators.{IsGoing, IsOperable, refuses_folding, rest_folding, sound_folding}
use Rattle.slate_txn.specs.Alone.{first_left}
use Rattle.slate_db.specs.declared.scan.DbIterator.{DbIterator}
use Rattle.slate_db.specs.declared.scan.ScanState.{ScanState}
use Rattle.slate_db.specs.declared.scan.TxnIterator.{TxnIterator}
use Rattle.slate_db.specs.Model.{CoreModel, Rows}
use Rattle.slate_db.specs.Scans.{AnswersAgain, AreForIn, HandsIn, HasLeft, IsOperableIn, IsReached, IsRefusedScan, IsScanWithin, IsSoundIn, IsUnrefused, IsWithinIn, Keeps, Leaves, RefusesIn, ScanHands, ScanRefuses, SourcesRefuse, left_in}
use Rattle.slate_db.specs.Values.{HasValues}

-- later, hands: what it may refuse for or hand out from then on; again, refused: a refusal is kept,
-- and answered again; within: the paths that it reads
pub record StepsScan {A : Type 0} (at : Option (List ℕ)) (more : Rows → Rows)
    (means : Rows → A → Type 0) (brings : List Act → A → Type 0) (before after : Reach)
    (same_env : Type 0) (old new : DbIterator) (result : Result A SlateDBError) : Type 0 where
  pub rows : (w : World) (rows : Rows) → Leaves old w rows → Sees w before after →
      IfOk result (λ a. means rows a × Leaves new w (more rows))
  pub undamaged : (w : World) (rows : Rows) → Leaves old w rows → Sees w before after →
      IfErr result (IsFault before after)
  pub checked : (w : World) (rows : Rows) → Leaves old w rows → OnOk result (Checks w before after)
  pub later : OnOk result (Made before after (λ reads.
      NoMore (ScanRefuses old before.meaning) reads (ScanRefuses new before.meaning)))
  pub cause : IfErr result (λ e. Made before after (λ reads.
      IsFault before after e ⊎ ScanRefuses old before.meaning reads at e))
  pub bases : before.meaning.combine ≡ None →
      IfOk result (λ a. Made before after (λ reads. brings reads a))
  pub hands : OnOk result (Made before after (λ reads.
      NoMoreRows (ScanHands old before.meaning) reads (ScanHands new before.meaning)))
  pub again : IsUnrefused old → IfErr result (λ e. Keeps e new)
  pub refused : (kept : SlateDBError) → IsRefusedScan kept old →
      AnswersAgain kept result × (new ≡ old) × same_env
  pub range : new.range ≡ old.range
  pub order : new.order ≡ old.order
  pub within : (paths : List (List ℕ)) → IsScanWithin old paths →
      ReadsAt paths before after × IsScanWithin new paths
  pub reads : OnlyReads before after
  pub still : IsStill before.faults after.faults result

abbrev pub NextOf : Reach → Reach → Type 0 → DbIterator → DbIterator → Result (Option KeyValue)
    SlateDBError → Type 0
NextOf before after same_env old new result =
    StepsScan None (drop 1) (λ rows a. a ≡ first_left rows)
    (λ reads a. IfSome a (ScanHands old before.meaning reads)) before after same_env old new result

abbrev pub SeekOf : {A : Type 0} → List ℕ → Reach → Reach → Type 0 → DbIterator → DbIterator →
    Result A SlateDBError → Type 0
SeekOf key before after same_env old new result =
    StepsScan (Some key) (drop_before old.order key) (λ rows a. Unit {0})
    (λ reads a. Unit {0}) before after same_env old new result

-- of the list that the scan's opening fixed
abbrev pub LeavesList : {A : Type 0} → (Rows → Rows) → CoreModel → CoreModel → TxnIterator →
    TxnIterator → Result A SlateDBError → Type 0
LeavesList more old new from to result = (m : Meaning) (rows : Rows) → HasLeft m old from rows →
    OnOk result (HasLeft m new to (more rows))

-- ---- inside

pub record StepsIn {A : Type 0} (at : Option (List ℕ)) (more : IterationOrder → Rows → Rows)
    (means : Rows → A → Type 0) (brings : List Act → A → Type 0) (needs : World → Type 0)
    (before after : Reach) (old new : ScanState) (result : Result A SlateDBError) : Type 0 where
  pub rows : (w : World) (range : BytesRange) (order : IterationOrder) (rows : Rows) →
      Sees w before after → IsSoundIn order old w → HasValues range (left_in old w) rows →
      IfOk result (λ a. means rows a
      × IsSoundIn order new w × HasValues range (left_in new w) (more order rows))
  pub operable : (w : World) (order : IterationOrder) → Sees w before after →
      IsSoundIn order old w → IsOperableIn old w → OnOk result (IsOperableIn new w)
  pub undamaged : (w : World) (range : BytesRange) (order : IterationOrder) → IsReached range at →
      Sees w before after → IsSoundIn order old w → needs w → AreForIn range w.meaning old →
      IfErr result (IsFault before after)
  pub checked : (w : World) (order : IterationOrder) → IsSoundIn order old w →
      OnOk result (Checks w before after)
  pub sources : (range : BytesRange) → OnOk result (Made before after (λ reads.
      NoMore (SourcesRefuse range old before.meaning) reads (SourcesRefuse range new
      before.meaning)))
  pub later : (range : BytesRange) → OnOk result (Made before after (λ reads.
      NoMore (RefusesIn range old before.meaning) reads (RefusesIn range new before.meaning)))
  pub bases : before.meaning.combine ≡ None →
      IfOk result (λ a. Made before after (λ reads. brings reads a))
  pub hands : OnOk result (Made before after (λ reads.
      NoMoreRows (HandsIn old before.meaning) reads (HandsIn new before.meaning)))
  pub cause : (range : BytesRange) → IsReached range at → IfErr result (λ e. Made before after
      (λ reads. IsFault before after e ⊎ RefusesIn range old before.meaning reads at e))
  pub within : (paths : List (List ℕ)) → IsWithinIn old paths →
      ReadsAt paths before after × IsWithinIn new paths
  pub reads : OnlyReads before after
  pub still : IsStill before.faults after.faults result

pub record StepsValues {S A : Type 0} (rest : S → World → Rows) (sound : S → World → Type 0)
    (order_of : S → IterationOrder)
    (refuses : S → Meaning → List Act → Option (List ℕ) → SlateDBError → Type 0)
    (offered_by : Option RowEntry → S → Meaning → List Act → Offer → Type 0)
    (is_within : S → List (List ℕ) → Type 0) (at : Option (List ℕ)) (more : Rows → Rows)
    (means : Rows → A → Type 0) (brings : List Act → A → Type 0) (needs : World → Type 0)
    (before after : Reach) (old new : MergeOperatorIterator S)
    (result : Result A SlateDBError) : Type 0 where
  pub rows : (w : World) (range : BytesRange) (values : Rows) → Sees w before after →
      sound_folding rest sound order_of old w → HasValues range (rest_folding rest old w) values →
      IfOk result (λ a. means values a × HasValues range (rest_folding rest new w) (more values))
  pub still : (w : World) → Sees w before after → sound_folding rest sound order_of old w →
      OnOk result (sound_folding rest sound order_of new w)
  pub operable : (w : World) → Sees w before after → sound_folding rest sound order_of old w →
      IsOperable rest old w → OnOk result (IsOperable rest new w)
  pub going : OnOk result (IsGoing old × IsGoing new × (new.folding ≡ old.folding))
  pub checked : (w : World) → sound_folding rest sound order_of old w →
      OnOk result (Checks w before after)
  pub sources : OnOk result (Made before after (λ reads.
      NoMore (refuses old.iterator before.meaning) reads (refuses new.iterator before.meaning)))
  pub later : OnOk result (Made before after (λ reads.
      NoMore (refuses_folding refuses offered_by old before.meaning) reads
      (refuses_folding refuses offered_by new before.meaning)))
  pub bases : before.meaning.combine ≡ None →
      IfOk result (λ a. Made before after (λ reads. brings reads a))
  pub offered : OnOk result (Made before after (λ reads.
      NoMoreRows (offered_by old.ahead old.iterator before.meaning) reads
      (offered_by new.ahead new.iterator before.meaning)))
  pub undamaged : (w : World) → Sees w before after → IsGoing old →
      sound_folding rest sound order_of old w → needs w → IfErr result (λ e. IsFault before after e
      ⊎ Made before after (λ reads. refuses old.iterator before.meaning reads at e × ¬ IsDamage e))
  pub cause : IfErr result (λ e. Made before after (λ reads. IsFault before after e
      ⊎ refuses_folding refuses offered_by old before.meaning reads at e))
  pub order : order_of new.iterator ≡ order_of old.iterator
  pub within : (paths : List (List ℕ)) → is_within old.iterator paths →
      ReadsAt paths before after × is_within new.iterator paths
  pub reads : OnlyReads before after
  pub counts : IsStill before.faults after.faults result
