-- A flush. layout: how it cuts and spells rows; before, after: what a call reaches; old, new: the
-- core.
--     IsLeft layout before after old new      what a refused flush leaves of the core, and of the
--                objects
--     IsFrozenStill old new      the rows are frozen, and nothing else is changed but room
--     IsRefusedLate result      by what comes behind the freeze alone
--     HasOperand c      a row in memory is one
--     FlushesAll layout before after same_env old new result      a flush
--     Installs layout before after old new result      what a flush does behind its freeze
use Rattle.std.specs.Prelude.{◌≡◌, ◌≢◌, ◌⊎◌, ℕ, true, List, [], None, Result, Err, IfErr, IfOk, OnErr, OnOk}
use Rattle.slate_types.specs.declared.error.SlateDBError.{SlateDBError}
use Rattle.slate_types.specs.declared.error.SlateDBError.TheVariants as errors
use Rattle.slate_types.specs.Outside.{IsFault, IsStill, Puts, Reach}
use Rattle.slate_mem.specs.KeyTests.{Segments}
use Rattle.slate_mem.specs.Lookup.{is_merge_among, newest_first}
use Rattle.slate_txn.specs.declared.line.Line.TheVariants as lines
use Rattle.slate_txn.specs.Places.{IsQuiet}
use Rattle.slate_txn.specs.Reply.{Flushed}
use Rattle.slate_txn.specs.State.{last_of}
use Rattle.slate_db.specs.Answered.{AddsActs, AddsTables}
use Rattle.slate_db.specs.Calls.Common.{IsModelStep}
use Rattle.slate_db.specs.Flushed.{Flushes, IsFlushError, Layout, MayPut, NoPlaceToFlush, TooLarge, WantsOperator}
use Rattle.slate_db.specs.Frozen.{IsFrozen}
use Rattle.slate_db.specs.HeldOn.{FiltersOn, HoldsOn, TellsOn}
use Rattle.slate_db.specs.Installs.{tables_of}
use Rattle.slate_db.specs.Log.{LIMIT}
use Rattle.slate_db.specs.Meaning.{Meaning}
use Rattle.slate_db.specs.Model.{CoreModel, IsSame, memory}
use Rattle.slate_db.specs.Opened.{StayOpen}
use Rattle.slate_db.specs.SegmentRuns.{AddsSegmentRuns}
use Rattle.slate_db.specs.Segmented.{IsSegmented}
use Rattle.slate_db.specs.Sound.{IsKept}
use Rattle.slate_db.specs.Vouched.{IsVouchedFor}

abbrev pub IsLeft : Layout → Reach → Reach → CoreModel → CoreModel → Type 0
IsLeft layout before after old new = (between : CoreModel) ×
    (IsSame old between ⊎ IsFrozen old between) × IsSame between new × MayPut layout before after
    between

abbrev pub IsFrozenStill : CoreModel → CoreModel → Type 0
IsFrozenStill old new = (between : CoreModel) × IsFrozen old between × IsSame between new

-- refused behind the freeze
abbrev pub IsRefusedLate : {A : Type 0} → Result A SlateDBError → Type 0
IsRefusedLate result = (result ≡ Err errors.StoreFault) ⊎ (result ≡ Err errors.BlockTransformError)
    ⊎ (result ≡ Err errors.MergeOperatorMissing)
    ⊎ ((message : List ℕ) × (result ≡ Err (errors.Callback message)))

abbrev pub HasOperand : CoreModel → Type 0
HasOperand c = is_merge_among (newest_first (memory c)) ≡ true

-- full, unasked, limit: where the journal has no place, nothing is done; wanted, operable: of
-- operands without an operator; held, told, filtered: of the tables that the journal names
pub record FlushesAll (layout : Layout) (before after : Reach) (same_env : Type 0)
    (old new : CoreModel) (result : Result ℕ SlateDBError) : Type 0 where
  pub step : IfOk result (λ n. IsModelStep old new lines.Flush (Flushed n))
  pub installed : IfOk result (λ n. (between : CoreModel) ×
      IsFrozen old between × Flushes layout before after between new n)
  pub acts : OnOk result
      (AddsTables (tables_of old.events) (tables_of new.events) before.acts after.acts)
  pub adds : AddsActs before.acts after.acts
  pub taken : OnOk result ((new.active ≡ []) × (new.frozen ≡ []))
  pub quiet : OnOk result (IsQuiet new.events)
  pub refused : OnErr result (IsLeft layout before after old new)
  pub frozen : IsRefusedLate result → IsFrozenStill old new
  pub full : NoPlaceToFlush old → new ≡ old
  pub unasked : NoPlaceToFlush old ⊎ ((old.active ≡ []) × (old.frozen ≡ [])) → same_env
  pub vouched : OnOk result ((m : Meaning) (other : List ℕ) →
      IsVouchedFor m old other → IsVouchedFor m new other)
  pub runs : IsKept before.meaning old → IsSegmented layout.segments old → OnOk result
      (AddsSegmentRuns before.meaning layout.segments old (tables_of old.events) (tables_of
      new.events))
  pub segmented : (g : Segments) → IsSegmented g old → IsSegmented g new
  pub kept : IsKept before.meaning old → IsKept before.meaning new
  pub kept_refused : OnErr result ((m : Meaning) → IsKept m old → IsKept m new)
  pub wanted : before.meaning.combine ≡ None → HasOperand old → IfOk result (λ n. ⊥)
  pub operable : IsKept before.meaning old → IfErr result (λ e. e ≢ errors.MergeOperatorMissing)
  pub settings : new.settings ≡ old.settings
  pub limit : NoPlaceToFlush old → result ≡ Err (errors.LimitReached LIMIT)
  pub cause : IfErr result (IsFlushError layout before after old)
  pub puts : Puts before after
  pub still : IsStill before.faults after.faults result
  pub stay : StayOpen old new
  pub held : HoldsOn before after old new
  pub told : OnOk result (TellsOn before after old new)
  pub filtered : FiltersOn layout.policies before.meaning old new

pub record Installs (layout : Layout) (before after : Reach) (old new : CoreModel)
    (result : Result ℕ SlateDBError) : Type 0 where
  pub newest : IfOk result (λ n. n ≡ last_of old.settings.start_seq old.state.commits)
  pub installed : IfOk result (Flushes layout before after old new)
  pub acts : OnOk result
      (AddsTables (tables_of old.events) (tables_of new.events) before.acts after.acts)
  pub adds : AddsActs before.acts after.acts
  pub same : OnErr result (IsSame old new)
  pub refused : OnErr result (MayPut layout before after old)
  pub kept : IsKept before.meaning old → IsKept before.meaning new
  pub kept_refused : OnErr result ((m : Meaning) → IsKept m old → IsKept m new)
  pub wanted : before.meaning.combine ≡ None → HasOperand old → IfOk result (λ n. ⊥)
  pub cause : IfErr result (λ e. IsFault before after e
      ⊎ TooLarge before.meaning layout old e ⊎ WantsOperator before.meaning (memory old) e)
  pub puts : Puts before after
  pub still : IsStill before.faults after.faults result
  pub held : HoldsOn before after old new
  pub told : OnOk result (TellsOn before after old new)
