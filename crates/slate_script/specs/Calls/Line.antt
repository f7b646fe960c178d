-- What a session makes of a line. old, new: the session; before, after: what it reaches.
--     AnswersWithin line old new result      a line that asks nothing outside
--     AnswersByRead policies line before after old new result      a get or a scan
--     IsGetAsked policies name k before after old result      a get puts nothing and asks filters before it reads blocks, and one of an open name reads a block that has the key where its
--                 fold needs one; of a name that isn't open it adds nothing
--     IsPutAct act      the act is a put
--     OnlyPuts, AddsNothing before after      of what a store tells of its acts: none was added but puts, or none at all
--     AsksAt policies line before after old result      so does the get of a line; a scan reads as it likes and puts nothing, a flush puts and does nothing else, and other lines do nothing
--     AsksLine policies meant before after old result      the same of what a line means; a silent one does nothing
--     AnswersByGet policies name k before after old new result      a get
--     AnswersByScan policies name order range steps before after old new result      a scan of a range, where bounds leave one
--     AnswersByWrite given seg line before after old new result      a line that may call the operator; it steps as the model does where `given` holds
--     AnswersHonest, AnswersTold, AnswersSound      a line over a store that holds the journal's tables, one whose acts tell of them, and any store where what is kept of the rows holds
--     Answers layout line before after old new result      all of these, and what holds of each line
use Rattle.std.specs.Prelude.{◌≡◌, ◌⊎◌, ℕ, List, [], ◌∷◌, ◌++◌, Option, Some, None, Result, IfErr, OnOk}
use Rattle.std.specs.List.{AllByRecursion}
use Rattle.slate_types.specs.declared.bytes_range.BytesRange.{BytesRange}
use Rattle.slate_types.specs.declared.error.SlateDBError.{SlateDBError}
use Rattle.slate_types.specs.declared.error.SlateDBError.TheVariants.{OutOfMemory}
use Rattle.slate_types.specs.declared.iter.IterationOrder.{IterationOrder}
use Rattle.slate_types.specs.Outside.{Act, AddsReads, Objects, Reach, IsFault, IsStill, OnlyReads, Puts}
use Rattle.slate_types.specs.World.{IsCall, Made}
use Rattle.slate_filter.specs.Policy.{Policy}
use Rattle.slate_mem.specs.KeyTests.{Segments}
use Rattle.slate_txn.specs.declared.line.Line.{Line}
use Rattle.slate_txn.specs.declared.line.Line.TheVariants as lines
use Rattle.slate_txn.specs.declared.line.ScanStep.{ScanStep}
use Rattle.slate_txn.specs.State.{State}
use Rattle.slate_txn.specs.Step.{Reader, reader}
use Rattle.slate_db.specs.Answered.{AddsActs}
use Rattle.slate_db.specs.Asked.{Asks, Finds, needs_tables}
use Rattle.slate_db.specs.Checked.{OrSlips}
use Rattle.slate_db.specs.Flushed.{Layout}
use Rattle.slate_db.specs.Installs.{runs_of, tables_of}
use Rattle.slate_db.specs.Meaning.{Meaning, rules_of}
use Rattle.slate_db.specs.Parts.{IsTableError}
use Rattle.slate_db.specs.Readable.{IsAnswered, IsReadable}
use Rattle.slate_db.specs.Sound.{IsKept}
use Rattle.slate_db.specs.Settled.{IsSettled, IsSettledIn}
use Rattle.slate_language.specs.declared.reply.Answer.{Answer}
use Rattle.slate_script.specs.Scanning.{ScansAs}
use Rattle.slate_script.specs.Session.{SessionModel, StandsFor, StepsAs, HasTablesAlone, Grows, IsLimit, StoresNothing}
use Rattle.slate_script.specs.Told.{Follows, IsRefusedAt, IsUntrue, PutsTables, asking_for}

-- for parts of each meaning, and each segments
pub record AnswersWithin (line : Line) (old new : SessionModel) (result : Result Answer SlateDBError) : Type 0 where
  pub step : (m : Meaning) (seg : Segments) → StepsAs m seg old new line result
  pub stores : OnOk result ((m : Meaning) (seg : Segments) → StoresNothing m seg old new)
  pub grows : OnOk result (Grows line old new)
  pub cause : IfErr result (λ e. (e ≡ OutOfMemory) ⊎ IsLimit old e)

-- checked: where the objects hold the tables, it steps as the model does, or a section slipped
pub record AnswersByRead (policies : List Policy) (line : Line) (before after : Reach) (old new : SessionModel) (result : Result Answer SlateDBError) : Type 0 where
  pub step : IsAnswered policies before after old.core → (seg : Segments) → StepsAs before.meaning seg old new line result
  pub checked : (os : Objects) → IsReadable policies before.meaning os old.core → (seg : Segments) → OrSlips os before after (StepsAs before.meaning seg old new line result)
  pub stores : OnOk result ((m : Meaning) (seg : Segments) → StoresNothing m seg old new)
  pub grows : OnOk result (Grows line old new)
  pub cause : IfErr result (λ e. IsFault before after e ⊎ Made before after (λ reads. IsRefusedAt policies line before.meaning old.core reads e))
  pub undamaged : IsAnswered policies before after old.core → IfErr result (IsFault before after)
  pub reads : OnlyReads before after
  pub still : IsStill before.faults after.faults result

abbrev pub IsPutAct : Act → Type 0
IsPutAct (Act.put path bytes) = Unit {0}
IsPutAct _ = ⊥

abbrev pub OnlyPuts : Option (List Act) → Option (List Act) → Type 0
OnlyPuts before after = (known : List Act) → before ≡ Some known → (more : List Act) × (after ≡ Some (known ++ more)) × AllByRecursion IsPutAct more

abbrev pub AddsNothing : Option (List Act) → Option (List Act) → Type 0
AddsNothing before after = (known : List Act) → before ≡ Some known → after ≡ Some known

-- at the state that the session stands for, over the tables that its journal names
pub record IsGetAsked {A : Type 0} (policies : List Policy) (name k : List ℕ) (before after : Reach) (old : SessionModel) (result : Result A SlateDBError) : Type 0 where
  pub filters : Asks (asking_for policies k) before after old.core
  pub finds : (s : State) → StandsFor old s → (from : Reader) → reader s name ≡ Some from →
      Finds (asking_for policies k) k (needs_tables (rules_of old.core.settings before.meaning) s from.at from.ops k) before after old.core result
  pub alone : AddsReads before.acts after.acts
  pub closed : (s : State) → StandsFor old s → reader s name ≡ None → AddsNothing before.acts after.acts

abbrev pub AsksAt : {A : Type 0} → List Policy → Line → Reach → Reach → SessionModel → Result A SlateDBError → Type 0
AsksAt policies (lines.Get name k) before after old result = IsGetAsked policies name k before after old result
AsksAt policies (lines.Scan name order start end sts) before after old result = AddsReads before.acts after.acts
AsksAt policies (lines.Prefix name order p start end sts) before after old result = AddsReads before.acts after.acts
AsksAt policies lines.Flush before after old result = OnOk result (OnlyPuts before.acts after.acts)
AsksAt policies line before after old result = OnOk result (AddsNothing before.acts after.acts)

abbrev pub AsksLine : {A : Type 0} → List Policy → List Line → Reach → Reach → SessionModel → Result A SlateDBError → Type 0
AsksLine policies [] before after old result = OnOk result (AddsNothing before.acts after.acts)
AsksLine policies (line ∷ rest) before after old result = AsksAt policies line before after old result

pub record AnswersByGet (policies : List Policy) (name k : List ℕ) (before after : Reach) (old new : SessionModel) (result : Result Answer SlateDBError) : Type 0 where
  pub read : AnswersByRead policies (lines.Get name k) before after old new result
  pub asked : IsGetAsked policies name k before after old result

-- checked: as above
pub record AnswersByScan (policies : List Policy) (name : List ℕ) (order : IterationOrder) (range : Option BytesRange) (steps : List ScanStep) (before after : Reach) (old new : SessionModel) (result : Result Answer SlateDBError) : Type 0 where
  pub step : IsAnswered policies before after old.core → (seg : Segments) → ScansAs before.meaning seg old new name order range steps result
  pub checked : (os : Objects) → IsReadable policies before.meaning os old.core → (seg : Segments) → OrSlips os before after (ScansAs before.meaning seg old new name order range steps result)

pub record AnswersByWrite (given : Type 0) (seg : Segments) (line : Line) (before after : Reach) (old new : SessionModel) (result : Result Answer SlateDBError) : Type 0 where
  pub step : given → StepsAs before.meaning seg old new line result
  pub stores : OnOk result (StoresNothing before.meaning seg old new)
  pub grows : OnOk result (Grows line old new)
  pub cause : IfErr result (λ e. IsFault before after e ⊎ IsLimit old e)
  pub call : IsCall before after []
  pub reads : OnlyReads before after
  pub still : IsStill before.faults after.faults result

-- ---- a line

pub record AnswersHonest (layout : Layout) (line : Line) (before after : Reach) (old new : SessionModel) (result : Result Answer SlateDBError) : Type 0 where
  pub step : StepsAs before.meaning layout.segments old new line result
  pub kept : OnOk result (IsSettled layout.policies before.meaning layout.segments after.objects new.core)
  pub alone : HasTablesAlone before.meaning layout before.objects (runs_of old.core.events) → OnOk result (HasTablesAlone before.meaning layout after.objects (runs_of new.core.events))
  pub undamaged : IfErr result (λ e. IsFault before after e ⊎ IsLimit old e)

-- step: or a section slipped
pub record AnswersTold (layout : Layout) (line : Line) (os : Objects) (before after : Reach) (old new : SessionModel) (result : Result Answer SlateDBError) : Type 0 where
  pub step : OrSlips os before after (StepsAs before.meaning layout.segments old new line result)
  pub follows : OnOk result (Follows layout.policies before.meaning layout.segments os new before.acts after.acts)
  pub untrue : IfErr result (λ e. IsTableError e → IsUntrue os before.acts after.acts)

pub record AnswersSound (layout : Layout) (line : Line) (before after : Reach) (old new : SessionModel) (result : Result Answer SlateDBError) : Type 0 where
  pub kept : OnOk result (IsKept before.meaning new.core)
  pub shown : IfErr result (λ e. IsTableError e → Made before after (λ reads. IsRefusedAt layout.policies line before.meaning old.core reads e))

-- layout: has the policies and the segments
pub record Answers (layout : Layout) (line : Line) (before after : Reach) (old new : SessionModel) (result : Result Answer SlateDBError) : Type 0 where
  pub honest : IsSettledIn layout.policies layout.segments before old.core → AnswersHonest layout line before after old new result
  pub told : (os : Objects) → IsSettled layout.policies before.meaning layout.segments (Some os) old.core → AnswersTold layout line os before after old new result
  pub sound : IsKept before.meaning old.core → AnswersSound layout line before after old new result
  pub settings : OnOk result (new.core.settings ≡ old.core.settings)
  pub grows : OnOk result (Grows line old new)
  pub cause : IfErr result (λ e. IsFault before after e ⊎ IsLimit old e ⊎ IsTableError e)
  pub tables : OnOk result (PutsTables (tables_of old.core.events) (tables_of new.core.events) before.acts after.acts)
  pub asked : AsksAt layout.policies line before after old result
  pub adds : AddsActs before.acts after.acts
  pub puts : Puts before after
  pub still : IsStill before.faults after.faults result
