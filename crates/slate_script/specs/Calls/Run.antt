-- What a run ensures. t: what is the same for all of it; old, new: its streams; before, after: what it reaches.
--     RunsHonest, RunsTold      a run of lawful terms over an honest store that was empty, and over one that tells its acts
--     Runs t old new before after result      a run over a script
--     CountsReplies t old before after first tally result      the counts of its replies
--     SummedHonest, SummedTold, RunsSummed t script old new before after result      the same of a run over a script that it makes for itself
--     RepliesHonest, RepliesTold, RepliesSound      a line of a session that runs, of one that is settled, and of one whose rows are kept
--     RepliesLine layout number line before after old new from to first tally result      a line; old, new: the session; from, to: the streams
--     WritesReply line from to result      what a line does to the sink
use Rattle.std.specs.Prelude.{◌≡◌, ◌⊎◌, ◌≤◌, ◌+◌, ℕ, List, [], ◌∷◌, length, false, Some, Result, Err, OnOk, IfErr, IsTrue}
use Rattle.slate_types.specs.declared.error.SlateDBError.{SlateDBError}
use Rattle.slate_types.specs.declared.error.SlateDBError.TheVariants as errors
use Rattle.slate_types.specs.Faults.{Rose}
use Rattle.slate_types.specs.Outside.{IsStill, Objects, Puts, Reach}
use Rattle.slate_types.specs.World.{Made}
use Rattle.slate_store.specs.Lines.{lines_of}
use Rattle.slate_txn.specs.State.{Rules, opening}
use Rattle.slate_txn.specs.Step.{answers}
use Rattle.slate_db.specs.Answered.{AddsActs}
use Rattle.slate_db.specs.Checked.{OrSlips}
use Rattle.slate_db.specs.Flushed.{Layout}
use Rattle.slate_db.specs.Installs.{runs_of, tables_of}
use Rattle.slate_db.specs.Load.{weight}
use Rattle.slate_db.specs.Meaning.{Meaning}
use Rattle.slate_db.specs.Parts.{IsTableError}
use Rattle.slate_db.specs.Sound.{IsKept}
use Rattle.slate_db.specs.Settled.{IsSettled}
use Rattle.slate_language.specs.declared.tally.Tally.{Tally}
use Rattle.slate_language.specs.Generate.{summary}
use Rattle.slate_language.specs.Replies.{after_lines, meanings, IsWellFormed}
use Rattle.slate_language.specs.Tally.{tallied}
use Rattle.slate_script.specs.Calls.Line.{AsksLine}
use Rattle.slate_script.specs.LineReads.{HasReadByLine}
use Rattle.slate_script.specs.Run.{is_line, AnswersLine, HasCause, HasRead, HasSaid, HasTold, IsOutside, IsPartCause, IsPartError, NoneRose, Premises}
use Rattle.slate_script.specs.Session.{HasTablesAlone, IsLimit, IsRunning, SessionModel, held_load}
use Rattle.slate_script.specs.StoredState.{IsStoredState}
use Rattle.slate_script.specs.Terms.{AreLawfulTerms, Streams, Terms, layout_by, rules_by}
use Rattle.slate_script.specs.Told.{Follows, IsShownAtEnd, IsShownBy, IsUntrue, PutsTables}

-- ---- a run over a script

-- reads: where the store tells its acts; complete: where no count of faults rose
pub record RunsHonest {T : Type 0} (t : Terms) (script : List ℕ) (old new : Streams) (before after : Reach) (result : Result T SlateDBError) : Type 0 where
  pub said : (front : List ℕ) → old.taken ≡ Some front → HasSaid (rules_by t) script new.left front new.taken result
  pub stored : OnOk result (IsStoredState t.parts (rules_by t) (layout_by t) after.objects (after_lines (rules_by t) opening (lines_of script)))
  pub reads : OnOk result (HasReadByLine t (lines_of script) before.acts after.acts after.objects)
  pub complete : IsWellFormed script → NoneRose (Rose old.source new.source) (Rose old.sink new.sink) before after → IfErr result (λ e. e ≡ errors.OutOfMemory)

-- said: or a section slipped
pub record RunsTold {T : Type 0} (t : Terms) (old new : Streams) (before after : Reach) (result : Result T SlateDBError) : Type 0 where
  pub said : (script front : List ℕ) → old.left ≡ Some script → old.taken ≡ Some front →
      OrSlips [] before after (HasSaid (rules_by t) script new.left front new.taken result)
  pub untrue : IfErr result (λ e. IsTableError e → IsUntrue [] before.acts after.acts)

-- over any parts and any store: what was read, and the errors, each with its cause; no fault is passed over
pub record Runs {T : Type 0} (t : Terms) (old new : Streams) (before after : Reach) (result : Result T SlateDBError) : Type 0 where
  pub honest : (script : List ℕ) → old.left ≡ Some script → Premises t.policies t.parts before.objects → RunsHonest t script old new before after result
  pub undamaged : Premises t.policies t.parts before.objects → IfErr result (λ e. IsTableError e → ⊥)
  pub told : AreLawfulTerms t → RunsTold t old new before after result
  pub read : (script : List ℕ) → old.left ≡ Some script → HasRead script new.left result
  pub shown : IfErr result (λ e. IsTableError e → IsShownAtEnd t.policies before after e)
  pub cause : HasCause (Rose old.source new.source) (Rose old.sink new.sink) before after result
  pub source_still : (result ≡ Err errors.ReadFault) ⊎ (new.source ≡ old.source)
  pub sink_still : (result ≡ Err errors.WriteFault) ⊎ (new.sink ≡ old.sink)
  pub parts_still : IsStill before.faults after.faults result
  pub later : (old.source ≤ new.source) × (old.sink ≤ new.sink)
  pub puts : Puts before after

pub record CountsReplies {T : Type 0} (t : Terms) (old : Streams) (before after : Reach) (first tally : Tally) (result : Result T SlateDBError) : Type 0 where
  pub honest : (script : List ℕ) → old.left ≡ Some script → Premises t.policies t.parts before.objects →
      OnOk result (tally ≡ tallied first (answers (rules_by t) opening (meanings (lines_of script))))
  pub told : (script : List ℕ) → old.left ≡ Some script → AreLawfulTerms t →
      OnOk result (OrSlips [] before after (tally ≡ tallied first (answers (rules_by t) opening (meanings (lines_of script)))))

-- ---- a run over a script that it makes for itself

pub record SummedHonest {T : Type 0} (t : Terms) (script : List ℕ) (old new : Streams) (before after : Reach) (result : Result T SlateDBError) : Type 0 where
  pub said : (front : List ℕ) → old.taken ≡ Some front → HasTold (summary (rules_by t) script) front new.taken result
  pub stored : OnOk result (IsStoredState t.parts (rules_by t) (layout_by t) after.objects (after_lines (rules_by t) opening (lines_of script)))
  pub reads : OnOk result (HasReadByLine t (lines_of script) before.acts after.acts after.objects)
  pub complete : NoneRose ⊥ (Rose old.sink new.sink) before after → IfErr result (λ e. e ≡ errors.OutOfMemory)

-- said: or a section slipped
pub record SummedTold {T : Type 0} (t : Terms) (script : List ℕ) (old new : Streams) (before after : Reach) (result : Result T SlateDBError) : Type 0 where
  pub said : (front : List ℕ) → old.taken ≡ Some front → OrSlips [] before after (HasTold (summary (rules_by t) script) front new.taken result)
  pub untrue : IfErr result (λ e. IsTableError e → IsUntrue [] before.acts after.acts)

pub record RunsSummed {T : Type 0} (t : Terms) (script : List ℕ) (old new : Streams) (before after : Reach) (result : Result T SlateDBError) : Type 0 where
  pub honest : Premises t.policies t.parts before.objects → SummedHonest t script old new before after result
  pub undamaged : Premises t.policies t.parts before.objects → IfErr result (λ e. IsTableError e → ⊥)
  pub told : AreLawfulTerms t → SummedTold t script old new before after result
  pub shown : IfErr result (λ e. IsTableError e → IsShownAtEnd t.policies before after e)
  pub outside : IfErr result (λ e. IsOutside e)
  pub cause : HasCause ⊥ (Rose old.sink new.sink) before after result
  pub unwritten : IfErr result (λ e. (e ≡ errors.WriteFault) ⊎ (new.taken ≡ old.taken))
  pub sink_still : (result ≡ Err errors.WriteFault) ⊎ (new.sink ≡ old.sink)
  pub parts_still : IsStill before.faults after.faults result
  pub later : old.sink ≤ new.sink
  pub puts : Puts before after

-- ---- a line

-- alone: no other objects than the tables' came
pub record RepliesHonest {T : Type 0} (layout : Layout) (m : Meaning) (r : Rules) (line : List ℕ) (before after : Reach) (old new : SessionModel) (from to : Streams) (first tally : Tally) (result : Result T SlateDBError) : Type 0 where
  pub running : OnOk result (IsRunning layout.policies m layout.segments r after.meaning after.objects new)
  pub answered : AnswersLine r line old new from.taken to.taken first tally result
  pub alone : HasTablesAlone m layout before.objects (runs_of old.core.events) → OnOk result (HasTablesAlone m layout after.objects (runs_of new.core.events))
  pub undamaged : IfErr result (λ e. IsTableError e → ⊥)

pub record RepliesTold {T : Type 0} (layout : Layout) (os : Objects) (before after : Reach) (new : SessionModel) (result : Result T SlateDBError) : Type 0 where
  pub follows : OnOk result (Follows layout.policies before.meaning layout.segments os new before.acts after.acts)
  pub untrue : IfErr result (λ e. IsTableError e → IsUntrue os before.acts after.acts)

pub record RepliesSound {T : Type 0} (layout : Layout) (before after : Reach) (old new : SessionModel) (result : Result T SlateDBError) : Type 0 where
  pub kept : OnOk result (IsKept before.meaning new.core)
  pub shown : IfErr result (λ e. IsTableError e → Made before after (λ reads. IsShownBy layout.policies before.meaning old.core reads e))

-- checked: over a store that tells its acts, or a section slipped
pub record RepliesLine {T : Type 0} (layout : Layout) (number : ℕ) (line : List ℕ) (before after : Reach) (old new : SessionModel) (from to : Streams) (first tally : Tally) (result : Result T SlateDBError) : Type 0 where
  pub meant : OnOk result (IsTrue (is_line line))
  pub honest : (m : Meaning) (r : Rules) → IsRunning layout.policies m layout.segments r before.meaning before.objects old →
      RepliesHonest layout m r line before after old new from to first tally result
  pub checked : (m : Meaning) (r : Rules) (os : Objects) → IsRunning layout.policies m layout.segments r before.meaning (Some os) old →
      OrSlips os before after (AnswersLine r line old new from.taken to.taken first tally result)
  pub told : (os : Objects) → IsSettled layout.policies before.meaning layout.segments (Some os) old.core → RepliesTold layout os before after new result
  pub sound : IsKept before.meaning old.core → RepliesSound layout before after old new result
  pub settings : OnOk result (new.core.settings ≡ old.core.settings)
  pub grows : OnOk result ((weight new.core ≤ weight old.core + 2) × (held_load new ≤ held_load old + length line))
  pub cause : IfErr result (λ e. (e ≡ errors.OutOfMemory) ⊎ (e ≡ errors.WriteFault) ⊎ ((e ≡ errors.ScriptSyntax number) × (is_line line ≡ false)) ⊎ IsPartError e ⊎ IsLimit old e)
  pub part : IfErr result (λ e. IsPartError e → IsPartCause before.faults after.faults e)
  pub tables : OnOk result (PutsTables (tables_of old.core.events) (tables_of new.core.events) before.acts after.acts)
  pub asked : OnOk result (AsksLine layout.policies (meanings (line ∷ [])) before after old result)
  pub adds : AddsActs before.acts after.acts
  pub puts : Puts before after
  pub still : IsStill before.faults after.faults result

pub record WritesReply {T : Type 0} (line : List ℕ) (from to : Streams) (result : Result T SlateDBError) : Type 0 where
  pub write_fault : result ≡ Err errors.WriteFault → Rose from.sink to.sink × IsTrue (is_line line)
  pub still : OnOk result (to.sink ≡ from.sink)
  pub uncounted : IfErr result (λ e. (e ≡ errors.WriteFault) ⊎ (to.sink ≡ from.sink))
  pub unanswered : IfErr result (λ e. (e ≡ errors.WriteFault) ⊎ (to.taken ≡ from.taken))
  pub later : from.sink ≤ to.sink
