-- Words that the records of several calls share. before, after: what a call reaches; old, new: the
-- core.
--     Given      what a call is given beside its own values: what the parts mean, what gives keys
--                their segments, the moment
--     given_by reach g now      it, of a call that is given this
--     rules_under d c      the rules of the model's step over a core
--     IsTransaction c id t      the open transaction with this id
--     IsModelStep old new line reply      the model answers the line so, whatever the parts mean
--     KeepsRows m g old new      what is kept of the rows and of the segments, for one meaning of
--                the parts
--     Keeps d old new result      so it is for the parts of the call, and at a refusal for any
--     noted_in c id steps      the core with these steps noted in the transcript of a transaction
--     Notes id step old new result      an Ok is noted by this step, and a refusal by none; nothing
--                else is changed
--     Decides verdict fault result      a verdict is the answer, or memory is wanting; where there
--                is none, only a fault refuses
--     AsksOperator before after result      the call reached the operator alone, and passed over no
--                fault of it
use Rattle.std.specs.Prelude.{◌≡◌, ◌⊎◌, ℕ, ℤ, List, [], ◌∷◌, Option, None, Some, Result, Err, IfErr, IfOk, OnErr}
use Rattle.slate_types.specs.declared.error.SlateDBError.{SlateDBError}
use Rattle.slate_types.specs.declared.error.SlateDBError.TheVariants.{OutOfMemory}
use Rattle.slate_types.specs.Outside.{IsOperatorStill, OnlyReads, Reach}
use Rattle.slate_types.specs.World.{IsCall}
use Rattle.slate_mem.specs.KeyTests.{Segments}
use Rattle.slate_txn.specs.declared.event.TranscriptStep.{TranscriptStep}
use Rattle.slate_txn.specs.declared.line.Line.{Line}
use Rattle.slate_txn.specs.Named.{find_named}
use Rattle.slate_txn.specs.Reply.{Reply}
use Rattle.slate_txn.specs.State.{Rules, Tx}
use Rattle.slate_txn.specs.Step as model
use Rattle.slate_db.specs.Meaning.{Meaning, rules_in}
use Rattle.slate_db.specs.Model.{CoreModel}
use Rattle.slate_db.specs.Opened.{StayOpen}
use Rattle.slate_db.specs.Segmented.{IsSegmented}
use Rattle.slate_db.specs.Sound.{IsKept}

pub record Given : Type 0 where
  pub meaning : Meaning
  pub segments : Segments
  pub now : ℤ

abbrev pub given_by : Reach → Segments → ℤ → Given
given_by reach g now = record { meaning = reach.meaning; segments = g; now = now }

abbrev pub rules_under : Given → CoreModel → Rules
rules_under d c = rules_in c.settings d.meaning d.segments

abbrev pub IsTransaction : CoreModel → List ℕ → Tx → Type 0
IsTransaction c id t = find_named id c.state.txns ≡ Some t

abbrev pub IsModelStep : CoreModel → CoreModel → Line → Reply → Type 0
IsModelStep old new line reply = (m : Meaning) (g : Segments) →
    model.step (rules_in old.settings m g) old.state line ≡ (new.state, reply)

pub record KeepsRows (m : Meaning) (g : Segments) (old new : CoreModel) : Type 0 where
  pub rows : IsKept m old → IsKept m new
  pub segments : IsSegmented g old → IsSegmented g new

pub record Keeps {A : Type 0} (d : Given) (old new : CoreModel)
    (result : Result A SlateDBError) : Type 0 where
  pub own : KeepsRows d.meaning d.segments old new
  pub refused : OnErr result ((m : Meaning) (g : Segments) → KeepsRows m g old new)

abbrev pub noted_in : CoreModel → List ℕ → List TranscriptStep → CoreModel
noted_in c id steps = record c { state = model.noted c.state id steps }

pub record Notes {A : Type 0} (id : List ℕ) (step : A → TranscriptStep) (old new : CoreModel)
    (result : Result A SlateDBError) : Type 0 where
  pub noted : IfOk result (λ a. new ≡ noted_in old id (step a ∷ []))
  pub same : OnErr result (new ≡ old)
  pub kept : (m : Meaning) → IsKept m old → IsKept m new
  pub settings : new.settings ≡ old.settings
  pub stay : StayOpen old new

abbrev pub Decides : {A : Type 0} → Option SlateDBError → (SlateDBError → Type 0) → Result A
    SlateDBError → Type 0
Decides None fault result = IfErr result fault
Decides (Some e) fault result = (result ≡ Err e) ⊎ (result ≡ Err OutOfMemory)

pub record AsksOperator {A : Type 0} (before after : Reach)
    (result : Result A SlateDBError) : Type 0 where
  pub call : IsCall before after []
  pub reads : OnlyReads before after
  pub still : IsOperatorStill before.faults.operator after.faults.operator result
