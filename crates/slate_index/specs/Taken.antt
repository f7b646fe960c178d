-- How far the steps of a change have come. c: the core before its transaction tx was begun, d: behind the steps; before, after: what they reach
--     HasTaken policies before after fs id new c tx d      all steps were taken
--     IsStopped policies before after fs id new c tx d e      some were, and then the change was refused
use Rattle.std.specs.Prelude.{◌≡◌, ◌⊎◌, ℕ, List, Option, Some, None}
use Rattle.slate_types.specs.declared.config.IsolationLevel.TheVariants.{SerializableSnapshot}
use Rattle.slate_types.specs.declared.error.SlateDBError.{SlateDBError}
use Rattle.slate_types.specs.declared.types.KeyValue.{KeyValue}
use Rattle.slate_types.specs.Outside.{Reach}
use Rattle.slate_filter.specs.Policy.{Policy}
use Rattle.slate_mem.specs.KeyTests.{Segments}
use Rattle.slate_txn.specs.declared.event.TranscriptStep.{TranscriptStep}
use Rattle.slate_db.specs.Model.{CoreModel}
use Rattle.slate_steps.specs.Reads.{IsChecked, IsFaultSettled}
use Rattle.slate_steps.specs.Steps.{IsWithin, Sees}
use Rattle.slate_index.specs.declared.error.IndexError.{IndexError}
use Rattle.slate_index.specs.declared.error.IndexError.TheVariants.{Db}
use Rattle.slate_index.specs.Calls.{IsChangeError, change_steps, values_in}
use Rattle.slate_index.specs.Commits.{value_of}
use Rattle.slate_index.specs.Entries.{FieldsModel, record_key}
use Rattle.slate_index.specs.Refusals.{change_refusal}

pub record HasTaken (policies : List Policy) (before after : Reach) (fs : FieldsModel) (id : List ℕ) (new : Option (List ℕ)) (c : CoreModel) (tx : List ℕ) (d : CoreModel) : Type 0 where
  pub answer : Option KeyValue
  pub within : IsWithin c tx SerializableSnapshot (change_steps fs id answer new) d
  pub passes : change_refusal fs id (value_of answer) new ≡ None
  pub sees : (g : Segments) → IsChecked policies g before after c → Sees before.meaning c (change_steps fs id answer new)

pub record IsStopped (policies : List Policy) (before after : Reach) (fs : FieldsModel) (id : List ℕ) (new : Option (List ℕ)) (c : CoreModel) (tx : List ℕ) (d : CoreModel) (e : IndexError) : Type 0 where
  pub steps : List TranscriptStep
  pub within : IsWithin c tx SerializableSnapshot steps d
  pub cause : IsChangeError policies fs id new before after c e
  pub checked : (g : Segments) → IsChecked policies g before after c →
      (change_refusal fs id (values_in before.meaning c (record_key id)) new ≡ Some e) ⊎ ((x : SlateDBError) × (e ≡ Db x) × IsFaultSettled policies before after c x)
