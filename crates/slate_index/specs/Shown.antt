-- What the transcript of a change shows.
--     value_put op      the value that an operation puts, where it puts one
--     new_shown k own      the value that the first own operation of a key puts, where it puts one
--     last_at k ops, left_at k ops      the last operation of a key, and what is left of the key by that
--     left_by ops      what is left of all keys, which is all that is kept, where none is a merge
--     steps_of ops      the own steps of these operations
--     ShowsChange fs k answer own made      of the record at a key these are the operations of the change, from the value of the answer to the one that is shown
--     IsMadeOf made ops tracked own      the own steps are these operations, of which the batch keeps what is left, and all keys are tracked
--     NamesForeign fs es e      the error names the first commit, or the first plain write, that is no change's
use Rattle.std.specs.Prelude.{◌≡◌, ℕ, if◌then◌else◌, List, [], ◌∷◌, map, flat_map, Option, Some, None, bytes_eq}
use Rattle.slate_types.specs.declared.types.KeyValue.{KeyValue}
use Rattle.slate_mem.specs.declared.WriteOp.{WriteOp}
use Rattle.slate_mem.specs.declared.WriteOp.TheVariants.{Put, Delete, Merge}
use Rattle.slate_mem.specs.Batch.{Ops, batch_keys}
use Rattle.slate_txn.specs.declared.event.Event.{Event}
use Rattle.slate_txn.specs.declared.event.TranscriptStep.{TranscriptStep}
use Rattle.slate_txn.specs.declared.event.TranscriptStep.TheVariants.{Own}
use Rattle.slate_txn.specs.Audited.{IsFirstForeign}
use Rattle.slate_index.specs.declared.error.IndexError.{IndexError}
use Rattle.slate_index.specs.declared.error.IndexError.TheVariants.{ForeignCommit}
use Rattle.slate_index.specs.Entries.{FieldsModel, record_key}
use Rattle.slate_index.specs.Changes.{change_puts}
use Rattle.slate_index.specs.Commits.{IsPlainName, change_ops, value_of}
use Rattle.slate_index.specs.Journals.{change_kind}

abbrev pub value_put : WriteOp → Option (List ℕ)
value_put (Put v o) = Some v
value_put Delete = None
value_put (Merge v o) = None

abbrev pub new_shown : List ℕ → List TranscriptStep → Option (List ℕ)
new_shown k [] = None
new_shown k (Own j op ∷ ts) = if bytes_eq j k then value_put op else new_shown k ts
new_shown k (_ ∷ ts) = new_shown k ts

abbrev pub later_or : Option WriteOp → Option WriteOp → Option WriteOp
later_or (Some op) o = Some op
later_or None o = o

abbrev pub last_at : List ℕ → Ops → Option WriteOp
last_at k [] = None
last_at k (o ∷ os) = later_or (last_at k os) (if bytes_eq o.0 k then Some o.1 else None)

abbrev pub left_of : List ℕ → Option WriteOp → Ops
left_of k None = []
left_of k (Some op) = (k, op) ∷ []

abbrev pub left_at : List ℕ → Ops → Ops
left_at k ops = left_of k (last_at k ops)

abbrev pub left_by : Ops → Ops
left_by ops = flat_map (λ k. left_at k ops) (batch_keys ops)

abbrev pub steps_of : Ops → List TranscriptStep
steps_of ops = map (λ o. Own o.0 o.1) ops

pub record ShowsChange (fs : FieldsModel) (k : List ℕ) (answer : Option KeyValue) (own : List TranscriptStep) (made : Ops) : Type 0 where
  pub id : List ℕ
  pub name : IsPlainName id
  pub key : k ≡ record_key id
  pub ops : made ≡ change_ops (change_puts fs id (value_of answer) (new_shown k own))

-- made: what a change does; the rest: what its commit has
pub record IsMadeOf (made ops : Ops) (tracked : List (List ℕ)) (own : List TranscriptStep) : Type 0 where
  pub steps : own ≡ steps_of made
  pub left : ops ≡ left_by made
  pub keys : tracked ≡ batch_keys ops

pub record NamesForeign (fs : FieldsModel) (es : List Event) (e : IndexError) : Type 0 where
  pub seq : ℕ
  pub is : e ≡ ForeignCommit seq
  pub first : IsFirstForeign (change_kind fs) es seq
