-- Which commits are changes of a record.
--     IsPlainName n      the bytes are a name
--     op_of o      the put of a value, or a delete
--     change_ops ps, own_steps ps      the operations that put and delete, and their steps
--     value_of answer      the value that a get answers
--     IsChange fs level ops tracked ts      a serializable commit that changes one record, from the value read to another one or to none
use Rattle.std.specs.Prelude.{◌≡◌, ℕ, true, List, ◌∷◌, map, Option, Some, None, option_map}
use Rattle.slate_types.specs.declared.config.IsolationLevel.{IsolationLevel}
use Rattle.slate_types.specs.declared.config.IsolationLevel.TheVariants.{SerializableSnapshot}
use Rattle.slate_types.specs.declared.types.KeyValue.{KeyValue}
use Rattle.slate_mem.specs.declared.WriteOp.{WriteOp}
use Rattle.slate_mem.specs.declared.WriteOp.TheVariants.{Delete}
use Rattle.slate_mem.specs.Batch.{Ops, batch_keys, kept_ops}
use Rattle.slate_mem.specs.BatchModel.{plain_put}
use Rattle.slate_txn.specs.declared.event.TranscriptStep.{TranscriptStep}
use Rattle.slate_txn.specs.declared.event.TranscriptStep.TheVariants.{Get, Own}
use Rattle.slate_index.specs.Names.{is_plain_name}
use Rattle.slate_index.specs.Entries.{FieldsModel, record_key}
use Rattle.slate_index.specs.Changes.{change_puts}

abbrev pub IsPlainName : List ℕ → Type 0
IsPlainName n = is_plain_name n ≡ true

abbrev pub op_of : Option (List ℕ) → WriteOp
op_of None = Delete
op_of (Some v) = plain_put v

abbrev pub change_ops : List (List ℕ × Option (List ℕ)) → Ops
change_ops ps = map (λ p. (p.0, op_of p.1)) ps

abbrev pub own_steps : List (List ℕ × Option (List ℕ)) → List TranscriptStep
own_steps ps = map (λ p. Own p.0 (op_of p.1)) ps

abbrev pub value_of : Option KeyValue → Option (List ℕ)
value_of answer = option_map (λ kv. kv.value) answer

pub record IsChange (fs : FieldsModel) (level : IsolationLevel) (ops : Ops) (tracked : List (List ℕ)) (ts : List TranscriptStep) : Type 0 where
  pub serializable : level ≡ SerializableSnapshot
  pub id : List ℕ
  pub name : IsPlainName id
  pub answer : Option KeyValue
  pub new : Option (List ℕ)
  pub whole : ts ≡ Get (record_key id) answer ∷ own_steps (change_puts fs id (value_of answer) new)
  pub kept : ops ≡ kept_ops (change_ops (change_puts fs id (value_of answer) new))
  pub keys : tracked ≡ batch_keys ops
