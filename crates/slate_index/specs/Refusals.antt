-- What a change of a record is refused for by its value, or for want of one.
--     too_long_at n o      a field of an index is too long
--     too_long fs v      the first of the fields of a value that is
--     put_refusal fs v, delete_refusal id o      what a put and a delete are refused for; o: the value that stands
--     change_refusal fs id o new      the same of a change to a value, or to none
--     IsFine o      a put or a delete that a batch takes
use Rattle.std.specs.Prelude.{◌≡◌, ℕ, zero, suc, if◌then◌else◌, nat_le, List, length, Option, Some, None, option_map}
use Rattle.std.specs.Option.{option_or}
use Rattle.slate_mem.specs.declared.WriteOp.{WriteOp}
use Rattle.slate_mem.specs.Refusals.{op_refusal, value_refusal}
use Rattle.slate_index.specs.declared.error.IndexError.{IndexError}
use Rattle.slate_index.specs.declared.error.IndexError.TheVariants.{FieldTooLong, NoRecord, Db}
use Rattle.slate_index.specs.Commits.{op_of}
use Rattle.slate_index.specs.Entries.{FieldsModel, longest_field}

abbrev pub too_long_at : ℕ → Option (List ℕ) → Option IndexError
too_long_at n None = None
too_long_at n (Some f) = if nat_le (length f) longest_field then None else Some (FieldTooLong n (length f))

abbrev pub too_long_below : FieldsModel → ℕ → List ℕ → Option IndexError
too_long_below fs zero v = None
too_long_below fs (suc n) v = option_or (too_long_below fs n v) (too_long_at n (fs.field n v))

abbrev pub too_long : FieldsModel → List ℕ → Option IndexError
too_long fs v = too_long_below fs fs.count v

-- a field before the value
abbrev pub put_refusal : FieldsModel → List ℕ → Option IndexError
put_refusal fs v = option_or (too_long fs v) (option_map Db (value_refusal v))

abbrev pub delete_refusal : List ℕ → Option (List ℕ) → Option IndexError
delete_refusal id None = Some (NoRecord id)
delete_refusal id (Some v) = None

abbrev pub change_refusal : FieldsModel → List ℕ → Option (List ℕ) → Option (List ℕ) → Option IndexError
change_refusal fs id o (Some v) = put_refusal fs v
change_refusal fs id o None = delete_refusal id o

-- ---- operations

pub record IsFine (o : List ℕ × WriteOp) : Type 0 where
  pub value : Option (List ℕ)
  pub plain : o.1 ≡ op_of value
  pub accepted : op_refusal o.0 o.1 ≡ None
