-- What an operation is refused for, whatever the batch.
--     first_refusal es      the first that is there
--     op_refusal k op      an operation's own refusal: of its key, and then of its value
use Rattle.std.specs.Prelude.{ℕ, ◌-◌, ◌^◌, Bool, true, false, ◌==◌, nat_lt, List, [], ◌∷◌, ◌++◌, length, Option, Some, None}
use Rattle.slate_types.specs.declared.error.SlateDBError.{SlateDBError}
use Rattle.slate_types.specs.declared.error.SlateDBError.TheVariants as errors
use Rattle.slate_mem.specs.declared.WriteOp.{WriteOp}
use Rattle.slate_mem.specs.declared.WriteOp.TheVariants.{Put, Delete, Merge}

abbrev pub first_refusal : List (Option SlateDBError) → Option SlateDBError
first_refusal [] = None
first_refusal (None ∷ es) = first_refusal es
first_refusal (Some e ∷ es) = Some e

abbrev pub when : Bool → SlateDBError → Option SlateDBError
when true e = Some e
when false e = None

abbrev pub key_refusals : List ℕ → List (Option SlateDBError)
key_refusals k = when (length k == 0) errors.EmptyKey ∷ when (nat_lt 65535 (length k)) (errors.KeyTooLong (length k)) ∷ []

abbrev pub value_refusal : List ℕ → Option SlateDBError
value_refusal v = when (nat_lt (2 ^ 32 - 1) (length v)) (errors.ValueTooLong (length v))

abbrev pub op_refusal : List ℕ → WriteOp → Option SlateDBError
op_refusal k (Put v o) = first_refusal (key_refusals k ++ (value_refusal v ∷ []))
op_refusal k Delete = first_refusal (key_refusals k)
op_refusal k (Merge v o) = first_refusal (key_refusals k ++ (value_refusal v ∷ []))
