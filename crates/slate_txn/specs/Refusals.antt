-- The refusals of a line, in their order.
--     batch_refusals r s ops      those of a batch that is to become a commit, after all others
--     commit_refusal r s t, write_refusal r s ops      those of the two lines
use Rattle.std.specs.Prelude.{ℕ, ◌-◌, ◌^◌, ◌==◌, is_none, is_some, List, [], ◌∷◌, ◌++◌, map, flat_map, Option, option_map}
use Rattle.slate_types.specs.declared.error.SlateDBError.{SlateDBError}
use Rattle.slate_types.specs.declared.error.SlateDBError.TheVariants as errors
use Rattle.slate_mem.specs.Batch.{Ops, batch_keys}
use Rattle.slate_mem.specs.BatchModel.{holds_merge}
use Rattle.slate_mem.specs.KeyTests.{key_refusal, merges_refusal, nest_refusals, prefixes}
use Rattle.slate_mem.specs.Refusals.{first_refusal, when, op_refusal}
use Rattle.slate_txn.specs.State.{Rules, Commit, Tx, State, last}
use Rattle.slate_txn.specs.Conflict.{conflict}

abbrev pub operator_refusal : Rules → Option SlateDBError
operator_refusal r = when (is_none r.combine) errors.MergeOperatorMissing

-- ---- the keys of a batch

-- the segment prefixes of all keys that were committed
abbrev pub committed_prefixes : Rules → List Commit → List (List ℕ)
committed_prefixes r cs = flat_map (λ c. prefixes r.segment c.ops) cs

abbrev pub batch_refusals : Rules → State → Ops → List (Option SlateDBError)
batch_refusals r s ops = map (key_refusal r.segment r.default_millis s.now ops) (batch_keys ops) ++ nest_refusals (committed_prefixes r s.commits) (prefixes r.segment ops)

-- ---- the two lines that commit

abbrev pub exhausted_refusal : Rules → State → Option SlateDBError
exhausted_refusal r s = when (last r s == 2 ^ 64 - 2) errors.SequenceExhausted

abbrev pub unless_empty : Ops → List (Option SlateDBError) → List (Option SlateDBError)
unless_empty [] es = []
unless_empty (o ∷ os) es = es

abbrev pub commit_refusal : Rules → State → Tx → Option SlateDBError
commit_refusal r s t = first_refusal (
    option_map errors.TransactionConflict (conflict s.commits t) ∷
    unless_empty t.ops (exhausted_refusal r s ∷ batch_refusals r s t.ops))

abbrev pub write_refusal : Rules → State → Ops → Option SlateDBError
write_refusal r s ops = first_refusal (map (λ o. op_refusal o.0 o.1) ops ++
    unless_empty ops (exhausted_refusal r s ∷ merges_refusal (is_some r.combine) (holds_merge ops) ∷ batch_refusals r s ops))
