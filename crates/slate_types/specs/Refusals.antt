-- What the store refuses with where a part that was handed in gives no answer.
--     of_operator e, of_transformer e      the operator's and the transformer's errors as the store's
use Rattle.slate_types.specs.declared.error.SlateDBError.{SlateDBError}
use Rattle.slate_types.specs.declared.error.SlateDBError.TheVariants.{Callback, EmptyBatch, BlockTransformError, OutOfMemory}
use Rattle.slate_types.specs.declared.merge_operator.MergeOperatorError.{MergeOperatorError}
use Rattle.slate_types.specs.declared.merge_operator.MergeOperatorError.TheVariants.{EmptyBatch as NothingToMerge, Callback as OperatorFailed, OutOfMemory as OperatorWantsMemory}
use Rattle.slate_types.specs.declared.block_transformer.TransformError.{TransformError}
use Rattle.slate_types.specs.declared.block_transformer.TransformError.TheVariants.{Failed, OutOfMemory as TransformerWantsMemory}

abbrev pub of_operator : MergeOperatorError → SlateDBError
of_operator NothingToMerge = EmptyBatch
of_operator (OperatorFailed message) = Callback message
of_operator OperatorWantsMemory = OutOfMemory

abbrev pub of_transformer : TransformError → SlateDBError
of_transformer Failed = BlockTransformError
of_transformer TransformerWantsMemory = OutOfMemory
