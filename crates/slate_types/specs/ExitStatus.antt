-- The exit status of a run that an error ended.
--     status e      the status of an error, and none where no run ends with it
use Rattle.std.specs.Prelude.{ℕ, Option, Some, None}
use Rattle.slate_types.specs.declared.error.SlateDBError.{SlateDBError}
use Rattle.slate_types.specs.declared.error.SlateDBError.TheVariants.{ScriptSyntax, ScriptTooLong, ReadFault, WriteFault, StoreFault, Callback, BlockTransformError, ChecksumMismatch, InvalidRowFlags, InvalidFilterBlock, CorruptTable, InvalidSequenceOrder, MergeOperatorMissing, OutOfMemory}

abbrev pub status : SlateDBError → Option ℕ
status (ScriptSyntax line) = Some 3
status ScriptTooLong = Some 4
status ReadFault = Some 5
status WriteFault = Some 6
status StoreFault = Some 7
status (Callback message) = Some 8
status BlockTransformError = Some 9
status (ChecksumMismatch stored computed) = Some 12
status (InvalidRowFlags flags) = Some 14
status (InvalidFilterBlock len) = Some 15
status (CorruptTable place) = Some 16
status (InvalidSequenceOrder current next) = Some 18
status MergeOperatorMissing = Some 19
status OutOfMemory = Some 20
status _ = None
