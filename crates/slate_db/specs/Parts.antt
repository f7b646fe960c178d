-- Errors of tables.
--     IsTableError e      an error of a table that isn't what was stored: of its bytes, of the order of its rows, or of an operand that none wrote
use Rattle.slate_types.specs.declared.error.SlateDBError.{SlateDBError}
use Rattle.slate_types.specs.declared.error.SlateDBError.TheVariants.{ChecksumMismatch, InvalidRowFlags, CorruptTable, InvalidFilterBlock, MergeOperatorMissing, InvalidSequenceOrder}

abbrev pub IsTableError : SlateDBError → Type 0
IsTableError (ChecksumMismatch stored computed) = Unit {0}
IsTableError (InvalidRowFlags flags) = Unit {0}
IsTableError (CorruptTable at) = Unit {0}
IsTableError (InvalidFilterBlock len) = Unit {0}
IsTableError (InvalidSequenceOrder before after) = Unit {0}
IsTableError MergeOperatorMissing = Unit {0}
IsTableError _ = ⊥
