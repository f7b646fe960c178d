-- The text of a reply.
--     shown_bytes v      a byte token: `'` and the bytes, or `0x` and their hex digits
--     spaced ws      the words, each behind a space
--     reply_text a      the reply, without its line end
use Rattle.std.specs.Prelude.{ℕ, ◌+◌, ◌/◌, ◌%◌, Bool, ◌&&◌, if◌then◌else◌, nat_lt, nat_le, List, [], ◌∷◌, ◌++◌, map, flat_map, length, Option, Some, None, ℤ, codes, decimal}
use Rattle.std.specs.Fmt.{signed_decimal}
use Rattle.std.specs.List.{list_all, join_with_byte}
use Rattle.slate_types.specs.declared.error.SlateDBError.{SlateDBError}
use Rattle.slate_types.specs.declared.error.SlateDBError.TheVariants as errors
use Rattle.slate_types.specs.declared.types.KeyValue.{KeyValue}
use Rattle.slate_txn.specs.State.{Commit}
use Rattle.slate_txn.specs.Reply.{Reply, Done, Refused, NowIs, Begun, SnapshotAt, Found, RowsAre, Committed, Written, Frozen, Flushed, JournalIs}

-- a byte that shows as itself
abbrev pub is_visible : ℕ → Bool
is_visible b = nat_le 33 b && nat_le b 126

abbrev pub hex_digit : ℕ → ℕ
hex_digit n = if nat_lt n 10 then 48 + n else 87 + n

abbrev pub hex : List ℕ → List ℕ
hex [] = []
hex (b ∷ bs) = hex_digit (b / 16) ∷ hex_digit (b % 16) ∷ hex bs

abbrev pub shown_bytes : List ℕ → List ℕ
shown_bytes v = if list_all is_visible v then 39 ∷ v else codes "0x" ++ hex v

abbrev pub stamp : Option ℤ → List ℕ
stamp None = codes "-"
stamp (Some z) = signed_decimal z

abbrev pub sequence : Option ℕ → List ℕ
sequence None = codes "-"
sequence (Some n) = decimal n

abbrev pub row_words : KeyValue → List (List ℕ)
row_words r = shown_bytes r.key ∷ shown_bytes r.value ∷ decimal r.seq ∷ signed_decimal r.create_ts ∷ stamp r.expire_ts ∷ []

abbrev pub commit_words : Commit → List (List ℕ)
commit_words c = decimal c.seq ∷ signed_decimal c.now ∷ decimal (length c.tracked) ∷ map shown_bytes c.tracked

-- A name is printed as it stands.
abbrev pub error_words : SlateDBError → List (List ℕ)
error_words (errors.TransactionConflict n) = codes "TransactionConflict" ∷ decimal n ∷ []
error_words errors.MergeOperatorMissing = codes "MergeOperatorMissing" ∷ []
error_words (errors.IncompatibleMergeTtls k a b) = codes "IncompatibleMergeTtls" ∷ shown_bytes k ∷ stamp a ∷ stamp b ∷ []
error_words (errors.EmptySegmentPrefix k) = codes "EmptySegmentPrefix" ∷ shown_bytes k ∷ []
error_words (errors.InvalidSegmentPrefix p q) = codes "InvalidSegmentPrefix" ∷ shown_bytes p ∷ shown_bytes q ∷ []
error_words errors.EmptyKey = codes "EmptyKey" ∷ []
error_words (errors.KeyTooLong n) = codes "KeyTooLong" ∷ decimal n ∷ []
error_words (errors.ValueTooLong n) = codes "ValueTooLong" ∷ decimal n ∷ []
error_words errors.InvalidRange = codes "InvalidRange" ∷ []
error_words (errors.UnknownTransaction name) = codes "UnknownTransaction" ∷ name ∷ []
error_words (errors.DuplicateTransaction name) = codes "DuplicateTransaction" ∷ name ∷ []
error_words errors.SequenceExhausted = codes "SequenceExhausted" ∷ []
error_words (errors.ScriptSyntax n) = codes "ScriptSyntax" ∷ decimal n ∷ []
error_words errors.ScriptTooLong = codes "ScriptTooLong" ∷ []
error_words errors.ReadFault = codes "ReadFault" ∷ []
error_words errors.WriteFault = codes "WriteFault" ∷ []
error_words errors.StoreFault = codes "StoreFault" ∷ []
error_words (errors.Callback message) = codes "Callback" ∷ shown_bytes message ∷ []
error_words errors.EmptyBatch = codes "EmptyBatch" ∷ []
error_words errors.BlockTransformError = codes "BlockTransformError" ∷ []
error_words (errors.EmptySSTable n) = codes "EmptySSTable" ∷ decimal n ∷ []
error_words (errors.EmptyBlockMeta n) = codes "EmptyBlockMeta" ∷ decimal n ∷ []
error_words (errors.ChecksumMismatch a b) = codes "ChecksumMismatch" ∷ decimal a ∷ decimal b ∷ []
error_words (errors.InvalidVersion n) = codes "InvalidVersion" ∷ decimal n ∷ []
error_words (errors.InvalidRowFlags n) = codes "InvalidRowFlags" ∷ decimal n ∷ []
error_words (errors.InvalidFilterBlock n) = codes "InvalidFilterBlock" ∷ decimal n ∷ []
error_words (errors.CorruptTable n) = codes "CorruptTable" ∷ decimal n ∷ []
error_words (errors.UnsupportedCompression n) = codes "UnsupportedCompression" ∷ decimal n ∷ []
error_words (errors.BlockOutOfRange a b) = codes "BlockOutOfRange" ∷ decimal a ∷ decimal b ∷ []
error_words errors.EmptyBlock = codes "EmptyBlock" ∷ []
error_words errors.IteratorNotInitialized = codes "IteratorNotInitialized" ∷ []
error_words (errors.SeekKeyOutOfKeyRange k) = codes "SeekKeyOutOfKeyRange" ∷ shown_bytes k ∷ []
error_words (errors.InvalidSequenceOrder a b) = codes "InvalidSequenceOrder" ∷ decimal a ∷ decimal b ∷ []
error_words (errors.LimitReached n) = codes "LimitReached" ∷ decimal n ∷ []
error_words errors.OutOfMemory = codes "OutOfMemory" ∷ []

abbrev pub spaced : List (List ℕ) → List ℕ
spaced ws = flat_map (λ w. 32 ∷ w) ws

abbrev pub found_words : Option KeyValue → List (List ℕ)
found_words None = codes "none" ∷ []
found_words (Some r) = codes "row" ∷ row_words r

abbrev pub reply_words : Reply → List (List ℕ)
reply_words Done = codes "ok" ∷ []
reply_words (Refused e) = codes "refused" ∷ error_words e
reply_words (NowIs m) = codes "now" ∷ signed_decimal m ∷ []
reply_words (Begun name n) = codes "begun" ∷ name ∷ decimal n ∷ []
reply_words (SnapshotAt name n) = codes "snapshot" ∷ name ∷ decimal n ∷ []
reply_words (Found row) = found_words row
reply_words (RowsAre rows) = codes "rows" ∷ decimal (length rows) ∷ flat_map row_words rows
reply_words (Committed n) = codes "committed" ∷ sequence n ∷ []
reply_words (Written n) = codes "written" ∷ sequence n ∷ []
reply_words (Frozen n) = codes "frozen" ∷ decimal n ∷ []
reply_words (Flushed n) = codes "flushed" ∷ decimal n ∷ []
reply_words (JournalIs cs) = codes "journal" ∷ decimal (length cs) ∷ flat_map commit_words cs

abbrev pub reply_text : Reply → List ℕ
reply_text a = join_with_byte 32 (reply_words a)
