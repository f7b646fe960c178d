-- The words of replies, as they are written.
--     word_text w      the bytes of a word
--     has_reply e, is_said e      a line is answered this error, of the database or of any kind, and the run goes on
use Rattle.std.specs.Prelude.{ℕ, Bool, true, false, List, decimal}
use Rattle.slate_types.specs.declared.error.SlateDBError.{SlateDBError}
use Rattle.slate_types.specs.declared.error.SlateDBError.TheVariants as errors
use Rattle.slate_index.specs.declared.error.IndexError.{IndexError}
use Rattle.slate_index.specs.declared.error.IndexError.TheVariants as index
use Rattle.slate_index.specs.declared.reply.Word.{Word}
use Rattle.slate_index.specs.declared.reply.Word.TheVariants as words

abbrev pub word_text : Word → List ℕ
word_text (words.Text text) = text.now
word_text (words.Number n) = decimal n

abbrev pub has_reply : SlateDBError → Bool
has_reply (errors.ValueTooLong n) = true
has_reply errors.SequenceExhausted = true
has_reply _ = false

abbrev pub is_said : IndexError → Bool
is_said (index.Db e) = has_reply e
is_said (index.FieldTooLong number len) = true
is_said (index.NoRecord id) = true
is_said (index.ForeignCommit seq) = true
