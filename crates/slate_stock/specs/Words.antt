-- The words of replies, as they are written.
--     word_text w      the bytes of a word
--     has_reply e, is_said e      a line is answered this error, of the database or of any kind, and the run goes on
use Rattle.std.specs.Prelude.{ℕ, Bool, true, false, List, decimal}
use Rattle.slate_types.specs.declared.error.SlateDBError.{SlateDBError}
use Rattle.slate_types.specs.declared.error.SlateDBError.TheVariants as errors
use Rattle.slate_stock.specs.declared.error.StockError.{StockError}
use Rattle.slate_stock.specs.declared.error.StockError.TheVariants as stock
use Rattle.slate_stock.specs.declared.reply.Word.{Word}
use Rattle.slate_stock.specs.declared.reply.Word.TheVariants as words

abbrev pub word_text : Word → List ℕ
word_text (words.Text text) = text.now
word_text (words.Number n) = decimal n

abbrev pub has_reply : SlateDBError → Bool
has_reply errors.SequenceExhausted = true
has_reply _ = false

abbrev pub is_said : StockError → Bool
is_said (stock.Db e) = has_reply e
is_said stock.SameName = true
is_said stock.SameAsset = true
is_said stock.TooMuch = true
is_said (stock.BadAmount k) = true
is_said (stock.AlreadyIssued asset) = true
is_said (stock.NotEnough k has needs) = true
is_said (stock.ForeignCommit n) = true
