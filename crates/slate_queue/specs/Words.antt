-- The words of replies, as they are written.
--     word_text w      the bytes of a word
--     fed_pair e      the number of a commit and how many keys it has, by its entry in a feed
use Rattle.std.specs.Prelude.{ℕ, List, length, decimal}
use Rattle.slate_language.specs.Text.{shown_bytes}
use Rattle.slate_queue.specs.declared.entries.FeedEntry.{FeedEntry}
use Rattle.slate_queue.specs.declared.reply.Word.{Word}
use Rattle.slate_queue.specs.declared.reply.Word.TheVariants as words

abbrev pub word_text : Word → List ℕ
word_text (words.Text text) = text.now
word_text (words.Shown bytes) = shown_bytes bytes.now
word_text (words.Number n) = decimal n

abbrev pub fed_pair : FeedEntry → ℕ × ℕ
fed_pair e = (e.seq, length e.keys)
