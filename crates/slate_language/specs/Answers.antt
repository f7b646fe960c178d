-- The replies that answers are.
--     without_ops c, shown_commits cs      a commit, and commits, without their operations
--     as_shown r      the reply with what its text says
--     entry_commit e      the commit that an entry shows
--     reply_of a      the model's reply that an answer is, as it is shown
--     word_text w      the bytes of a word of a reply
--     words_text ws      those of the words of an error
use Rattle.std.specs.Prelude.{ℕ, List, [], ◌∷◌, map, decimal}
use Rattle.std.specs.Fmt.{signed_decimal}
use Rattle.slate_txn.specs.Reply as replies
use Rattle.slate_txn.specs.Reply.{Reply}
use Rattle.slate_txn.specs.State.{Commit}
use Rattle.slate_language.specs.declared.reply.Answer.{Answer}
use Rattle.slate_language.specs.declared.reply.Answer.TheVariants as answers
use Rattle.slate_language.specs.declared.reply.JournalEntry.{JournalEntry}
use Rattle.slate_language.specs.declared.reply.ErrorWords.{ErrorWords}
use Rattle.slate_language.specs.declared.reply.ErrorWords.TheVariants.{Alone, With, WithTwo, WithThree}
use Rattle.slate_language.specs.declared.reply.Word.{Word}
use Rattle.slate_language.specs.declared.reply.Word.TheVariants as words
use Rattle.slate_language.specs.Text.{shown_bytes}

abbrev pub without_ops : Commit → Commit
without_ops c = record c { ops = [] }

abbrev pub shown_commits : List Commit → List Commit
shown_commits cs = map without_ops cs

abbrev pub as_shown : Reply → Reply
as_shown (replies.JournalIs cs) = replies.JournalIs (shown_commits cs)
as_shown r = r

abbrev pub entry_commit : JournalEntry → Commit
entry_commit e = record { seq = e.seq; now = e.now; ops = []; tracked = e.tracked }

abbrev pub reply_of : Answer → Reply
reply_of answers.Done = replies.Done
reply_of (answers.Refused error) = replies.Refused error
reply_of (answers.NowIs moment) = replies.NowIs moment
reply_of (answers.Begun name start) = replies.Begun name start
reply_of (answers.SnapshotAt name seq) = replies.SnapshotAt name seq
reply_of (answers.Found row) = replies.Found row
reply_of (answers.Rows rows) = replies.RowsAre rows.items
reply_of (answers.Committed seq) = replies.Committed seq
reply_of (answers.Written seq) = replies.Written seq
reply_of (answers.Frozen seq) = replies.Frozen seq
reply_of (answers.Flushed seq) = replies.Flushed seq
reply_of (answers.Journal entries) = replies.JournalIs (map entry_commit entries.items)

abbrev pub word_text : Word → List ℕ
word_text (words.Text text) = text.now
word_text (words.Shown bytes) = shown_bytes bytes.now
word_text (words.Number n) = decimal n
word_text (words.Moment moment) = signed_decimal moment

abbrev pub words_text : ErrorWords → List (List ℕ)
words_text (Alone name) = name.now ∷ []
words_text (With name w) = name.now ∷ word_text w ∷ []
words_text (WithTwo name v w) = name.now ∷ word_text v ∷ word_text w ∷ []
words_text (WithThree name u v w) = name.now ∷ word_text u ∷ word_text v ∷ word_text w ∷ []
