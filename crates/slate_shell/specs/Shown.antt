-- What a shell shows.
--     row_line row      the line of a row
--     shown_rows rows      the number of rows, and a line for each
--     shown_reply r      the text of a reply, in which rows stand one a line
--     Text      what is written for a line, or an error
--     HasText r result      the text is that of the reply
--     IsTextOf answered result      so is that of an answer, unless there was no memory for it
--     AnswersShown layout line before after old new result      a session's answer to a line, shown
use Rattle.std.specs.Prelude.{◌≡◌, ◌⊎◌, ℕ, List, [], ◌∷◌, ◌++◌, flat_map, length, Some, Result, Ok, Err, IfOk, codes, decimal}
use Rattle.std.specs.Global.{Vec}
use Rattle.slate_types.specs.declared.error.SlateDBError.{SlateDBError}
use Rattle.slate_types.specs.declared.error.SlateDBError.TheVariants.{OutOfMemory}
use Rattle.slate_types.specs.declared.types.KeyValue.{KeyValue}
use Rattle.slate_types.specs.Outside.{Reach}
use Rattle.slate_txn.specs.declared.line.Line.{Line}
use Rattle.slate_txn.specs.Reply.{Reply, Found, RowsAre}
use Rattle.slate_db.specs.Flushed.{Layout}
use Rattle.slate_language.specs.declared.reply.Answer.{Answer}
use Rattle.slate_language.specs.Answers.{reply_of}
use Rattle.slate_language.specs.Replies.{reply_line}
use Rattle.slate_script.specs.Calls.Line.{Answers}
use Rattle.slate_script.specs.Session.{SessionModel}

abbrev pub row_line : KeyValue → List ℕ
row_line row = reply_line (Found (Some row))

abbrev pub shown_rows : List KeyValue → List ℕ
shown_rows rows = codes "rows " ++ (decimal (length rows) ++ (10 ∷ flat_map row_line rows))

abbrev pub shown_reply : Reply → List ℕ
shown_reply (RowsAre rows) = shown_rows rows
shown_reply r = reply_line r

abbrev pub Text : Type 0
Text = Result (Vec ℕ) SlateDBError

abbrev pub HasText : Reply → Text → Type 0
HasText r result = IfOk result (λ text. text.items ≡ shown_reply r)

abbrev pub IsTextOf : Result Answer SlateDBError → Text → Type 0
IsTextOf (Ok a) result = (result ≡ Err OutOfMemory) ⊎ HasText (reply_of a) result
IsTextOf (Err e) result = result ≡ Err e

-- answered: what the session answers
pub record AnswersShown (layout : Layout) (line : Line) (before after : Reach)
    (old new : SessionModel) (result : Text) : Type 0 where
  pub answered : Result Answer SlateDBError
  pub answers : Answers layout line before after old new answered
  pub text : IsTextOf answered result
