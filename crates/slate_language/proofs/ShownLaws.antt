-- A reply as it is shown has the same text, and is what an answer is.
use Rattle.std.proofs.Common.{◌≡◌, suc, List, [], ◌∷◌, ◌++◌, map, length, decimal, codes, refl, ap}
use Rattle.std.specs.Prelude.{flat_map}
use Rattle.std.specs.List.{join_with_byte}
use Rattle.slate_txn.specs.Reply as replies
use Rattle.slate_txn.specs.Reply.{Reply}
use Rattle.slate_txn.specs.State.{Commit}
use Rattle.slate_language.specs.declared.reply.Answer.{Answer}
use Rattle.slate_language.specs.declared.reply.Answer.TheVariants as answers
use Rattle.slate_language.specs.declared.reply.JournalEntry.{JournalEntry}
use Rattle.slate_language.specs.Answers.{shown_commits, as_shown, entry_commit, reply_of}
use Rattle.slate_language.specs.Replies.{reply_line}
use Rattle.slate_language.specs.Text.{commit_words}

entries_shown : (es : List JournalEntry) → map entry_commit es ≡ shown_commits (map entry_commit es)
entries_shown [] = refl
entries_shown (e ∷ es) = ap (λ cs. entry_commit e ∷ cs) (entries_shown es)

-- An answer is a reply as it is shown.
pub shown_of : (a : Answer) → reply_of a ≡ as_shown (reply_of a)
shown_of answers.Done = refl
shown_of (answers.Refused error) = refl
shown_of (answers.NowIs moment) = refl
shown_of (answers.Begun name start) = refl
shown_of (answers.SnapshotAt name seq) = refl
shown_of (answers.Found row) = refl
shown_of (answers.Rows rows) = refl
shown_of (answers.Committed seq) = refl
shown_of (answers.Written seq) = refl
shown_of (answers.Frozen seq) = refl
shown_of (answers.Flushed seq) = refl
shown_of (answers.Journal entries) = ap replies.JournalIs (entries_shown entries.items)

words_shown : (cs : List Commit) → flat_map commit_words (shown_commits cs) ≡ flat_map commit_words cs
words_shown [] = refl
words_shown (c ∷ cs) = ap (λ ws. commit_words c ++ ws) (words_shown cs)

many_shown : (cs : List Commit) → length (shown_commits cs) ≡ length cs
many_shown [] = refl
many_shown (c ∷ cs) = ap suc (many_shown cs)

-- It has the reply's text.
pub shown_line : (r : Reply) → reply_line (as_shown r) ≡ reply_line r
shown_line replies.Done = refl
shown_line (replies.Refused error) = refl
shown_line (replies.NowIs moment) = refl
shown_line (replies.Begun name start) = refl
shown_line (replies.SnapshotAt name start) = refl
shown_line (replies.Found row) = refl
shown_line (replies.RowsAre rows) = refl
shown_line (replies.Committed seq) = refl
shown_line (replies.Written seq) = refl
shown_line (replies.Frozen seq) = refl
shown_line (replies.Flushed seq) = refl
shown_line (replies.JournalIs cs) =
    let many = many_shown cs in
    let said = words_shown cs in
    λ i. join_with_byte 32 (codes "journal" ∷ decimal (many i) ∷ said i) ++ (10 ∷ [])
