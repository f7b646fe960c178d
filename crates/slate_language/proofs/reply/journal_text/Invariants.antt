use Rattle.std.proofs.Common.{◌≡◌, ◌∷◌, map, take, length, codes, decimal}
use Rattle.std.specs.Prelude.{flat_map}
use Rattle.slate_language.specs.Answers.{entry_commit, word_text}
use Rattle.slate_language.specs.Text.{commit_words}
use Rattle.slate_language.proofs.reply.journal_text.Given as goal

abbrev pub invariant-loop-commit : goal.invariant-loop-commit
invariant-loop-commit l =
    map word_text l.words.items ≡ codes "journal" ∷ decimal (length l.commits) ∷ flat_map commit_words (map entry_commit (take l.commit-index l.commits))
