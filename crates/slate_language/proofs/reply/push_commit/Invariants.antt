use Rattle.std.proofs.Common.{◌≡◌, ◌++◌, ◌∷◌, map, take, length, decimal}
use Rattle.std.specs.Fmt.{signed_decimal}
use Rattle.slate_language.specs.Answers.{word_text}
use Rattle.slate_language.specs.Text.{shown_bytes}
use Rattle.slate_language.proofs.reply.push_commit.Given as goal

abbrev pub invariant-loop-key : goal.invariant-loop-key
invariant-loop-key l =
    map word_text l.words.items ≡ map word_text l.fn.words.items ++ (decimal l.commit.seq ∷ signed_decimal l.commit.now ∷ decimal (length l.keys) ∷ map shown_bytes (take l.key-index l.keys))
