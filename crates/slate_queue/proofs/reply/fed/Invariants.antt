use Rattle.std.proofs.Common.{◌≡◌, ◌∷◌, map, take, length, codes, decimal}
use Rattle.std.specs.Prelude.{flat_map}
use Rattle.slate_queue.specs.Script.{fed_words}
use Rattle.slate_queue.specs.Words.{fed_pair, word_text}
use Rattle.slate_queue.proofs.reply.fed.Given as goal

abbrev pub invariant-loop-entry : goal.invariant-loop-entry
invariant-loop-entry l =
    map word_text l.words.items ≡ codes "feed" ∷ decimal (length l.entries) ∷ flat_map fed_words (map fed_pair (take l.entry-index l.entries))
