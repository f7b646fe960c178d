use Rattle.std.proofs.Common.{◌≡◌, ◌∷◌, map, take, length, codes, decimal}
use Rattle.slate_index.specs.Words.{word_text}
use Rattle.slate_index.proofs.reply.found.Given as goal

abbrev pub invariant-loop-id : goal.invariant-loop-id
invariant-loop-id l = map word_text l.words.items ≡ codes "found" ∷ decimal (length l.ids) ∷ take l.id-index l.ids
