use Rattle.std.proofs.Common.{◌≡◌, map, take}
use Rattle.std.specs.List.{join_with_byte}
use Rattle.slate_stock.specs.Words.{word_text}
use Rattle.slate_stock.proofs.reply.line_of.Given as goal

abbrev pub invariant-loop-i : goal.invariant-loop-i
invariant-loop-i l = l.line.items ≡ join_with_byte 32 (map word_text (take l.i l.words))
