use Rattle.std.proofs.Common.{◌≡◌, ◌∷◌, take, length, codes, decimal}
use Rattle.std.specs.Prelude.{flat_map}
use Rattle.std.specs.List.{join_with_byte}
use Rattle.slate_language.specs.Text.{row_words}
use Rattle.slate_language.proofs.reply.rows_text.Given as goal

abbrev pub invariant-loop-row : goal.invariant-loop-row
invariant-loop-row l =
    l.line.items ≡ join_with_byte 32 (codes "rows" ∷ decimal (length l.rows) ∷ flat_map row_words (take l.row-index l.rows))
