use Rattle.std.proofs.Common.{◌≡◌, map, drop}
use Rattle.std.specs.List.{list_all}
use Rattle.std.specs.String.{string_bytes}
use Rattle.slate_language.specs.Words.{is_known}
use Rattle.slate_language.proofs.words.are_known.Given as goal

abbrev pub invariant-loop-word : goal.invariant-loop-word
invariant-loop-word l = list_all is_known (map string_bytes l.words) ≡ list_all is_known (map string_bytes (drop l.word-index l.words))
