use Rattle.std.proofs.Common.{◌≡◌, map, drop}
use Rattle.std.specs.Option.{option_copied}
use Rattle.std.specs.String.{string_bytes}
use Rattle.slate_language.specs.Words.{at_most_one, only_value, values, with_value}
use Rattle.slate_language.proofs.words.only_value.Given as goal

abbrev pub invariant-loop-word : goal.invariant-loop-word
invariant-loop-word l = only_value l.name (map string_bytes l.words) ≡ at_most_one (with_value (option_copied l.found) (values l.name (map string_bytes (drop l.word-index l.words))))
