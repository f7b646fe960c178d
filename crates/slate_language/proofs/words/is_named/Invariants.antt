use Rattle.std.proofs.Common.{◌≡◌, map, drop}
use Rattle.std.specs.String.{string_bytes}
use Rattle.slate_types.specs.Keys.{among}
use Rattle.slate_language.specs.Words.{filter_names}
use Rattle.slate_language.proofs.words.is_named.Given as goal

abbrev pub invariant-loop-word : goal.invariant-loop-word
invariant-loop-word l = among l.name (filter_names (map string_bytes l.words)) ≡ among l.name (filter_names (map string_bytes (drop l.word-index l.words)))
