use Rattle.std.proofs.Common.{map, sym, ap, ◌∙◌, arith}
use Rattle.std.specs.Option.{option_copied}
use Rattle.std.specs.String.{string_bytes}
use Rattle.std.proofs.lemmas.List.{drop_all}
use Rattle.slate_language.specs.Words.{at_most_one, values, with_value}
use Rattle.slate_language.proofs.WordLaws.{only_found}
use Rattle.slate_language.proofs.words.only_value.Goals as goal

pub returns : goal.returns
returns c =
    let found = option_copied c.loop-word.found in
    sym (c.loop-word.invariant
    ∙ ap (λ ws. at_most_one (with_value found (values c.args.name.now (map string_bytes ws)))) (drop_all c.loop-word.word-index c.args.words.now (omega arith))
    ∙ only_found found)
