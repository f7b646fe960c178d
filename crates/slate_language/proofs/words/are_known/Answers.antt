use Rattle.std.proofs.Common.{map, sym, ap, ◌∙◌, arith}
use Rattle.std.specs.List.{list_all}
use Rattle.std.specs.String.{string_bytes}
use Rattle.std.proofs.lemmas.List.{drop_all}
use Rattle.slate_language.specs.Words.{is_known}
use Rattle.slate_language.proofs.WordLaws.{known_ends, known_more}
use Rattle.slate_language.proofs.words.are_known.Goals as goal

pub returns-then-not-is_known : goal.returns-then-not-is_known
returns-then-not-is_known c =
    sym (c.loop-word.invariant
    ∙ known_ends string_bytes c.args.words.now c.loop-word.word-index _ (omega arith) (ap (λ w. is_known (string_bytes w)) (sym c.word-item.is) ∙ ap is_known (sym c.as_bytes.ensures.value) ∙ sym c.is_known.ensures ∙ c.if-not-is_known.true))

pub loop-word-preserved : goal.loop-word-preserved
loop-word-preserved c =
    c.loop-word.invariant
    ∙ known_more string_bytes c.args.words.now c.loop-word.word-index _ (omega arith) (ap (λ w. is_known (string_bytes w)) (sym c.word-item.is) ∙ ap is_known (sym c.as_bytes.ensures.value) ∙ sym c.is_known.ensures ∙ c.if-not-is_known.false)

pub returns : goal.returns
returns c = sym (c.loop-word.invariant ∙ ap (λ ws. list_all is_known (map string_bytes ws)) (drop_all c.loop-word.word-index c.args.words.now (omega arith)))
