use Rattle.std.proofs.Common.{sym, ◌∙◌}
use Rattle.slate_language.proofs.SpelledLaws.{number_spelled}
use Rattle.slate_language.proofs.TokenLaws.{numeral_text, number_is, number_other}
use Rattle.slate_language.proofs.token.read_number.Goals as goal

pub returns-then-not-is_numeral : goal.returns-then-not-is_numeral
returns-then-not-is_numeral c =
    let none = sym (number_other c.args.token.now (sym c.is_numeral.ensures ∙ c.if-not-is_numeral.true)) in
    record { number = none; spelled = number_spelled c.args.token.now _ none }

pub returns-in-Ok : goal.returns-in-Ok
returns-in-Ok c =
    let value = c.ok.ensures.value
    ∙ number_is c.args.token.now c.parse.result (sym c.is_numeral.ensures ∙ c.if-not-is_numeral.false) (rw c.in-Ok.ensures.cases.0 at c.parse.ensures.value.0) in
    record { number = value; spelled = number_spelled c.args.token.now _ value }

pub returns-in-Err : goal.returns-in-Err
returns-in-Err c = absurd (c.in-Err.ensures.cases.0 (numeral_text c.args.token.now (sym c.is_numeral.ensures ∙ c.if-not-is_numeral.false)))
