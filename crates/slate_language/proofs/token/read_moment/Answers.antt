use Rattle.std.proofs.Common.{sym, ◌∙◌}
use Rattle.slate_language.proofs.SpelledLaws.{moment_spelled}
use Rattle.slate_language.proofs.TokenLaws.{moment_text, moment_is, moment_other}
use Rattle.slate_language.proofs.token.read_moment.Goals as goal

pub returns-then-not-is_moment_text : goal.returns-then-not-is_moment_text
returns-then-not-is_moment_text c =
    let none = sym (moment_other c.args.token.now (sym c.is_moment_text.ensures ∙ c.if-not-is_moment_text.true)) in
    record { moment = none; spelled = moment_spelled c.args.token.now _ none }

pub returns-in-Ok : goal.returns-in-Ok
returns-in-Ok c =
    let value = c.ok.ensures.value
    ∙ moment_is c.args.token.now c.parse.result (sym c.is_moment_text.ensures ∙ c.if-not-is_moment_text.false) (rw c.in-Ok.ensures.cases.0 at c.parse.ensures.value.0) in
    record { moment = value; spelled = moment_spelled c.args.token.now _ value }

pub returns-in-Err : goal.returns-in-Err
returns-in-Err c = absurd (c.in-Err.ensures.cases.0 (moment_text c.args.token.now (sym c.is_moment_text.ensures ∙ c.if-not-is_moment_text.false)))
