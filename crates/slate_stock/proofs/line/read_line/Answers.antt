use Rattle.std.proofs.Common.{◌∙◌, inr, refl, sym}
use Rattle.slate_stock.proofs.line.read_line.Goals as goal

pub returns-in-Some-clause-meant : goal.returns-in-Some-clause-meant
returns-in-Some-clause-meant c = (sym c.is_silent.ensures ∙ c.if-is_silent.false, sym c.in_ok-line.ensures.line ∙ c.in-Some.is)

pub returns-in-None-clause-cause : goal.returns-in-None-clause-cause
returns-in-None-clause-cause c = inr (refl, sym c.is_silent.ensures ∙ c.if-is_silent.false, sym c.in_ok-line.ensures.line ∙ c.in-None.is)
