use Rattle.std.proofs.Common.{inr, refl, sym, ap, ◌∙◌}
use Rattle.slate_language.specs.Replies.{is_silent}
use Rattle.slate_language.proofs.BuiltLaws.{parse_built}
use Rattle.slate_language.proofs.parse.parse_line.Goals as goal

pub returns-in-Some-clause-meant : goal.returns-in-Some-clause-meant
returns-in-Some-clause-meant c = (
  ap is_silent (sym c.as_slice.ensures.value) ∙ sym c.is_silent.ensures ∙ c.if-is_silent.false,
  parse_built c.args.line.items ∙ sym c.in_ok-meaning.ensures.line ∙ c.in-Some.is,
)

pub returns-in-None-clause-cause : goal.returns-in-None-clause-cause
returns-in-None-clause-cause c = inr (refl, ap is_silent (sym c.as_slice.ensures.value) ∙ sym c.is_silent.ensures ∙ c.if-is_silent.false, parse_built c.args.line.items ∙ sym c.in_ok-meaning.ensures.line ∙ c.in-None.is)
