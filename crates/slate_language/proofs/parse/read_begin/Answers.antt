use Rattle.std.proofs.Common.{sym, ap, ◌∙◌, arith}
use Rattle.std.proofs.lemmas.Result.{IfOk-from_err}
use Rattle.slate_txn.specs.declared.line.Line.TheVariants as lines
use Rattle.slate_language.specs.Parse.{both, read_level}
use Rattle.slate_language.proofs.OpLaws.{begin_read, begin_unread}
use Rattle.slate_language.proofs.parse.read_begin.Goals as goal

pub returns-in_default-read_level : goal.returns-in_default-read_level
returns-in_default-read_level c = record { line = begin_unread c.args.tokens.now c.name-item.result c.level-item.result (omega (arith, c.in-len2.len_at_least, c.in-len2.len_below)) c.name-item.is c.level-item.is (ap read_level (sym c.text.ensures) ∙ sym c.read_level.ensures ∙ c.in_default-read_level.is) }

pub returns-in-Some-2 : goal.returns-in-Some-2
returns-in-Some-2 c = record {
  line = (λ i. both lines.Begin (sym c.in-Some-2.is i) (sym c.in-Some.is i)) ∙ begin_read c.args.tokens.now c.name-item.result c.level-item.result c.in_ok-name.field-0 c.read_level.result (omega (arith, c.in-len2.len_at_least, c.in-len2.len_below)) c.name-item.is c.level-item.is c.in_ok-name.ensures.name
      (c.read_level.ensures ∙ ap read_level c.text.ensures);
}

pub returns-in-None : goal.returns-in-None
returns-in-None c = record {
  line = ap (λ p. both lines.Begin p c.read_level.result) (sym c.in-None.is) ∙ begin_read c.args.tokens.now c.name-item.result c.level-item.result c.in_ok-name.field-0 c.read_level.result (omega (arith, c.in-len2.len_at_least, c.in-len2.len_below)) c.name-item.is c.level-item.is c.in_ok-name.ensures.name
      (c.read_level.ensures ∙ ap read_level c.text.ensures);
}

pub returns-in_err-name : goal.returns-in_err-name
returns-in_err-name c = record { line = IfOk-from_err c.from_residual.result _ c.from_residual.ensures.0 }
