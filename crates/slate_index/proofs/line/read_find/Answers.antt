use Rattle.std.proofs.Common.{◌∙◌, ap, arith, sym}
use Rattle.std.proofs.lemmas.Result.{IfOk-from_err}
use Rattle.slate_language.specs.Parse.{both}
use Rattle.slate_index.specs.declared.line.Line.TheVariants as lines
use Rattle.slate_index.specs.Script.{number_in}
use Rattle.slate_index.proofs.Spelling.{find_read, find_unread}
use Rattle.slate_index.proofs.line.read_find.Goals as goal

pub returns-in_default-read_index : goal.returns-in_default-read_index
returns-in_default-read_index g c =
    let fs = g.F.Fields.model c.args.fields.now in
    record {
      line = find_unread fs c.args.tokens.now c.number-item.result c.field-item.result (omega (arith, c.in-len2.len_at_least, c.in-len2.len_below)) c.number-item.is c.field-item.is
          (ap (number_in fs) (sym c.text.ensures) ∙ sym c.read_index.ensures ∙ c.in_default-read_index.is);
    }

pub returns-in-Some-2 : goal.returns-in-Some-2
returns-in-Some-2 g c =
    let fs = g.F.Fields.model c.args.fields.now in
    record {
      line = (λ i. both lines.Find (sym c.in-Some.is i) (sym c.in-Some-2.is i))
          ∙ find_read fs c.args.tokens.now c.number-item.result c.field-item.result c.read_index.result c.in_ok-field.field-0 (omega (arith, c.in-len2.len_at_least, c.in-len2.len_below)) c.number-item.is c.field-item.is
          (c.read_index.ensures ∙ ap (number_in fs) c.text.ensures) c.in_ok-field.ensures.field;
    }

pub returns-in-None : goal.returns-in-None
returns-in-None g c =
    let fs = g.F.Fields.model c.args.fields.now in
    record {
      line = (λ i. both lines.Find (sym c.in-Some.is i) (sym c.in-None.is i))
          ∙ find_read fs c.args.tokens.now c.number-item.result c.field-item.result c.read_index.result c.in_ok-field.field-0 (omega (arith, c.in-len2.len_at_least, c.in-len2.len_below)) c.number-item.is c.field-item.is
          (c.read_index.ensures ∙ ap (number_in fs) c.text.ensures) c.in_ok-field.ensures.field;
    }

pub returns-in_err-field : goal.returns-in_err-field
returns-in_err-field g c = record { line = IfOk-from_err c.from_residual.result _ c.from_residual.ensures.0 }
