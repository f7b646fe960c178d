use Rattle.std.proofs.Common.{◌∙◌, sym}
use Rattle.std.proofs.lemmas.Result.{IfOk-from_err}
use Rattle.slate_index.proofs.Spelling.{field_read, no_field}
use Rattle.slate_index.proofs.line.read_field.Goals as goal

pub returns-in-Some : goal.returns-in-Some
returns-in-Some c = record { field = c.short.ensures ∙ field_read c.args.token.now c.in-Some.field (sym c.in_ok-field.ensures.bytes ∙ c.in-Some.is) }

pub returns-in-None : goal.returns-in-None
returns-in-None c = record { field = no_field c.args.token.now (sym c.in_ok-field.ensures.bytes ∙ c.in-None.is) }

pub returns-in_err-field : goal.returns-in_err-field
returns-in_err-field c = record { field = IfOk-from_err c.from_residual.result _ c.from_residual.ensures.0 }
