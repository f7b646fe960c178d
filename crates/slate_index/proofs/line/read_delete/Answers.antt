use Rattle.std.proofs.Common.{◌∙◌, ap, arith, option_map, sym}
use Rattle.std.proofs.lemmas.Result.{IfOk-from_err}
use Rattle.slate_index.specs.declared.line.Line.TheVariants as lines
use Rattle.slate_index.specs.Script.{name_in}
use Rattle.slate_index.proofs.Spelling.{delete_read}
use Rattle.slate_index.proofs.line.read_delete.Goals as goal

pub returns-in-Some : goal.returns-in-Some
returns-in-Some c = record { line = ap (option_map lines.Delete) (sym c.in-Some.is) ∙ delete_read c.args.tokens.now c.id-item.result c.in_ok-id.field-0 (omega (arith, c.in-len1.len_at_least, c.in-len1.len_below)) c.id-item.is (c.in_ok-id.ensures.name ∙ ap name_in c.text.ensures) }

pub returns-in-None : goal.returns-in-None
returns-in-None c = record { line = ap (option_map lines.Delete) (sym c.in-None.is) ∙ delete_read c.args.tokens.now c.id-item.result c.in_ok-id.field-0 (omega (arith, c.in-len1.len_at_least, c.in-len1.len_below)) c.id-item.is (c.in_ok-id.ensures.name ∙ ap name_in c.text.ensures) }

pub returns-in_err-id : goal.returns-in_err-id
returns-in_err-id c = record { line = IfOk-from_err c.from_residual.result _ c.from_residual.ensures.0 }
