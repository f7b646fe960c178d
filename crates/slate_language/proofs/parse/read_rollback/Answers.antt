use Rattle.std.proofs.Common.{option_map, sym, ap, ◌∙◌, arith}
use Rattle.std.proofs.lemmas.Result.{IfOk-from_err}
use Rattle.slate_txn.specs.declared.line.Line.TheVariants as lines
use Rattle.slate_language.proofs.OpLaws.{named_is}
use Rattle.slate_language.proofs.parse.read_rollback.Goals as goal

pub returns-in-Some : goal.returns-in-Some
returns-in-Some c = record { line = ap (option_map lines.Rollback) (sym c.in-Some.is) ∙ named_is lines.Rollback c.args.tokens.now c.name-item.result c.in_ok-name.field-0 (omega (arith, c.in-len1.len_at_least, c.in-len1.len_below)) c.name-item.is c.in_ok-name.ensures.name }

pub returns-in-None : goal.returns-in-None
returns-in-None c = record { line = ap (option_map lines.Rollback) (sym c.in-None.is) ∙ named_is lines.Rollback c.args.tokens.now c.name-item.result c.in_ok-name.field-0 (omega (arith, c.in-len1.len_at_least, c.in-len1.len_below)) c.name-item.is c.in_ok-name.ensures.name }

pub returns-in_err-name : goal.returns-in_err-name
returns-in_err-name c = record { line = IfOk-from_err c.from_residual.result _ c.from_residual.ensures.0 }
