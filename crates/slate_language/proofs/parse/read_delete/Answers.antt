use Rattle.std.proofs.Common.{ℕ, List, option_map, sym, ap, ◌∙◌, arith}
use Rattle.std.proofs.lemmas.Result.{IfOk-from_err}
use Rattle.slate_txn.specs.declared.line.Line.TheVariants as lines
use Rattle.slate_language.proofs.OpLaws.{keyed_is}
use Rattle.slate_language.proofs.parse.read_delete.Goals as goal

pub returns-in-Some : goal.returns-in-Some
returns-in-Some c = record { line = ap (option_map (λ (q : List ℕ × List ℕ). lines.Delete q.0 q.1)) (sym c.in-Some.is) ∙ keyed_is lines.Delete c.args.tokens.now c.name-item.result c.key-item.result c.in_ok-name.field-0 (omega (arith, c.in-len2.len_at_least, c.in-len2.len_below)) c.name-item.is c.key-item.is c.in_ok-name.ensures.pair }

pub returns-in-None : goal.returns-in-None
returns-in-None c = record { line = ap (option_map (λ (q : List ℕ × List ℕ). lines.Delete q.0 q.1)) (sym c.in-None.is) ∙ keyed_is lines.Delete c.args.tokens.now c.name-item.result c.key-item.result c.in_ok-name.field-0 (omega (arith, c.in-len2.len_at_least, c.in-len2.len_below)) c.name-item.is c.key-item.is c.in_ok-name.ensures.pair }

pub returns-in_err-name : goal.returns-in_err-name
returns-in_err-name c = record { line = IfOk-from_err c.from_residual.result _ c.from_residual.ensures.0 }
