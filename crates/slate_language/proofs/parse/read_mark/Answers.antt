use Rattle.std.proofs.Common.{ℕ, List, option_map, sym, ap, ◌∙◌}
use Rattle.std.proofs.lemmas.Result.{IfOk-from_err}
use Rattle.slate_txn.specs.declared.line.Line.TheVariants as lines
use Rattle.slate_language.proofs.OpLaws.{many_is}
use Rattle.slate_language.proofs.parse.read_mark.Goals as goal

pub returns-in-Some : goal.returns-in-Some
returns-in-Some c = record { line = ap (option_map (λ (q : List ℕ × List (List ℕ)). lines.Mark q.0 q.1)) (sym c.in-Some.is) ∙ many_is lines.Mark c.args.tokens.now c.in_ok-name.field-0 c.in_ok-name.ensures.pair }

pub returns-in-None : goal.returns-in-None
returns-in-None c = record { line = ap (option_map (λ (q : List ℕ × List (List ℕ)). lines.Mark q.0 q.1)) (sym c.in-None.is) ∙ many_is lines.Mark c.args.tokens.now c.in_ok-name.field-0 c.in_ok-name.ensures.pair }

pub returns-in_err-name : goal.returns-in_err-name
returns-in_err-name c = record { line = IfOk-from_err c.from_residual.result _ c.from_residual.ensures.0 }
