use Rattle.std.proofs.Common.{ℕ, List, option_map, sym, ap, ◌∙◌, arith}
use Rattle.std.proofs.lemmas.Result.{IfOk-from_err}
use Rattle.slate_mem.specs.declared.WriteOp.TheVariants as ops
use Rattle.slate_language.proofs.OpLaws.{delete_read}
use Rattle.slate_language.proofs.parse.read_delete_op.Goals as goal

pub returns-in-Some : goal.returns-in-Some
returns-in-Some c = record { op = ap (option_map (λ (key : List ℕ). (key, ops.Delete))) (sym c.in-Some.is) ∙ delete_read c.args.tokens.now c.key-item.result c.in_ok-key.field-0 (omega (arith, c.in-len1.len_at_least, c.in-len1.len_below)) c.key-item.is c.in_ok-key.ensures.bytes }

pub returns-in-None : goal.returns-in-None
returns-in-None c = record { op = ap (option_map (λ (key : List ℕ). (key, ops.Delete))) (sym c.in-None.is) ∙ delete_read c.args.tokens.now c.key-item.result c.in_ok-key.field-0 (omega (arith, c.in-len1.len_at_least, c.in-len1.len_below)) c.key-item.is c.in_ok-key.ensures.bytes }

pub returns-in_err-key : goal.returns-in_err-key
returns-in_err-key c = record { op = IfOk-from_err c.from_residual.result _ c.from_residual.ensures.0 }
