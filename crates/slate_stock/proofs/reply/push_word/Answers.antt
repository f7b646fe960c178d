use Rattle.std.proofs.lemmas.Result.{IfOk-from_err}
use Rattle.slate_stock.proofs.reply.push_word.Goals as goal

pub returns-in_err-to_string-in-Number : goal.returns-in_err-to_string-in-Number
returns-in_err-to_string-in-Number c = record { text = IfOk-from_err c.from_residual.result _ c.from_residual.ensures.0 }
