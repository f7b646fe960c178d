use Rattle.std.proofs.lemmas.Result.{IfOk-from_err}
use Rattle.slate_queue.proofs.reply.push_word.Goals as goal

pub returns-in_err-shown-in-Shown : goal.returns-in_err-shown-in-Shown
returns-in_err-shown-in-Shown c = record { text = IfOk-from_err c.from_residual.result _ c.from_residual.ensures.0 }

pub returns-in_err-to_string-in-Number : goal.returns-in_err-to_string-in-Number
returns-in_err-to_string-in-Number c = record { text = IfOk-from_err c.from_residual-in_err-to_string-in-Number.result _ c.from_residual-in_err-to_string-in-Number.ensures.0 }
