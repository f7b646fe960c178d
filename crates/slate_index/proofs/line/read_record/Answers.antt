use Rattle.std.proofs.lemmas.Result.{IfOk-from_err}
use Rattle.slate_index.proofs.line.read_record.Goals as goal

pub returns-in_err-value : goal.returns-in_err-value
returns-in_err-value c = record { pair = IfOk-from_err c.from_residual.result _ c.from_residual.ensures.0 }
