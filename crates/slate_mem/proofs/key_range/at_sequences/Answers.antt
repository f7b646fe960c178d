use Rattle.std.proofs.lemmas.Result.{IfOk-from_err}
use Rattle.slate_mem.proofs.key_range.at_sequences.Goals as goal

pub returns-in_err-clone-in-Included : goal.returns-in_err-clone-in-Included
returns-in_err-clone-in-Included c = IfOk-from_err c.from_residual.result _ c.from_residual.ensures.0

pub returns-in_err-clone-in-Excluded : goal.returns-in_err-clone-in-Excluded
returns-in_err-clone-in-Excluded c = IfOk-from_err c.from_residual-in_err-clone-in-Excluded.result _ c.from_residual-in_err-clone-in-Excluded.ensures.0
