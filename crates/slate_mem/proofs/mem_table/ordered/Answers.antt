use Rattle.std.proofs.lemmas.Result.{IfOk-from_err}
use Rattle.slate_mem.proofs.mem_table.ordered.Goals as goal

pub returns-in_err-fall-in-Descending : goal.returns-in_err-fall-in-Descending
returns-in_err-fall-in-Descending c =
    record {
      keys = IfOk-from_err c.from_residual.result _ c.from_residual.ensures.0;
      in_order = IfOk-from_err c.from_residual.result _ c.from_residual.ensures.0;
    }
