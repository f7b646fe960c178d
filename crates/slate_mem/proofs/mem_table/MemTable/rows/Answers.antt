use Rattle.std.proofs.Common.{◌∙◌, ap, refl}
use Rattle.std.proofs.lemmas.Result.{IfOk-from_err}
use Rattle.slate_types.proofs.Exits.{err_exit}
use Rattle.slate_mem.specs.Slots.{standing}
use Rattle.slate_mem.specs.Table.{MemTableModel}
use Rattle.slate_mem.proofs.mem_table.MemTable.rows.Goals as goal

pub returns-clause-rows : goal.returns-clause-rows
returns-clause-rows c = c.in_ok-copies.ensures ∙ ap standing c.deref.ensures.value ∙ ap (λ (t : MemTableModel). t.rows) c.self.view_is

pub returns-in_err-copies : goal.returns-in_err-copies
returns-in_err-copies c =
    record {
      rows = IfOk-from_err c.from_residual.result _ c.from_residual.ensures.0;
      cause = err_exit c.from_residual.result _ c.from_residual.ensures.1 _ refl;
    }
