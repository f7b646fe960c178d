use Rattle.std.proofs.Common.{◌∙◌, ap, refl, sym, subst}
use Rattle.std.proofs.lemmas.Result.{IfOk-from_err}
use Rattle.slate_types.proofs.Exits.{err_exit}
use Rattle.slate_mem.specs.Slots.{IsSlots, standing}
use Rattle.slate_mem.specs.Table.{MemTableModel, newest}
use Rattle.slate_mem.proofs.mem_table.MemTable.rows_of_key.Goals as goal

pub newest_rows-requires : goal.newest_rows-requires
newest_rows-requires c = subst IsSlots (sym c.deref.ensures.value) c.self.invariant.slots

pub returns-clause-rows : goal.returns-clause-rows
returns-clause-rows c =
    let seen = newest c.args.key.now c.args.max_seq in
    c.in_ok-newest_rows.ensures ∙ ap (λ ss. seen (standing ss)) c.deref.ensures.value ∙ ap (λ (t : MemTableModel). seen t.rows) c.self.view_is

pub returns-in_err-newest_rows : goal.returns-in_err-newest_rows
returns-in_err-newest_rows c =
    record {
      rows = IfOk-from_err c.from_residual.result _ c.from_residual.ensures.0;
      cause = err_exit c.from_residual.result _ c.from_residual.ensures.1 _ refl;
    }
