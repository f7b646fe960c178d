use Rattle.std.proofs.Common.{ap, refl, sym, subst, ◌∙◌}
use Rattle.std.proofs.lemmas.Result.{IfOk-from_err}
use Rattle.slate_types.specs.declared.iter.IterationOrder.TheVariants.{Ascending, Descending}
use Rattle.slate_types.specs.Iteration.{IsInOrder, RowList}
use Rattle.slate_types.specs.Rows.{of_key}
use Rattle.slate_types.proofs.Exits.{err_exit}
use Rattle.slate_mem.specs.Slots.{standing}
use Rattle.slate_mem.proofs.SlotOrder.{slots_ascend}
use Rattle.slate_mem.proofs.mem_table.walk_down.Goals as goal

pub ordered-requires : goal.ordered-requires
ordered-requires c = subst (IsInOrder Ascending) (sym (c.in_ok-rows.ensures ∙ ap standing c.deref.ensures.value)) (slots_ascend c.args.slots.items c.requires)

pub returns-clause-rows : goal.returns-clause-rows
returns-clause-rows c k =
    ap (λ (l : RowList). of_key k l.rows) c.of_rows.ensures ∙ c.in_ok-rows-2.ensures.keys k ∙ ap (of_key k) (c.in_ok-rows.ensures ∙ ap standing c.deref.ensures.value)

pub returns-clause-in_order : goal.returns-clause-in_order
returns-clause-in_order c = subst (λ (l : RowList). IsInOrder Descending l.rows) (sym c.of_rows.ensures) c.in_ok-rows-2.ensures.in_order

pub returns-clause-order : goal.returns-clause-order
returns-clause-order c = ap (λ (l : RowList). l.order) c.of_rows.ensures

pub returns-in_err-rows : goal.returns-in_err-rows
returns-in_err-rows c =
    record {
      rows = IfOk-from_err c.from_residual.result _ c.from_residual.ensures.0;
      in_order = IfOk-from_err c.from_residual.result _ c.from_residual.ensures.0;
      order = IfOk-from_err c.from_residual.result _ c.from_residual.ensures.0;
      cause = err_exit c.from_residual.result _ c.from_residual.ensures.1 _ refl;
    }

pub returns-in_err-rows-2 : goal.returns-in_err-rows-2
returns-in_err-rows-2 c =
    record {
      rows = IfOk-from_err c.from_residual-in_err-rows-2.result _ c.from_residual-in_err-rows-2.ensures.0;
      in_order = IfOk-from_err c.from_residual-in_err-rows-2.result _ c.from_residual-in_err-rows-2.ensures.0;
      order = IfOk-from_err c.from_residual-in_err-rows-2.result _ c.from_residual-in_err-rows-2.ensures.0;
      cause = err_exit c.from_residual-in_err-rows-2.result _ c.from_residual-in_err-rows-2.ensures.1 _ refl;
    }
