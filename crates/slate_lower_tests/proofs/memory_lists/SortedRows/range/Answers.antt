use Rattle.std.proofs.Common.{◌∙◌, sym, ap, subst}
use Rattle.slate_types.specs.declared.iter.IterationOrder.TheVariants.{Ascending}
use Rattle.slate_types.specs.Keys.{in_range}
use Rattle.slate_types.specs.Iteration.{IsInOrder}
use Rattle.slate_types.proofs.IterationLaws.{in_order_filtered}
use Rattle.slate_mem.specs.Table.{ranged}
use Rattle.slate_lower_tests.proofs.SortedRowsLaws.{keys_ascend}
use Rattle.slate_lower_tests.proofs.memory_lists.SortedRows.range.Goals as goal

pub ordered-requires : goal.ordered-requires
ordered-requires c =
    let rows = c.in_ok-rows.ensures ∙ ap (ranged c.args.range.now) c.as_slice.ensures.value in
    subst (IsInOrder Ascending) (sym rows) (in_order_filtered Ascending (λ r. in_range c.args.range.now r.key) _ (keys_ascend _ c.self.invariant))
