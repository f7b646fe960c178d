use Rattle.std.proofs.Common.{ap, sym, ◌∙◌}
use Rattle.slate_types.specs.Iteration.{RowList}
use Rattle.slate_types.specs.Rows.{of_key}
use Rattle.slate_mem.proofs.SlotOrder.{slots_ascend}
use Rattle.slate_mem.proofs.mem_table.walk.Goals as goal

pub returns-in-Ascending-clause-rows : goal.returns-in-Ascending-clause-rows
returns-in-Ascending-clause-rows c k = ap (λ (l : RowList). of_key k l.rows) c.of_slots.ensures

pub returns-in-Ascending-clause-in_order : goal.returns-in-Ascending-clause-in_order
returns-in-Ascending-clause-in_order c = rw (c.in-Ascending.is, c.of_slots.ensures) (slots_ascend c.args.slots.items c.requires)

pub returns-in-Ascending-clause-order : goal.returns-in-Ascending-clause-order
returns-in-Ascending-clause-order c = ap (λ (l : RowList). l.order) c.of_slots.ensures ∙ sym c.in-Ascending.is

pub returns-in-Descending-clause-in_order : goal.returns-in-Descending-clause-in_order
returns-in-Descending-clause-in_order c = rw c.in-Descending.is c.walk_down.ensures.in_order

pub returns-in-Descending-clause-order : goal.returns-in-Descending-clause-order
returns-in-Descending-clause-order c = rw c.in-Descending.is c.walk_down.ensures.order
