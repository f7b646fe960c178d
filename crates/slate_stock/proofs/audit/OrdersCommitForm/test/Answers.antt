use Rattle.std.proofs.Common.{sym, subst}
use Rattle.slate_stock.specs.Commits.{IsOrderBy}
use Rattle.slate_stock.proofs.audit.OrdersCommitForm.test.Goals as goal

pub returns-in-SerializableSnapshot-clause-no : goal.returns-in-SerializableSnapshot-clause-no
returns-in-SerializableSnapshot-clause-no c = λ no h. c.is_order.ensures.no no h.order h.amounts (subst (IsOrderBy h.order h.amounts c.args.ops.now c.args.tracked.now) (sym c.as_slice.ensures) h.by)
