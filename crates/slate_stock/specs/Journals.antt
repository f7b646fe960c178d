-- Which journals are the crate's.
--     order_kind      of the commits that are an order's, at whatever moment
--     IsOrders es      each commit with a sequence is an order's, and nothing is written outside transactions
--     AreAuditedOrders n0 es      legal, and so
use Rattle.std.specs.Prelude.{ℕ, List}
use Rattle.slate_txn.specs.declared.event.Event.{Event}
use Rattle.slate_txn.specs.Audited.{Kind, AreOfKind}
use Rattle.slate_txn.specs.Replay.{IsLegal}
use Rattle.slate_stock.specs.Commits.{IsOrder}

abbrev pub order_kind : Kind
order_kind level now ops tracked ts = IsOrder level ops tracked ts

abbrev pub IsOrders : List Event → Type 0
IsOrders es = AreOfKind order_kind es

pub record AreAuditedOrders (n0 : ℕ) (es : List Event) : Type 0 where
  pub legal : IsLegal n0 es
  pub orders : IsOrders es
