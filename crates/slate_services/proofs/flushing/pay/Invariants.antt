use Rattle.std.proofs.Common.{◌≤◌}
use Rattle.slate_stock.specs.Journals.{order_kind}
use Rattle.slate_services.specs.Stores.{PlainRead, told_by}
use Rattle.slate_services.proofs.flushing.pay.Given as goal

abbrev pub invariant-loop-turn : goal.invariant-loop-turn
invariant-loop-turn g l = record {
  worked : PlainRead order_kind l.initial.pass l.pass (told_by g.S.Store l.initial.store)
      (told_by g.S.Store l.store) l.made;
  fits : l.made ≤ l._turn;
}
