use Rattle.std.proofs.Common.{◌≤◌}
use Rattle.slate_stock.specs.Journals.{order_kind}
use Rattle.slate_services.specs.Plain.{PlainWorked}
use Rattle.slate_services.proofs.payments.pay.Given as goal

abbrev pub invariant-loop-turn : goal.invariant-loop-turn
invariant-loop-turn g l = record {
  worked : PlainWorked order_kind l.initial.pass l.pass l.made;
  fits : l.made ≤ l._turn;
}
