use Rattle.slate_services.proofs.PaymentLaws.{order_worked}
use Rattle.slate_services.proofs.PlainLaws.{checked_empty}
use Rattle.slate_services.proofs.payments.attempt.Goals as goal

pub returns : goal.returns
returns g c =
    order_worked c.args.order.now _ c.args.pass.now c.run_order.new.pass c.run_order.result
    c.run_order.ensures.committed
    (λ none. c.run_order.ensures.answer (checked_empty _ _ _ c.new-store.ensures.told none))
    c.run_order.ensures.only
