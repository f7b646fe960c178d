use Rattle.std.proofs.Common.{sym, subst}
use Rattle.slate_stock.specs.Journals.{order_kind}
use Rattle.slate_threads.specs.Workers.{made_by}
use Rattle.slate_services.specs.Stores.{PlainRead, told_by}
use Rattle.slate_services.proofs.FlushingLaws.{order_read}
use Rattle.slate_services.proofs.flushing.attempt.Goals as goal

pub returns : goal.returns
returns g c =
    subst
    (λ t.
    PlainRead order_kind c.args.pass.now c.run_order.new.pass
    (told_by g.S.Store c.args.store.now) (told_by g.S.Store t) (made_by c.run_order.result))
    (sym (c.store-1.given.1 (sym c.run_order.ensures.reads.store)))
    (order_read c.args.order.now _ c.args.pass.now c.run_order.new.pass _ _ c.run_order.result
    c.run_order.ensures.reads c.run_order.ensures.committed c.run_order.ensures.answer
    c.run_order.ensures.only)
