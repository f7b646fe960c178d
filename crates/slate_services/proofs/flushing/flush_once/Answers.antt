use Rattle.std.proofs.Common.{◌≡◌, ap, sym, subst}
use Rattle.slate_stock.specs.Journals.{order_kind}
use Rattle.slate_services.specs.Stores.{PlainFlushed, told_by}
use Rattle.slate_services.proofs.FlushingLaws.{flushed}
use Rattle.slate_services.proofs.flushing.flush_once.Goals as goal

pub returns : goal.returns
returns g c =
    subst
    (λ t.
    PlainFlushed order_kind c.args.pass.now c.flush-stored.new.self
    (told_by g.S.Store c.args.store.now) (told_by g.S.Store t))
    (sym (c.store-1.given.1 (sym c.flush-stored.ensures.puts.store)))
    (flushed order_kind _ _ _ _ _ _ _ _ c.flush-stored.result
    (λ e. ap (λ x. g.S.Store.objects x.store.now) e) c.flush-stored.ensures.same.0
    c.flush-stored.ensures.same.1 c.flush-stored.ensures.seen c.flush-stored.ensures.own
    c.flush-stored.ensures.refused)
