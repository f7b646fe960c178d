use Rattle.slate_stock.specs.Journals.{order_kind}
use Rattle.slate_services.proofs.FlushingLaws.{plain_read_goes_on}
use Rattle.slate_services.proofs.flushing.pay_at.Goals as goal

pub returns : goal.returns
returns g c =
    plain_read_goes_on order_kind _ _ _ _ _ _ _ _ c.pay-opened.ensures c.pay-paid.ensures
