use Rattle.slate_services.proofs.RecordLaws.{change_worked}
use Rattle.slate_services.proofs.records.attempt.Goals as goal

pub returns : goal.returns
returns g c =
    change_worked _ _ _ _ _ _ _ _ c.put_record_shared.result c.new-store.ensures.told
    c.put_record_shared.ensures.change
