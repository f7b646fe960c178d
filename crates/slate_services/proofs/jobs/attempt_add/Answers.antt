use Rattle.slate_services.proofs.JobLaws.{add_worked}
use Rattle.slate_services.proofs.jobs.attempt_add.Goals as goal

pub returns : goal.returns
returns g c =
    add_worked _ _ _ _ _ _ c.add_shared.result c.new-store.ensures.told c.add_shared.ensures.called
