use Rattle.slate_services.proofs.JobLaws.{claim_worked}
use Rattle.slate_services.proofs.jobs.attempt.Goals as goal

pub returns : goal.returns
returns g c =
    claim_worked _ _ _ _ _ _ c.claim_shared.result c.new-store.ensures.told
    c.claim_shared.ensures.called
