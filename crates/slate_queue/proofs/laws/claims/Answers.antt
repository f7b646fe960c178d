use Rattle.slate_queue.proofs.ClaimReads.{claims_meet_no_add, claims_read}
use Rattle.slate_queue.proofs.laws.claims.Goals as goal

pub returns : goal.returns
returns c = record { reads = claims_read; adds = claims_meet_no_add }
