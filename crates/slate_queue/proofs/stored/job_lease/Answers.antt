use Rattle.std.proofs.Common.{arith}
use Rattle.slate_queue.proofs.JobValues.{lease_read}
use Rattle.slate_queue.proofs.stored.job_lease.Goals as goal

pub returns-clause-some : goal.returns-clause-some
returns-clause-some c = lease_read c.args.job.now c.lease_in.result c.lease_in.ensures.lease (omega arith)
