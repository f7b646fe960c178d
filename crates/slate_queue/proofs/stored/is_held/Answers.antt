use Rattle.std.proofs.Common.{◌≡◌, subst, to_z-of_z}
use Rattle.slate_queue.specs.Stored.{job_of}
use Rattle.slate_queue.specs.Forms.{frees}
use Rattle.slate_queue.proofs.FormLaws.{held_as}
use Rattle.slate_queue.proofs.stored.is_held.Goals as goal

pub returns-in-Some : goal.returns-in-Some
returns-in-Some c =
    held_as c.args.now (job_of c.args.job.now) c.in-Some.lease c.is_free.result c.in-Some.ensures.lease
    (subst (λ z. c.is_free.result ≡ frees z c.in-Some.lease) (to_z-of_z c.ranges.now) c.is_free.ensures)
