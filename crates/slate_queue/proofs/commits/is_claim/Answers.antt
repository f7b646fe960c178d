use Rattle.std.proofs.Common.{◌≡◌, subst, to_z-of_z}
use Rattle.slate_queue.specs.Forms.{claims_all}
use Rattle.slate_queue.proofs.ClaimWalk.{claim_test}
use Rattle.slate_queue.proofs.commits.is_claim.Goals as goal

pub returns-in-Some : goal.returns-in-Some
returns-in-Some c =
    claim_test c.args.now c.args.ops.now c.args.tracked.now c.args.steps.now c.in-Some.scan.now c.in-Some.passed.now c.in-Some.last.now c.in-Some.own.now c.claims_all.result c.in-Some.ensures.some c.ranges.now
    (subst (λ z. c.claims_all.result ≡ claims_all z c.in-Some.scan.now c.in-Some.passed.now c.in-Some.last.now c.in-Some.own.now c.args.ops.now c.args.tracked.now) (to_z-of_z c.ranges.now) c.claims_all.ensures.test)
    c.claims_all.ensures.bytes
