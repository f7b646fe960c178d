use Rattle.std.proofs.Common.{sym, subst, ◌∙◌, Decides, to_z-of_z}
use Rattle.slate_queue.specs.Commits.{IsClaim}
use Rattle.slate_queue.specs.Forms.{IsQueueWork}
use Rattle.slate_queue.proofs.AuditLaws.{does_add, does_claim, does_finish}
use Rattle.slate_queue.proofs.commits.does_one.Goals as goal

pub returns-then-is_add : goal.returns-then-is_add
returns-then-is_add c = does_add c.args.now c.args.ops.now c.args.tracked.now c.args.steps.now (sym c.is_add.ensures ∙ c.if-is_add.true)

pub returns-then-is_claim : goal.returns-then-is_claim
returns-then-is_claim c =
    let claim : Decides c.is_claim.result (IsClaim c.args.now c.args.ops.now c.args.tracked.now c.args.steps.now) = subst (λ z. Decides c.is_claim.result (IsClaim z c.args.ops.now c.args.tracked.now c.args.steps.now)) (to_z-of_z c.ranges.now) c.is_claim.ensures in
    does_claim c.args.now c.args.ops.now c.args.tracked.now c.args.steps.now (subst (λ b. Decides b (IsClaim c.args.now c.args.ops.now c.args.tracked.now c.args.steps.now)) c.if-is_claim.true claim)

pub returns : goal.returns
returns c =
    let claim : Decides c.is_claim.result (IsClaim c.args.now c.args.ops.now c.args.tracked.now c.args.steps.now) = subst (λ z. Decides c.is_claim.result (IsClaim z c.args.ops.now c.args.tracked.now c.args.steps.now)) (to_z-of_z c.ranges.now) c.is_claim.ensures in
    subst (λ b. Decides b (IsQueueWork c.args.now c.args.ops.now c.args.tracked.now c.args.steps.now)) (sym c.is_finish.ensures)
    (does_finish c.args.now c.args.ops.now c.args.tracked.now c.args.steps.now (sym c.is_add.ensures ∙ c.if-is_add.false)
    (subst (λ b. Decides b (IsClaim c.args.now c.args.ops.now c.args.tracked.now c.args.steps.now)) c.if-is_claim.false claim))
