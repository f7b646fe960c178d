use Rattle.slate_steps.proofs.Taking.{within_begun}
use Rattle.slate_steps.proofs.transaction.begin.Goals as goal

pub returns-clause-within : goal.returns-clause-within
returns-clause-within c =
    within_begun c.args.core.now c.begin.new.self c.in_ok-id.id c.args.level c.in_ok-id._begin c.journal.ensures.legal c.journal.ensures.replays c.in_ok-id.ensures.fresh c.in_ok-id.ensures.step c.in_ok-id.ensures.event c.in_ok-id.ensures.kept
