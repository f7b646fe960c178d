use Rattle.slate_steps.proofs.Ending.{rolled_back}
use Rattle.slate_steps.proofs.transaction.rollback.Goals as goal

pub returns : goal.returns
returns c = record {
  ended = λ d level ts h. rolled_back d c.args.core.now c.args.id.now level ts h c.rollback.new.self c.rollback.ensures.step c.rollback.ensures.event c.rollback.ensures.kept;
}
