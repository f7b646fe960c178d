use Rattle.std.proofs.Common.{ap, ◌∙◌}
use Rattle.slate_txn.specs.Named.{without}
use Rattle.slate_txn.specs.State.{begun}
use Rattle.slate_txn.proofs.NamedLaws.{without_last}
use Rattle.slate_db.proofs.put.enter.Goals as goal

pub returns-in-Err-clause-same : goal.returns-in-Err-clause-same
returns-in-Err-clause-same c = c.end.ensures ∙ ap (without c.args.id) c.in_ok-begin.ensures.ok ∙ without_last c.args.id (begun c.args.level c.args.start) c.args.transactions.now c.requires.fresh
