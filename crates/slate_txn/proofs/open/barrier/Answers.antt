use Rattle.std.proofs.Common.{◌∙◌}
use Rattle.slate_txn.proofs.BeginLaws.{least_first}
use Rattle.slate_txn.proofs.open.barrier.Goals as goal

pub returns-in-Some : goal.returns-in-Some
returns-in-Some c = c.begin.ensures ∙ least_first c.args.newest c.args.items.now.entries _ c.in-Some.ensures.first c.requires.rise c.requires.within
