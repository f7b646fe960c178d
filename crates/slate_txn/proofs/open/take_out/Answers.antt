use Rattle.std.proofs.Common.{◌∙◌}
use Rattle.slate_txn.proofs.NamedLaws.{without_is}
use Rattle.slate_txn.proofs.open.take_out.Goals as goal

pub returns : goal.returns
returns c = c.remove.ensures.entries ∙ without_is c.args.id.now c.args.items.now.entries
