use Rattle.std.proofs.Common.{◌∙◌}
use Rattle.slate_txn.proofs.NamedLaws.{find_is, without_is}
use Rattle.slate_txn.proofs.open.taken.Goals as goal

pub returns : goal.returns
returns c = record {
  taken = c.remove.ensures.value ∙ find_is c.args.id.now c.args.items.now.entries;
  left = c.remove.ensures.entries ∙ without_is c.args.id.now c.args.items.now.entries;
}
