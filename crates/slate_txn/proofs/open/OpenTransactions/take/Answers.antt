use Rattle.std.proofs.Common.{ap, ◌∙◌, subst, sym}
use Rattle.slate_txn.specs.Named.{find_named, without}
use Rattle.slate_txn.specs.Open.{Transactions, BeginsRise}
use Rattle.slate_txn.proofs.BeginLaws.{rise_without}
use Rattle.slate_txn.proofs.open.OpenTransactions.take.Goals as goal

pub invariant_of-self : goal.invariant_of-self
invariant_of-self c = subst BeginsRise (sym c.taken.ensures.left) (rise_without c.args.id.now c.self.inside.by_id.entries c.self.invariant)

pub returns : goal.returns
returns c = record {
  taken = c.taken.ensures.taken ∙ ap (λ (ps : Transactions). find_named c.args.id.now ps) c.self.view_is;
  left = c.taken.ensures.left ∙ ap (λ (ps : Transactions). without c.args.id.now ps) c.self.view_is;
}
