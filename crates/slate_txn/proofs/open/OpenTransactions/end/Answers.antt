use Rattle.std.proofs.Common.{ap, ◌∙◌, subst, sym}
use Rattle.slate_txn.specs.Named.{without}
use Rattle.slate_txn.specs.Open.{Transactions, BeginsRise}
use Rattle.slate_txn.proofs.BeginLaws.{rise_without}
use Rattle.slate_txn.proofs.open.OpenTransactions.end.Goals as goal

pub invariant_of-self : goal.invariant_of-self
invariant_of-self c = subst BeginsRise (sym c.take_out.ensures) (rise_without c.args.id.now c.self.inside.by_id.entries c.self.invariant)

pub returns : goal.returns
returns c = c.take_out.ensures ∙ ap (λ (ps : Transactions). without c.args.id.now ps) c.self.view_is
