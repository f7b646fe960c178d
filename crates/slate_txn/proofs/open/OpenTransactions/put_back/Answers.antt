use Rattle.std.proofs.Common.{sym, subst, ap, ◌∙◌}
use Rattle.std.specs.Prelude.{option_map}
use Rattle.slate_txn.specs.Named.{find_named, update_named}
use Rattle.slate_txn.specs.Open.{Transactions, BeginsRise}
use Rattle.slate_txn.specs.State.{Tx}
use Rattle.slate_txn.proofs.BeginLaws.{rise_put}
use Rattle.slate_txn.proofs.open.OpenTransactions.put_back.Goals as goal

pub invariant_of-self : goal.invariant_of-self
invariant_of-self c =
    let id = c.args.id.now in
    subst BeginsRise (sym c.put_over.ensures) (rise_put id c.args.own c.self.inside.by_id.entries (ap (λ (ps : Transactions). option_map (λ (t : Tx). t.begin) (find_named id ps)) c.self.view_is ∙ c.requires) c.self.invariant)

pub returns : goal.returns
returns c = c.put_over.ensures ∙ ap (λ (ps : Transactions). update_named c.args.id.now (λ (_ : Tx). c.args.own) ps) c.self.view_is
