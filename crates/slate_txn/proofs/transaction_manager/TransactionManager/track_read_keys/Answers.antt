use Rattle.std.proofs.Common.{◌++◌, refl, sym, subst}
use Rattle.slate_txn.specs.Managers.{Active, Manager, StandsFor}
use Rattle.slate_txn.specs.ManagersView.{view_of}
use Rattle.slate_txn.proofs.Committing.{tidy_updated, stands_updated}
use Rattle.slate_txn.proofs.transaction_manager.TransactionManager.track_read_keys.Goals as goal

pub invariant_of-self : goal.invariant_of-self
invariant_of-self c =
    tidy_updated (λ (t : Active). record t { reads = t.reads ++ c.args.keys.items }) (λ t. refl) (view_of c.self.inside) c.args.id.now c.add_reads.new.active.entries c.add_reads.result c.add_reads.ensures.ok c.add_reads.ensures.err c.self.invariant

pub returns-clause-stands : goal.returns-clause-stands
returns-clause-stands c cs h =
    stands_updated (λ (t : Active). record t { reads = t.reads ++ c.args.keys.items }) (λ t. refl) (view_of c.self.inside) c.args.id.now c.add_reads.new.active.entries c.add_reads.result c.add_reads.ensures.ok c.add_reads.ensures.err cs
    (subst (λ (m : Manager). StandsFor m cs) (sym c.self.view_is) h)
