use Rattle.std.proofs.Common.{◌++◌, ◌∷◌, [], refl, sym, subst}
use Rattle.slate_txn.specs.Managers.{Active, Manager, StandsFor}
use Rattle.slate_txn.specs.ManagersView.{view_of}
use Rattle.slate_txn.proofs.Committing.{tidy_updated, stands_updated}
use Rattle.slate_txn.proofs.transaction_manager.TransactionManager.track_read_range.Goals as goal

pub invariant_of-self : goal.invariant_of-self
invariant_of-self c =
    tidy_updated (λ (t : Active). record t { ranges = t.ranges ++ (c.args.range ∷ []) }) (λ t. refl) (view_of c.self.inside) c.args.id.now c.add_range.new.active.entries c.add_range.result c.add_range.ensures.ok c.add_range.ensures.err c.self.invariant

pub returns-clause-stands : goal.returns-clause-stands
returns-clause-stands c cs h =
    stands_updated (λ (t : Active). record t { ranges = t.ranges ++ (c.args.range ∷ []) }) (λ t. refl) (view_of c.self.inside) c.args.id.now c.add_range.new.active.entries c.add_range.result c.add_range.ensures.ok c.add_range.ensures.err cs
    (subst (λ (m : Manager). StandsFor m cs) (sym c.self.view_is) h)
