use Rattle.std.proofs.Common.{ℕ, ◌<◌, List, sym, subst}
use Rattle.slate_txn.specs.Managers.{Manager, StandsFor}
use Rattle.slate_txn.specs.ManagersView.{view_of}
use Rattle.slate_txn.proofs.Committing.{IsBatchKept, stands_batch}
use Rattle.slate_txn.proofs.transaction_manager.TransactionManager.track_recent_committed_write_batch.Goals as goal

pub returns-clause-stands : goal.returns-clause-stands
returns-clause-stands c cs d is-it h =
    let below : c.self.inside.last_seq < c.args.seq = subst (λ (m : Manager). m.last < c.args.seq) (sym c.self.view_is) c.requires in
    stands_batch (view_of c.self.inside) c.args.keys.items c.args.seq c.keep_batch-kept.new.kept.entries c.self.invariant below
    (subst (λ (ks : List (List ℕ)). IsBatchKept (view_of c.self.inside) ks c.args.seq c.keep_batch-kept.new.kept.entries) c.as_slice.ensures.value c.in_ok-kept.ensures.found)
    cs d is-it (subst (λ (m : Manager). StandsFor m cs) (sym c.self.view_is) h)
