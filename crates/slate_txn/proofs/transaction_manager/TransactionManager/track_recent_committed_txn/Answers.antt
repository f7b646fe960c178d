use Rattle.std.proofs.Common.{◌<◌, sym, subst}
use Rattle.slate_txn.specs.Named.{find_named, without}
use Rattle.slate_txn.specs.Managers.{Manager, StandsFor, IsCommitOf, with_commit, writes_at}
use Rattle.slate_txn.specs.ManagersView.{view_of}
use Rattle.slate_txn.proofs.Committing.{stands_committed}
use Rattle.slate_txn.proofs.transaction_manager.TransactionManager.track_recent_committed_txn.Goals as goal

pub returns-clause-stands : goal.returns-clause-stands
returns-clause-stands c cs d is-it h =
    let m = view_of c.self.inside in
    let same = sym c.self.view_is in
    let below : c.self.inside.last_seq < c.args.seq = subst (λ (n : Manager). n.last < c.args.seq) same c.requires in
    let is = c.drop_txn.ensures.dropped in
    let all = stands_committed m c.args.id.now c.args.seq c.keep_own.new.kept.entries c.drop_txn.new.self.kept c.self.invariant below c.in_ok-keep_own.ensures.found
    (λ es g. subst (λ (n : Manager). StandsFor n es) is (c.drop_txn.ensures.stands es g)) cs d
    (subst (λ (n : Manager). IsCommitOf c.args.seq (writes_at (find_named c.args.id.now n.active)) d) same is-it)
    (subst (λ (n : Manager). StandsFor n cs) same h) in
    subst (λ (n : Manager). StandsFor n (with_commit cs d (find_named c.args.id.now c.args.self.now.active))) (sym is)
    (subst (λ (n : Manager). StandsFor (record m { last = c.args.seq; active = without c.args.id.now m.active; kept = c.drop_txn.new.self.kept }) (with_commit cs d (find_named c.args.id.now n.active))) c.self.view_is all)
