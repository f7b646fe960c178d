use Rattle.std.proofs.Common.{◌≡◌, ℕ, List, Option, None, ap, sym, subst, ◌∙◌}
use Rattle.slate_txn.specs.State.{Commit}
use Rattle.slate_txn.specs.Named.{find_named}
use Rattle.slate_txn.specs.Managers.{Manager, StandsFor, conflict_among, verdict, verdict_of}
use Rattle.slate_txn.specs.ManagersView.{view_of, IsTidy}
use Rattle.slate_txn.proofs.NamedLaws.{find_is}
use Rattle.slate_txn.proofs.Standing.{verdict_is}
use Rattle.slate_txn.proofs.transaction_manager.TransactionManager.check_has_conflict.Goals as goal

-- from the verdict on what is kept to that on all commits
all : (m n : Manager) (id : List ℕ) (o : Option ℕ) → m ≡ n → IsTidy m → o ≡ verdict m id → (cs : List Commit) → StandsFor n cs → o ≡ conflict_among cs (find_named id n.active)
all m n id o same tidy is cs h =
    is ∙ verdict_is m id cs tidy (subst (λ (v : Manager). StandsFor v cs) (sym same) h) ∙ ap (λ (v : Manager). conflict_among cs (find_named id v.active)) same

some : (c : goal.After-conflict) → c.conflict.result ≡ verdict (view_of c.self.inside) c.args.id.now
some c = c.conflict.ensures ∙ ap (verdict_of c.self.inside.recent_writes.entries) (c.in-Some.ensures.value ∙ find_is c.args.id.now c.self.inside.active_txns.entries)

none : (c : goal.In-None) → None ≡ verdict (view_of c.self.inside) c.args.id.now
none c = ap (verdict_of c.self.inside.recent_writes.entries) (c.in-None.ensures.value ∙ find_is c.args.id.now c.self.inside.active_txns.entries)

pub returns-in-Some-clause-whole : goal.returns-in-Some-clause-whole
returns-in-Some-clause-whole c = all (view_of c.self.inside) c.args.self.now c.args.id.now c.conflict.result c.self.view_is c.self.invariant (some c)

pub returns-in-Some-clause-verdict : goal.returns-in-Some-clause-verdict
returns-in-Some-clause-verdict c = some c ∙ ap (λ (m : Manager). verdict m c.args.id.now) c.self.view_is

pub returns-in-None-clause-whole : goal.returns-in-None-clause-whole
returns-in-None-clause-whole c = all (view_of c.self.inside) c.args.self.now c.args.id.now None c.self.view_is c.self.invariant (none c)

pub returns-in-None-clause-verdict : goal.returns-in-None-clause-verdict
returns-in-None-clause-verdict c = none c ∙ ap (λ (m : Manager). verdict m c.args.id.now) c.self.view_is
