use Rattle.std.proofs.Common.{◌≡◌, ℕ, List, Option, ap, sym, subst, ◌∙◌}
use Rattle.slate_txn.specs.Named.{without}
use Rattle.slate_txn.specs.Managers.{Manager, StandsFor, least_start, verdict}
use Rattle.slate_txn.specs.ManagersView.{view_of, IsTidy, StartsRise}
use Rattle.slate_txn.proofs.NamedLaws.{without_is}
use Rattle.slate_txn.proofs.Keeps.{Entries}
use Rattle.slate_txn.proofs.Standing.{IsPruned, rise_without, tidy_dropped, kept_dropped, stands_dropped, verdict_dropped}
use Rattle.slate_txn.proofs.transaction_manager.TransactionManager.drop_txn.Goals as goal

gone : (c : goal.After-prune) → c.remove.new.self.entries ≡ without c.args.id.now c.self.inside.active_txns.entries
gone c = c.remove.ensures.entries ∙ without_is c.args.id.now c.self.inside.active_txns.entries

pub least-start-requires : goal.least-start-requires
least-start-requires c = subst StartsRise (sym (c.remove.ensures.entries ∙ without_is c.args.id.now c.self.inside.active_txns.entries)) (rise_without c.args.id.now c.self.inside.active_txns.entries c.self.invariant.rise)

-- what is kept
how : (c : goal.After-prune) → IsPruned c.least-before.result (least_start (without c.args.id.now c.self.inside.active_txns.entries)) c.self.inside.recent_writes.entries c.prune.new.kept.entries
how c =
    subst (λ (s : Option ℕ). IsPruned c.least-before.result s c.self.inside.recent_writes.entries c.prune.new.kept.entries) (c.least-start.ensures ∙ ap least_start (gone c)) c.prune.ensures

abbrev after : Manager → List ℕ → Entries → Manager
after m id fs = record m { active = without id m.active; kept = fs }

becomes : (c : goal.After-prune) → after (view_of c.self.inside) c.args.id.now c.prune.new.kept.entries ≡ view_of (record c.self.inside { active_txns = c.remove.new.self; recent_writes = c.prune.new.kept })
becomes c = let back = sym (gone c) in λ i. record (view_of c.self.inside) { active = back i; kept = c.prune.new.kept.entries }

pub invariant_of-self : goal.invariant_of-self
invariant_of-self c =
    subst IsTidy (becomes c) (tidy_dropped (view_of c.self.inside) c.args.id.now c.prune.new.kept.entries c.self.invariant
    (kept_dropped c.self.inside.last_seq c.least-before.result _ c.self.inside.recent_writes.entries c.prune.new.kept.entries (how c) c.self.invariant.kept))

pub returns-clause-dropped : goal.returns-clause-dropped
returns-clause-dropped c = sym (becomes c) ∙ ap (λ (m : Manager). after m c.args.id.now c.prune.new.kept.entries) c.self.view_is

pub returns-clause-stands : goal.returns-clause-stands
returns-clause-stands c cs h =
    subst (λ (m : Manager). StandsFor m cs) (becomes c)
    (stands_dropped (view_of c.self.inside) c.args.id.now c.least-before.result c.prune.new.kept.entries c.self.invariant (how c) cs (subst (λ (m : Manager). StandsFor m cs) (sym c.self.view_is) h))

pub returns-clause-verdicts : goal.returns-clause-verdicts
returns-clause-verdicts c other apart =
    ap (λ (m : Manager). verdict m other) (sym (becomes c))
    ∙ verdict_dropped (view_of c.self.inside) c.args.id.now c.least-before.result c.prune.new.kept.entries (how c) other apart
    ∙ ap (λ (m : Manager). verdict m other) c.self.view_is
