use Rattle.std.proofs.Common.{ℕ, List, ◌+◌, ◌^◌, ap, sym, subst, ◌∙◌}
use Rattle.std.specs.List.{AllByRecursion}
use Rattle.slate_txn.specs.Ids.{IsOfCount}
use Rattle.slate_txn.specs.Named.{without}
use Rattle.slate_txn.specs.Managers.{Snapshots}
use Rattle.slate_txn.proofs.NamedLaws.{without_is, all_without}
use Rattle.slate_txn.proofs.snapshot_manager.SnapshotManager.drop_snapshot.Goals as goal

pub invariant_of-self : goal.invariant_of-self
invariant_of-self c =
    subst (λ (ps : List (List ℕ × ℕ)). AllByRecursion (λ p. IsOfCount (2 ^ 127 + c.self.inside.ids) p.0) ps)
    (sym (c.remove.ensures.entries ∙ without_is c.args.id.now c.self.inside.active_snapshots.entries))
    (all_without (λ p. IsOfCount (2 ^ 127 + c.self.inside.ids) p.0) c.args.id.now c.self.inside.active_snapshots.entries c.self.invariant)

pub returns : goal.returns
returns c =
    (let gone = c.remove.ensures.entries ∙ without_is c.args.id.now c.self.inside.active_snapshots.entries in
    λ i. record { last = c.self.inside.last_seq; ids = c.self.inside.ids; active = gone i })
    ∙ ap (λ (m : Snapshots). record m { active = without c.args.id.now m.active }) c.self.view_is
