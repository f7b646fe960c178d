use Rattle.std.proofs.Common.{ℕ, List, ◌+◌, ◌-◌, ◌^◌, ap, sym, subst, ◌∙◌}
use Rattle.std.specs.List.{AllByRecursion}
use Rattle.slate_types.proofs.Lists.{AllByRecursion_weaken}
use Rattle.slate_txn.specs.Ids.{IsOfCount, IsSnapshotOf}
use Rattle.slate_txn.specs.Named.{without}
use Rattle.slate_txn.specs.Managers.{Snapshots}
use Rattle.slate_txn.proofs.IdLaws.{of_snapshot}
use Rattle.slate_txn.proofs.NamedLaws.{without_is}
use Rattle.slate_txn.proofs.snapshot_manager.SnapshotManager.take_back.Goals as goal

pub invariant_of-self : goal.invariant_of-self
invariant_of-self c =
    subst (λ (ps : List (List ℕ × ℕ)). AllByRecursion (λ p. IsOfCount (2 ^ 127 + (c.self.inside.ids - 1)) p.0) ps)
    (sym (c.remove.ensures.entries ∙ without_is c.args.id.now c.self.inside.active_snapshots.entries))
    (AllByRecursion_weaken _ _ (λ p o. of_snapshot (c.self.inside.ids - 1) p.0 o) (without c.args.id.now c.self.inside.active_snapshots.entries)
    (subst (λ (m : Snapshots). AllByRecursion (λ p. IsSnapshotOf (m.ids - 1) p.0) (without c.args.id.now m.active)) (sym c.self.view_is) c.requires.newest))

pub returns : goal.returns
returns c =
    (let gone = c.remove.ensures.entries ∙ without_is c.args.id.now c.self.inside.active_snapshots.entries in
    λ i. record { last = c.self.inside.last_seq; ids = c.self.inside.ids - 1; active = gone i })
    ∙ ap (λ (m : Snapshots). record m { ids = m.ids - 1; active = without c.args.id.now m.active }) c.self.view_is
