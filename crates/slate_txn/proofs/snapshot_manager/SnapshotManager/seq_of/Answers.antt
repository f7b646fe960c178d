use Rattle.std.proofs.Common.{ap, ◌∙◌}
use Rattle.slate_txn.specs.Named.{find_named}
use Rattle.slate_txn.specs.Managers.{Snapshots}
use Rattle.slate_txn.proofs.NamedLaws.{find_is}
use Rattle.slate_txn.proofs.snapshot_manager.SnapshotManager.seq_of.Goals as goal

pub returns : goal.returns
returns c =
    c.copied.ensures ∙ c.get.ensures.value ∙ find_is c.args.id.now c.self.inside.active_snapshots.entries
    ∙ ap (λ (m : Snapshots). find_named c.args.id.now m.active) c.self.view_is
