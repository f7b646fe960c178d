-- How contracts see a manager of snapshots, and what is true of each.
use Rattle.std.specs.Prelude.{◌+◌, ◌^◌}
use Rattle.std.specs.List.{AllByRecursion}
use Rattle.slate_txn.specs.declared.snapshot_manager.SnapshotManager.TheInside.{Inside}
use Rattle.slate_txn.specs.Ids.{IsOfCount}
use Rattle.slate_txn.specs.Managers.{Snapshots}

abbrev pub view_of : Inside → Snapshots
view_of s = record { last = s.last_seq; ids = s.ids; active = s.active_snapshots.entries }

-- ids are those of its count, with the highest bit set
abbrev pub AreCounted : Inside → Type 0
AreCounted s = AllByRecursion (λ p. IsOfCount (2 ^ 127 + s.ids) p.0) s.active_snapshots.entries
