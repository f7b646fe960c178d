use Rattle.std.proofs.Common.{◌≡◌}
use Rattle.slate_txn.specs.Managers.{least_seq}
use Rattle.slate_txn.proofs.SnapshotLaws.{joined}
use Rattle.slate_txn.proofs.snapshot_manager.least.Given as goal

abbrev pub invariant-loop-seq : goal.invariant-loop-seq
invariant-loop-seq l = joined l.least (least_seq l.seq-iterator) ≡ least_seq l.active.entries
