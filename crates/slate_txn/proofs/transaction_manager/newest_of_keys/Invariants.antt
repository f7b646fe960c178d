use Rattle.std.proofs.Common.{◌≡◌, drop}
use Rattle.slate_types.specs.Keys.{among}
use Rattle.slate_txn.specs.Managers.{newest_kept, later}
use Rattle.slate_txn.proofs.transaction_manager.newest_of_keys.Given as goal

abbrev pub invariant-loop-key : goal.invariant-loop-key
invariant-loop-key l = later l.newest (newest_kept (λ k. among k (drop l.key-index l.keys)) l.start l.kept.entries) ≡ newest_kept (λ k. among k l.keys) l.start l.kept.entries
