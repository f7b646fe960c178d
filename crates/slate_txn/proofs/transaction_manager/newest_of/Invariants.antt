use Rattle.std.proofs.Common.{◌≡◌, true}
use Rattle.slate_txn.specs.Managers.{newest_kept, later}
use Rattle.slate_txn.proofs.transaction_manager.newest_of.Given as goal

abbrev pub invariant-loop-seq : goal.invariant-loop-seq
invariant-loop-seq l = later l.newest (newest_kept (λ _. true) l.start l.seq-iterator) ≡ newest_kept (λ _. true) l.start l.fn.entries
