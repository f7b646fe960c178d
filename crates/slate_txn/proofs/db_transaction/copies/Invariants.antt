use Rattle.std.proofs.Common.{◌≡◌, take}
use Rattle.slate_txn.proofs.db_transaction.copies.Given as goal

abbrev pub invariant-loop-key : goal.invariant-loop-key
invariant-loop-key l = l.same.items ≡ take l.key-index l.keys
