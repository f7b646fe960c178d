use Rattle.std.proofs.Common.{◌≡◌}
use Rattle.bank.proofs.service.store_all.Given as goal

abbrev pub invariant-loop-n : goal.invariant-loop-n
invariant-loop-n g l = l.db.pass.table ≡ l.fn.db.pass.table
