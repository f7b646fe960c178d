use Rattle.slate_connection.specs.Connected.{StaysIn}
use Rattle.bank.proofs.bank.put_accounts.Given as goal

abbrev pub invariant-loop-account : goal.invariant-loop-account
invariant-loop-account g l = StaysIn g.D.Transact.terms g.D.Transact.seen l.fn.txn.db l.txn.db
