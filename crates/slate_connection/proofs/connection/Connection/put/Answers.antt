use Rattle.slate_connection.proofs.Behind.{at_err, written_only}
use Rattle.slate_connection.proofs.connection.Connection.put.Goals as goal

pub returns-in_err-write-clause-refused : goal.returns-in_err-write-clause-refused
returns-in_err-write-clause-refused g c =
    let e = c.in_err-write.ensures in
    at_err _ c.from_residual-in_err-write.result (written_only _ _ _ _ _ _ _ _ e.same e.written)
