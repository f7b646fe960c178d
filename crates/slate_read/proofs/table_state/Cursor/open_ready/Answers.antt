use Rattle.std.proofs.lemmas.Result.{err_from_is_err_and}
use Rattle.slate_read.proofs.Cursors.{front_fails}
use Rattle.slate_read.proofs.table_state.Cursor.open_ready.Goals as goal

pub returns-in_err-rows-in-Some-clause-cause : goal.returns-in_err-rows-in-Some-clause-cause
returns-in_err-rows-in-Some-clause-cause c =
    let p = err_from_is_err_and c.from_residual.result c.from_residual.ensures.1 in
    let e = c.in_err-rows-in-Some.ensures in
    let is = c.in-Some.ensures.ready in
    rw (p.1, p.2) (front_fails c.args.table.now.format_version c.args.order c.args.self.now.ready.items _ c.in-Some.block _ is e.bytes e.cause)
