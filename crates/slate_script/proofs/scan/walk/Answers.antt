use Rattle.std.proofs.lemmas.Result.{err_from_is_err_and}
use Rattle.slate_script.proofs.scan.walk.Goals as goal

pub returns-in_err-take-clause-still : goal.returns-in_err-take-clause-still
returns-in_err-take-clause-still g c =
    let p = err_from_is_err_and c.from_residual.result c.from_residual.ensures.1 in
    rw (p.1, p.2) c.in_err-take.ensures.still

pub returns-clause-still : goal.returns-clause-still
returns-clause-still g c = c.in_ok-take.ensures.still
