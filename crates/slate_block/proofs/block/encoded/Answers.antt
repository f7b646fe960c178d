use Rattle.std.proofs.Common.{refl, ℕ, List, ap, arith, length}
use Rattle.std.proofs.lemmas.Result.{IfOk-from_err, err_from_is_err_and}
use Rattle.slate_block.proofs.Failing.{out_of_memory}
use Rattle.slate_block.proofs.block.encoded.Goals as goal

pub returns-clause-cause : goal.returns-clause-cause
returns-clause-cause c = out_of_memory c.from_vec.result c.map_err.result _ c.map_err.ensures.cases refl

pub returns-in_err-out : goal.returns-in_err-out
returns-in_err-out c =
    let p = err_from_is_err_and c.from_residual.result c.from_residual.ensures.1 in
    record { spelling = IfOk-from_err c.from_residual.result _ c.from_residual.ensures.0; cause = rw (p.1, p.2) refl }

pub put-requires-2 : goal.put-requires-2
put-requires-2 c = omega (arith, c.loop-offset.invariant.room, ap (λ (l : List ℕ). length l) c.to_be_bytes-2.ensures)
