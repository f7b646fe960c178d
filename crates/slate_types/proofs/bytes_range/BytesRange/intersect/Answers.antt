use Rattle.std.proofs.Common.{◌∙◌, refl}
use Rattle.std.proofs.lemmas.Result.{err_from_is_err_and, IfOk-from_err}
use Rattle.slate_types.specs.Keys.{range_of}
use Rattle.slate_types.proofs.bytes_range.BytesRange.intersect.Goals as goal

pub returns-in_err-start-clause-range : goal.returns-in_err-start-clause-range
returns-in_err-start-clause-range c = IfOk-from_err c.from_residual.result _ c.from_residual.ensures.0

pub returns-in_err-start-clause-memory : goal.returns-in_err-start-clause-memory
returns-in_err-start-clause-memory c =
    let p = err_from_is_err_and c.from_residual.result c.from_residual.ensures.1 in
    rw p.1 p.2

pub returns-in-Ok-clause-range : goal.returns-in-Ok-clause-range
returns-in-Ok-clause-range c = c.try_new.ensures ∙ (λ i. range_of (c.in_ok-start.ensures.start refl i) (c.in-Ok.ensures.end refl i))

pub returns-in-Err-clause-memory : goal.returns-in-Err-clause-memory
returns-in-Err-clause-memory c = c.into.ensures
