use Rattle.std.proofs.lemmas.Result.{IfOk-from_err}
use Rattle.slate_types.proofs.bytes_range.BytesRange.from_prefix_and_subrange.Goals as goal

pub returns-in_err-start-clause-range : goal.returns-in_err-start-clause-range
returns-in_err-start-clause-range g c = IfOk-from_err c.from_residual.result _ c.from_residual.ensures.0
