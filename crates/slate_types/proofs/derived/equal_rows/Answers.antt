use Rattle.slate_types.specs.Equality.{rows_decide}
use Rattle.slate_types.proofs.derived.equal_rows.Goals as goal

pub returns : goal.returns
returns c = rw c.eq.ensures (rows_decide c.args.a.now c.args.b.now)
