use Rattle.std.proofs.Common.{◌<◌, arith}
use Rattle.slate_index.proofs.Refusing.{first_field}
use Rattle.slate_index.proofs.refusals.test_fields.Goals as goal

pub returns-in-Err-clause-cause : goal.returns-in-Err-clause-cause
returns-in-Err-clause-cause g c =
    let fs = g.F.Fields.model c.args.fields.now in
    let below : c.loop-number.number < fs.count = omega (arith, c.loop-number-test.true, c.count-number-end.ensures) in
    first_field fs c.args.value.now c.loop-number.number c.in-Err.error c.loop-number.invariant below c.in-Err.ensures.cause
