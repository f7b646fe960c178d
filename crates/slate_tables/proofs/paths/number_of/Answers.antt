use Rattle.std.proofs.Common.{◌≡◌, ◌<◌, ◌+◌, ◌*◌, ◌^◌, arith}
use Rattle.std.proofs.lemmas.Bool.{false≢true}
use Rattle.slate_tables.proofs.HexLaws.{a_digit, sofar_fits, sofar_more}
use Rattle.slate_tables.proofs.paths.number_of.Goals as goal

pub overflow_mul-number : goal.overflow_mul-number
overflow_mul-number c = omega (arith, sofar_fits c.args.digits.now c.loop-digit.digit-index c.loop-digit.number 0 (omega arith) (omega arith) c.loop-digit.invariant)

pub overflow_add-number : goal.overflow_add-number
overflow_add-number c =
    let few = c.in_ok-digit_value.ensures.below in
    omega (arith, c.from.ensures, sofar_fits c.args.digits.now c.loop-digit.digit-index c.loop-digit.number c.in_ok-digit_value.field-0 (omega arith) few c.loop-digit.invariant)

pub returns-in_err-digit_value-clause-only : goal.returns-in_err-digit_value-clause-only
returns-in_err-digit_value-clause-only c = λ n small is.
    (let d = a_digit c.args.digits.now n c.loop-digit.digit-index is (omega arith) in
    absurd (false≢true (c.in_err-digit_value.ensures.only d.0 d.1 d.2)))

pub loop-digit-preserved : goal.loop-digit-preserved
loop-digit-preserved c =
    rw c.from.ensures (sofar_more c.args.digits.now c.loop-digit.digit-index c.loop-digit.number c.in_ok-digit_value.field-0 (omega arith) c.in_ok-digit_value.ensures.found c.in_ok-digit_value.ensures.below c.loop-digit.invariant)
