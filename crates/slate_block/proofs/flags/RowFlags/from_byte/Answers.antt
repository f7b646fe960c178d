use Rattle.std.proofs.Common.{◌∙◌, refl, sym, ap, not, eqb, bit_and}
use Rattle.std.proofs.lemmas.Bool.{false≢true}
use Rattle.bitflags.proofs.OnLiterals.{bitflags_on_literals}
use Rattle.slate_block.proofs.FlagLaws.{known_flags, other_bits}
use Rattle.slate_block.proofs.flags.RowFlags.from_byte.Goals as goal

pub returns-in_err-flags-clause-none : goal.returns-in_err-flags-clause-none
unfolding bitflags_on_literals
returns-in_err-flags-clause-none c = rw c.from_residual.ensures (other_bits c.args.byte (λ h. false≢true ((c.in_err-flags.ensures.known tt).1 h)))

pub returns-then-contains-clause-none : goal.returns-then-contains-clause-none
unfolding bitflags_on_literals
returns-then-contains-clause-none c =
    let whole = c.in_ok-flags.ensures in
    let known = (whole.known tt).0 refl in
    known_flags c.args.byte known ∙ ap not (ap (λ b. eqb (bit_and b 9) 9) (sym (whole.value tt)) ∙ sym (c.contains.ensures tt) ∙ c.if-contains.true)

pub returns-clause-flags : goal.returns-clause-flags
unfolding bitflags_on_literals
returns-clause-flags c =
    let whole = c.in_ok-flags.ensures in
    let known = (whole.known tt).0 refl in
    (whole.value tt, known_flags c.args.byte known ∙ ap not (ap (λ b. eqb (bit_and b 9) 9) (sym (whole.value tt)) ∙ sym (c.contains.ensures tt) ∙ c.if-contains.false))
