use Rattle.std.proofs.Common.{◌*◌, ◌<◌, length, sym, ◌∙◌, arith}
use Rattle.slate_filter.specs.Bloom.{is_set}
use Rattle.slate_filter.proofs.ProbeLaws.{all_stop, all_more, all_done, held_of}
use Rattle.slate_filter.proofs.probes.is_held.Goals as goal

pub returns-then-not-check_bit : goal.returns-then-not-check_bit
returns-then-not-check_bit c = let some : 0 < length c.args.bits.now = omega arith in
    all_stop (λ b. is_set c.args.bits.now b) c.args.count c.loop-i.i (8 * length c.args.bits.now) c.loop-i.probe c.loop-i.step _ c.loop-i-test.true c.loop-i.invariant.rest (sym c.check_bit.ensures ∙ c.if-not-check_bit.true)
    ∙ held_of c.args.count c.args.bits.now c.args.string.now _ some c.filter_hash-hash.ensures

pub loop-i-preserved : goal.loop-i-preserved
loop-i-preserved c = record {
  probe = c.next_probe-probe.ensures.below;
  step = c.next_step-step.ensures.below;
  rest = all_more (λ b. is_set c.args.bits.now b) c.args.count c.loop-i.i (8 * length c.args.bits.now) c.loop-i.probe c.loop-i.step _ _ _ c.loop-i-test.true c.loop-i.invariant.rest
      (sym c.check_bit.ensures ∙ c.if-not-check_bit.false) c.next_step-step.ensures.value c.next_probe-probe.ensures.value;
}

pub returns : goal.returns
returns c = let some : 0 < length c.args.bits.now = omega arith in
    all_done (λ b. is_set c.args.bits.now b) c.args.count c.loop-i.i (8 * length c.args.bits.now) c.loop-i.probe c.loop-i.step _ c.loop-i-test.false c.loop-i.invariant.rest
    ∙ held_of c.args.count c.args.bits.now c.args.string.now _ some c.filter_hash-hash.ensures
