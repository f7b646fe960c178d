use Rattle.std.proofs.Common.{◌*◌, length}
use Rattle.slate_filter.specs.Bloom.{is_set}
use Rattle.slate_filter.proofs.ProbeLaws.{any_more}
use Rattle.slate_filter.proofs.probes.set_probes.Goals as goal

pub loop-i-preserved : goal.loop-i-preserved
loop-i-preserved c = record {
  probe = c.next_probe-probe.ensures.below;
  step = c.next_step-step.ensures.below;
  rest = λ b. any_more (is_set c.loop-i.bits b) _ b c.args.count c.loop-i.i (8 * length c.args.bits.now) c.loop-i.probe c.loop-i.step _ _ _ c.loop-i-test.true (c.loop-i.invariant.rest b) (c.set_bit.ensures b) c.next_step-step.ensures.value c.next_probe-probe.ensures.value;
}
