use Rattle.std.proofs.Common.{List, ℕ, ◌-◌, ◌+◌, ◌++◌, ap, ◌∙◌, arith}
use Rattle.slate_filter.specs.Bloom.{probes_from}
use Rattle.slate_filter.proofs.ProbeLaws.{list_more}
use Rattle.slate_filter.proofs.probes.probes_for_key.Goals as goal

pub loop-i-preserved : goal.loop-i-preserved
loop-i-preserved c = record {
  probe = c.next_probe-probe.ensures.below;
  step = c.next_step-step.ensures.below;
  room = omega arith;
  whole = ap (λ (l : List ℕ). l ++ probes_from (c.args.count - (c.loop-i.i + 1)) (c.loop-i.i + 1) c.args.bits c.next_probe-probe.result c.next_step-step.result) c.push_reserved.ensures.items
      ∙ list_more c.loop-i.found.items c.args.count c.loop-i.i c.args.bits c.loop-i.probe c.loop-i.step _ _ _ c.loop-i-test.true c.loop-i.invariant.whole c.next_step-step.ensures.value c.next_probe-probe.ensures.value;
}
