use Rattle.std.proofs.Common.{◌≡◌, ◌-◌, ◌<◌}
use Rattle.std.specs.List.{list_all}
use Rattle.slate_filter.specs.Bloom.{is_set, probes, probes_from}
use Rattle.slate_filter.proofs.probes.is_held.Given as goal

abbrev pub invariant-loop-i : goal.invariant-loop-i
invariant-loop-i l = record {
  probe : l.probe < l.len;
  step : l.step < l.len;
  rest : list_all (λ b. is_set l.bits b) (probes_from (l.count - l.i) l.i l.len l.probe l.step) ≡ list_all (λ b. is_set l.bits b) (probes l.hash l.count l.len);
}
