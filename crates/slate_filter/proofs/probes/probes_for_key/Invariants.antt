use Rattle.std.proofs.Common.{◌≡◌, ◌+◌, ◌-◌, ◌<◌, ◌≤◌, ◌++◌, vec_len, vec_capacity}
use Rattle.slate_filter.specs.Bloom.{probes, probes_from}
use Rattle.slate_filter.proofs.probes.probes_for_key.Given as goal

abbrev pub invariant-loop-i : goal.invariant-loop-i
invariant-loop-i l = record {
  probe : l.probe < l.bits;
  step : l.step < l.bits;
  room : vec_len l.found + (l.count - l.i) ≤ vec_capacity l.found;
  whole : l.found.items ++ probes_from (l.count - l.i) l.i l.bits l.probe l.step ≡ probes l.hash l.count l.bits;
}
