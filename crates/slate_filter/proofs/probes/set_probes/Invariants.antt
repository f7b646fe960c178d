use Rattle.std.proofs.Common.{◌≡◌, ℕ, ◌-◌, ◌<◌, eqb, ◌||◌}
use Rattle.std.specs.List.{list_any}
use Rattle.slate_filter.specs.Bloom.{is_set, probes, probes_from}
use Rattle.slate_filter.proofs.probes.set_probes.Given as goal

abbrev pub invariant-loop-i : goal.invariant-loop-i
invariant-loop-i l = record {
  probe : l.probe < l.len;
  step : l.step < l.len;
  rest : (b : ℕ) → (is_set l.bits b || list_any (λ p. eqb p b) (probes_from (l.count - l.i) l.i l.len l.probe l.step))
      ≡ (is_set l.initial.bits b || list_any (λ p. eqb p b) (probes l.hash l.count l.len));
}
