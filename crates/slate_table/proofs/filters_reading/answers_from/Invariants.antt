use Rattle.std.proofs.Common.{◌≡◌, ◌≤◌, ◌-◌, true, Some, length, map}
use Rattle.slate_table.specs.FiltersReading.{filters_from, filters_say_from}
use Rattle.slate_table.proofs.filters_reading.answers_from.Given as goal

-- what all filters answer is what those still to be read answer behind the answer so far
abbrev pub invariant-loop : goal.invariant-loop
invariant-loop g l =
    let policies = map (λ p. (goal.FilterPolicy-dyn g (p.vtable, p.value)).meaning p.value) l.policies in
    record {
      within : l.at ≤ length l.bytes;
      read : filters_say_from policies l.query l.answer (filters_from (l.count - l.counter) l.bytes l.at) ≡ filters_say_from policies l.query (Some true) (filters_from l.count l.bytes l.at-2);
    }
