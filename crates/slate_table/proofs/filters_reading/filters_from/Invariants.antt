use Rattle.std.proofs.Common.{◌≡◌, ◌≤◌, ◌-◌, length, map}
use Rattle.slate_filter.specs.Named.{named_pair}
use Rattle.slate_table.specs.FiltersReading.{filters_from}
use Rattle.slate_table.proofs.FiltersReads.{with_front}
use Rattle.slate_table.proofs.filters_reading.filters_from.Given as goal

abbrev pub invariant-loop : goal.invariant-loop
invariant-loop l = record {
  within : l.at ≤ length l.bytes;
  read : with_front (map named_pair l.filters.items) (filters_from (l.count - l.counter) l.bytes l.at) ≡ filters_from l.count l.bytes l.at-2;
}
