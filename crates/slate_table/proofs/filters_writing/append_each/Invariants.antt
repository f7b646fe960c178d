use Rattle.std.proofs.Common.{◌≡◌, ◌++◌, take}
use Rattle.std.specs.List.{flat_map, AllByRecursion}
use Rattle.slate_filter.specs.Named.{named_pair}
use Rattle.slate_table.specs.Parts.{filter_bytes}
use Rattle.slate_table.specs.Table.{FitsFilter}
use Rattle.slate_table.proofs.filters_writing.append_each.Given as goal

abbrev pub invariant-loop-filter : goal.invariant-loop-filter
invariant-loop-filter l = record {
  appended : l.out.items ≡ l.fn.out.items ++ flat_map (λ f. filter_bytes (named_pair f)) (take l.filter-index l.filters);
  fit : AllByRecursion (λ f. FitsFilter (named_pair f)) (take l.filter-index l.filters);
}
