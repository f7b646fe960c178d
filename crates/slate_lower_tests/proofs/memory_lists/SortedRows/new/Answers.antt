use Rattle.std.proofs.Common.{sym, subst}
use Rattle.std.specs.List.Sorted.{IsStrictlySortedBy}
use Rattle.slate_lower_tests.specs.SortedRows.{Rises}
use Rattle.slate_lower_tests.proofs.memory_lists.SortedRows.new.Goals as goal

pub invariant_of-result : goal.invariant_of-result
unfolding IsStrictlySortedBy
invariant_of-result c = subst Rises (sym c.new.ensures.items) tt
