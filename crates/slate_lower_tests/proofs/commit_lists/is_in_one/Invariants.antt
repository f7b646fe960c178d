use Rattle.std.proofs.Common.{◌≡◌, drop}
use Rattle.std.specs.List.{list_any}
use Rattle.slate_types.specs.Keys.{in_range}
use Rattle.slate_lower_tests.proofs.commit_lists.is_in_one.Given as goal

abbrev pub invariant-loop-range : goal.invariant-loop-range
invariant-loop-range l = list_any (λ r. in_range r l.key) (drop l.range-index l.ranges) ≡ list_any (λ r. in_range r l.key) l.ranges
