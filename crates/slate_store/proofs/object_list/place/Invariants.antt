use Rattle.std.proofs.Common.{◌≤◌, ◌-◌, length}
use Rattle.slate_store.specs.Placed.{LowerBefore, HigherFrom}
use Rattle.slate_store.proofs.object_list.place.Given as goal

-- the paths below `low` stand before the path, and those from `high` on behind it
abbrev pub invariant-loop-low : goal.invariant-loop-low
invariant-loop-low l = record {
  ordered : l.low ≤ l.high;
  within : l.high ≤ length l.objects;
  before : LowerBefore l.objects l.path l.low;
  behind : HigherFrom l.objects l.path l.high;
}

abbrev pub decreases-loop-low : goal.decreases-loop-low
decreases-loop-low l = l.high - l.low
