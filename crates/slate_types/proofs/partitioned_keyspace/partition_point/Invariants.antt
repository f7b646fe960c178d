use Rattle.std.proofs.Common.{◌≡◌, ◌≤◌, ◌<◌, ◌-◌, ℕ, Bool, length, slice_get, Some, true, false}
use Rattle.slate_types.proofs.partitioned_keyspace.partition_point.Given as goal

-- the first keys below `low` pass, and those from `high` on fail
abbrev pub invariant-loop-low : goal.invariant-loop-low
invariant-loop-low g l =
    let keys = g.K.RangePartitionedKeySpace.first_keys l.space in
    record {
      ordered : l.low ≤ l.high;
      within : l.high ≤ length keys;
      before : (i : ℕ) (k : _) (passes : Bool) → i < l.low → slice_get keys i ≡ Some k.0.now → g.P.Fn.post l.pred k passes → passes ≡ true;
      behind : (i : ℕ) (k : _) (passes : Bool) → l.high ≤ i → slice_get keys i ≡ Some k.0.now → g.P.Fn.post l.pred k passes → passes ≡ false;
    }

abbrev pub decreases-loop-low : goal.decreases-loop-low
decreases-loop-low g l = l.high - l.low
