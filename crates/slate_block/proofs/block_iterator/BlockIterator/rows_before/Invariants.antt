use Rattle.std.proofs.Common.{◌≡◌, ◌-◌, ◌+◌, ◌≤◌, ℕ, true, false, length, Some, Ok}
use Rattle.std.specs.Prelude.{slice_get}
use Rattle.slate_types.specs.declared.types.RowEntry.{RowEntry}
use Rattle.slate_types.specs.Iteration.{comes_before}
use Rattle.slate_block.proofs.block_iterator.BlockIterator.rows_before.Given as goal

abbrev pub invariant-loop-low : goal.invariant-loop-low
invariant-loop-low g l = record {
  ordered : l.low ≤ l.high;
  within : l.high ≤ length l.self.reads;
  below : (index : ℕ) (row : RowEntry) → index + 1 ≡ l.low → slice_get l.self.reads index ≡ Some (Ok row) → comes_before l.self.order row.key l.key ≡ true;
  above : (row : RowEntry) → slice_get l.self.reads l.high ≡ Some (Ok row) → comes_before l.self.order row.key l.key ≡ false;
}

abbrev pub decreases-loop-low : goal.decreases-loop-low
decreases-loop-low g l = l.high - l.low
