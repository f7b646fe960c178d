use Rattle.std.proofs.Common.{◌≡◌, ◌≤◌, length}
use Rattle.slate_types.specs.Iteration.{drop_before, IsInOrder}
use Rattle.slate_mem.proofs.mem_iterator.MemTableIteratorRowEntryIterator.seek.Given as goal

abbrev pub invariant-loop-self : goal.invariant-loop-self
invariant-loop-self g l = record {
  rows : drop_before l.initial.self.order l.fn.key l.self.rows ≡ drop_before l.initial.self.order l.fn.key l.initial.self.rows;
  order : l.self.order ≡ l.initial.self.order;
  bound : length l.self.rows ≤ length l.initial.self.rows;
  sorted : IsInOrder l.initial.self.order l.initial.self.rows → IsInOrder l.initial.self.order l.self.rows;
}

abbrev pub decreases-loop-self : goal.decreases-loop-self
decreases-loop-self g l = length l.self.rows
