use Rattle.std.proofs.Common.{◌≡◌, [], length}
use Rattle.slate_mem.specs.Slots.{standing}
use Rattle.slate_mem.proofs.mem_iterator.page.Given as goal

abbrev pub invariant-loop-slot : goal.invariant-loop-slot
invariant-loop-slot l = record {
  none : l.page.items ≡ [];
  rows : standing l.slots.items ≡ standing l.initial.slots.items;
}

abbrev pub decreases-loop-slot : goal.decreases-loop-slot
decreases-loop-slot l = length l.slots.items
