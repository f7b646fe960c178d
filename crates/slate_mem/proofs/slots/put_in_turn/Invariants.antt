use Rattle.std.specs.Vec.Iter.{into_iter_items}
use Rattle.slate_mem.specs.Slots.{IsPutUpTo}
use Rattle.slate_mem.proofs.slots.put_in_turn.Given as goal

abbrev pub invariant-loop-row : goal.invariant-loop-row
invariant-loop-row l = IsPutUpTo l.initial.slots.items l.fn.rows.items (into_iter_items l.row-iterator) l.slots.items
