use Rattle.std.proofs.Common.{◌≡◌, ◌++◌, []}
use Rattle.slate_types.specs.declared.error.SlateDBError.{SlateDBError}
use Rattle.slate_types.specs.declared.iter.IterationOrder.TheVariants.{Ascending}
use Rattle.slate_types.specs.Iteration.{NoneBefore}
use Rattle.slate_types.specs.Outside.{Act, no_parts}
use Rattle.slate_types.specs.World.{nothing}
use Rattle.std.specs.Prelude.{List, None}
use Rattle.std.specs.List.{AllByRecursion}
use Rattle.slate_mem.proofs.Brought.{Brought}
use Rattle.slate_mem.specs.Lookup.{IsRowUpTo}
use Rattle.slate_mem.specs.Table.{newest}
use Rattle.slate_mem.proofs.lookup.newest_of_walk.Given as goal

abbrev pub invariant-loop-found : goal.invariant-loop-found
invariant-loop-found g l = record {
  sound : g.I.RowEntryIterator.sound l.initial.rows nothing → g.I.RowEntryIterator.sound l.rows nothing;
  order : g.I.RowEntryIterator.order l.rows ≡ g.I.RowEntryIterator.order l.initial.rows;
  fewer : (e : SlateDBError) → g.I.RowEntryIterator.refuses l.rows no_parts [] None e → g.I.RowEntryIterator.refuses l.initial.rows no_parts [] None e;
  none : g.I.RowEntryIterator.sound l.initial.rows nothing → NoneBefore Ascending l.key (g.I.RowEntryIterator.rest l.initial.rows nothing) → NoneBefore Ascending l.key (g.I.RowEntryIterator.rest l.rows nothing);
  asked : AllByRecursion (IsRowUpTo l.key l.max_seq) l.found.items;
  brought : Brought (λ before answer after. (reads : List Act) × g.I.RowEntryIterator.takes before no_parts reads answer after) l.initial.rows l.found.items l.rows;
  found : g.I.RowEntryIterator.sound l.initial.rows nothing → g.I.RowEntryIterator.order l.initial.rows ≡ Ascending → NoneBefore Ascending l.key (g.I.RowEntryIterator.rest l.initial.rows nothing) →
      newest l.key l.max_seq (g.I.RowEntryIterator.rest l.initial.rows nothing) ≡ l.found.items ++ newest l.key l.max_seq (g.I.RowEntryIterator.rest l.rows nothing);
}

abbrev pub decreases-loop-found : goal.decreases-loop-found
decreases-loop-found g l = g.I.RowEntryIterator.bound l.rows
