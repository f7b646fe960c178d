use Rattle.std.proofs.Common.{◌≡◌}
use Rattle.slate_types.proofs.Walked.{Walked}
use Rattle.slate_types.proofs.iter.collect_rows.Given as goal

abbrev pub invariant-loop-taken : goal.invariant-loop-taken
invariant-loop-taken g l = record {
  walked : Walked g.I.RowEntryIterator.rest g.I.RowEntryIterator.sound g.I.RowEntryIterator.refuses g.I.RowEntryIterator.takes (g.E.Outside.reach l.initial.env) (g.E.Outside.reach l.env) l.initial.rows l.rows l.taken.items;
  counts : (g.E.Outside.reach l.env).faults ≡ (g.E.Outside.reach l.initial.env).faults;
}

abbrev pub decreases-loop-taken : goal.decreases-loop-taken
decreases-loop-taken g l = g.I.RowEntryIterator.bound l.rows
