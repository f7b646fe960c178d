use Rattle.std.proofs.Common.{List, ◌++◌, take}
use Rattle.slate_types.specs.declared.types.RowEntry.{RowEntry}
use Rattle.slate_table.specs.Table.{AreInOrder}
use Rattle.slate_tables.specs.Tallies.{IsSpan}
use Rattle.slate_tables.proofs.tally.longer_span.Given as goal

abbrev pub invariant-loop-row : goal.invariant-loop-row
invariant-loop-row l =
    (before : List RowEntry) → AreInOrder before → IsSpan before l.fn.span → AreInOrder (before ++ take l.row-index l.rows) × IsSpan (before ++ take l.row-index l.rows) l.span
