use Rattle.std.proofs.Common.{◌≡◌}
use Rattle.std.specs.Prelude.{is_some}
use Rattle.slate_tables.proofs.Writings.{SoFar}
use Rattle.slate_tables.proofs.export.write_rows.Given as goal

abbrev pub invariant-loop-row : goal.invariant-loop-row
invariant-loop-row g l = record {
  so_far : SoFar g.I.RowEntryIterator.rest g.I.RowEntryIterator.sound g.I.RowEntryIterator.refuses g.I.RowEntryIterator.takes l.form l.has_operator
      (g.E.Outside.reach l.initial.env) (g.E.Outside.reach l.env) l.initial.rows l.rows l.written (g.W.Sink.content l.initial.sink) (g.W.Sink.content l.sink);
  has : l.has_operator ≡ is_some (g.E.Outside.reach l.initial.env).meaning.combine;
  counts : (g.E.Outside.reach l.env).faults ≡ (g.E.Outside.reach l.initial.env).faults;
  still : g.W.Sink.faults l.sink ≡ g.W.Sink.faults l.initial.sink;
}

abbrev pub decreases-loop-row : goal.decreases-loop-row
decreases-loop-row g l = g.I.RowEntryIterator.bound l.rows
