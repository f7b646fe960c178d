use Rattle.std.specs.Prelude.{◌≡◌}
use Rattle.slate_tables.proofs.run.write_rows.Given as goal

abbrev pub invariant-loop-row : goal.invariant-loop-row
invariant-loop-row g l = g.W.Sink.faults l.sink ≡ g.W.Sink.faults l.initial.sink
