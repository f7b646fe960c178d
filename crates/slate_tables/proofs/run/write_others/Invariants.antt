use Rattle.std.specs.Prelude.{◌≡◌}
use Rattle.slate_tables.proofs.run.write_others.Given as goal

abbrev pub invariant-loop-path : goal.invariant-loop-path
invariant-loop-path g l = g.W.Sink.faults l.sink ≡ g.W.Sink.faults l.initial.sink
