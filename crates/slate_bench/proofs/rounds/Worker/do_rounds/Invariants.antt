use Rattle.std.proofs.Common.{◌≡◌}
use Rattle.slate_bench.proofs.rounds.Worker.do_rounds.Given as goal

abbrev pub invariant-loop-done : goal.invariant-loop-done
invariant-loop-done g l = l.self.pass.table ≡ l.initial.self.pass.table
