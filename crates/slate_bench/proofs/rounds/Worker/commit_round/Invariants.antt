use Rattle.std.proofs.Common.{◌≡◌}
use Rattle.slate_bench.proofs.rounds.Worker.commit_round.Given as goal

abbrev pub invariant-loop : goal.invariant-loop
invariant-loop g l = (goal.iterator-loop g).can_next l.iterator' × (goal.iterator-loop g).is_finite l.iterator' × (l.self.pass.table ≡ l.initial.self.pass.table)
