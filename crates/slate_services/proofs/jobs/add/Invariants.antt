use Rattle.std.proofs.Common.{◌≤◌}
use Rattle.slate_queue.specs.Commits.{IsQueueCommit}
use Rattle.slate_services.specs.Plain.{PlainWorked}
use Rattle.slate_services.proofs.jobs.add.Given as goal

abbrev pub invariant-loop-turn : goal.invariant-loop-turn
invariant-loop-turn g l = record {
  worked : PlainWorked IsQueueCommit l.initial.pass l.pass l.made;
  fits : l.made ≤ l._turn;
}
