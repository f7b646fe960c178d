use Rattle.std.proofs.Common.{◌+◌, ◌≤◌, length}
use Rattle.std.specs.Prelude.{vec_capacity}
use Rattle.slate_db.proofs.RunSoFar.{AreLaid}
use Rattle.slate_db.proofs.flush.in_runs.Given as goal

abbrev pub invariant-loop-next : goal.invariant-loop-next
invariant-loop-next l = record {
  far : AreLaid l.initial.left.items l.left.items l.tables.items l.runs.items;
  room : length l.tables.items + length l.left.items ≤ vec_capacity l.tables;
}

abbrev pub decreases-loop-next : goal.decreases-loop-next
decreases-loop-next l = length l.left.items
