use Rattle.std.proofs.Common.{◌≡◌}
use Rattle.uses.proofs.visits.visit.Given as goal

abbrev pub invariant-loop : goal.invariant-loop
invariant-loop g l = (goal.iterator-loop g).can_next l.iterator' × (goal.iterator-loop g).is_finite l.iterator' × (l.pass.table ≡ l.initial.pass.table) × (l.pass.parts ≡ l.initial.pass.parts)
