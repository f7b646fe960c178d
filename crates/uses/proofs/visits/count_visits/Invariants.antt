use Rattle.std.proofs.Common.{◌≡◌}
use Rattle.uses.proofs.visits.count_visits.Given as goal

abbrev pub invariant-loop : goal.invariant-loop
invariant-loop g l = (l.pass.table ≡ l.initial.pass.table) × (l.pass.parts ≡ l.initial.pass.parts)
