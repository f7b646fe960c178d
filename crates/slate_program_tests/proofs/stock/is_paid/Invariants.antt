use Rattle.std.proofs.Common.{◌≡◌}
use Rattle.slate_program_tests.proofs.stock.is_paid.Given as goal

abbrev pub invariant-loop-attempt : goal.invariant-loop-attempt
invariant-loop-attempt g l = (l.pass.table ≡ l.initial.pass.table) × (l.pass.parts ≡ l.initial.pass.parts)
