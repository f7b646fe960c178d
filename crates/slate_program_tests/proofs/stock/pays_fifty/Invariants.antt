use Rattle.std.proofs.Common.{◌≡◌}
use Rattle.slate_program_tests.proofs.stock.pays_fifty.Given as goal

abbrev pub invariant-loop-turn : goal.invariant-loop-turn
invariant-loop-turn g l = (l.pass.table ≡ l.initial.pass.table) × (l.pass.parts ≡ l.initial.pass.parts)
