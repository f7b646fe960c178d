use Rattle.std.proofs.Common.{◌≡◌}
use Rattle.slate_shared_tests.proofs.scans.are_written.Given as goal

abbrev pub invariant-loop-write : goal.invariant-loop-write
invariant-loop-write g l = (l.pass.table ≡ l.initial.pass.table) × (l.pass.parts ≡ l.initial.pass.parts)
