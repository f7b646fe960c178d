use Rattle.std.proofs.Common.{◌≡◌}
use Rattle.slate_shared_tests.specs.Scanning.{IsScanIn}
use Rattle.slate_shared_tests.proofs.scans.are_steps.Given as goal

abbrev pub invariant-loop-step : goal.invariant-loop-step
invariant-loop-step l = record { same : l.txn.table ≡ l.initial.txn.table; within : IsScanIn l.txn l.it }
