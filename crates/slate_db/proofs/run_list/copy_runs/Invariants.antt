use Rattle.std.proofs.Common.{◌≡◌, take}
use Rattle.slate_db.specs.SharedRuns.{tables_in}
use Rattle.slate_db.proofs.run_list.copy_runs.Given as goal

abbrev pub invariant-loop-run : goal.invariant-loop-run
invariant-loop-run l = record { copied : tables_in l.copies.items ≡ take l.run-index (tables_in l.runs) }
