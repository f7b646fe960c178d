use Rattle.slate_read.proofs.RunBringings.{unopened_runs_bring}
use Rattle.slate_read.proofs.laws.unopened_run_rows.Goals as goal

pub returns : goal.returns
returns c = record { runs = unopened_runs_bring }
