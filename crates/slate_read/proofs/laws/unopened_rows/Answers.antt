use Rattle.slate_read.proofs.SstBringings.{unopened_bring}
use Rattle.slate_read.proofs.laws.unopened_rows.Goals as goal

pub returns : goal.returns
returns c = record { walks = unopened_bring }
