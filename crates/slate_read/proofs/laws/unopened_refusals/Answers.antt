use Rattle.slate_read.proofs.Shows.{runs_show, walks_show}
use Rattle.slate_read.proofs.laws.unopened_refusals.Goals as goal

pub returns : goal.returns
returns c = record { walks = walks_show; runs = runs_show }
