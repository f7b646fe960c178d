use Rattle.slate_shared.proofs.Alike.{plans_alike}
use Rattle.slate_shared.proofs.encode.plans.Goals as goal

pub returns : goal.returns
returns c = record { same = plans_alike }
