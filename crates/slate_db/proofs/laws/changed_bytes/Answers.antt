use Rattle.slate_db.proofs.ChangedReads.{slip_nowhere}
use Rattle.slate_db.proofs.laws.changed_bytes.Goals as goal

pub returns : goal.returns
returns c = slip_nowhere
