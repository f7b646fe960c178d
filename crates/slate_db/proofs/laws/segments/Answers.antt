use Rattle.slate_db.proofs.Segmenting.{segments_apart}
use Rattle.slate_db.proofs.laws.segments.Goals as goal

pub returns : goal.returns
returns c = record { stand_apart = segments_apart }
