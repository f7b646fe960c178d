use Rattle.std.proofs.Common.{refl}
use Rattle.slate_db.proofs.vectors.first_paths.Goals as goal

pub returns : goal.returns
returns c = (refl, refl)
