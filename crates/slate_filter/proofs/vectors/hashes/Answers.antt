use Rattle.std.proofs.Common.{refl}
use Rattle.slate_filter.proofs.vectors.hashes.Goals as goal

pub returns : goal.returns
returns c = (refl, refl, refl, refl)
