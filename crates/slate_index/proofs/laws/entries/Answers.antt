use Rattle.std.proofs.Common.{refl}
use Rattle.slate_index.proofs.Finding.{prefixes_tell}
use Rattle.slate_index.proofs.Telling.{tell}
use Rattle.slate_index.proofs.laws.entries.Goals as goal

pub returns : goal.returns
returns c = record { tell = tell; prefixes = prefixes_tell; spelled = refl }
