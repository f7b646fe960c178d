use Rattle.uses.proofs.FirstLaws.{first_lawful}
use Rattle.uses.proofs.claims.first_is_lawful.Goals as goal

pub returns : goal.returns
returns c = first_lawful
