use Rattle.slate_language.proofs.PartsLaws.{greater_lawful}
use Rattle.slate_language.proofs.script_laws.greater_is_lawful.Goals as goal

pub returns : goal.returns
returns c = greater_lawful
