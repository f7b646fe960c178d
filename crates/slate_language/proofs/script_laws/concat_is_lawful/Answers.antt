use Rattle.slate_language.proofs.PartsLaws.{concat_lawful}
use Rattle.slate_language.proofs.script_laws.concat_is_lawful.Goals as goal

pub returns : goal.returns
returns c = concat_lawful
