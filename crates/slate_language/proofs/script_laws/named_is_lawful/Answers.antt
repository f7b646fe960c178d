use Rattle.slate_language.proofs.PartsLaws.{named_lawful}
use Rattle.slate_language.proofs.script_laws.named_is_lawful.Goals as goal

pub returns : goal.returns
returns c = named_lawful
